-- The index region after an edit, in the words.
use Rattle.std.specs.Prelude.{ℕ, ◌+◌, ◌≤◌, ◌≡◌, refl, List, ◌++◌, length, take, drop}
use Rattle.std.proofs.Common.{sym, ap, ap₂, ◌∙◌, arith}
use Rattle.words.specs.Parts.{put}
use Rattle.words.specs.PartsLaws.{region-length, region_put, put_put}
use Rattle.nodes.specs.Table.{rows, numbers}
use Rattle.nodes.specs.TableLaws.{rows-length}
use Rattle.nodes.specs.Formed.{most_nodes}
use Rattle.index.specs.Index.{put_in, index_of}
use Rattle.reindex.specs.declared.edit.Edit.{Edit}
use Rattle.reindex.specs.declared.edit.Edit.TheVariants.{Cut, Put, Swap}
use Rattle.reindex.specs.FollowWords.{Entries, Followed}
use Rattle.reindex.specs.Spot.{Reads}
use Rattle.reindex.specs.Edits.{new_place, Bounded}
use Rattle.reindex.specs.Kept.{place_in}
use Rattle.reindex.specs.Followed.{ground_entries, edit_bounds, follow_none, cut_follows, swap_follows, put_reads, put_place, put_follows}
use Rattle.model.specs.Layout.{words_length, nodes_place, nodes_words, index_place, index_words, count_in, put_index, node_words, entries_in}
use Rattle.state.specs.Regions.{region_before, put_size}
use Rattle.treecommands.specs.Settle.{Changed, Sifted, index_size, index_by}

-- what following asks
pub changed_follows : (edit : Edit) (count : ℕ) (ws : List ℕ) → Changed edit count ws → Bounded edit (count_in ws) × Entries (entries_in ws) (count_in ws)
changed_follows edit count ws c =
    let e = c.edited in (
      edit_bounds (entries_in ws) (count_in ws) (node_words ws) count e.old e.ground edit e.does,
      ground_entries (entries_in ws) (count_in ws) (node_words ws) count e.old e.ground,
    )

-- no node is new
module _ (count : ℕ) (ws out : List ℕ) (left : ℕ) where
  cut_index : (from to : ℕ) → Changed (Cut from to) count ws → Followed (new_place (Cut from to)) (entries_in ws) (count_in ws) out left
      → put index_place index_words out ws ≡ put_index (index_of (rows count (node_words ws))) ws
  cut_index from to c f =
      let e = c.edited in
      index_by count ws c.size e.ground.few_after out (cut_follows (entries_in ws) (count_in ws) (node_words ws) count e.old e.ground from to e.does out left f)

  swap_index : (a b d : ℕ) → Changed (Swap a b d) count ws → Followed (new_place (Swap a b d)) (entries_in ws) (count_in ws) out left
      → put index_place index_words out ws ≡ put_index (index_of (rows count (node_words ws))) ws
  swap_index a b d c f =
      let e = c.edited in
      index_by count ws c.size e.ground.few_after out (swap_follows (entries_in ws) (count_in ws) (node_words ws) count e.old e.ground a b d e.does out left f)

  pub kept_index : (edit : Edit) → ((at to : ℕ) → edit ≡ Put at to → ⊥) → Changed edit count ws → Followed (new_place edit) (entries_in ws) (count_in ws) out left
      → put index_place index_words out ws ≡ put_index (index_of (rows count (node_words ws))) ws
  kept_index (Cut from to) n c f = cut_index from to c f
  kept_index (Put at to) n c f = absurd (n at to refl)
  kept_index (Swap a b d) n c f = swap_index a b d c f

  pub sifted_index : (ps : List ℕ) → Sifted ps count ws → Followed (place_in ps) (entries_in ws) (count_in ws) out left
      → put index_place index_words out ws ≡ put_index (index_of (rows count (node_words ws))) ws
  sifted_index ps c f =
      let e = c.moved in
      index_by count ws c.size e.ground.few_after out (follow_none (entries_in ws) (count_in ws) (node_words ws) count e.old e.ground (place_in ps) e.carries e.came out left f)

  -- one is, whose entry is put in then
  module _ (at to : ℕ) (c : Changed (Put at to) count ws) (f : Followed (new_place (Put at to)) (entries_in ws) (count_in ws) out left) (same : length out ≡ length (entries_in ws)) where
    region_size : length (entries_in ws) ≡ index_words
    region_size = region-length index_place index_words ws (omega (arith, c.size))

    abbrev mid : List ℕ
    mid = put index_place index_words out ws

    pub mid_size : length mid ≡ words_length
    mid_size = put_size index_place index_words out ws (omega (arith, c.size)) (same ∙ region_size) ∙ c.size

    mid_nodes : node_words mid ≡ node_words ws
    mid_nodes = region_before index_place index_words out ws (omega (arith, c.size)) (same ∙ region_size) nodes_place nodes_words (omega arith)

    mid_index : entries_in mid ≡ out
    mid_index = region_put index_place index_words out ws (omega (arith, c.size)) (same ∙ region_size)

    pub new_reads : Reads (node_words mid) (entries_in mid) left
    new_reads = rw (mid_nodes, mid_index) (put_reads (entries_in ws) (count_in ws) (node_words ws) count c.edited.old c.edited.ground at to c.edited.does out left f same)

    pub new-place : at ≤ left
    new-place = put_place (entries_in ws) (count_in ws) (node_words ws) count c.edited.old c.edited.ground at to c.edited.does out left f

    pub new_index : (last : List ℕ) → last ≡ put index_place index_words (put_in (numbers (rows (left + 1) (node_words mid))) at (take left (entries_in mid)) ++ drop (left + 1) (entries_in mid)) mid
        → last ≡ put_index (index_of (rows count (node_words ws))) ws
    new_index last e =
        let ix = put_in (numbers (rows (left + 1) (node_words ws))) at (take left out) ++ drop (left + 1) out in
        let g = c.edited.ground in
        e
        ∙ ap₂ (λ (us r : List ℕ). put index_place index_words (put_in (numbers (rows (left + 1) us)) at (take left r) ++ drop (left + 1) r) mid) mid_nodes mid_index
        ∙ put_put index_place index_words out ix ws (omega (arith, c.size)) (same ∙ region_size)
        ∙ index_by count ws c.size g.few_after ix (put_follows (entries_in ws) (count_in ws) (node_words ws) count c.edited.old g at to c.edited.does out left f ix refl)

    pub new_size : (last : List ℕ) → last ≡ put index_place index_words (put_in (numbers (rows (left + 1) (node_words mid))) at (take left (entries_in mid)) ++ drop (left + 1) (entries_in mid)) mid
        → length last ≡ length ws
    new_size last e =
        let few : length (rows count (node_words ws)) ≤ most_nodes = omega (arith, rows-length count (node_words ws), c.edited.ground.few_after) in
        ap length (new_index last e) ∙ index_size (rows count (node_words ws)) few ws c.size ∙ sym c.size
