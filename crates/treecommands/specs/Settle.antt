-- What is derived from the tree is written afresh after each command: the running order, the index and the first words.
use Rattle.std.specs.Prelude.{ℕ, ◌+◌, ◌≤◌, ◌<◌, true, ◌≡◌, refl, length, take, drop, get_or, set, eqb}
use Rattle.std.proofs.Common.{sym, ◌∙◌, subst, arith, take-append-drop, take_at, length-take-le}
use Rattle.std.proofs.Math.Path.{ap, ap₂}
use mathlib.Core.List.{List, [], ◌∷◌, ◌++◌}
use Rattle.words.specs.Choice.{both}
use Rattle.words.specs.Parts.{region, put}
use Rattle.words.specs.PartsLaws.{region-length, region_put}
use Rattle.nodes.specs.declared.Node.{Node}
use Rattle.nodes.specs.Table.{rows, fill, numbers}
use Rattle.nodes.specs.TableLaws.{rows-length, fill-length, rows_fill}
use Rattle.nodes.specs.Order.{order}
use Rattle.nodes.specs.Formed.{most_nodes, apart}
use Rattle.index.specs.Index.{rises, indexed, index_of}
use Rattle.index.specs.Words.{Keeps}
use Rattle.index.specs.Nodes.{indexed_afresh, afresh_indexed}
use Rattle.reindex.specs.declared.edit.Edit.{Edit}
use Rattle.reindex.specs.Follow.{Carries, PlaceOfNode}
use Rattle.reindex.specs.Edits.{Does}
use Rattle.reindex.specs.Kept.{place_in}
use Rattle.reindex.specs.Followed.{IndexBefore, Edited, Moved, edit-apart, follow_apart}
use Rattle.model.specs.Layout.{words_length, nodes_place, nodes_words, order_place, order_words, controls_place, controls_words, index_place, index_words, count_in, next_in, latest_in, nodes_in, controls_in, index_in, put_nodes, put_order, order_region, put_index, put_controls, put_header, node_words, entries_in}
use Rattle.model.specs.Engine.{decode}
use Rattle.model.specs.Effects.{latest_among, with_nodes}
use Rattle.model.specs.After.{put_tree}
use Rattle.state.specs.Regions.{region_before, region_past, word_before, put_size}
use Rattle.state.specs.Decoded.{order_region-length, index_many, index_region-length}
use Rattle.tree.specs.Sizes.{Leaves}
use Rattle.treecommands.specs.Ready.{Ready, words_long}

-- the index is right for the table of so many nodes
pub record Sorted (count : ℕ) (ws : List ℕ) : Type 0 where
  pub size : length ws ≡ words_length
  pub few : count ≤ most_nodes
  pub rule : indexed (take count (entries_in ws)) (rows count (node_words ws)) ≡ true

-- it was right for the table before the edit: the first words still tell its count
pub record Changed (edit : Edit) (count : ℕ) (ws : List ℕ) : Type 0 where
  pub size : length ws ≡ words_length
  pub edited : Edited (entries_in ws) (count_in ws) edit (node_words ws) count

-- or for the table before these were the new places of its nodes
pub record Sifted (ps : List ℕ) (count : ℕ) (ws : List ℕ) : Type 0 where
  pub size : length ws ≡ words_length
  pub moved : Moved (entries_in ws) (count_in ws) ps (node_words ws) count

-- the whole order region, the index and the four first words, for the table of so many nodes in the words
abbrev pub settled : ℕ → ℕ → ℕ → List ℕ → List ℕ
settled count next latest ws =
    put_header count (length (order (rows count (node_words ws)))) next latest
    (put_index (index_of (rows count (node_words ws))) (put_order (order (rows count (node_words ws))) ws))

-- the same, where the next number stays, and the latest synth too while it lives
abbrev pub renewed : ℕ → List ℕ → List ℕ
renewed count ws = settled count (next_in ws) (latest_among (rows count (node_words ws)) (latest_in ws)) ws

-- the first words, one after the other
pub header-sets : (a b c d : ℕ) (ws : List ℕ) → 4 ≤ length ws → set (set (set (set ws 0 a) 1 b) 2 c) 3 d ≡ put_header a b c d ws
header-sets a b c d [] h = absurd (omega arith)
header-sets a b c d (w ∷ []) h = absurd (omega arith)
header-sets a b c d (w ∷ (x ∷ [])) h = absurd (omega arith)
header-sets a b c d (w ∷ (x ∷ (y ∷ []))) h = absurd (omega arith)
header-sets a b c d (w ∷ (x ∷ (y ∷ (z ∷ ws)))) h = refl

-- a part put where it is
pub put_own : (a k : ℕ) (ws : List ℕ) → put a k (region a k ws) ws ≡ ws
put_own a k ws = ap (λ (l : List ℕ). take a ws ++ l) (take-append-drop k (drop a ws)) ∙ take-append-drop a ws

-- what a lookup asks
pub sorted_keeps : (count : ℕ) (ws : List ℕ) → Sorted count ws → Keeps (node_words ws) (entries_in ws) count
sorted_keeps count ws s = record {
  room = omega (arith, words_long ws s.size, s.few);
  few = s.few;
  entries = omega (arith, region-length index_place index_words ws (omega (arith, s.size)), s.few);
  rule = s.rule;
}

-- the order put in: the other parts are as they were
module _ (o ws : List ℕ) (size : length ws ≡ words_length) where
  pub order_size : length (put_order o ws) ≡ words_length
  order_size = put_size order_place order_words (order_region o) ws (omega arith) (order_region-length o) ∙ size

  order_nodes : node_words (put_order o ws) ≡ node_words ws
  order_nodes = region_before order_place order_words (order_region o) ws (omega arith) (order_region-length o) nodes_place nodes_words (omega arith)

  order_index : entries_in (put_order o ws) ≡ entries_in ws
  order_index = region_past order_place order_words (order_region o) ws (omega arith) (order_region-length o) index_place index_words (omega arith)

  order_word : (i : ℕ) → i < order_place → get_or (put_order o ws) i 0 ≡ get_or ws i 0
  order_word i h = word_before order_place order_words (order_region o) ws (omega arith) (order_region-length o) i h

pub order_sorted : (count : ℕ) (ws : List ℕ) → Sorted count ws → (w1 : List ℕ) → w1 ≡ put_order (order (rows count (node_words ws))) ws → Sorted count w1
order_sorted count ws s w1 e =
    let o = order (rows count (node_words ws)) in
    subst (λ (l : List ℕ). Sorted count l) (sym e) (record {
      size = order_size o ws s.size;
      few = s.few;
      rule = rw (order_index o ws s.size, order_nodes o ws s.size) s.rule;
    })

pub order_changed : (edit : Edit) (count : ℕ) (ws : List ℕ) → Changed edit count ws → (w1 : List ℕ) → w1 ≡ put_order (order (rows count (node_words ws))) ws → Changed edit count w1
order_changed edit count ws c w1 e =
    let o = order (rows count (node_words ws)) in
    subst (λ (l : List ℕ). Changed edit count l) (sym e) (record {
      size = order_size o ws c.size;
      edited = rw (order_index o ws c.size, order_nodes o ws c.size, order_word o ws c.size 0 (omega arith)) c.edited;
    })

pub order_sifted : (ps : List ℕ) (count : ℕ) (ws : List ℕ) → Sifted ps count ws → (w1 : List ℕ) → w1 ≡ put_order (order (rows count (node_words ws))) ws → Sifted ps count w1
order_sifted ps count ws c w1 e =
    let o = order (rows count (node_words ws)) in
    subst (λ (l : List ℕ). Sifted ps count l) (sym e) (record {
      size = order_size o ws c.size;
      moved = rw (order_index o ws c.size, order_nodes o ws c.size, order_word o ws c.size 0 (omega arith)) c.moved;
    })

-- the index put in
module _ (t : List Node) (few : length t ≤ most_nodes) (ws : List ℕ) (size : length ws ≡ words_length) where
  abbrev entries : List ℕ
  entries = index_of t ++ drop (length (index_of t)) (entries_in ws)

  entered : length entries ≡ index_words
  entered = index_region-length (index_of t) ws size (omega (arith, index_many t))

  pub index_size : length (put_index (index_of t) ws) ≡ words_length
  index_size = put_size index_place index_words entries ws (omega arith) entered ∙ size

  index_before : (b m : ℕ) → b + m ≤ index_place → region b m (put_index (index_of t) ws) ≡ region b m ws
  index_before b m h = region_before index_place index_words entries ws (omega arith) entered b m h

  index_word : (i : ℕ) → i < index_place → get_or (put_index (index_of t) ws) i 0 ≡ get_or ws i 0
  index_word i h = word_before index_place index_words entries ws (omega arith) entered i h

  index_back : take (length t) (entries_in (put_index (index_of t) ws)) ≡ index_of t
  index_back =
      ap (λ (l : List ℕ). take (length t) l) (region_put index_place index_words entries ws (omega arith) entered)
      ∙ take_at (index_of t) (drop (length (index_of t)) (entries_in ws)) (length t) (index_many t)

-- the index as it was followed, and written
module _ (count : ℕ) (ws : List ℕ) (size : length ws ≡ words_length) (most : count ≤ most_nodes) where
  abbrev t : List Node
  t = rows count (node_words ws)

  few : length t ≤ most_nodes
  few = omega (arith, rows-length count (node_words ws))

  pub index_by : (ix : List ℕ) → ix ≡ index_of t ++ drop count (entries_in ws) → put index_place index_words ix ws ≡ put_index (index_of t) ws
  index_by ix e =
      ap (λ (l : List ℕ). put index_place index_words l ws)
      (e ∙ ap (λ (n : ℕ). index_of t ++ drop n (entries_in ws)) (sym (index_many t ∙ rows-length count (node_words ws))))

  index_sorted : apart t ≡ true → (w2 : List ℕ) → w2 ≡ put_index (index_of t) ws → Sorted count w2
  index_sorted differ w2 e = subst (λ (l : List ℕ). Sorted count l) (sym e) (record {
    size = index_size t few ws size;
    few = most;
    rule =
        let same : node_words (put_index (index_of t) ws) ≡ node_words ws = index_before t few ws size nodes_place nodes_words (omega arith) in
        rw same
        (afresh_indexed (take count (entries_in (put_index (index_of t) ws))) t differ
        (ap (λ (n : ℕ). take n (entries_in (put_index (index_of t) ws))) (sym (rows-length count (node_words ws))) ∙ index_back t few ws size));
  })

-- by an edit, and by the new places
pub edited_sorted : (edit : Edit) (count : ℕ) (ws : List ℕ) → Changed edit count ws → (w2 : List ℕ) → w2 ≡ put_index (index_of (rows count (node_words ws))) ws → Sorted count w2
edited_sorted edit count ws c =
    let e = c.edited in
    index_sorted count ws c.size e.ground.few_after (edit-apart (entries_in ws) (count_in ws) (node_words ws) count e.old e.ground edit e.does)

pub sifted_sorted : (ps : List ℕ) (count : ℕ) (ws : List ℕ) → Sifted ps count ws → (w2 : List ℕ) → w2 ≡ put_index (index_of (rows count (node_words ws))) ws → Sorted count w2
sifted_sorted ps count ws c =
    let e = c.moved in
    index_sorted count ws c.size e.ground.few_after (follow_apart (entries_in ws) (count_in ws) (node_words ws) count e.old e.ground (place_in ps) e.carries e.came)

-- the index as it was, where it is right
pub index_own : (count : ℕ) (ws : List ℕ) → Sorted count ws → put_index (index_of (rows count (node_words ws))) ws ≡ ws
index_own count ws s =
    let t = rows count (node_words ws) in
    let own : index_of t ≡ take count (entries_in ws) = sym (indexed_afresh (take count (entries_in ws)) t s.rule) in
    let many : length (take count (entries_in ws)) ≡ count = length-take-le count (entries_in ws) (omega (arith, s.few, region-length index_place index_words ws (omega (arith, s.size)))) in
    ap (λ (ix : List ℕ). put_index ix ws) own
    ∙ ap (λ (n : ℕ). put index_place index_words (take count (entries_in ws) ++ drop n (entries_in ws)) ws) many
    ∙ ap (λ (l : List ℕ). put index_place index_words l ws) (take-append-drop count (entries_in ws))
    ∙ put_own index_place index_words ws

-- the parts written one after the other
module _ (count : ℕ) (few : count ≤ most_nodes) (ws : List ℕ) (size : length ws ≡ words_length) (w1 : List ℕ) (many : ℕ)
    (first : (w1 ≡ put_order (order (rows count (node_words ws))) ws) × (many ≡ length (order (rows count (node_words ws))))) where
  abbrev table : List Node
  table = rows count (node_words ws)

  short : length table ≤ most_nodes
  short = omega (arith, rows-length count (node_words ws))

  abbrev ordered : List ℕ
  ordered = put_order (order table) ws

  second : (w2 : List ℕ) → w2 ≡ put_index (index_of (rows count (node_words w1))) w1 → w2 ≡ put_index (index_of table) ordered
  second w2 e = e ∙ ap₂ (λ (us l : List ℕ). put_index (index_of (rows count us)) l) (ap node_words first.0 ∙ order_nodes (order table) ws size) first.0

  pub settled_by : (w2 : List ℕ) → w2 ≡ put_index (index_of (rows count (node_words w1))) w1 → (next latest : ℕ) (out : List ℕ) → out ≡ put_header count many next latest w2 → out ≡ settled count next latest ws
  settled_by w2 e next latest out o = o ∙ ap₂ (λ (m : ℕ) (l : List ℕ). put_header count m next latest l) first.1 (second w2 e)

  abbrev headed : ℕ → List ℕ → List ℕ
  headed m l = put_header count m (next_in l) (latest_among (rows count (node_words l)) (latest_in l)) l

  -- where the next number and the latest are read in the words as they are then
  read_there : headed (length (order table)) (put_index (index_of table) ordered) ≡ renewed count ws
  read_there =
      let last = put_index (index_of table) ordered in
      let there = order_size (order table) ws size in
      let us : node_words last ≡ node_words ws = index_before table short ordered there nodes_place nodes_words (omega arith) ∙ order_nodes (order table) ws size in
      let word : (i : ℕ) → i < 68 → get_or last i 0 ≡ get_or ws i 0 = λ i h. index_word table short ordered there i (omega arith) ∙ order_word (order table) ws size i (omega arith) in
      ap (λ (l : List ℕ). put_header count (length (order table)) (next_in last) (latest_among (rows count l) (latest_in last)) last) us
      ∙ ap₂ (λ (n m : ℕ). put_header count (length (order table)) n (latest_among table m) last) (word 2 (omega arith)) (word 3 (omega arith))

  pub renewed_by : (w2 : List ℕ) → w2 ≡ put_index (index_of (rows count (node_words w1))) w1 → (out : List ℕ) → out ≡ headed many w2 → out ≡ renewed count ws
  renewed_by w2 e out o = o ∙ ap₂ (λ (m : ℕ) (l : List ℕ). headed m l) first.1 (second w2 e) ∙ read_there

  -- and where the index was right
  pub settled_there : Sorted count ws → (next latest : ℕ) (out : List ℕ) → out ≡ put_header count many next latest w1 → out ≡ settled count next latest ws
  settled_there s = settled_by w1 (sym (index_own count w1 (order_sorted count ws s w1 first.0)))

module _ (ws : List ℕ) (size : length ws ≡ words_length) (t : List Node) (few : length t ≤ most_nodes) where
  filled : length (fill (node_words ws) t) ≡ nodes_words
  filled = fill-length (node_words ws) t (rw (words_long ws size) (omega arith)) ∙ words_long ws size

  pub nodes_size : length (put_nodes t ws) ≡ words_length
  nodes_size = put_size nodes_place nodes_words (fill (node_words ws) t) ws (omega arith) filled ∙ size

  -- the table is there, and the words before it are as they were
  pub nodes_back : rows (length t) (node_words (put_nodes t ws)) ≡ t
  nodes_back =
      ap (λ (us : List ℕ). rows (length t) us) (region_put nodes_place nodes_words (fill (node_words ws) t) ws (omega arith) filled) ∙ rows_fill (node_words ws) t

  pub first_word : (i : ℕ) → i < nodes_place → get_or (put_nodes t ws) i 0 ≡ get_or ws i 0
  first_word i h = word_before nodes_place nodes_words (fill (node_words ws) t) ws (omega arith) filled i h

  -- the controls are as they were
  controls_kept : (o : List ℕ) → put_controls (controls_in ws) (put_index (index_of t) (put_order o (put_nodes t ws))) ≡ put_index (index_of t) (put_order o (put_nodes t ws))
  controls_kept o =
      ap (λ (cs : List ℕ). put_controls cs (put_index (index_of t) (put_order o (put_nodes t ws))))
      (sym
      (index_before t few (put_order o (put_nodes t ws)) (order_size o (put_nodes t ws) nodes_size) controls_place controls_words (omega arith)
      ∙ region_past order_place order_words (order_region o) (put_nodes t ws) (omega (arith, nodes_size)) (order_region-length o) controls_place controls_words (omega arith)
      ∙ region_past nodes_place nodes_words (fill (node_words ws) t) ws (omega arith) filled controls_place controls_words (omega arith)))
      ∙ put_own controls_place controls_words (put_index (index_of t) (put_order o (put_nodes t ws)))

  -- the table settled: what the tree's parts, put in, leave
  pub settled_tree : (next latest : ℕ)
      → settled (length t) next latest (put_nodes t ws) ≡ put_header (length t) (length (order t)) next latest (put_controls (controls_in ws) (put_index (index_of t) (put_order (order t) (put_nodes t ws))))
  settled_tree next latest =
      ap (λ (l : List Node). put_header (length t) (length (order l)) next latest (put_index (index_of l) (put_order (order l) (put_nodes t ws)))) nodes_back
      ∙ ap (λ (us : List ℕ). put_header (length t) (length (order t)) next latest us) (sym (controls_kept (order t)))

  pub renewed_tree : (bs : List ℕ) → renewed (length t) (put_nodes t ws) ≡ put_tree (with_nodes t (decode ws bs)) ws
  unfolding decode
  renewed_tree bs =
      ap (λ (l : List Node). settled (length t) (next_in (put_nodes t ws)) (latest_among l (latest_in (put_nodes t ws))) (put_nodes t ws)) nodes_back
      ∙ ap₂ (λ (n m : ℕ). settled (length t) n (latest_among t m) (put_nodes t ws)) (first_word 2 (omega arith)) (first_word 3 (omega arith))
      ∙ settled_tree (next_in ws) (latest_among t (latest_in ws))

  -- what a change of the node region left, put in and renewed
  pub renewed_left : (bs us : List ℕ) (k : ℕ) → Leaves (node_words ws) t us k → renewed k (put nodes_place nodes_words us ws) ≡ put_tree (with_nodes t (decode ws bs)) ws
  renewed_left bs us k h =
      ap₂ (λ (j : ℕ) (l : List ℕ). renewed j (put nodes_place nodes_words l ws)) h.size h.words ∙ renewed_tree bs

-- and what that asks: of the table as it is, in the place of the one that the words held
module _ (ws : List ℕ) (k : Ready ws) (t : List Node) (few : length t ≤ most_nodes) where
  ground : IndexBefore (entries_in ws) (count_in ws) (fill (node_words ws) t) (length t) (nodes_in ws)
  ground = record {
    size = rows-length (count_in ws) (node_words ws);
    few = k.few;
    rule = k.index;
    entries = region-length index_place index_words ws (omega (arith, k.size));
    room = omega (arith, filled ws k.size t few);
    few_after = few;
  }

  abbrev there : List ℕ
  there = put_nodes t ws

  index_there : entries_in there ≡ entries_in ws
  index_there = region_past nodes_place nodes_words (fill (node_words ws) t) ws (omega (arith, k.size)) (filled ws k.size t few) index_place index_words (omega arith)

  nodes_there : node_words there ≡ fill (node_words ws) t
  nodes_there = region_put nodes_place nodes_words (fill (node_words ws) t) ws (omega (arith, k.size)) (filled ws k.size t few)

  pub changed_left : (edit : Edit) → Does edit (nodes_in ws) t → (us : List ℕ) (n : ℕ) → Leaves (node_words ws) t us n → Changed edit n (put nodes_place nodes_words us ws)
  changed_left edit d us n h =
      let edited : Edited (entries_in ws) (count_in ws) edit (fill (node_words ws) t) (length t) = record { old = nodes_in ws; ground = ground; does = rw rows_fill d } in
      rw (h.size, h.words) (record { size = nodes_size ws k.size t few; edited = rw (index_there, nodes_there, first_word ws k.size t few 0 (omega arith)) edited })

  pub sifted_left : (ps : List ℕ) → Carries (place_in ps) (nodes_in ws) t → ((q : ℕ) → q < length t → PlaceOfNode (place_in ps) (nodes_in ws) q)
      → (us : List ℕ) (n : ℕ) → Leaves (node_words ws) t us n → Sifted ps n (put nodes_place nodes_words us ws)
  sifted_left ps carries came us n h =
      let moved : Moved (entries_in ws) (count_in ws) ps (fill (node_words ws) t) (length t) = record { old = nodes_in ws; ground = ground; carries = rw rows_fill carries; came = rw rows_fill came } in
      rw (h.size, h.words) (record { size = nodes_size ws k.size t few; moved = rw (index_there, nodes_there, first_word ws k.size t few 0 (omega arith)) moved })

-- where the numbers are where they were, the index is right as it is
pub sorted_left : (ws : List ℕ) → Ready ws → (t : List Node) → length t ≡ length (nodes_in ws) → numbers t ≡ numbers (nodes_in ws)
    → (us : List ℕ) (n : ℕ) → Leaves (node_words ws) t us n → Sorted n (put nodes_place nodes_words us ws)
sorted_left ws k t many same us n h =
    let few : length t ≤ most_nodes = omega (arith, many, k.few, rows-length (count_in ws) (node_words ws)) in
    let long = filled ws k.size t few in
    let count : length t ≡ count_in ws = many ∙ rows-length (count_in ws) (node_words ws) in
    let rule : indexed (take (length t) (entries_in ws)) t ≡ true =
    ap (λ (j : ℕ). indexed (take j (entries_in ws)) t) count
    ∙ ap₂ (λ (ks : List ℕ) (j : ℕ). both (eqb (length (index_in ws)) j) (rises ks j 0 (index_in ws))) same many
    ∙ k.index in
    rw (h.size, h.words) (record {
      size = nodes_size ws k.size t few;
      few = few;
      rule = rw (
        region_past nodes_place nodes_words (fill (node_words ws) t) ws (omega (arith, k.size)) long index_place index_words (omega arith),
        nodes_back ws k.size t few,
      ) rule;
    })
