-- A change of the controls of a run of the node table, node by node.
use Prim.Native.Nat.{ℕ, suc, ◌+◌, ◌-◌, ◌*◌, ◌≤◌, ◌<◌}
use Rattle.std.specs.Prelude as prelude
use Rattle.std.specs.Prelude.{Bool, true, false, ◌≡◌, length, take, drop, get_or}
use Rattle.std.proofs.Math.Path.{refl, ap, ap₂}
use Rattle.std.proofs.Common.{sym, ◌∙◌, subst, length-append, length-take, length-drop}
use mathlib.Core.List.{List, [], ◌∷◌}
use Rattle.std.proofs.Math.Option.{Option}
use native.Mathlib.Omega.{arith}
use Rattle.words.specs.Choice.{pick}
use Rattle.words.specs.Parts.{region, put}
use Rattle.words.specs.PartsLaws.{region-length, region_put, put_put}
use Rattle.format.specs.Names.{Covered}
use Rattle.readable.specs.declared.cover.Cover.{Cover}
use Rattle.readable.specs.Lookup.{cover_at}
use Rattle.readable.specs.Readable.{Readable, whole_readable}
use Rattle.nodes.specs.declared.Node.{Node}
use Rattle.nodes.specs.Table.{width, rows, node_from, depth_field}
use Rattle.nodes.specs.TableLaws.{row-from}
use Rattle.nodes.specs.Place.{is_group, place, deeper}
use Rattle.nodes.specs.Edit.{sink, run_of}
use Rattle.nodes.specs.Split.{run_of_at}
use Rattle.nodes.specs.Formed.{most_nodes, most_rows}
use Rattle.values.specs.declared.Key.{Key}
use Rattle.values.specs.Controls.{ControlValue}
use Rattle.model.specs.Layout.{slot_count, lengths_place, nodes_place, nodes_words, controls_place, controls_words, words_length, count_in, nodes_in, controls_in, slot_in, put_controls, record_in}
use Rattle.model.specs.Engine.{Slot, decode, definition_of}
use Rattle.model.specs.Meaning.{cover_of}
use Rattle.model.specs.Effects.{change_covered, change_all}
use Rattle.state.specs.Regions.{region_before, word_before}
use Rattle.state.specs.Decoded.{controls_size}
use Rattle.controls.specs.Encoded.{front_in, front_only, cover_front}
use Rattle.slots.specs.Slots.{slot_bytes}
use Rattle.controls.specs.Ready.{Ready, synth_ready}
use Rattle.controls.specs.Synth.{change_synth, change_node, Bounds, same_controls}
use Rattle.controls.specs.Cover.{cover_on}
use Rattle.controls.specs.Asked.{synth-cover}

-- what a change does to the controls of one node
abbrev pub change_one : (ControlValue → ControlValue) → Key → List ℕ → ℕ → List Slot → Node → List ℕ → List ℕ
change_one f key name count slots r cs =
    pick (is_group r) cs (change_covered f (cover_of key name (definition_of slots r)) r.row count cs)

-- the words with other controls: their nodes and slots
module _ (cs ws : List ℕ) (size : length ws ≡ words_length) (many : length cs ≡ controls_words) where
  node_kept : (i : ℕ) → record_in (put_controls cs ws) i ≡ record_in ws i
  node_kept i =
      ap (λ (us : List ℕ). node_from us (width * i))
      (region_before controls_place controls_words cs ws (omega arith) many nodes_place nodes_words (omega arith))

  pub bytes_kept : (arena : List ℕ) (k : ℕ) → k < 32 → slot_bytes (put_controls cs ws) arena k ≡ slot_bytes ws arena k
  bytes_kept arena k h =
      ap (slot_in arena k)
      (word_before controls_place controls_words cs ws (omega arith) many (lengths_place + k) (omega arith))

  -- the node at a place of them
  module _ (arena : List ℕ) (ready : Ready ws arena) (i : ℕ) (few : i < count_in ws) where
    pub bounds_kept : Bounds (put_controls cs ws) arena i
    bounds_kept =
        record {
          size = controls_size cs ws arena size many;
          arena_size = ready.arena_size;
          place = omega (arith, ready.few);
          slot = λ e. subst (λ (r : Node). r.slot < slot_count) (sym (node_kept i)) (synth_ready ws arena ready i few (ap is_group (sym (node_kept i)) ∙ e)).slot;
          row = λ e. subst (λ (r : Node). r.row < most_rows) (sym (node_kept i)) (synth_ready ws arena ready i few (ap is_group (sym (node_kept i)) ∙ e)).row;
          readable = λ e.
              let s = synth_ready ws arena ready i few (ap is_group (sym (node_kept i)) ∙ e) in
              let same = ap (λ (r : Node). slot_bytes (put_controls cs ws) arena r.slot) (node_kept i) ∙ bytes_kept arena (record_in ws i).slot s.slot in
              subst Readable (sym same) (whole_readable (slot_bytes ws arena (record_in ws i).slot) s.whole);
        }

    -- its change is the one that its definition gives
    pub change_kept : (f : ControlValue → ControlValue) (key : Key) (name : List ℕ) (count : ℕ) (xs : List ℕ)
        → change_node f key name count (put_controls cs ws) arena i xs ≡ change_one f key name count (decode ws arena).slots (record_in ws i) xs
    change_kept f key name count xs =
        ap (λ (r : Node). pick (is_group r) xs (change_synth f key name count r.row (slot_bytes (put_controls cs ws) arena r.slot) xs)) (node_kept i)
        ∙ go (is_group (record_in ws i)) refl
      where
        go : (b : Bool) → is_group (record_in ws i) ≡ b
            → pick b xs (change_synth f key name count (record_in ws i).row (slot_bytes (put_controls cs ws) arena (record_in ws i).slot) xs)
            ≡ pick b xs (change_covered f (cover_of key name (definition_of (decode ws arena).slots (record_in ws i))) (record_in ws i).row count xs)
        go true e = refl
        go false e =
            let s = synth_ready ws arena ready i few e in
            let d = definition_of (decode ws arena).slots (record_in ws i) in
            let bytes = slot_bytes (put_controls cs ws) arena (record_in ws i).slot in
            let front : front_in bytes ≡ d.front = ap front_in (bytes_kept arena (record_in ws i).slot s.slot) ∙ sym s.front in
            ap (λ (o : Option Covered). change_covered f o (record_in ws i).row count xs) (cover_front key name (front_only bytes) d front)

-- a run of the table: one node more, and the end
module _ (f : ControlValue → ControlValue) (key : Key) (name : List ℕ) (count : ℕ) (slots : List Slot) (ws : List ℕ) where
  pub all_turn : (to i : ℕ) (xs : List ℕ) → i < to → to ≤ count_in ws
      → change_all f key name count slots (take (to - i) (drop i (nodes_in ws))) xs
      ≡ change_all f key name count slots (take (to - (i + 1)) (drop (i + 1) (nodes_in ws))) (change_one f key name count slots (record_in ws i) xs)
  unfolding change_all
  all_turn to i xs h k =
      let more : to - i ≡ suc (to - (i + 1)) = omega arith in
      ap₂ (λ (n : ℕ) (l : List Node). change_all f key name count slots (take n l) xs) more (row-from (count_in ws) (region nodes_place nodes_words ws) i (omega arith))

  pub all_none : (n : ℕ) (l : List Node) (xs : List ℕ) → n ≡ 0 → change_all f key name count slots (take n l) xs ≡ xs
  unfolding change_all
  all_none n l xs e = ap (λ (k : ℕ). change_all f key name count slots (take k l) xs) e

  -- one synth alone
  all_one : (i : ℕ) (xs : List ℕ) → i < count_in ws → is_group (record_in ws i) ≡ false
      → change_all f key name count slots (take (i + 1 - i) (drop i (nodes_in ws))) xs ≡ change_covered f (cover_of key name (definition_of slots (record_in ws i))) (record_in ws i).row count xs
  all_one i xs h single =
      all_turn (i + 1) i xs (omega arith) (omega arith)
      ∙ all_none (i + 1 - (i + 1)) (drop (i + 1) (nodes_in ws)) (change_one f key name count slots (record_in ws i) xs) (omega arith)
      ∙ rw single

-- as many items were put in as were there
pub put_size : (a k : ℕ) (ys ws : List ℕ) → a + k ≤ length ws → length (put a k ys ws) ≡ length ws → length ys ≡ k
put_size a k ys ws h e = omega (arith, simp (length-append, length-take, length-drop) at e)

-- words that differ from the first in their controls alone, and one node more changed in them
pub record Turned (f : ControlValue → ControlValue) (key : Key) (name : List ℕ) (count : ℕ) (ws₀ arena : List ℕ) (to i : ℕ) (ws ws' : List ℕ) : Type 0 where
  pub size : length ws' ≡ words_length
  pub rest : ws' ≡ put_controls (controls_in ws') ws₀
  pub left : change_all f key name count (decode ws₀ arena).slots (take (to - (i + 1)) (drop (i + 1) (nodes_in ws₀))) (controls_in ws')
      ≡ change_all f key name count (decode ws₀ arena).slots (take (to - i) (drop i (nodes_in ws₀))) (controls_in ws)

pub turned : (f : ControlValue → ControlValue) (key : Key) (name : List ℕ) (count : ℕ) (ws₀ arena : List ℕ) (to i : ℕ) (ws ws' : List ℕ)
    → Ready ws₀ arena → i < to → to ≤ count_in ws₀ → length ws ≡ words_length → ws ≡ put_controls (controls_in ws) ws₀
    → length ws' ≡ length ws → ws' ≡ put_controls (change_node f key name count ws arena i (controls_in ws)) ws
    → Turned f key name count ws₀ arena to i ws ws'
turned f key name count ws₀ arena to i ws ws' ready h k size rest long fact =
    let cs : List ℕ = controls_in ws in
    let next : List ℕ = change_node f key name count ws arena i cs in
    let many : length cs ≡ controls_words = region-length controls_place controls_words ws (omega arith) in
    let many' : length next ≡ controls_words = put_size controls_place controls_words next ws (omega arith) (sym (ap length fact) ∙ long) in
    let here : controls_in ws' ≡ next = ap controls_in fact ∙ region_put controls_place controls_words next ws (omega arith) many' in
    let step : next ≡ change_one f key name count (decode ws₀ arena).slots (record_in ws₀ i) cs =
    ap (λ (w : List ℕ). change_node f key name count w arena i cs) rest ∙ change_kept cs ws₀ ready.size many arena ready i (omega arith) f key name count cs in
    record {
      size = long ∙ size;
      rest =
          fact
          ∙ ap (put_controls next) rest
          ∙ put_put controls_place controls_words cs next ws₀ (omega (arith, ready.size)) many
          ∙ ap (λ (l : List ℕ). put_controls l ws₀) (sym here);
      left =
          ap (change_all f key name count (decode ws₀ arena).slots (take (to - (i + 1)) (drop (i + 1) (nodes_in ws₀)))) (here ∙ step)
          ∙ sym (all_turn f key name count (decode ws₀ arena).slots ws₀ to i cs h k);
    }

-- a change looks at no depth
module _ (f : ControlValue → ControlValue) (key : Key) (name : List ℕ) (count : ℕ) (slots : List Slot) where
  pub all_sink : (k : ℕ) (l : List Node) (xs : List ℕ) → change_all f key name count slots (sink k l) xs ≡ change_all f key name count slots l xs
  unfolding change_all sink
  all_sink k [] xs = refl
  all_sink k (r ∷ l) xs = all_sink k l (change_one f key name count slots r xs)

  -- the node n and all below it are the records from its place to the end of its run
  pub all_run : (c : ℕ) (us : List ℕ) (n at : ℕ) → at ≡ place n (rows c us) → at < c → (d e : ℕ) → d ≡ get_or us (width * at + depth_field) 0 → e ≡ at + 1 + deeper d (drop (at + 1) (rows c us))
      → (xs : List ℕ) → change_all f key name count slots (run_of n (rows c us)) xs ≡ change_all f key name count slots (take (e - at) (drop at (rows c us))) xs
  all_run c us n at here live d e deep end xs =
      let t = rows c us in
      let many : e - at ≡ suc (deeper d (drop (at + 1) t)) = omega arith in
      ap (λ (l : List Node). change_all f key name count slots l xs) (run_of_at c us n at here live d e deep end)
      ∙ all_sink d (node_from us (width * at) ∷ take (deeper d (drop (at + 1) t)) (drop (at + 1) t)) xs
      ∙ sym (ap₂ (λ (k : ℕ) (l : List Node). change_all f key name count slots (take k l) xs) many (row-from c us at live))

-- the synth at a place of words that differ from the first in their controls alone
pub record Lent (ws₀ arena ws : List ℕ) (i : ℕ) : Type 0 where
  pub place : i < most_nodes
  pub slot : (record_in ws i).slot < slot_count
  pub row : (record_in ws i).row < most_rows
  pub readable : Readable (slot_bytes ws arena (record_in ws i).slot)
  pub kept : slot_bytes ws arena (record_in ws i).slot ≡ slot_bytes ws₀ arena (record_in ws i).slot

-- its place in the table
pub bounds_lent : (ws₀ arena ws : List ℕ) (i : ℕ) → Ready ws₀ arena → length ws ≡ words_length → ws ≡ put_controls (controls_in ws) ws₀ → i < count_in ws₀ → Bounds ws arena i
bounds_lent ws₀ arena ws i ready size rest few =
    let many = region-length controls_place controls_words ws (omega arith) in
    subst (λ (us : List ℕ). Bounds us arena i) (sym rest) (bounds_kept (controls_in ws) ws₀ ready.size many arena ready i few)

pub synth_lent : (ws₀ arena ws : List ℕ) (i : ℕ) → Ready ws₀ arena → length ws ≡ words_length → ws ≡ put_controls (controls_in ws) ws₀ → i < count_in ws₀
    → is_group (record_in ws i) ≡ false → Lent ws₀ arena ws i
synth_lent ws₀ arena ws i ready size rest few single =
    let many = region-length controls_place controls_words ws (omega arith) in
    let b = bounds_lent ws₀ arena ws i ready size rest few in
    record {
      place = b.place;
      slot = b.slot single;
      row = b.row single;
      readable = b.readable single;
      kept = ap (λ (us : List ℕ). slot_bytes us arena (record_in ws i).slot) rest ∙ bytes_kept (controls_in ws) ws₀ ready.size many arena (record_in ws i).slot (b.slot single);
    }

-- its change, by what a key covers, also as that of a run of one; and no change of a group
module _ (f : ControlValue → ControlValue) (key : Key) (name : List ℕ) (count : ℕ) (ws arena : List ℕ) (i : ℕ) where
  pub cover-change : is_group (record_in ws i) ≡ false → (c : prelude.Option Cover) → cover_at c ≡ cover_on key name ws arena (record_in ws i).slot
      → change_covered f (cover_at c) (record_in ws i).row count (controls_in ws) ≡ change_node f key name count ws arena i (controls_in ws)
  cover-change single c e =
      ap (λ (o : Option Covered). change_covered f o (record_in ws i).row count (controls_in ws)) e
      ∙ sym (ap (λ (b : Bool). pick b (controls_in ws) (change_synth f key name count (record_in ws i).row (slot_bytes ws arena (record_in ws i).slot) (controls_in ws))) single)

  pub cover_alone : Ready ws arena → i < count_in ws → is_group (record_in ws i) ≡ false → (c : prelude.Option Cover) → cover_at c ≡ cover_on key name ws arena (record_in ws i).slot
      → change_covered f (cover_at c) (record_in ws i).row count (controls_in ws)
      ≡ change_all f key name count (decode ws arena).slots (take (i + 1 - i) (drop i (nodes_in ws))) (controls_in ws)
  cover_alone ready few single c e =
      ap (λ (o : Option Covered). change_covered f o (record_in ws i).row count (controls_in ws)) (e ∙ sym (synth-cover ws arena ready i few single key name))
      ∙ sym (all_one f key name count (decode ws arena).slots ws i (controls_in ws) few single)

  pub no_change : is_group (record_in ws i) ≡ true → ws ≡ put_controls (change_node f key name count ws arena i (controls_in ws)) ws
  no_change group =
      sym (ap (λ (b : Bool). put_controls (pick b (controls_in ws) (change_synth f key name count (record_in ws i).row (slot_bytes ws arena (record_in ws i).slot) (controls_in ws))) ws) group ∙ same_controls ws)
