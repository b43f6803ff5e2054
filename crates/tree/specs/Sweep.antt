-- A sweep over the records below a group, in place: groups are kept, moved down, and synths are passed over.
use Prim.Native.Nat.{ℕ, suc, ◌+◌, ◌*◌, ◌≤◌, ◌<◌}
use Rattle.std.specs.Prelude.{Bool, true, ◌≡◌, refl, drop, get_or}
use Rattle.std.proofs.Math.Bool.{false}
use Rattle.std.proofs.Math.Path.{sym, ap}
use Rattle.std.proofs.Common.{ap₂, ◌∙◌, arith, length-append, drop-drop}
use mathlib.Core.List.{List, [], ◌∷◌, ◌++◌, append_assoc}
use Rattle.std.proofs.Math.ListN.{length}
use Rattle.std.proofs.Math.Dec.{ltb}
use borrow.Author.Tests.{lt-ltb, le-ltb, ltb-true, eq-eqb, ne_eqb}
use Rattle.words.specs.Choice.{pick}
use Rattle.nodes.specs.declared.Node.{Node}
use Rattle.words.specs.Parts.{over}
use Rattle.nodes.specs.Table.{width, node_from, words_of, rows, encode, depth_field, slot_field}
use Rattle.nodes.specs.TableLaws.{row-from, rows_end, encode-length, encode-append}
use Rattle.nodes.specs.Place.{is_group, deeper}
use Rattle.nodes.specs.PlaceLaws.{deeper_turn, deeper_end, nested, end_most}
use Rattle.nodes.specs.Edit.{take_deeper, drop_deeper, only_groups}
use Rattle.nodes.specs.Split.{drop_deeper-at}
use Rattle.tree.specs.Over.{over_length, over_rows, over_more, over_none}

-- the groups among the records deeper than d
abbrev pub groups_below : ℕ → List Node → List Node
groups_below d l = only_groups (take_deeper d l)

groups-append : (a b : List Node) → only_groups (a ++ b) ≡ only_groups a ++ only_groups b
unfolding only_groups
groups-append [] b = refl
groups-append (r ∷ a) b = go (groups-append a b) (is_group r)
  where
    go : only_groups (a ++ b) ≡ only_groups a ++ only_groups b → (g : Bool) → pick g (r ∷ only_groups (a ++ b)) (only_groups (a ++ b)) ≡ pick g (r ∷ only_groups a) (only_groups a) ++ only_groups b
    go ih true = ap (λ (l : List Node). r ∷ l) ih
    go ih false = ih

-- a run of deeper records starts with each run that it holds
take_nested : (d e : ℕ) (l : List Node) → d ≤ e → take_deeper d l ≡ take_deeper e l ++ take_deeper d (drop_deeper e l)
unfolding take_deeper drop_deeper
take_nested d e [] h = refl
take_nested d e (r ∷ l) h = go (take_nested d e l h) (ltb e r.depth) refl
  where
    go : take_deeper d l ≡ take_deeper e l ++ take_deeper d (drop_deeper e l) → (b : Bool) → ltb e r.depth ≡ b
        → take_deeper d (r ∷ l) ≡ pick b (r ∷ take_deeper e l) [] ++ take_deeper d (pick b (drop_deeper e l) (r ∷ l))
    go ih true t =
        let below : e < r.depth = ltb-true e r.depth t in
        let q : ltb d r.depth ≡ true = lt-ltb d r.depth (omega arith) in
        rw q (ap (λ (m : List Node). r ∷ m) ih)
    go ih false t = refl

-- there are at most as many as deeper records
pub groups_most : (d : ℕ) (l : List Node) → length (groups_below d l) ≤ deeper d l
unfolding take_deeper only_groups deeper
groups_most d [] = omega arith
groups_most d (r ∷ l) = go (groups_most d l) (ltb d r.depth) (is_group r)
  where
    go : length (groups_below d l) ≤ deeper d l → (b g : Bool) → length (only_groups (pick b (r ∷ take_deeper d l) [])) ≤ pick b (suc (deeper d l)) 0
    go ih true g = inner ih (is_group r)
      where
        inner : length (groups_below d l) ≤ deeper d l → (k : Bool) → length (pick k (r ∷ groups_below d l) (groups_below d l)) ≤ suc (deeper d l)
        inner ih true = omega arith
        inner ih false = omega arith
    go ih false g = omega arith

-- what a sweep from a place on leaves: the words with the groups at the place `to`, and the two places after it
pub record Swept (us : List ℕ) (count from to d : ℕ) (ws : List ℕ) (read write : ℕ) : Type 0 where
  pub past : read ≡ from + deeper d (drop from (rows count us))
  pub many : write ≡ to + length (groups_below d (drop from (rows count us)))
  pub words : ws ≡ over (width * to) (encode (groups_below d (drop from (rows count us)))) us

-- nothing deeper stands at the place
module _ (us : List ℕ) (count from to d : ℕ) where
  nothing : take_deeper d (drop from (rows count us)) ≡ [] → deeper d (drop from (rows count us)) ≡ 0 → Swept us count from to d us from to
  unfolding only_groups encode
  nothing none zero =
      let no-groups : groups_below d (drop from (rows count us)) ≡ [] = ap only_groups none in
      let size : length (groups_below d (drop from (rows count us))) ≡ 0 = ap (λ (l : List Node). length l) no-groups in
      record {
        past = omega arith;
        many = omega arith;
        words = sym (over_none (width * to) us) ∙ ap (λ (l : List Node). over (width * to) (encode l) us) (sym no-groups);
      }

  pub swept_end : count ≤ from → Swept us count from to d us from to
  unfolding take_deeper
  swept_end h = nothing (ap (λ (l : List Node). take_deeper d l) (rows_end count us from h)) (deeper_end count us d from h)

  pub swept_stop : from < count → get_or us (width * from + depth_field) 0 ≤ d → Swept us count from to d us from to
  unfolding take_deeper
  swept_stop h shallow =
      let no : ltb d (get_or us (width * from + depth_field) 0) ≡ false = le-ltb d (get_or us (width * from + depth_field) 0) shallow in
      nothing (ap (λ (l : List Node). take_deeper d l) (row-from count us from h) ∙ rw no) (deeper_turn count us d from h ∙ rw no)

  -- a deeper record, and what follows it
  module _ (h : from < count) (deep : d < get_or us (width * from + depth_field) 0) where
    deeper_next : deeper d (drop from (rows count us)) ≡ suc (deeper d (drop (from + 1) (rows count us)))
    deeper_next = rw (lt-ltb d (get_or us (width * from + depth_field) 0) deep) at (deeper_turn count us d from h)

    groups_next : groups_below d (drop from (rows count us)) ≡ only_groups (node_from us (width * from) ∷ take_deeper d (drop (from + 1) (rows count us)))
    unfolding take_deeper
    groups_next = ap (λ (l : List Node). groups_below d l) (row-from count us from h) ∙ rw (lt-ltb d (get_or us (width * from + depth_field) 0) deep)

    -- a synth is passed over
    pub swept_synth : (get_or us (width * from + slot_field) 0 ≡ 32 → ⊥) → (ws : List ℕ) (read write : ℕ) → Swept us count (from + 1) to d ws read write → Swept us count from to d ws read write
    unfolding only_groups
    swept_synth synth ws read write s =
        let same : groups_below d (drop from (rows count us)) ≡ groups_below d (drop (from + 1) (rows count us)) =
        groups_next ∙ rw (ne_eqb (get_or us (width * from + slot_field) 0) 32 synth) in
        let size = ap (λ (l : List Node). length l) same in
        let a = s.past in
        let b = s.many in
        let n = deeper_next in
        record {
          past = omega arith;
          many = omega arith;
          words = s.words ∙ ap (λ (l : List Node). over (width * to) (encode l) us) (sym same);
        }

    -- a group is moved down, then what is below it, then the rest
    module _ (group : get_or us (width * from + slot_field) 0 ≡ 32) (down : to ≤ from) (room : width * count ≤ length us) where
      abbrev kept : Node
      kept = node_from us (width * from)

      abbrev level : ℕ
      level = kept.depth

      abbrev after : List Node
      after = drop (from + 1) (rows count us)

      groups_split : groups_below d (drop from (rows count us)) ≡ kept ∷ (groups_below level after ++ groups_below d (drop_deeper level after))
      unfolding only_groups
      groups_split =
          groups_next
          ∙ (rw (eq-eqb (get_or us (width * from + slot_field) 0) 32 group))
          ∙ ap (λ (l : List Node). kept ∷ l) (ap only_groups (take_nested d level after (omega arith)) ∙ groups-append (take_deeper level after) (take_deeper d (drop_deeper level after)))

      -- the words with the group moved down, then with the groups below it behind it
      module _ (vs vs' : List ℕ) (read write : ℕ) (moved : vs ≡ over (width * to) (words_of kept) us) (inner : Swept vs count (from + 1) (to + 1) level vs' read write) where
        abbrev below : List Node
        below = groups_below level after

        -- the records behind the group are as they were
        same_after : drop (from + 1) (rows count vs) ≡ after
        same_after = ap (λ (l : List ℕ). drop (from + 1) (rows count l)) moved ∙ over_rows (width * to) (words_of kept) us (omega arith) count (from + 1) (omega arith)

        inner_past : read ≡ from + 1 + deeper level after
        inner_past = inner.past ∙ ap (λ (l : List Node). from + 1 + deeper level l) same_after

        inner_many : write ≡ to + 1 + length below
        inner_many = inner.many ∙ ap (λ (l : List Node). to + 1 + length (groups_below level l)) same_after

        fits : read ≤ count
        fits = omega (arith, inner_past, end_most count us level (from + 1) (omega arith))

        fewer : write ≤ read
        fewer = omega (arith, inner_past, inner_many, groups_most level after)

        size : length (words_of kept ++ encode below) ≡ width + width * length below
        size = omega (arith, encode-length below)

        inner_words : vs' ≡ over (width * to) (words_of kept ++ encode below) us
        inner_words =
            inner.words
            ∙ ap₂ (λ (l : List Node) (w : List ℕ). over (width * (to + 1)) (encode (groups_below level l)) w) same_after moved
            ∙ over_more (width * to) (words_of kept) us (omega arith) (encode below) (width * (to + 1)) (omega arith) (omega (arith, encode-length below, inner_many, fewer, fits))

        rest_at : drop read (rows count us) ≡ drop_deeper level after
        rest_at = ap (λ (j : ℕ). drop j (rows count us)) inner_past ∙ sym (drop-drop (deeper level after) (from + 1) (rows count us)) ∙ sym (drop_deeper-at level after)

        same_rest : drop read (rows count vs') ≡ drop_deeper level after
        same_rest =
            ap (λ (l : List ℕ). drop read (rows count l)) inner_words
            ∙ over_rows (width * to) (words_of kept ++ encode below) us (omega (arith, size, inner_many, fewer, fits)) count read (omega (arith, size, inner_many, fewer))
            ∙ rest_at

        pub swept_group : (ws : List ℕ) (read' write' : ℕ) → Swept vs' count read write d ws read' write' → Swept us count from to d ws read' write'
        unfolding encode
        swept_group ws read' write' s =
            let rest = groups_below d (drop_deeper level after) in
            let past : read' ≡ read + deeper d (drop_deeper level after) = s.past ∙ ap (λ (l : List Node). read + deeper d l) same_rest in
            let many : write' ≡ write + length rest = s.many ∙ ap (λ (l : List Node). write + length (groups_below d l)) same_rest in
            let split : deeper d after ≡ deeper level after + deeper d (drop_deeper level after) =
            nested d level after (omega arith) ∙ ap (λ (l : List Node). deeper level after + deeper d l) (sym (drop_deeper-at level after)) in
            let count-all : length (groups_below d (drop from (rows count us))) ≡ suc (length below + length rest) =
            ap (λ (l : List Node). length l) groups_split ∙ ap suc (length-append below rest) in
            let ends : read + deeper d (drop_deeper level after) ≤ count =
            rw rest_at at (end_most count us d read fits) in
            let enough : width * write + length (encode rest) ≤ length us = omega (arith, encode-length rest, groups_most d (drop_deeper level after), fewer) in
            let behind : over (width * write) (encode rest) vs' ≡ over (width * to) (words_of kept ++ encode below ++ encode rest) us =
            ap (λ (w : List ℕ). over (width * write) (encode rest) w) inner_words
            ∙ over_more (width * to) (words_of kept ++ encode below) us (omega (arith, size, inner_many, fewer, fits)) (encode rest) (width * write) (omega (arith, size, inner_many)) enough in
            let whole : words_of kept ++ encode below ++ encode rest ≡ encode (groups_below d (drop from (rows count us))) =
            append_assoc (words_of kept) (encode below) (encode rest)
            ∙ ap (λ (w : List ℕ). words_of kept ++ w) (sym (encode-append below rest))
            ∙ ap encode (sym groups_split) in
            record {
              past = omega (arith, deeper_next, inner_past);
              many = omega (arith, inner_many);
              words = s.words ∙ ap (λ (l : List Node). over (width * write) (encode (groups_below d l)) vs') same_rest ∙ behind ∙ ap (λ (w : List ℕ). over (width * to) w us) whole;
            }

-- a region with so many records, a place to read from and one to write to, and a number of nodes still allowed
pub record Between (us : List ℕ) (count from to left : ℕ) : Type 0 where
  pub room : width * count ≤ length us
  pub few : count ≤ 256
  pub down : to ≤ from
  pub inside : from ≤ count
  pub allowed : count ≤ from + left

-- where a sweep ends
pub record Ends (us : List ℕ) (count from : ℕ) (ws : List ℕ) (read write : ℕ) : Type 0 where
  pub on : from ≤ read
  pub inside : read ≤ count
  pub down : write ≤ read
  pub same : length ws ≡ length us

pub swept_ends : {us : List ℕ} {count from to d : ℕ} {ws : List ℕ} {read write : ℕ} → from ≤ count → to ≤ from → width * count ≤ length us → Swept us count from to d ws read write → Ends us count from ws read write
swept_ends {us} {count} {from} {to} {d} {ws} {read} {write} h down room s =
    let l = drop from (rows count us) in
    let a = s.past in
    let b = s.many in
    let most = groups_most d l in
    let end = end_most count us d from h in
    let fits : width * to + length (encode (groups_below d l)) ≤ length us = omega (arith, encode-length (groups_below d l)) in
    record { on = omega arith; inside = omega arith; down = omega arith; same = ap (λ (w : List ℕ). length w) s.words ∙ over_length (width * to) (encode (groups_below d l)) us fits }

pub copied_length : (us vs : List ℕ) (to : ℕ) (r : Node) → vs ≡ over (width * to) (words_of r) us → width * to + width ≤ length us → length vs ≡ length us
copied_length us vs to r e h = ap (λ (w : List ℕ). length w) e ∙ over_length (width * to) (words_of r) us (omega arith)
