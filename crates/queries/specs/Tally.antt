-- The nodes of the table counted by their slots' words.
use Prim.Native.Nat.{ℕ, zero, suc, ◌+◌, ◌*◌, ◌-◌, ◌≤◌, ◌<◌}
use Rattle.std.specs.Prelude.{Bool, ◌≡◌, List, [], ◌∷◌, length, drop, get_or, set, replicate, eqb}
use Rattle.std.proofs.Math.Bool.{true, false}
use Rattle.std.proofs.Math.Path.{refl, sym, ap}
use Rattle.std.proofs.Common.{◌∙◌, arith, mul-le-mul_right, length-set, length-drop, get_or-set_same, get_or-set_other}
use Rattle.std.proofs.lemmas.List.{length-replicate, get_or-replicate}
use Rattle.std.proofs.Math.Dec.{ltb}
use borrow.Author.Tests.{eqb-true, eqb-false, ltb-true, ltb-false, lt-ltb, le-ltb, ne_eqb}
use Rattle.words.specs.Choice.{pick}
use Rattle.words.specs.Parts.{region}
use Rattle.readable.specs.Lookup.{units_in}
use Rattle.readable.specs.Readable.{ReadableWhole}
use Rattle.nodes.specs.declared.Node.{Node}
use Rattle.nodes.specs.TableLaws.{row-from, rows_end, rows-length}
use Rattle.nodes.specs.Place.{group_slot, is_group}
use Rattle.nodes.specs.Formed.{most_nodes}
use Rattle.model.specs.Layout.{slot_count, count_in, nodes_in, nodes_place, nodes_words, controls_in, words_length, record_in}
use Rattle.model.specs.Engine.{Slot, decode}
use Rattle.model.specs.View.{kind_in, view_rows, is_group_kind}
use Rattle.model.specs.Replies.{units_of, unit_count, group_count}
use Rattle.state.specs.Known.{Known}
use Rattle.controls.specs.Encoded.{number_or}
use Rattle.slots.specs.Slots.{slot_bytes}
use Rattle.queries.specs.declared.status.PartCounts.{PartCounts}
use Rattle.queries.specs.Held.{At, bounds, held_readable}
use Rattle.queries.specs.Status.{view_from, kind_at, kind_is, units_group, units_synth, units_turn, units_end}

-- how many have the slot word k
unfoldable pub slot_tally : ℕ → List Node → ℕ
slot_tally k [] = 0
slot_tally k (r ∷ l) = pick (eqb r.slot k) 1 0 + slot_tally k l

-- the counts of all slots, and behind them that of the groups
abbrev pub slot_words : ℕ
slot_words = 33

-- a slot's count over four parts
abbrev pub counted_at : PartCounts → ℕ → ℕ
counted_at t k = get_or t.first k 0 + get_or t.second k 0 + get_or t.third k 0 + get_or t.fourth k 0

-- the four parts are the table
abbrev pub Tallies : List ℕ → PartCounts → Type 0
Tallies ws t = (k : ℕ) → k < slot_words → counted_at t k ≡ slot_tally k (nodes_in ws)

-- a table whose slots' words are slots, or say that it is a group
pub record Slotted (ws : List ℕ) : Type 0 where
  pub size : length ws ≡ words_length
  pub few : count_in ws ≤ most_nodes
  pub low : (i : ℕ) → i < count_in ws → (record_in ws i).slot < slot_words

pub slotted : (ws bs : List ℕ) → Known ws bs → Slotted ws
slotted ws bs k = record { size = k.size; few = k.few; low = λ i h. by i h (is_group (record_in ws i)) refl }
  where
    by : (i : ℕ) → i < count_in ws → (b : Bool) → is_group (record_in ws i) ≡ b → (record_in ws i).slot < slot_words
    by i h true e = omega (arith, eqb-true (record_in ws i).slot group_slot e)
    by i h false e = omega (arith, (bounds ws bs i (record { state = k; live = h })).slot e)

tally-list : (k : ℕ) (t : List Node) → slot_tally k t ≤ length t
unfolding slot_tally
tally-list k [] = omega arith
tally-list k (r ∷ l) = by (eqb r.slot k) (tally-list k l)
  where
    by : (b : Bool) → slot_tally k l ≤ length l → pick b 1 0 + slot_tally k l ≤ suc (length l)
    by true h = omega arith
    by false h = omega arith

module _ (ws : List ℕ) (k : ℕ) where
  pub tally_most : slot_tally k (nodes_in ws) ≤ count_in ws
  tally_most = omega (arith, tally-list k (nodes_in ws), rows-length (count_in ws) (region nodes_place nodes_words ws))

  tally_turn : (i : ℕ) → i < count_in ws → slot_tally k (drop i (nodes_in ws)) ≡ pick (eqb (record_in ws i).slot k) 1 0 + slot_tally k (drop (i + 1) (nodes_in ws))
  unfolding slot_tally
  tally_turn i h = ap (slot_tally k) (row-from (count_in ws) (region nodes_place nodes_words ws) i h)

  tally_end : (i : ℕ) → count_in ws ≤ i → slot_tally k (drop i (nodes_in ws)) ≡ 0
  unfolding slot_tally
  tally_end i h = ap (slot_tally k) (rows_end (count_in ws) (region nodes_place nodes_words ws) i h)

-- of the records from a place on i were counted
pub record Tallied (ws : List ℕ) (from i : ℕ) (counts : List ℕ) : Type 0 where
  pub size : length counts ≡ slot_words
  pub same : (k : ℕ) → k < slot_words → get_or counts k 0 + slot_tally k (drop (from + i) (nodes_in ws)) ≡ slot_tally k (drop from (nodes_in ws))

-- a place written in another way
tally_place : (ws : List ℕ) (k i j : ℕ) → i ≡ j → slot_tally k (drop i (nodes_in ws)) ≡ slot_tally k (drop j (nodes_in ws))
tally_place ws k i j e = ap (λ (n : ℕ). slot_tally k (drop n (nodes_in ws))) e

pub tallied_none : (ws : List ℕ) (from : ℕ) → Tallied ws from 0 (replicate slot_words 0)
tallied_none ws from =
    record {
      size = length-replicate {A = ℕ} slot_words 0;
      same = λ k h. omega (arith, get_or-replicate {A = ℕ} slot_words k 0 0 h, tally_place ws k (from + 0) from (omega arith));
    }

pub tallied_more : (ws : List ℕ) (from i : ℕ) → Slotted ws → from + i < count_in ws → (counts : List ℕ) → Tallied ws from i counts → (slot : ℕ) → slot ≡ (record_in ws (from + i)).slot
    → Tallied ws from (i + 1) (set counts slot (get_or counts slot 0 + 1))
tallied_more ws from i s h counts t slot is = record { size = length-set counts slot _ ∙ t.size; same = λ k l. by k l (eqb slot k) refl }
  where
    turn : (k : ℕ) → slot_tally k (drop (from + i) (nodes_in ws)) ≡ pick (eqb slot k) 1 0 + slot_tally k (drop (from + (i + 1)) (nodes_in ws))
    turn k =
        let next = tally_place ws k (from + i + 1) (from + (i + 1)) (omega arith) in
        rw is (tally_turn ws k (from + i) h ∙ ap (λ (n : ℕ). pick (eqb (record_in ws (from + i)).slot k) 1 0 + n) next)

    by : (k : ℕ) → k < slot_words → (b : Bool) → eqb slot k ≡ b
        → get_or (set counts slot (get_or counts slot 0 + 1)) k 0 + slot_tally k (drop (from + (i + 1)) (nodes_in ws)) ≡ slot_tally k (drop from (nodes_in ws))
    by k l true e =
        let here : slot ≡ k = eqb-true slot k e in
        let now : get_or (set counts slot (get_or counts slot 0 + 1)) k 0 ≡ get_or counts k 0 + 1 =
        ap (λ (j : ℕ). get_or (set counts slot (get_or counts slot 0 + 1)) j 0) (sym here)
        ∙ get_or-set_same counts slot _ 0 (omega (arith, t.size, s.low (from + i) h))
        ∙ ap (λ (j : ℕ). get_or counts j 0 + 1) here in
        omega (arith, now, rw e at (turn k), t.same k l)
    by k l false e =
        let now : get_or (set counts slot (get_or counts slot 0 + 1)) k 0 ≡ get_or counts k 0 = get_or-set_other counts slot k _ 0 (λ j. eqb-false slot k e (sym j)) in
        omega (arith, now, rw e at (turn k), t.same k l)

-- a count is at most as many as there are
pub tallied_few : (ws : List ℕ) (from i : ℕ) → Slotted ws → (counts : List ℕ) → Tallied ws from i counts → (k : ℕ) → k < slot_words → get_or counts k 0 ≤ most_nodes
tallied_few ws from i s counts t k h =
    omega
    (arith, t.same k h, tally-list k (drop from (nodes_in ws)), length-drop from (nodes_in ws), rows-length (count_in ws) (region nodes_place nodes_words ws), s.few)

-- so the slot of the next one can be counted
pub tallied_next : (ws : List ℕ) (from i : ℕ) → Slotted ws → from + i < count_in ws → (counts : List ℕ) → Tallied ws from i counts → (slot : ℕ) → slot ≡ (record_in ws (from + i)).slot
    → (slot < slot_words) × (get_or counts slot 0 ≤ most_nodes)
tallied_next ws from i s h counts t slot is =
    let low : slot < slot_words = omega (arith, is, s.low (from + i) h) in
    (low, tallied_few ws from i s counts t slot low)

-- of each of four parts side by side i were counted
pub record PartsTallied (ws : List ℕ) (part i : ℕ) (t : PartCounts) : Type 0 where
  pub first : Tallied ws 0 i t.first
  pub second : Tallied ws part i t.second
  pub third : Tallied ws (2 * part) i t.third
  pub fourth : Tallied ws (3 * part) i t.fourth

-- nothing counted yet
abbrev pub no_counts : PartCounts
no_counts = record { first = replicate slot_words 0; second = replicate slot_words 0; third = replicate slot_words 0; fourth = replicate slot_words 0 }

pub parts_none : (ws : List ℕ) (part : ℕ) → PartsTallied ws part 0 no_counts
parts_none ws part =
    record { first = tallied_none ws 0; second = tallied_none ws part; third = tallied_none ws (2 * part); fourth = tallied_none ws (3 * part) }

-- four parts side by side, of which the last goes on to the end
pub tallied_all : (ws : List ℕ) (part i : ℕ) (t : PartCounts)
    → Tallied ws 0 part t.first → Tallied ws part part t.second → Tallied ws (2 * part) part t.third → Tallied ws (3 * part) i t.fourth
    → count_in ws ≤ 3 * part + i → Tallies ws t
tallied_all ws part i t first second third last past k h =
    omega (
      arith,
      first.same k h,
      second.same k h,
      third.same k h,
      last.same k h,
      tally_place ws k (0 + part) part (omega arith),
      tally_place ws k (part + part) (2 * part) (omega arith),
      tally_place ws k (2 * part + part) (3 * part) (omega arith),
      tally_end ws k (3 * part + i) past,
    )

pub tallied_parts : (ws : List ℕ) (part i : ℕ) (t : PartCounts) (d : List ℕ)
    → PartsTallied ws part part t → Tallied ws (3 * part) i d → count_in ws ≤ 3 * part + i → Tallies ws (record t { fourth = d })
tallied_parts ws part i t d parts last past = tallied_all ws part i (record t { fourth = d }) parts.first parts.second parts.third last past

pub tallies_few : (ws : List ℕ) (t : PartCounts) → Slotted ws → Tallies ws t → (k : ℕ) → k < slot_words → counted_at t k ≤ most_nodes
tallies_few ws t s all k h = omega (arith, all k h, tally_most ws k, s.few)

-- a slot that a synth holds has one whole definition
pub held_slot : (ws bs : List ℕ) (k : ℕ) → Known ws bs → k < slot_count → (n i : ℕ) → count_in ws ≤ i + n → 0 < slot_tally k (drop i (nodes_in ws)) → ReadableWhole (slot_bytes ws bs k)
held_slot ws bs k s low zero i most some = absurd (omega (arith, tally_end ws k i (omega arith)))
held_slot ws bs k s low (suc n) i most some = by (held_slot ws bs k s low n (i + 1) (omega arith)) (ltb i (count_in ws)) (eqb (record_in ws i).slot k) refl refl
  where
    by : (0 < slot_tally k (drop (i + 1) (nodes_in ws)) → ReadableWhole (slot_bytes ws bs k)) → (a b : Bool) → ltb i (count_in ws) ≡ a → eqb (record_in ws i).slot k ≡ b → ReadableWhole (slot_bytes ws bs k)
    by ih true true p q =
        let here : (record_in ws i).slot ≡ k = eqb-true (record_in ws i).slot k q in
        rw here at (held_readable ws bs i (record { state = s; live = ltb-true i (count_in ws) p }) (ne_eqb (record_in ws i).slot group_slot (λ e. absurd (omega arith))))
    by ih true false p q = ih (omega (arith, rw q at (tally_turn ws k i (ltb-true i (count_in ws) p))))
    by ih false b p q = absurd (omega (arith, tally_end ws k i (ltb-false i (count_in ws) p)))

-- the units of the synths of the slots before k
abbrev pub slot_units : List ℕ → List ℕ → ℕ → ℕ
slot_units ws bs k = number_or (units_in (slot_bytes ws bs k))

unfoldable pub units_before : (ℕ → ℕ) → ℕ → List Node → ℕ
units_before u k [] = 0
units_before u k (r ∷ l) = pick (ltb r.slot k) (u r.slot) 0 + units_before u k l

before_step : (u : ℕ → ℕ) (k : ℕ) (t : List Node) → units_before u (k + 1) t ≡ units_before u k t + slot_tally k t * u k
unfolding units_before slot_tally
before_step u k [] = omega arith
before_step u k (r ∷ l) = by (before_step u k l) (ltb r.slot k) (eqb r.slot k) refl refl
  where
    by : units_before u (k + 1) l ≡ units_before u k l + slot_tally k l * u k → (a b : Bool) → ltb r.slot k ≡ a → eqb r.slot k ≡ b
        → pick (ltb r.slot (k + 1)) (u r.slot) 0 + units_before u (k + 1) l ≡ pick (ltb r.slot k) (u r.slot) 0 + units_before u k l + (pick (eqb r.slot k) 1 0 + slot_tally k l) * u k
    by ih true true p q = absurd (omega (arith, ltb-true r.slot k p, eqb-true r.slot k q))
    by ih true false p q = let less = ltb-true r.slot k p in rw (p, q, lt-ltb r.slot (k + 1) (omega arith)) (omega arith)
    by ih false true p q =
        let here : r.slot ≡ k = eqb-true r.slot k q in
        let same : u r.slot ≡ u k = ap u here in
        rw (p, q, lt-ltb r.slot (k + 1) (omega arith)) (omega arith)
    by ih false false p q =
        let more = ltb-false r.slot k p in
        let apart = eqb-false r.slot k q in
        rw (p, q, le-ltb r.slot (k + 1) (omega (arith, apart))) (omega arith)

before_none : (u : ℕ → ℕ) (t : List Node) → units_before u 0 t ≡ 0
unfolding units_before
before_none u [] = refl
before_none u (r ∷ l) = rw (le-ltb r.slot 0 (omega arith)) (omega (arith, before_none u l))

-- one for each: how many hold a slot before k
abbrev one : ℕ → ℕ
one j = 1

before_rises : (j m : ℕ) → j ≤ m → (t : List Node) → units_before one j t ≤ units_before one m t
unfolding units_before
before_rises j m h [] = omega arith
before_rises j m h (r ∷ l) = by (before_rises j m h l) (ltb r.slot j) (ltb r.slot m) refl refl
  where
    by : units_before one j l ≤ units_before one m l → (a b : Bool) → ltb r.slot j ≡ a → ltb r.slot m ≡ b
        → pick (ltb r.slot j) 1 0 + units_before one j l ≤ pick (ltb r.slot m) 1 0 + units_before one m l
    by ih true true p q = rw (p, q) (omega arith)
    by ih true false p q = absurd (omega (arith, ltb-true r.slot j p, ltb-false r.slot m q))
    by ih false b p q = rw p (omega arith)

-- where no more hold a slot, there are no more units
before_same : (u : ℕ → ℕ) (j m : ℕ) → j ≤ m → (t : List Node) → units_before one j t ≡ units_before one m t → units_before u j t ≡ units_before u m t
unfolding units_before
before_same u j m h [] e = refl
before_same u j m h (r ∷ l) e = by (before_same u j m h l) (ltb r.slot j) (ltb r.slot m) refl refl e
  where
    by : (units_before one j l ≡ units_before one m l → units_before u j l ≡ units_before u m l) → (a b : Bool) → ltb r.slot j ≡ a → ltb r.slot m ≡ b
        → pick (ltb r.slot j) 1 0 + units_before one j l ≡ pick (ltb r.slot m) 1 0 + units_before one m l
        → pick (ltb r.slot j) (u r.slot) 0 + units_before u j l ≡ pick (ltb r.slot m) (u r.slot) 0 + units_before u m l
    by ih true true p q e = rw (p, q) (omega (arith, ih (omega (arith, rw (p, q) at e))))
    by ih true false p q e = absurd (omega (arith, ltb-true r.slot j p, ltb-false r.slot m q))
    by ih false true p q e = absurd (omega (arith, rw (p, q) at e, before_rises j m h l))
    by ih false false p q e = rw (p, q) (omega (arith, ih (omega (arith, rw (p, q) at e))))

module _ (ws : List ℕ) where
  abbrev pub held_to : ℕ → ℕ
  held_to k = units_before one k (nodes_in ws)

  held_none : held_to 0 ≡ 0
  held_none = before_none one (nodes_in ws)

  held_more : (k : ℕ) → held_to (k + 1) ≡ held_to k + slot_tally k (nodes_in ws)
  held_more k = omega (arith, before_step one k (nodes_in ws))

  module _ (s : Slotted ws) where
    held_from : (n i : ℕ) → i ≤ count_in ws → count_in ws ≤ i + n → i + units_before one slot_words (drop i (nodes_in ws)) ≡ count_in ws
    unfolding units_before
    held_from zero i low most = omega (arith, ap (units_before one slot_words) (rows_end (count_in ws) (region nodes_place nodes_words ws) i (omega arith)))
    held_from (suc n) i low most = by (held_from n (i + 1)) (ltb i (count_in ws)) refl
      where
        by : (i + 1 ≤ count_in ws → count_in ws ≤ i + 1 + n → i + 1 + units_before one slot_words (drop (i + 1) (nodes_in ws)) ≡ count_in ws) → (b : Bool) → ltb i (count_in ws) ≡ b
            → i + units_before one slot_words (drop i (nodes_in ws)) ≡ count_in ws
        by ih true e =
            let live = ltb-true i (count_in ws) e in
            let turn : units_before one slot_words (drop i (nodes_in ws)) ≡ pick (ltb (record_in ws i).slot slot_words) 1 0 + units_before one slot_words (drop (i + 1) (nodes_in ws)) =
            ap (units_before one slot_words) (row-from (count_in ws) (region nodes_place nodes_words ws) i live) in
            omega (arith, rw (lt-ltb (record_in ws i).slot slot_words (s.low i live)) at turn, ih (omega arith) (omega arith))
        by ih false e =
            let past = ltb-false i (count_in ws) e in
            omega (arith, ap (units_before one slot_words) (rows_end (count_in ws) (region nodes_place nodes_words ws) i past))

    -- with the groups: all
    held_all : held_to slot_count + slot_tally group_slot (nodes_in ws) ≡ count_in ws
    held_all = omega (arith, held_from (count_in ws) 0 (omega arith) (omega arith), held_more slot_count)

    held_few : (k : ℕ) → k ≤ slot_count → held_to k + slot_tally group_slot (nodes_in ws) ≤ count_in ws
    held_few k h = omega (arith, held_all, before_rises k slot_count h (nodes_in ws))

-- in the words
module _ (ws bs : List ℕ) where
  abbrev pub units_to : ℕ → ℕ
  units_to k = units_before (slot_units ws bs) k (nodes_in ws)

  units_to_none : units_to 0 ≡ 0
  units_to_none = before_none (slot_units ws bs) (nodes_in ws)

  units_to_more : (k many units : ℕ) → many ≡ slot_tally k (nodes_in ws) → units ≡ slot_units ws bs k → units_to (k + 1) ≡ units_to k + many * units
  units_to_more k many units m u = before_step (slot_units ws bs) k (nodes_in ws) ∙ rw (sym m, sym u)

  units_to_same : (k many : ℕ) → many ≡ slot_tally k (nodes_in ws) → many ≡ 0 → units_to (k + 1) ≡ units_to k
  units_to_same k many m none =
      let zeroed : slot_tally k (nodes_in ws) * slot_units ws bs k ≡ 0 = rw (sym m, none) (omega arith) in
      omega (arith, before_step (slot_units ws bs) k (nodes_in ws))

  -- all slots: all synths
  module _ (s : Known ws bs) where
    here : (i : ℕ) → i < count_in ws → pick (ltb (record_in ws i).slot slot_count) (slot_units ws bs (record_in ws i).slot) 0 ≡ units_of (kind_at ws bs i)
    here i h = by (is_group (record_in ws i)) refl
      where
        by : (b : Bool) → is_group (record_in ws i) ≡ b → pick (ltb (record_in ws i).slot slot_count) (slot_units ws bs (record_in ws i).slot) 0 ≡ units_of (kind_at ws bs i)
        by true e = rw (le-ltb (record_in ws i).slot slot_count (omega (arith, eqb-true (record_in ws i).slot group_slot e))) (sym (units_group ws bs i e))
        by false e =
            let at : At ws bs i = record { state = s; live = h } in
            rw (lt-ltb (record_in ws i).slot slot_count ((bounds ws bs i at).slot e)) (sym (units_synth ws bs i at e))

    all_from : (n i : ℕ) → count_in ws ≤ i + n → units_before (slot_units ws bs) slot_count (drop i (nodes_in ws)) ≡ unit_count (view_from ws bs i)
    unfolding units_before
    all_from zero i most =
        ap (units_before (slot_units ws bs) slot_count) (rows_end (count_in ws) (region nodes_place nodes_words ws) i (omega arith)) ∙ sym (units_end ws bs i (omega arith))
    all_from (suc n) i most = by (all_from n (i + 1) (omega arith)) (ltb i (count_in ws)) refl
      where
        by : units_before (slot_units ws bs) slot_count (drop (i + 1) (nodes_in ws)) ≡ unit_count (view_from ws bs (i + 1)) → (b : Bool) → ltb i (count_in ws) ≡ b
            → units_before (slot_units ws bs) slot_count (drop i (nodes_in ws)) ≡ unit_count (view_from ws bs i)
        by ih true e =
            let live = ltb-true i (count_in ws) e in
            let turn : units_before (slot_units ws bs) slot_count (drop i (nodes_in ws)) ≡ pick (ltb (record_in ws i).slot slot_count) (slot_units ws bs (record_in ws i).slot) 0 + units_before (slot_units ws bs) slot_count (drop (i + 1) (nodes_in ws)) =
            ap (units_before (slot_units ws bs) slot_count) (row-from (count_in ws) (region nodes_place nodes_words ws) i live) in
            omega (arith, turn, ih, here i live, units_turn ws bs i (record { state = s; live = live }))
        by ih false e =
            let past = ltb-false i (count_in ws) e in
            ap (units_before (slot_units ws bs) slot_count) (rows_end (count_in ws) (region nodes_place nodes_words ws) i past) ∙ sym (units_end ws bs i past)

    units_all : units_to slot_count ≡ unit_count (view_from ws bs 0)
    units_all = all_from (count_in ws) 0 (omega arith)

    -- no synth is left: all synths
    units_last : (k : ℕ) → k ≤ slot_count → held_to ws k + slot_tally group_slot (nodes_in ws) ≡ count_in ws → units_to k ≡ unit_count (view_from ws bs 0)
    units_last k h e = before_same (slot_units ws bs) k slot_count h (nodes_in ws) (omega (arith, e, held_all ws (slotted ws bs s))) ∙ units_all

-- the groups
tally-groups : (slots : List Slot) (cs : List ℕ) (t : List Node) → slot_tally group_slot t ≡ group_count (view_rows slots cs t)
unfolding slot_tally group_count view_rows
tally-groups slots cs [] = refl
tally-groups slots cs (r ∷ l) =
    let same : is_group_kind (kind_in slots cs r) ≡ eqb r.slot group_slot = kind_is slots cs r in
    rw same (ap (λ (k : ℕ). pick (eqb r.slot group_slot) 1 0 + k) (tally-groups slots cs l))

pub groups_all : (ws bs : List ℕ) → slot_tally group_slot (nodes_in ws) ≡ group_count (view_from ws bs 0)
groups_all ws bs = tally-groups (decode ws bs).slots (controls_in ws) (nodes_in ws)

-- a slot's units: at most so many
units_few : (many units : ℕ) → many ≤ most_nodes → units < 4294967296 → many * units ≤ 1099511627776
units_few many units m u = omega (arith, mul-le-mul_right units m)

-- the units of the slots before k, and how many synths of the others are left
pub record Summed (ws bs : List ℕ) (k left units : ℕ) : Type 0 where
  pub low : k ≤ slot_count
  pub few : units ≤ 1099511627776 * k
  pub same : units ≡ units_to ws bs k
  pub rest : left + held_to ws k + slot_tally group_slot (nodes_in ws) ≡ count_in ws

module _ (ws bs : List ℕ) where
  pub summed_none : (groups : ℕ) → groups ≡ slot_tally group_slot (nodes_in ws) → Summed ws bs 0 (count_in ws - groups) 0
  summed_none groups g =
      record { low = omega arith; few = omega arith; same = sym (units_to_none ws bs); rest = omega (arith, g, tally_most ws group_slot, held_none ws) }

  module _ (s : Known ws bs) (k left units : ℕ) (t : Summed ws bs k left units) where
    pub summed_last : left ≡ 0 → units ≡ unit_count (view_from ws bs 0)
    summed_last none = t.same ∙ units_last ws bs s k t.low (omega (arith, t.rest))

    pub summed_all : slot_count ≤ k → units ≡ unit_count (view_from ws bs 0)
    summed_all past =
        let end : k ≡ slot_count = omega (arith, t.low) in
        t.same ∙ ap (units_to ws bs) end ∙ units_all ws bs s

    -- the slot k
    module _ (next : k < slot_count) (many : ℕ) (m : many ≡ slot_tally k (nodes_in ws)) where
      pub summed_left : many ≤ left
      summed_left = omega (arith, t.rest, m, held_more ws k, held_few ws (slotted ws bs s) (k + 1) (omega arith))

      pub summed_same : many ≡ 0 → (rest sum : ℕ) → rest ≡ left → sum ≡ units → Summed ws bs (k + 1) rest sum
      summed_same none rest sum r u =
          record {
            low = omega arith;
            few = omega (arith, t.few);
            same = u ∙ t.same ∙ sym (units_to_same ws bs k many m none);
            rest = omega (arith, t.rest, m, held_more ws k);
          }

      module _ (each : ℕ) (small : each < 4294967296) where
        pub summed_few : units + many * each ≤ 1099511627776 * (k + 1)
        summed_few = omega (arith, t.few, units_few many each (omega (arith, m, tally_most ws k, s.few)) small)

        pub summed_more : each ≡ slot_units ws bs k → (rest sum : ℕ) → rest ≡ left - many → sum ≡ units + many * each → Summed ws bs (k + 1) rest sum
        summed_more e rest sum r u =
            record {
              low = omega arith;
              few = omega (arith, summed_few);
              same = u ∙ ap (λ (n : ℕ). n + many * each) t.same ∙ sym (units_to_more ws bs k many each m e);
              rest = omega (arith, t.rest, m, held_more ws k, summed_left);
            }
