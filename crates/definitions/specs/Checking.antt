-- The state check's part on slots.
use Prim.{Unit}
use Rattle.std.specs.Prelude.{ℕ, zero, suc, ◌+◌, ◌≤◌, ◌<◌, Bool, true, false, not, ◌≡◌, refl, length, drop, leb, eqb, IsTrue, ◌↔◌, EachIndex, slice_index}
use Rattle.std.proofs.Common.{sym, ◌∙◌, arith, get_or-take, leb-true, le-leb, eqb-true}
use Rattle.std.proofs.Math.Path.{ap}
use mathlib.Core.List.{List, [], ◌∷◌}
use Rattle.std.proofs.Math.Nat.{add-zero}
use Rattle.std.proofs.Math.ListN.{get_or}
use Rattle.std.proofs.Math.Seq.{get_or-drop, drop-drop}
use Rattle.std.proofs.lemmas.Bool.{eqb-false}
use Rattle.words.specs.Choice.{pick, both, either}
use Rattle.words.specs.ChoiceLaws.{both_true}
use Rattle.format.specs.Read.{Read, got, bad, ending}
use Rattle.format.specs.Definition.{Definition}
use Rattle.format.specs.Reader.{read_definition, size_limit}
use Rattle.nodes.specs.declared.Node.{Node}
use Rattle.model.specs.Layout.{slot_count}
use Rattle.model.specs.Engine.{Slot, held}
use Rattle.model.specs.Formed.{flags_formed, is_whole, slots_formed, name_resident, names_apart}
use Rattle.slots.specs.Slots.{lengths_on, flags_on, slots_on, bytes_on, resident_on, slot-at, slots_end}
use Rattle.definitions.specs.Slots.{SlotsFit, Formed}
use Rattle.definitions.specs.Names.{name_on, named_on}

-- a flag, by the table
flag_at : (table : List ℕ) (k : ℕ) → k < slot_count → get_or (flags_on table) k 0 ≡ get_or table (slot_count + k) 0
flag_at table k h = get_or-take slot_count (drop slot_count table) k 0 h ∙ get_or-drop slot_count table k 0

-- what is found of each flag is the test of them all
all_flags : (flags : List ℕ) → ((k : ℕ) → k < length flags → get_or flags k 0 ≤ 1) → flags_formed flags ≡ true
unfolding flags_formed
all_flags [] h = refl
all_flags (f ∷ more) h = rw (le-leb f 1 (h 0 (omega arith))) (all_flags more (λ k l. h (suc k) (omega arith)))

each_flag : (flags : List ℕ) → flags_formed flags ≡ true → (k : ℕ) → get_or flags k 0 ≤ 1
unfolding flags_formed
each_flag [] t k = omega arith
each_flag (f ∷ more) t zero = leb-true f 1 (both_true (leb f 1) (flags_formed more) t).0
each_flag (f ∷ more) t (suc k) = each_flag more (both_true (leb f 1) (flags_formed more) t).1 k

pub flags_told : (flags : List ℕ) (b : Bool) → (IsTrue b ↔ EachIndex flags (λ k. slice_index flags k ≤ 1)) → b ≡ flags_formed flags
flags_told flags true h = sym (all_flags flags (λ k l. h.0 refl k l))
flags_told flags false h = by (flags_formed flags) refl
  where
    by : (t : Bool) → flags_formed flags ≡ t → false ≡ flags_formed flags
    by true e = h.1 (λ k l. each_flag flags e k) ∙ sym e
    by false e = sym e

-- a definition's end tells whether it is the whole
abbrev pub ends_at : ℕ → Read (Unit {0}) → Bool
ends_at size (got u next) = eqb next size
ends_at size (bad r at) = false

pub whole_ending : (size : ℕ) (r : Read Definition) → is_whole size r ≡ ends_at size (ending r)
whole_ending size (got d next) = refl
whole_ending size (bad q at) = refl

-- a slot's bytes that were read
pub bytes_read : (size : ℕ) (bytes : List ℕ) (r : Read (Unit {0})) → size ≤ size_limit → r ≡ ending (read_definition bytes 0)
    → ends_at size r ≡ both (leb size size_limit) (is_whole size (read_definition bytes 0))
bytes_read size bytes r small e =
    ap (λ (q : Read (Unit {0})). ends_at size q) e
    ∙ sym (whole_ending size (read_definition bytes 0))
    ∙ sym (ap (λ (b : Bool). both b (is_whole size (read_definition bytes 0))) (le-leb size size_limit small))

pub record ReadWhole (size : ℕ) (r : Read Definition) : Type 0 where
  pub definition : Definition
  pub read : r ≡ got definition size

whole_read : (size : ℕ) (r : Read Definition) → is_whole size r ≡ true → ReadWhole size r
whole_read size (got d next) t = record { definition = d; read = ap (λ (n : ℕ). got d n) (eqb-true next size t) }
whole_read size (bad q at) t = absurd (let z : ◌≡◌ {A = ℕ} 0 1 = cc in omega arith)

-- the slots: one step, and the end
module _ (table arena : List ℕ) (t : List Node) where
  abbrev pub formed_on : ℕ → Bool
  formed_on k = pick (either (resident_on table k) (held k t)) (both (leb (get_or table k 0) size_limit) (is_whole (get_or table k 0) (read_definition (bytes_on table arena k) 0))) true

  pub formed_turn : (k : ℕ) → k < slot_count
      → slots_formed k (drop k (lengths_on table)) (drop k (slots_on table arena)) t
      ≡ both (formed_on k) (slots_formed (k + 1) (drop (k + 1) (lengths_on table)) (drop (k + 1) (slots_on table arena)) t)
  unfolding slots_formed
  formed_turn k h =
      let size : get_or (drop k (lengths_on table)) 0 0 ≡ get_or table k 0 = get_or-drop k (lengths_on table) 0 0 ∙ rw add-zero (get_or-take slot_count table k 0 h) in
      ap (λ (l : List Slot). slots_formed k (drop k (lengths_on table)) l t) (slot-at table arena k h)
      ∙ rw (size, drop-drop 1 k (lengths_on table))

  pub formed_end : (k : ℕ) → slot_count ≤ k → slots_formed k (drop k (lengths_on table)) (drop k (slots_on table arena)) t ≡ true
  unfolding slots_formed
  formed_end k h = ap (λ (l : List Slot). slots_formed k (drop k (lengths_on table)) l t) (slots_end table arena k h)

  formed_from : (n k : ℕ) → k + n ≡ slot_count → slots_formed k (drop k (lengths_on table)) (drop k (slots_on table arena)) t ≡ true → (j : ℕ) → k ≤ j → j < slot_count → formed_on j ≡ true
  formed_from zero k e q j h l = absurd (omega arith)
  formed_from (suc n) k e q j h l =
      let p = both_true (formed_on k) _ (sym (formed_turn k (omega arith)) ∙ q) in
      by (eqb j k) refl p.0 (λ m. formed_from n (k + 1) (omega arith) p.1 j m l)
    where
      by : (b : Bool) → eqb j k ≡ b → formed_on k ≡ true → (k + 1 ≤ j → formed_on j ≡ true) → formed_on j ≡ true
      by true q here more =
          let same : j ≡ k = eqb-true j k q in
          rw same here
      by false q here more = more (omega (arith, eqb-false j k q))

-- what passes the check is well formed
pub check_formed : (table arena : List ℕ) (t : List Node) → SlotsFit table arena → flags_formed (flags_on table) ≡ true → slots_formed 0 (lengths_on table) (slots_on table arena) t ≡ true
    → Formed table arena
check_formed table arena t z flags slots = record {
  sized = z;
  flag = λ k h. rw (sym (flag_at table k h)) (each_flag (flags_on table) flags k);
  resident = λ k h e.
      let p = both_true (leb (get_or table k 0) size_limit) _ (rw e at (formed_from table arena t slot_count 0 refl slots k (omega arith) h)) in
      let w = whole_read (get_or table k 0) (read_definition (bytes_on table arena k) 0) p.1 in
      record { definition = w.definition; small = leb-true (get_or table k 0) size_limit p.0; read = w.read };
}

-- the names: one step, and the end
module _ (table arena : List ℕ) where
  pub resident_turn : (name : List ℕ) (k : ℕ) → k < slot_count
      → name_resident name (drop k (slots_on table arena)) ≡ pick (named_on table arena name k) true (name_resident name (drop (k + 1) (slots_on table arena)))
  unfolding name_resident
  resident_turn name k h = ap (λ (l : List Slot). name_resident name l) (slot-at table arena k h)

  pub resident_end : (name : List ℕ) (k : ℕ) → slot_count ≤ k → name_resident name (drop k (slots_on table arena)) ≡ false
  unfolding name_resident
  resident_end name k h = ap (λ (l : List Slot). name_resident name l) (slots_end table arena k h)

  pub apart_turn : (k : ℕ) → k < slot_count
      → names_apart (drop k (slots_on table arena))
      ≡ both (pick (resident_on table k) (not (name_resident (name_on table arena k) (drop (k + 1) (slots_on table arena)))) true) (names_apart (drop (k + 1) (slots_on table arena)))
  unfolding names_apart
  apart_turn k h = ap (λ (l : List Slot). names_apart l) (slot-at table arena k h)

  pub apart_end : (k : ℕ) → slot_count ≤ k → names_apart (drop k (slots_on table arena)) ≡ true
  unfolding names_apart
  apart_end k h = ap (λ (l : List Slot). names_apart l) (slots_end table arena k h)
