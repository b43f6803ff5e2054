-- The table after the residents under some names are retired.
use Rattle.std.specs.Prelude.{ℕ, zero, suc, ◌+◌, ◌≤◌, ◌<◌, Bool, true, false, not, ◌≡◌, refl, List, length, take, drop, get_or, eqb}
use Rattle.std.proofs.Common.{sym, ap, ◌∙◌, arith, get_or-take, ext_get_or, take_at, take_all, drop_at, get_or-append-add, length-take-le}
use Rattle.words.specs.Choice.{pick, both}
use Rattle.words.specs.ChoiceLaws.{both_true}
use Rattle.format.specs.Reader.{among}
use Rattle.model.specs.Layout.{slot_count, slot_in}
use Rattle.model.specs.Engine.{Slot, slots_from, slot_at, name_in}
use Rattle.model.specs.Effects.{retired}
use Rattle.model.specs.After.{flags_of, lengths_of}
use Rattle.slots.specs.Slots.{lengths_on, flags_on, slots_on, resident_on}
use Rattle.definitions.specs.Slots.{Formed}
use Rattle.slots.specs.Arena.{flags_length, lengths_length}
use Rattle.definitions.specs.Storing.{table_of, table-size, flags_at, lengths_at}
use Rattle.definitions.specs.Names.{name_on}
use Rattle.definitions.specs.Retiring.{retired_many, retired_is, retired_size}

-- a flag tells what it was made of
flag_test : (b : Bool) → eqb (pick b 1 0) 1 ≡ b
flag_test true = refl
flag_test false = refl

-- slots with other flags
retired_from : (k n : ℕ) (lengths flags arena : List ℕ) (names : List (List ℕ))
    → slots_from k n lengths (flags_of (retired names (slots_from k n lengths flags arena))) arena ≡ retired names (slots_from k n lengths flags arena)
unfolding slots_from flags_of retired
retired_from k zero lengths flags arena names = refl
retired_from k (suc n) lengths flags arena names =
    rw (flag_test (both (eqb (get_or flags 0 0) 1) (not (among (name_in (record { bytes = slot_in arena k (get_or lengths 0 0); resident = eqb (get_or flags 0 0) 1 })) names))), retired_from (k + 1) n (drop 1 lengths) (drop 1 flags) arena names)

-- a table's parts
pub table_lengths : (slots : List Slot) (table : List ℕ) → length slots ≡ slot_count → lengths_on (table_of slots table) ≡ lengths_of slots (lengths_on table)
table_lengths slots table many = take_at (lengths_of slots (lengths_on table)) (flags_of slots) slot_count (lengths_length slots (lengths_on table) ∙ many)

pub table_flags : (slots : List Slot) (table : List ℕ) → length slots ≡ slot_count → flags_on (table_of slots table) ≡ flags_of slots
table_flags slots table many =
    ap (λ (l : List ℕ). take slot_count l) (drop_at (lengths_of slots (lengths_on table)) (flags_of slots) slot_count (lengths_length slots (lengths_on table) ∙ many))
    ∙ take_all slot_count (flags_of slots) (rw (flags_length slots, many) (omega arith))

pub table_flag : (slots : List Slot) (table : List ℕ) (k : ℕ) → length slots ≡ slot_count → k < slot_count → get_or (table_of slots table) (slot_count + k) 0 ≡ pick (slot_at slots k).resident 1 0
table_flag slots table k many h =
    let size : length (lengths_of slots (lengths_on table)) ≡ slot_count = lengths_length slots (lengths_on table) ∙ many in
    ap (λ (n : ℕ). get_or (table_of slots table) (n + k) 0) (sym size)
    ∙ get_or-append-add (lengths_of slots (lengths_on table)) (flags_of slots) k 0
    ∙ flags_at slots k (rw many h)

module _ (table arena : List ℕ) (names : List (List ℕ)) (f : Formed table arena) where
  many : length (retired names (slots_on table arena)) ≡ slot_count
  many = retired_many table arena names

  pub retired_lengths : lengths_on (table_of (retired names (slots_on table arena)) table) ≡ lengths_on table
  retired_lengths =
      let long = f.sized.table_size in
      let size : length (lengths_on table) ≡ slot_count = length-take-le slot_count table (omega arith) in
      let slots = retired names (slots_on table arena) in
      let size' : length (lengths_of slots (lengths_on table)) ≡ slot_count = lengths_length slots (lengths_on table) ∙ many in
      table_lengths slots table many
      ∙ ext_get_or 0 (lengths_of slots (lengths_on table)) (lengths_on table) (size' ∙ sym size) (λ k h.
      let less : k < slot_count = rw size' at h in
      lengths_at slots (lengths_on table) k (rw many less)
      ∙ ap (λ (n : ℕ). pick (slot_at slots k).resident (length (slot_at slots k).bytes) n) (get_or-take slot_count table k 0 less)
      ∙ sym (retired_size table arena names f k less)
      ∙ sym (get_or-take slot_count table k 0 less))

  pub retired_slots : slots_on (table_of (retired names (slots_on table arena)) table) arena ≡ retired names (slots_on table arena)
  retired_slots =
      rw (retired_lengths, table_flags (retired names (slots_on table arena)) table many) (retired_from 0 slot_count (lengths_on table) (flags_on table) arena names)

  length_kept : (k : ℕ) → k < slot_count → get_or (table_of (retired names (slots_on table arena)) table) k 0 ≡ get_or table k 0
  length_kept k h =
      sym (get_or-take slot_count (table_of (retired names (slots_on table arena)) table) k 0 h)
      ∙ ap (λ (l : List ℕ). get_or l k 0) retired_lengths
      ∙ get_or-take slot_count table k 0 h

  flag_after : (k : ℕ) → k < slot_count
      → get_or (table_of (retired names (slots_on table arena)) table) (slot_count + k) 0 ≡ pick (both (resident_on table k) (not (among (name_on table arena k) names))) 1 0
  flag_after k h =
      table_flag (retired names (slots_on table arena)) table k many h ∙ ap (λ (s : Slot). pick s.resident 1 0) (retired_is table arena names k h)

  pub retired_formed : Formed (table_of (retired names (slots_on table arena)) table) arena
  retired_formed = record {
    sized = record { table_size = table-size (retired names (slots_on table arena)) table ∙ rw many; arena_size = f.sized.arena_size };
    flag = λ k h. rw (flag_after k h) (bit (both (resident_on table k) (not (among (name_on table arena k) names))));
    resident = λ k h e.
        let t : both (resident_on table k) (not (among (name_on table arena k) names)) ≡ true = sym (flag_test (both (resident_on table k) (not (among (name_on table arena k) names)))) ∙ sym (ap (λ (w : ℕ). eqb w 1) (flag_after k h)) ∙ e in
        let w = f.resident k h (both_true (resident_on table k) _ t).0 in
        record { definition = w.definition; small = rw (length_kept k h) w.small; read = rw (length_kept k h) w.read };
  }
    where
      bit : (b : Bool) → pick b 1 0 ≤ 1
      bit true = omega arith
      bit false = omega arith
