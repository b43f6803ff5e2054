-- Laws of the lookup.
use Prim.Native.Nat.{ℕ, zero, suc, ◌+◌, ◌≤◌, ◌<◌}
use Rattle.std.specs.Prelude.{Bool, true, false, ◌≡◌, length, drop, not, get_or, slice_get, Option, Some, None}
use Rattle.std.specs.Option.{is_none, is_some}
use Rattle.std.proofs.Math.Path.{refl}
use Rattle.std.proofs.Common.{◌∙◌, add-one, add-zero, drop_of_length-le, drop-cons}
use mathlib.Core.List.{List, [], ◌∷◌}
use native.Mathlib.Omega.{arith}
use Rattle.words.specs.Choice.{both}
use Rattle.format.specs.Reader.{same_name}
use Rattle.calls.specs.Ops.{last_with_address}
use Rattle.messages.specs.declared.Slot.{Slot}
use Rattle.messages.specs.Table.{Row, table, fit_all}
use Rattle.messages.specs.Rows.{slots_in, address_in, slots_of, address_of}
use Rattle.messages.specs.Write.{row_from, row_of}
use Rattle.messageread.specs.Lookup.{meets, op_from, takes_in}

-- tags against slots, one more and none
fit_one : (slots : List Slot) (k tag : ℕ) (ts : List ℕ) → fit_all (drop k slots) (tag ∷ ts) ≡ both (takes_in (slice_get slots k) tag) (fit_all (drop (suc k) slots) ts)
unfolding fit_all
fit_one [] zero tag ts = refl
fit_one [] (suc k) tag ts = refl
fit_one (slot ∷ slots) zero tag ts = refl
fit_one (slot ∷ slots) (suc k) tag ts = fit_one slots k tag ts

pub fit_turn : (slots : List Slot) (ts : List ℕ) (k : ℕ) → k < length ts
    → fit_all (drop k slots) (drop k ts) ≡ both (takes_in (slice_get slots k) (get_or ts k 0)) (fit_all (drop (k + 1) slots) (drop (k + 1) ts))
fit_turn slots ts k h = rw (add-one, drop-cons ts k 0 h) (fit_one slots k (get_or ts k 0) (drop (suc k) ts))

fit_none : (slots : List Slot) (k : ℕ) → fit_all (drop k slots) [] ≡ is_none (slice_get slots k)
unfolding fit_all
fit_none [] zero = refl
fit_none [] (suc k) = refl
fit_none (slot ∷ slots) zero = refl
fit_none (slot ∷ slots) (suc k) = fit_none slots k

pub fit_end : (slots : List Slot) (ts : List ℕ) (k : ℕ) → length ts ≤ k → fit_all (drop k slots) (drop k ts) ≡ is_none (slice_get slots k)
fit_end slots ts k h = rw (drop_of_length-le ts h) (fit_none slots k)

pub no_slot : (o : Option Slot) (b : Bool) → is_some o ≡ not b → b ≡ is_none o
no_slot (Some slot) true h = cc
no_slot (Some slot) false h = refl
no_slot None true h = refl
no_slot None false h = cc

module _ (address ts : List ℕ) where
  -- a row of the table by its parts
  row_parts : (rows : List Row) (i : ℕ) → i < length rows
      → meets (row_from rows (suc i)) address ts ≡ both (same_name address (address_in (row_from rows (suc i)))) (fit_all (slots_in (row_from rows (suc i))) ts)
  unfolding row_from
  row_parts [] i h = absurd (omega arith)
  row_parts (r ∷ rows) zero h = refl
  row_parts (r ∷ rows) (suc i) h = row_parts rows i (omega arith)

  pub meets_parts : (op : ℕ) → 1 ≤ op → op ≤ last_with_address → meets (row_of op) address ts ≡ both (same_name address (address_of op)) (fit_all (slots_of op) ts)
  unfolding address_of slots_of
  meets_parts zero l m = absurd (omega arith)
  meets_parts (suc i) l m = row_parts table i (omega arith)

  no_row : (rows : List Row) (i : ℕ) → length rows ≤ i → meets (row_from rows (suc i)) address ts ≡ false
  unfolding row_from
  no_row [] i h = refl
  no_row (r ∷ rows) zero h = absurd (omega arith)
  no_row (r ∷ rows) (suc i) h = no_row rows i (omega arith)

  pub meets_past : (op : ℕ) → last_with_address < op → meets (row_of op) address ts ≡ false
  meets_past zero h = absurd (omega arith)
  meets_past (suc i) h = no_row table i (omega arith)

  pub meets-zero : meets (row_of 0) address ts ≡ false
  unfolding row_from
  meets-zero = refl

  -- the first row that meets them
  pub miss : (rows : List Row) (op : ℕ) → ((i : ℕ) → meets (row_from rows (suc i)) address ts ≡ false) → op_from op rows address ts ≡ 0
  unfolding op_from row_from
  miss [] op h = refl
  miss (r ∷ rows) op h = rw (h 0) (miss rows (suc op) (λ i. h (suc i)))

  pub hit : (rows : List Row) (op i : ℕ) → meets (row_from rows (suc i)) address ts ≡ true → ((j : ℕ) → j < i → meets (row_from rows (suc j)) address ts ≡ false)
      → op_from op rows address ts ≡ op + i
  unfolding op_from row_from
  hit [] op i h none_before = (cc)
  hit (r ∷ rows) op zero h none_before = rw (h, add-zero)
  hit (r ∷ rows) op (suc i) h none_before =
      let sum : suc op + i ≡ op + suc i = omega arith in
      rw (none_before 0 (omega arith)) (hit rows (suc op) i h (λ j l. none_before (suc j) (omega arith)) ∙ sum)
