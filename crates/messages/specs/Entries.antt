-- The table in code is the table: an op's row is the row of its number, and an op past the last has none.
use Rattle.std.specs.Prelude.{ℕ, zero, suc, ◌<◌, ◌≡◌, refl, List, [], ◌∷◌, length, None, slice_get}
use Rattle.std.proofs.Common.{ap, arith, le_of_suc-le-suc, not-suc-le-zero}
use Rattle.std.proofs.Math.Option.{none}
use Rattle.std.proofs.lemmas.Option.{slice_get_past}
use Rattle.calls.specs.Ops.{last_with_address}
use Rattle.messages.specs.Table.{Row, table}
use Rattle.messages.specs.Write.{row_from, row_of}
use Rattle.messages.specs.TableRows.{few_slots}
use Rattle.messages.specs.Rows.{slots_in, address_in, slots_of, address_of}

past_row : (rows : List Row) (op : ℕ) → length rows < op → row_from rows op ≡ none
unfolding row_from
past_row [] op h = refl
past_row (r ∷ rows) zero h = refl
past_row (r ∷ rows) (suc zero) h = absurd (not-suc-le-zero (le_of_suc-le-suc h))
past_row (r ∷ rows) (suc (suc op)) h = past_row rows (suc op) (le_of_suc-le-suc h)

other_row : (op : ℕ) → (0 < op → last_with_address < op) → row_of op ≡ none
unfolding row_from
other_row zero h = refl
other_row (suc k) h = past_row table (suc k) (h (omega arith))

-- an op without a row
pub slots_none : (op : ℕ) → (0 < op → last_with_address < op) → slots_of op ≡ []
unfolding slots_of
slots_none op h = ap slots_in (other_row op h)

pub address_none : (op : ℕ) → (0 < op → last_with_address < op) → address_of op ≡ []
unfolding address_of
address_none op h = ap address_in (other_row op h)

-- a row has no fifth slot
pub slot_past : (op k : ℕ) → 3 < k → slice_get (slots_of op) k ≡ None
slot_past op k h = let few = few_slots op in slice_get_past (slots_of op) k (omega arith)
