-- The rows of the table: at most four slots, and an address of six to twelve bytes.
use Rattle.std.specs.Prelude.{ℕ, zero, suc, ◌≤◌, ◌<◌, Bool, true, ◌≡◌, refl, List, [], ◌∷◌, length, ltb, leb}
use Rattle.std.proofs.Math.Option.{Option, none, some}
use Rattle.std.proofs.Common.{arith, ltb-true, leb-true}
use Rattle.words.specs.Choice.{both}
use Rattle.words.specs.ChoiceLaws.{both_true}
use Rattle.words.specs.Bytes.{AreBytes}
use Rattle.calls.specs.Ops.{last_with_address}
use Rattle.messages.specs.Table.{Row, table}
use Rattle.messages.specs.Write.{row_from, row_of}
use Rattle.messages.specs.Rows.{slots_in, address_in, slots_of, address_of}

unfoldable all_bytes : List ℕ → Bool
all_bytes [] = true
all_bytes (b ∷ bs) = both (ltb b 256) (all_bytes bs)

abbrev address_small : Row → Bool
address_small r = both (leb 6 (length r.address)) (both (leb (length r.address) 12) (all_bytes r.address))

abbrev small : Row → Bool
small r = both (leb (length r.slots) 4) (address_small r)

unfoldable all_small : List Row → Bool
all_small [] = true
all_small (r ∷ rows) = both (small r) (all_small rows)

abbrev small_in : Option Row → Bool
small_in none = true
small_in (some r) = small r

table_small : all_small table ≡ true
unfolding all_small all_bytes
table_small = refl

small_from : (rows : List Row) (op : ℕ) → all_small rows ≡ true → small_in (row_from rows op) ≡ true
unfolding all_small row_from
small_from [] op h = refl
small_from (r ∷ rows) zero h = refl
small_from (r ∷ rows) (suc zero) h = (both_true (small r) (all_small rows) h).0
small_from (r ∷ rows) (suc (suc op)) h = small_from rows (suc op) (both_true (small r) (all_small rows) h).1

row_small : (op : ℕ) → small_in (row_of op) ≡ true
row_small op = small_from table op table_small

slots_few : (o : Option Row) → small_in o ≡ true → length (slots_in o) ≤ 4
slots_few none h = omega arith
slots_few (some r) h = leb-true (length r.slots) 4 (both_true (leb (length r.slots) 4) (address_small r) h).0

pub few_slots : (op : ℕ) → length (slots_of op) ≤ 4
unfolding slots_of
few_slots op = slots_few (row_of op) (row_small op)

module _ (r : Row) (h : small r ≡ true) where
  address-small : address_small r ≡ true
  address-small = (both_true (leb (length r.slots) 4) (address_small r) h).1

  row_long : 6 ≤ length r.address
  row_long = leb-true 6 (length r.address) (both_true (leb 6 (length r.address)) (both (leb (length r.address) 12) (all_bytes r.address)) address-small).0

  row_rest : (leb (length r.address) 12 ≡ true) × (all_bytes r.address ≡ true)
  row_rest = both_true (leb (length r.address) 12) (all_bytes r.address) (both_true (leb 6 (length r.address)) (both (leb (length r.address) 12) (all_bytes r.address)) address-small).1

address-short : (o : Option Row) → small_in o ≡ true → length (address_in o) ≤ 12
address-short none h = omega arith
address-short (some r) h = leb-true (length r.address) 12 (row_rest r h).0

pub short_address : (op : ℕ) → length (address_of op) ≤ 12
unfolding address_of
short_address op = address-short (row_of op) (row_small op)

bytes-at : (bs : List ℕ) → all_bytes bs ≡ true → AreBytes bs
unfolding all_bytes
bytes-at [] h i = omega arith
bytes-at (b ∷ bs) h zero = ltb-true b 256 (both_true (ltb b 256) (all_bytes bs) h).0
bytes-at (b ∷ bs) h (suc i) = bytes-at bs (both_true (ltb b 256) (all_bytes bs) h).1 i

address_byte : (o : Option Row) → small_in o ≡ true → AreBytes (address_in o)
address_byte none h i = omega arith
address_byte (some r) h i = bytes-at r.address (row_rest r h).1 i

pub address_bytes : (op : ℕ) → AreBytes (address_of op)
unfolding address_of
address_bytes op = address_byte (row_of op) (row_small op)

address_some : (o : Option Row) → small_in o ≡ true → 0 < length (address_in o) → 6 ≤ length (address_in o)
address_some none h l = absurd (omega arith)
address_some (some r) h l = row_long r h

-- an address has at least six bytes
pub some_address : (op : ℕ) → 0 < length (address_of op) → 6 ≤ length (address_of op)
unfolding address_of
some_address op h = address_some (row_of op) (row_small op) h

address_none : (o : Option Row) → small_in o ≡ true → length (address_in o) ≡ 0 → o ≡ none
address_none none h e = refl
address_none (some r) h e = let z = row_long r h in absurd (omega arith)

-- an op without an address has no row
pub no_row : (op : ℕ) → length (address_of op) ≡ 0 → row_of op ≡ none
unfolding address_of
no_row op e = address_none (row_of op) (row_small op) e

long_from : (rows : List Row) (i : ℕ) → all_small rows ≡ true → i < length rows → 6 ≤ length (address_in (row_from rows (suc i)))
unfolding all_small row_from
long_from [] i h l = absurd (omega arith)
long_from (r ∷ rows) zero h l = row_long r (both_true (small r) (all_small rows) h).0
long_from (r ∷ rows) (suc i) h l = long_from rows i (both_true (small r) (all_small rows) h).1 (omega arith)

pub long_address : (op : ℕ) → 1 ≤ op → op ≤ last_with_address → 6 ≤ length (address_of op)
unfolding address_of
long_address zero l m = absurd (omega arith)
long_address (suc i) l m = long_from table i table_small (omega arith)
