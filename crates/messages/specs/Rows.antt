-- The table's rows by op, as code has them.
use Rattle.std.specs.Prelude.{ℕ, ◌-◌, List, [], length, slice_get}
use Rattle.std.proofs.Math.Option.{Option, none, some}
use Rattle.format.specs.Fields.{word}
use Rattle.messages.specs.declared.Slot.{Slot}
use Rattle.messages.specs.declared.table.Slots.{Slots}
use Rattle.messages.specs.declared.table.Address.{Address}
use Rattle.messages.specs.Table.{Row}
use Rattle.messages.specs.Write.{row_of}

abbrev pub slots_in : Option Row → List Slot
slots_in none = []
slots_in (some r) = r.slots

abbrev pub address_in : Option Row → List ℕ
address_in none = []
address_in (some r) = r.address

-- the slots and the address of an op's row; none of either where it has no row
unfoldable pub slots_of : ℕ → List Slot
slots_of op = slots_in (row_of op)

unfoldable pub address_of : ℕ → List ℕ
address_of op = address_in (row_of op)

-- the slots and an address as code has them: four slots; of an address the length and four words
abbrev pub slots_for : List Slot → Slots
slots_for slots = record { 0 = slice_get slots 0; 1 = slice_get slots 1; 2 = slice_get slots 2; 3 = slice_get slots 3 }

abbrev pub address_for : List ℕ → Address
address_for address = record {
  size = length address;
  start = word address 0;
  middle = word address 4;
  third = word address 8;
  end = word address (length address - 4);
}
