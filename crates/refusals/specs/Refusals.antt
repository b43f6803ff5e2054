-- The refusals' numbers: paper 01, "Refusal numbers", and from 26 on paper 02. Those of a file, 2 to 11, are in `faults`.
use Rattle.std.specs.Prelude.{ℕ}
use Rattle.refusals.specs.declared.Refusal.{Refusal}
use Rattle.refusals.specs.declared.Refusal.TheVariants.{BadState, NoSlot, BadFlag, BadNumber, NumberLive, NoDefinition, NoNode, WrongKind, InsideItself, NodesFull, NoControl, NoBus, BadValue, NoRoom, NoNumber, Malformed, UnknownMessage, PastWidth, VersionsFull, StoreUnformed, NoVersion, StoreFull, ListUnfit}

abbrev pub number_of : Refusal → ℕ
-- "a state buffer has the wrong size, or a rule .. doesn't hold"
number_of BadState = 1
-- "no slot"
number_of NoSlot = 12
-- "add action not 0 to 4, run flag not 0 or 1"
number_of BadFlag = 13
-- "new number below -1, or -1 for a group"
number_of BadNumber = 14
-- "number live (0 always; also if 4 would free it)"
number_of NumberLive = 15
-- "no resident of that name"
number_of NoDefinition = 16
-- "no such node"
number_of NoNode = 17
-- "group or synth needed and it isn't; or the root, where it can't be freed, moved, replaced or given a sibling"
number_of WrongKind = 18
-- "place named for a move is the moved node or below it"
number_of InsideItself = 19
-- "256 nodes live (never for action 4)"
number_of NodesFull = 20
-- "no such control"
number_of NoControl = 21
-- "no such bus or bus range"
number_of NoBus = 22
-- "integer value out of bounds"
number_of BadValue = 23
-- "reply or export longer than its buffer"
number_of NoRoom = 24
-- "no number left for a new -1"
number_of NoNumber = 25
-- paper 02, 1/14: "malformed (also an address without its "/" or tags without their comma), with a tag other than these, padding not zero or bytes
-- left over"
number_of Malformed = 26
-- "unknown address, or tags that don't fit it"
number_of UnknownMessage = 27
-- paper 02, 6/14: "`/n_fill` by name past that width on a synth is refused with 28"
number_of PastWidth = 28
-- paper 02, 8/14: "30 a 17th version"
number_of VersionsFull = 30
-- "31 a store not so formed"
number_of StoreUnformed = 31
-- "32 no such version"
number_of NoVersion = 32
-- "33 exactly if the new contents would exceed the lent store, .. or if version 4,294,967,295 was given"
number_of StoreFull = 33
-- paper 02, 5/14: "A longer list, or one that holds a query or an export, is refused whole with 34"
number_of ListUnfit = 34
