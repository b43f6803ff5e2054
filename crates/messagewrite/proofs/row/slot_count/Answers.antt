use Rattle.std.proofs.Common.{arith}
use Rattle.messages.specs.Rows.{slots_of}
use Rattle.messages.specs.TableRows.{few_slots}
use Rattle.messagewrite.specs.Slots.{slot_none, slot_more}
use Rattle.messagewrite.proofs.row.slot_count.Goals as goal

pub returns-then-is_none : goal.returns-then-is_none
returns-then-is_none c = omega (arith, slot_none (slots_of c.args.op) c.loop-k.k c.is_none.result (rw c.slot_at.ensures at c.is_none.ensures) c.if-is_none.true)

pub loop-k-preserved : goal.loop-k-preserved
loop-k-preserved c = omega (arith, slot_more (slots_of c.args.op) c.loop-k.k c.is_none.result (rw c.slot_at.ensures at c.is_none.ensures) c.if-is_none.false)

pub returns : goal.returns
returns c = omega (arith, few_slots c.args.op)
