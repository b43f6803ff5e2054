use Rattle.std.proofs.Common.{sym, ap, ◌∙◌, arith}
use Rattle.messages.specs.Form.{zeros}
use Rattle.messageread.specs.FormLaws.{zeros_all}
use Rattle.messageread.specs.PartLaws.{part_cut, part_marked, part_read}
use Rattle.messageread.proofs.cursor.padded.Goals as goal

pub returns-then-message-end : goal.returns-then-message-end
returns-then-message-end c fits f =
    let a = c.args in
    part_cut a.pad fits a.message.now a.start a.end c.requires.0 (omega arith)

pub returns-then-blank : goal.returns-then-blank
returns-then-blank c fits f =
    let a = c.args in
    let zero = zeros_all c.part.result.now c.blank.result c.blank.ensures in
    part_read a.pad fits a.message.now a.start a.end c.requires.0 (omega arith) f (sym (ap zeros c.part.ensures) ∙ sym zero ∙ c.if-blank.true)

pub returns : goal.returns
returns c fits f =
    let a = c.args in
    let zero = zeros_all c.part.result.now c.blank.result c.blank.ensures in
    part_marked a.pad fits a.message.now a.start a.end c.requires.0 (sym (ap zeros c.part.ensures) ∙ sym zero ∙ c.if-blank.false)
