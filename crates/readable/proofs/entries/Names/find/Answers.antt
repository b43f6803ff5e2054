use Rattle.std.proofs.Common.{ap, sym, ◌∙◌, arith}
use Rattle.readable.specs.Entries.{entries_turn, named_none, named_here, named_behind}
use Rattle.format.specs.Reader.{most_parameters}
use Rattle.std.proofs.Math.Option.{some}
use Rattle.readable.proofs.entries.Names.find.Goals as goal

pub returns-then-same_name : goal.returns-then-same_name
returns-then-same_name c =
    let a = c.args in
    let t = entries_turn a.self.s.now most_parameters a.self.places.names c.loop.counter c.loop.entry (omega arith) c.loop.invariant.0 in
    let here = named_here a.self.s.now a.name.now a.self.places.names c.loop.counter c.loop.entry t c.same_name.ensures c.if-same_name.true in
    ap some c.word_at.ensures ∙ sym here ∙ c.loop.invariant.1

pub loop-preserved : goal.loop-preserved
loop-preserved c =
    let a = c.args in
    let t = entries_turn a.self.s.now most_parameters a.self.places.names c.loop.counter c.loop.entry (omega arith) c.loop.invariant.0 in
    (t.more, sym (named_behind a.self.s.now a.name.now a.self.places.names c.loop.counter c.loop.entry t c.same_name.ensures c.if-same_name.false) ∙ c.loop.invariant.1)

pub returns : goal.returns
returns c =
    let a = c.args in
    sym (named_none a.self.s.now a.name.now a.self.places.names c.loop.counter c.loop.entry (omega arith)) ∙ c.loop.invariant.1
