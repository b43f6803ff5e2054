use Rattle.std.proofs.Common.{◌∙◌, rules}
use Rattle.format.specs.Read.{ending}
use Rattle.format.specs.Reader.{input_by}
use Rattle.fields.specs.ManyLaws.{each_ending}
use Rattle.units.specs.Units.{outs_from}
use Rattle.units.proofs.unit.read_inputs.Goals as goal

pub returns : goal.returns
returns c =
    let a = c.args in
    let read = input_by a.scope.width a.scope.constants (outs_from a.scope.width a.s.now a.scope.start a.units) a.s.now in
    c.skip_many.ensures (λ p. ending (read p)) (λ here r k. search rules) ∙ each_ending read a.count a.cursor.at
