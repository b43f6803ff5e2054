use Rattle.std.proofs.Common.{◌∙◌, rules}
use Rattle.format.specs.Read.{ending}
use Rattle.format.specs.Fields.{rate}
use Rattle.fields.specs.ManyLaws.{each_ending}
use Rattle.units.proofs.unit.read_rates.Goals as goal

pub returns : goal.returns
returns c =
    let a = c.args in
    let read = rate a.s.now in
    c.skip_many.ensures (λ p. ending (read p)) (λ here r k. search rules) ∙ each_ending read a.count a.cursor.at
