use Rattle.std.proofs.Common.{◌∙◌, rules}
use Rattle.format.specs.Read.{ending}
use Rattle.format.specs.Reader.{parameter_name_by}
use Rattle.fields.specs.ManyLaws.{each_ending}
use Rattle.front.proofs.skip_parameter_names.Goals as goal

pub returns : goal.returns
returns c =
    let a = c.args in
    let read = parameter_name_by a.width a.parameters a.s.now in
    c.skip_many.ensures (λ p. ending (read p)) (λ here r k. search rules) ∙ each_ending read a.count a.cursor.at
