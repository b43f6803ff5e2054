use Rattle.std.proofs.Common.{◌∙◌, rules}
use Rattle.format.specs.Read.{ending}
use Rattle.format.specs.Reader.{variant}
use Rattle.fields.specs.ManyLaws.{each_ending}
use Rattle.files.proofs.definition.read_variants.Goals as goal

pub returns : goal.returns
returns c =
    let a = c.args in
    let read = variant a.parameters a.s.now in
    c.skip_many.ensures (λ p. ending (read p)) (λ here r k. search rules) ∙ each_ending read a.count a.cursor.at
