use Rattle.std.proofs.Common.{sym, ap, ◌∙◌, Some}
use Rattle.front.specs.declared.Counts.{Counts}
use Rattle.readable.specs.LookupOf.{parameters_at}
use Rattle.readable.specs.Readable.{told_counts}
use Rattle.readable.proofs.lookups.parameters.Goals as goal

pub returns : goal.returns
returns c =
    let k = c.requires in
    ap (λ (p : Counts). Some p.parameters) (told_counts k c.counts.ensures) ∙ sym (parameters_at c.args.s.now k.reads)
