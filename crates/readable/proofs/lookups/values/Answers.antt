use Rattle.std.proofs.Common.{sym, ap, ◌∙◌, Some}
use Rattle.front.specs.declared.Counts.{Counts}
use Rattle.readable.specs.LookupOf.{found_values_at}
use Rattle.readable.specs.Readable.{told_counts}
use Rattle.readable.proofs.lookups.values.Goals as goal

pub returns : goal.returns
returns c =
    let k = c.requires in
    ap (λ (p : Counts). Some (p.values, p.parameters)) (told_counts k c.counts-places.ensures) ∙ sym (found_values_at c.args.s.now k.reads)
