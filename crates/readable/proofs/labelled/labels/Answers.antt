use Rattle.std.proofs.Common.{rules, arith}
use Rattle.readable.specs.Readable.{told_counts, told_known, front_entries}
use Rattle.readable.specs.Labels.{each, labels_front}
use Rattle.readable.proofs.labelled.labels.Goals as goal

pub invariant_of-names : goal.invariant_of-names
invariant_of-names c = let k = told_known c.requires c.counts-places.ensures in record { later = k.0; short = k.1; known = k.2 }

pub returns : goal.returns
returns c =
    let k = c.requires in
    let told = c.labels.ensures each (λ at b p. search rules) in
    labels_front c.args.s.now c.labels.result k.reads (omega arith) (front_entries c.args.s.now k) (rw (told_counts k c.counts-places.ensures) at told)
