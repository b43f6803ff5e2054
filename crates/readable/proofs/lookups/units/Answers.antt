use Rattle.front.specs.declared.Counts.{Counts}
use Rattle.format.specs.Fields.{word}
use Rattle.readable.specs.Readable.{whole_readable, parts, told_known, units_at}
use Rattle.std.proofs.Common.{sym, ap, ◌∙◌, ℕ, Some}
use Rattle.readable.proofs.lookups.units.Goals as goal

pub counts-places-requires : goal.counts-places-requires
counts-places-requires c =
    whole_readable c.args.s.now c.requires

pub invariant_of-names : goal.invariant_of-names
invariant_of-names c =
    let w = units_at c.args.s.now c.requires in
    let k = told_known w.readable c.counts-places.ensures in
    record { later = k.0; short = k.1; known = k.2 }

pub word_at-requires : goal.word_at-requires
word_at-requires c =
    let w = units_at c.args.s.now c.requires in
    let u = w.readable in
    let k = c.counts-places.ensures u.front u.past u.reads in
    let here = rw (ap (λ (p : Counts). p.first) k, ap (λ (p : Counts). p.names) k) at c.end.ensures in
    rw (here ∙ sym (parts c.args.s.now u.reads).past) w.within

pub returns : goal.returns
returns c =
    let w = units_at c.args.s.now c.requires in
    let u = w.readable in
    let k = c.counts-places.ensures u.front u.past u.reads in
    let here = rw (ap (λ (p : Counts). p.first) k, ap (λ (p : Counts). p.names) k) at c.end.ensures in
    ap (λ (k : ℕ). Some k) (c.word_at.ensures ∙ ap (word c.args.s.now) (here ∙ sym (parts c.args.s.now u.reads).past)) ∙ w.same
