use Rattle.std.proofs.Common.{ap, arith}
use Rattle.front.specs.declared.Counts.{Counts}
use Rattle.readable.specs.Readable.{told_counts, told_known, next_past, cover_some, cover_none}
use Rattle.readable.proofs.lookups.name_cover.Goals as goal

pub invariant_of-names : goal.invariant_of-names
invariant_of-names c = let k = told_known c.requires c.counts-places.ensures in record { later = k.0; short = k.1; known = k.2 }

pub overflow_sub-result : goal.overflow_sub-result
overflow_sub-result c =
    let e = told_counts c.requires c.counts-places.ensures in
    omega (
      arith,
      next_past c.args.s.now c.args.name.now c.requires _ _ _ (ap (λ (p : Counts). p.parameters) e) (ap (λ (p : Counts). p.names) e) (ap (λ (p : Counts). p.first) e) _ _
          c.in_ok-index.ensures c.next_index-next.ensures,
    )

pub returns-in_err-index : goal.returns-in_err-index
returns-in_err-index c =
    let e = told_counts c.requires c.counts-places.ensures in
    rw c.from_residual.ensures
    (cover_none c.args.s.now c.args.name.now c.requires _ _ _ (ap (λ (p : Counts). p.parameters) e) (ap (λ (p : Counts). p.names) e) (ap (λ (p : Counts). p.first) e)
    c.in_err-index.ensures)

pub returns : goal.returns
returns c =
    let e = told_counts c.requires c.counts-places.ensures in
    cover_some c.args.s.now c.args.name.now c.requires _ _ _ (ap (λ (p : Counts). p.parameters) e) (ap (λ (p : Counts). p.names) e) (ap (λ (p : Counts). p.first) e) _ _
    c.in_ok-index.ensures c.next_index-next.ensures
