-- `definitions::ends_alike` meets its contract: names of two lengths differ, and so do names that differ in their last byte.
use Prim.Native.Nat.{ℕ, ◌-◌, ◌<◌}
use mathlib.Core.Bool.{false}
use mathlib.Core.Path.{◌≡◌, sym, ◌∙◌}
use mathlib.Core.List.{List}
use native.Mathlib.Omega.{arith}
use borrow.Author.Tests.{eqb-false}
use lib.Dec.{eqb}
use lib.ListN.{length}
use denote.Bor.{Bor}
use Rattle.std.specs.Prelude.{Option, Some, None}
use Rattle.std.specs.List.{slice_get}
use Rattle.std.specs.Option.{option_eq, option_copied}
use Rattle.std.proofs.lemmas.Option.{slice_get-get_or, slice_get_within, get_or_from_slice_get}
use Rattle.format.specs.Reader.{same_name}
use Rattle.fields.specs.SameLaws.{same_lengths, same_differs}
use Rattle.definitions.proofs.ends_alike.Goals as goal

last_differs : (a b : List ℕ) (o p : Option (Bor ℕ)) → length a ≡ length b → option_copied o ≡ slice_get a (length a - 1) → option_copied p ≡ slice_get b (length b - 1)
    → option_eq (λ x y. eqb x.now y.now) o p ≡ false → same_name a b ≡ false
last_differs a b None None n e f d = cc
last_differs a b None (Some y) n e f d =
    let less : length b - 1 < length b = slice_get_within b (length b - 1) y.now (sym f) in
    let there = slice_get-get_or a (length a - 1) 0 (omega arith) in
    cc
last_differs a b (Some x) None n e f d =
    let less : length a - 1 < length a = slice_get_within a (length a - 1) x.now (sym e) in
    let there = slice_get-get_or b (length b - 1) 0 (omega arith) in
    cc
last_differs a b (Some x) (Some y) n e f d =
    let first = get_or_from_slice_get a (length a - 1) x.now 0 (sym e) in
    let second = get_or_from_slice_get b (length b - 1) y.now 0 (sym f) in
    same_differs a b (length a - 1) (λ q. let same : x.now ≡ y.now = cc in eqb-false x.now y.now d same)

pub returns-then-a-b : goal.returns-then-a-b
returns-then-a-b c e = last_differs _ _ _ _ c.if-a-b.true c.last.ensures.value c.last-then-a-b.ensures.value (sym c.eq.ensures ∙ e)

pub returns-else-a-b : goal.returns-else-a-b
returns-else-a-b c e = same_lengths c.args.a.now c.args.b.now c.if-a-b.false
