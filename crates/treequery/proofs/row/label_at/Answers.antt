use Prim.Native.Nat.{ℕ, ◌+◌}
use mathlib.Core.Path.{◌≡◌, refl, sym, ap, ◌∙◌}
use native.Mathlib.Omega.{arith}
use borrow.Author.Tests.{ne_eqb}
use lib.ListN.{get_or}
use Rattle.format.specs.Fields.{string_at}
use Rattle.readable.specs.Labels.{label_at}
use Rattle.osc.specs.Message.{text}
use Rattle.model.specs.Replies.{label_argument}
use native.Mathlib.Nat.{pos_of_ne-zero}
use Rattle.treequery.proofs.row.label_at.Goals as goal

pub bounds-shapes-first : goal.bounds-shapes-first
bounds-shapes-first c = omega (arith, c.wide.ensures, c.requires.low, c.requires.inside)

pub returns-then-place-eq0 : goal.returns-then-place-eq0
returns-then-place-eq0 c =
    let a = c.args in
    let there : get_or a.shapes.now (a.first + 1 + a.index) 0 ≡ 0 = sym (c.wide-place.ensures ∙ ap (λ (k : ℕ). get_or a.shapes.now (a.first + 1 + k) 0) c.wide.ensures) ∙ c.if-place-eq0.true in
    (rw there, refl)

pub string_at-requires : goal.string_at-requires
string_at-requires c =
    let there : c.wide-place.result ≡ get_or c.args.shapes.now (c.args.first + 1 + c.args.index) 0 = c.wide-place.ensures ∙ ap (λ (k : ℕ). get_or c.args.shapes.now (c.args.first + 1 + k) 0) c.wide.ensures in
    rw there (c.requires.within (pos_of_ne-zero (λ e. c.if-place-eq0.false (there ∙ e))))

pub returns : goal.returns
returns c =
    let a = c.args in
    let s = a.definition.now in
    let place = get_or a.shapes.now (a.first + 1 + a.index) 0 in
    let there : c.wide-place.result ≡ place = c.wide-place.ensures ∙ ap (λ (k : ℕ). get_or a.shapes.now (a.first + 1 + k) 0) c.wide.ensures in
    let found : label_argument (label_at s place) a.index ≡ text (string_at s place) = rw (ne_eqb place 0 (λ e. c.if-place-eq0.false (there ∙ e))) in
    (c.string_at.ensures.0 ∙ ap (λ (k : ℕ). text (string_at s k)) there ∙ sym found, c.string_at.ensures.1)
