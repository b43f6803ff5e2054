-- `controls::synth::still_formed` meets its contract.
use Prim.{tt}
use mathlib.Core.Bool.{Bool, true, false}
use mathlib.Core.Path.{◌≡◌, refl, sym, ap, ◌∙◌}
use native.Mathlib.Omega.{arith}
use borrow.Author.Tests.{le-leb, lt-leb}
use Rattle.words.specs.Choice.{both}
use Rattle.controls.proofs.synth.still_formed.Goals as goal

not-formed : (b : Bool) → false ≡ both b false
not-formed true = refl
not-formed false = refl

as-formed : (b : Bool) → b ≡ both b true
as-formed true = refl
as-formed false = refl

pub wide-requires : goal.wide-requires
wide-requires c = tt

pub returns-then-wide-gt-MOST_BUSES : goal.returns-then-wide-gt-MOST_BUSES
returns-then-wide-gt-MOST_BUSES c =
    let a = c.args in
    not-formed a.formed ∙ ap (λ (t : Bool). both a.formed t) (sym (lt-leb a.word 4096 (omega arith)))

pub returns : goal.returns
returns c =
    let a = c.args in
    as-formed a.formed ∙ ap (λ (t : Bool). both a.formed t) (sym (le-leb a.word 4096 (omega arith)))
