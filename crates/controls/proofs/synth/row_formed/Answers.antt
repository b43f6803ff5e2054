use Prim.{tt}
use native.Mathlib.Nat.{sub-zero}
use lib.Seq.{get_or-drop}
use lib.Dec.{leb}
use Rattle.words.specs.Choice.{both}
use Rattle.model.specs.Formed.{mappings_formed}
use Rattle.controls.specs.Synth.{mappings_turn, mappings_none}
use Prim.Native.Nat.{ℕ, ◌+◌, ◌*◌, ◌-◌}
use mathlib.Core.Bool.{Bool, true, false}
use mathlib.Core.Path.{◌≡◌, refl, sym, ap, ◌∙◌}
use native.Mathlib.Omega.{arith}
use lib.ListN.{drop, get_or}
use Rattle.controls.proofs.synth.row_formed.Goals as goal

-- one more test, and none
one_more : (formed t rest : Bool) → both (both formed t) rest ≡ both formed (both t rest)
one_more true t rest = refl
one_more false t rest = refl

no_more : (formed : Bool) → formed ≡ both formed true
no_more true = refl
no_more false = refl

pub wide-requires : goal.wide-requires
wide-requires c = tt

pub wide-end-requires : goal.wide-end-requires
wide-end-requires c = tt

pub loop-i-init : goal.loop-i-init
loop-i-init c =
    let a = c.args in
    ap (λ (n : ℕ). mappings_formed n (drop (64 * a.row) a.controls.now)) (sub-zero c.wide-end.result)

pub still_formed-formed-requires : goal.still_formed-formed-requires
still_formed-formed-requires c = tt

pub loop-i-preserved : goal.loop-i-preserved
loop-i-preserved c =
    let a = c.args in
    let us = drop (64 * a.row) a.controls.now in
    let place : 64 * a.row + (2 * c.loop-i.i + 1) ≡ 64 * c.wide.result + 1 + 2 * c.loop-i.i = omega arith in
    let word : get_or us (2 * c.loop-i.i + 1) 0 ≡ get_or a.controls.now (64 * c.wide.result + 1 + 2 * c.loop-i.i) 0 =
    get_or-drop (64 * a.row) a.controls.now (2 * c.loop-i.i + 1) 0 ∙ ap (λ (k : ℕ). get_or a.controls.now k 0) place in
    let rest = mappings_formed (c.wide-end.result - (c.loop-i.i + 1)) (drop (2 * (c.loop-i.i + 1)) us) in
    let test = leb (get_or us (2 * c.loop-i.i + 1) 0) 4096 in
    let now : c.still_formed-formed.result ≡ both c.loop-i.formed test = c.still_formed-formed.ensures ∙ ap (λ (k : ℕ). both c.loop-i.formed (leb k 4096)) (sym word) in
    let goes = ap (λ (t : Bool). both t rest) now
    ∙ one_more c.loop-i.formed test rest
    ∙ ap (λ (t : Bool). both c.loop-i.formed t) (sym (mappings_turn us c.wide-end.result c.loop-i.i (omega arith)))
    ∙ c.loop-i.invariant in
    goes

pub returns : goal.returns
returns c =
    let a = c.args in
    let us = drop (64 * a.row) a.controls.now in
    no_more c.loop-i.formed
    ∙ ap (λ (t : Bool). both c.loop-i.formed t) (sym (mappings_none (drop (2 * c.loop-i.i) us) (c.wide-end.result - c.loop-i.i) (omega arith)))
    ∙ c.loop-i.invariant
    ∙ ap (λ (n : ℕ). mappings_formed n us) c.wide-end.ensures
