use Prim.Native.Nat.{ℕ, ◌+◌, ◌*◌}
use mathlib.Core.Path.{◌≡◌, refl, sym, ap, ◌∙◌}
use mathlib.Core.List.{List}
use native.Mathlib.Omega.{arith}
use lib.ListN.{length, get_or, set, length-set}
use lib.Seq.{paste, paste-zero}
use Rattle.model.specs.Effects.{initial_words}
use Rattle.controls.specs.Initial.{floats_from, floats_length, float_of, words-length, own_of, mapping-of, pasted, pasted_two}
use Rattle.controls.proofs.definition.write_initial.Goals as goal

pub loop-i-init : goal.loop-i-init
loop-i-init c =
    let a = c.args in
    (paste-zero a.controls.now a.at (initial_words (floats_from a.s.now a.count a.start)), refl)

pub float_at-pattern-requires : goal.float_at-pattern-requires
float_at-pattern-requires c = tt

pub bounds-controls-at-in-loop-i : goal.bounds-controls-at-in-loop-i
bounds-controls-at-in-loop-i c = simp length-set (omega arith)

pub loop-i-preserved : goal.loop-i-preserved
loop-i-preserved c =
    let a = c.args in
    let d = a.controls.now in
    let xs = floats_from a.s.now a.count a.start in
    let long : length (initial_words xs) ≡ 2 * a.count = words-length xs ∙ ap (λ (n : ℕ). 2 * n) (floats_length a.s.now a.count a.start) in
    let own : c.float_at-pattern.result ≡ get_or (initial_words xs) (2 * c.loop-i.i) 0 =
    c.float_at-pattern.ensures ∙ sym (own_of xs c.loop-i.i ∙ float_of a.s.now a.count a.start c.loop-i.i (omega arith)) in
    let next : 2 * c.loop-i.i + 2 ≡ 2 * (c.loop-i.i + 1) = omega arith in (
      ap (λ (u : List ℕ). set (set u (a.at + 2 * c.loop-i.i) c.float_at-pattern.result) (a.at + 2 * c.loop-i.i + 1) 0) c.loop-i.invariant.0
          ∙ pasted_two d (initial_words xs) a.at (2 * c.loop-i.i) c.float_at-pattern.result 0 (omega arith) (omega arith) own (sym (mapping-of xs c.loop-i.i))
          ∙ ap (paste d a.at (initial_words xs)) next,
      simp length-set c.loop-i.invariant.1,
    )

pub shape_of-controls : goal.shape_of-controls
shape_of-controls c = c.loop-i.invariant.1

pub returns : goal.returns
returns c =
    let a = c.args in
    let xs = floats_from a.s.now a.count a.start in
    let long : length (initial_words xs) ≡ 2 * a.count = words-length xs ∙ ap (λ (n : ℕ). 2 * n) (floats_length a.s.now a.count a.start) in
    let end : 2 * c.loop-i.i ≡ 2 * a.count = omega arith in
    c.loop-i.invariant.0 ∙ ap (paste a.controls.now a.at (initial_words xs)) end ∙ pasted a.controls.now (initial_words xs) a.at (2 * a.count) long
