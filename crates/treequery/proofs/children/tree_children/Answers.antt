use Prim.Native.Nat.{ℕ, ◌+◌, ◌-◌}
use mathlib.Core.Path.{◌≡◌, ap, ◌∙◌}
use native.Mathlib.Omega.{arith}
use lib.ListN.{get_or, length-set, length-replicate}
use Rattle.treequery.specs.RowArguments.{depth_at}
use Rattle.treequery.specs.Nested.{depth_word}
use Rattle.treequery.specs.Children.{children_from, families_more, known_none, few_above, known_more}
use Rattle.treequery.proofs.children.tree_children.Goals as goal

pub loop-i-init : goal.loop-i-init
loop-i-init c =
    (omega (arith, c.requires.inside), omega arith, length-replicate {A = ℕ} 256 0, λ bs j h l. absurd (omega arith), known_none c.args.words.now c.args.end)

pub bounds-below-depth : goal.bounds-below-depth
bounds-below-depth c =
    let same : c.wide-depth.result ≡ depth_at c.args.words.now (c.loop-i.i - 1) = c.wide-depth.ensures ∙ depth_word c.args.words.now (c.loop-i.i - 1) (omega (arith, c.requires.few)) in
    let low = c.requires.low (c.loop-i.i - 1) (omega arith) in
    let deep = c.requires.below (c.loop-i.i - 1) (omega arith) (omega arith) in
    omega arith

pub bounds-children-i : goal.bounds-children-i
bounds-children-i c =
    let same : c.wide-depth.result ≡ depth_at c.args.words.now (c.loop-i.i - 1) = c.wide-depth.ensures ∙ depth_word c.args.words.now (c.loop-i.i - 1) (omega (arith, c.requires.few)) in
    let low = c.requires.low (c.loop-i.i - 1) (omega arith) in
    let deep = c.requires.below (c.loop-i.i - 1) (omega arith) (omega arith) in
    omega (arith, c.requires.few)

pub bounds-below-depth-in-loop-i : goal.bounds-below-depth-in-loop-i
bounds-below-depth-in-loop-i c =
    let same : c.wide-depth.result ≡ depth_at c.args.words.now (c.loop-i.i - 1) = c.wide-depth.ensures ∙ depth_word c.args.words.now (c.loop-i.i - 1) (omega (arith, c.requires.few)) in
    let low = c.requires.low (c.loop-i.i - 1) (omega arith) in
    let deep = c.requires.below (c.loop-i.i - 1) (omega arith) (omega arith) in
    omega arith

pub overflow_sub-below : goal.overflow_sub-below
overflow_sub-below c =
    let same : c.wide-depth.result ≡ depth_at c.args.words.now (c.loop-i.i - 1) = c.wide-depth.ensures ∙ depth_word c.args.words.now (c.loop-i.i - 1) (omega (arith, c.requires.few)) in
    let low = c.requires.low (c.loop-i.i - 1) (omega arith) in
    let deep = c.requires.below (c.loop-i.i - 1) (omega arith) (omega arith) in
    omega arith

pub bounds-below-depth-in-loop-i-2 : goal.bounds-below-depth-in-loop-i-2
bounds-below-depth-in-loop-i-2 c =
    let same : c.wide-depth.result ≡ depth_at c.args.words.now (c.loop-i.i - 1) = c.wide-depth.ensures ∙ depth_word c.args.words.now (c.loop-i.i - 1) (omega (arith, c.requires.few)) in
    let low = c.requires.low (c.loop-i.i - 1) (omega arith) in
    let deep = c.requires.below (c.loop-i.i - 1) (omega arith) (omega arith) in
    omega arith

pub overflow_add-below : goal.overflow_add-below
overflow_add-below c =
    let ws = c.args.words.now in
    let i = c.loop-i.i - 1 in
    let on : c.loop-i.i ≡ i + 1 = omega arith in
    let same : c.wide-depth.result ≡ depth_at ws i = c.wide-depth.ensures ∙ depth_word ws i (omega (arith, c.requires.few)) in
    omega (arith, c.requires.few, few_above ws c.args.at c.args.end c.requires i (omega arith) (omega arith) c.wide-depth.result same c.loop-i.below (rw on at c.loop-i.invariant.4))

pub bounds-below-depth-in-loop-i-3 : goal.bounds-below-depth-in-loop-i-3
bounds-below-depth-in-loop-i-3 c =
    let same : c.wide-depth.result ≡ depth_at c.args.words.now (c.loop-i.i - 1) = c.wide-depth.ensures ∙ depth_word c.args.words.now (c.loop-i.i - 1) (omega (arith, c.requires.few)) in
    let low = c.requires.low (c.loop-i.i - 1) (omega arith) in
    let deep = c.requires.below (c.loop-i.i - 1) (omega arith) (omega arith) in
    omega arith

pub loop-i-preserved : goal.loop-i-preserved
loop-i-preserved c =
    let ws = c.args.words.now in
    let i = c.loop-i.i - 1 in
    let same : c.wide-depth.result ≡ depth_at ws i = c.wide-depth.ensures ∙ depth_word ws i (omega (arith, c.requires.few)) in
    let on : c.loop-i.i ≡ i + 1 = omega arith in
    let n = c.requires in
    let low = n.low i (omega arith) in
    let gone = rw on at c.loop-i.invariant.4 in (
      omega arith,
      omega arith,
      length-set c.loop-i.children i _ ∙ c.loop-i.invariant.2,
      λ bs. families_more ws bs c.args.end i (get_or c.loop-i.below c.wide-depth.result 0) c.loop-i.children (omega (arith, c.loop-i.invariant.2, n.few)) (ap (λ (d : ℕ). get_or c.loop-i.below d 0) same ∙ gone.same bs (depth_at ws i) low) (rw on at (c.loop-i.invariant.3 bs)),
      known_more ws c.args.at c.args.end n i (omega arith) (omega arith) c.wide-depth.result same c.loop-i.below gone,
    )

pub bounds-below-wide : goal.bounds-below-wide
bounds-below-wide c =
    let same : c.wide.result ≡ depth_at c.args.words.now c.args.at = c.wide.ensures ∙ depth_word c.args.words.now c.args.at (omega (arith, c.requires.few, c.requires.inside)) in
    let low = c.requires.low c.args.at c.requires.inside in
    omega arith

pub bounds-children-at : goal.bounds-children-at
bounds-children-at c =
    let same : c.wide.result ≡ depth_at c.args.words.now c.args.at = c.wide.ensures ∙ depth_word c.args.words.now c.args.at (omega (arith, c.requires.few, c.requires.inside)) in
    let low = c.requires.low c.args.at c.requires.inside in
    omega (arith, c.requires.few, c.requires.inside)

pub returns : goal.returns
returns c =
    let same : c.wide.result ≡ depth_at c.args.words.now c.args.at = c.wide.ensures ∙ depth_word c.args.words.now c.args.at (omega (arith, c.requires.few, c.requires.inside)) in
    let low = c.requires.low c.args.at c.requires.inside in
    let here : c.loop-i.i ≡ c.args.at + 1 = omega arith in
    λ bs.
    families_more c.args.words.now bs c.args.end c.args.at (get_or c.loop-i.below c.wide.result 0) c.loop-i.children (omega (arith, c.loop-i.invariant.2, c.requires.few, c.requires.inside))
    (ap (λ (d : ℕ). get_or c.loop-i.below d 0) same ∙ c.loop-i.invariant.4.same bs (depth_at c.args.words.now c.args.at) low ∙ ap (λ (k : ℕ). children_from c.args.words.now bs c.args.end (depth_at c.args.words.now c.args.at) k) here)
    (rw here at (c.loop-i.invariant.3 bs))
