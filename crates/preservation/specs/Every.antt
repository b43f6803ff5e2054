-- Tests that every record of a table passes, and that look at neither depths nor run flags: kept where there is no more of anything.
use Rattle.std.specs.Prelude.{ℕ, ◌≤◌, Bool, true, false, ◌≡◌, refl, List, [], ◌∷◌}
use Rattle.std.proofs.Math.Bool.{not}
use Rattle.std.proofs.Math.Path.{ap}
use Rattle.std.proofs.Common.{arith}
use Rattle.words.specs.Choice.{both}
use Rattle.words.specs.ChoiceLaws.{both_true}
use Rattle.format.specs.Bounds.{every}
use Rattle.nodes.specs.declared.Node.{Node}
use Rattle.nodes.specs.Edit.{with_run, set_run}
use Rattle.treerefinement.specs.Tally.{IgnoresDepth, one, tally, tally-set_run_same, Within, Grown}

abbrev pub fails : (Node → Bool) → Node → Bool
fails p r = not (p r)

every_none : (p : Node → Bool) (t : List Node) → every p t ≡ true → tally (fails p) t ≡ 0
unfolding every tally
every_none p [] h = refl
every_none p (r ∷ l) h =
    let w = both_true (p r) (every p l) h in
    let first : one (fails p r) ≡ 0 = ap (λ (b : Bool). one (not b)) w.0 in
    omega (arith, every_none p l w.1)

none_every : (p : Node → Bool) (t : List Node) → tally (fails p) t ≡ 0 → every p t ≡ true
unfolding every tally
none_every p [] h = refl
none_every p (r ∷ l) h = go (p r) refl (none_every p l (omega arith))
  where
    go : (b : Bool) → p r ≡ b → every p l ≡ true → both b (every p l) ≡ true
    go true e k = k
    go false e k = let first : one (fails p r) ≡ 1 = ap (λ (b : Bool). one (not b)) e in absurd (omega arith)

-- the test looks at no run flag
abbrev pub Steady : (Node → Bool) → Type 0
Steady p = (flag : ℕ) (r : Node) → p (with_run flag r) ≡ p r

-- no more of anything, depths and run flags aside
pub record Fewer (after before : List Node) : Type 0 where
  pub sum : (p : Node → Bool) → IgnoresDepth p → Steady p → tally p after ≤ tally p before

pub within_fewer : {after before : List Node} → Within after before → Fewer after before
within_fewer w = record { sum = λ p b s. w.sum p b }

pub run_fewer : (n flag : ℕ) (t : List Node) → Fewer (set_run n flag t) t
run_fewer n flag t = record { sum = λ p b s. omega (arith, tally-set_run_same p n flag t (s flag)) }

module _ (p : Node → Bool) (b : IgnoresDepth p) {after before : List Node} where
  pub every_fewer : Steady p → Fewer after before → every p before ≡ true → every p after ≡ true
  every_fewer s f h =
      none_every p after
      (omega (arith, f.sum (fails p) (λ d r. ap not (b d r)) (λ flag r. ap not (s flag r)), every_none p before h))

  pub every_grown : (x : Node) → Grown (x ∷ []) after before → every p before ≡ true → p x ≡ true → every p after ≡ true
  unfolding tally
  every_grown x g h e =
      let first : one (fails p x) ≡ 0 = ap (λ (c : Bool). one (not c)) e in
      none_every p after (omega (arith, g.sum (fails p) (λ d r. ap not (b d r)), every_none p before h))
