-- The tree built from a tree laid out is that tree, each record at the depth where it lies.
use Prim.{Unit, tt}
use Rattle.std.specs.Prelude.{ℕ, ◌+◌, ◌≤◌, ◌<◌, ◌≡◌}
use Rattle.std.proofs.Math.Path.{refl, ap, ap₂}
use Rattle.std.proofs.Common.{sym, ◌∙◌, arith, lt-ltb, le-ltb}
use mathlib.Core.List.{List, [], ◌++◌, append_assoc, append-nil}
use Rattle.nodes.specs.declared.Node.{Node}
use Rattle.nodes.specs.Edit.{level}
use Rattle.nodes.specs.Forest.{Forest, none, node, flatten, map_forest, beside}
use Rattle.treerefinement.specs.Build.{tops_deeper, tops_past, build}

-- each record at the depth where it lies
unfoldable laid_at : ℕ → Forest Node → Forest Node
laid_at d none = none
laid_at d (node x b a) = node (level d x) (laid_at (d + 1) b) (laid_at d a)

-- the first node of a list is no deeper than d
unfoldable Low : ℕ → Forest Node → Type 0
Low d none = Unit {0}
Low d (node x b a) = x.depth ≤ d

low_beside : (d : ℕ) (a g : Forest Node) → Low d g → Low d (beside (laid_at d a) g)
unfolding Low laid_at beside
low_beside d none g h = h
low_beside d (node x b a) g h = omega arith

low_suc : (d : ℕ) (g : Forest Node) → Low d g → Low (d + 1) g
unfolding Low
low_suc d none h = tt
low_suc d (node x b a) h = omega arith

tops_stop : (d : ℕ) (g : Forest Node) → Low d g → (tops_deeper d g ≡ none) × (tops_past d g ≡ g)
unfolding Low tops_deeper tops_past
tops_stop d none h = (refl, refl)
tops_stop d (node x b a) h = let e = le-ltb d x.depth h in (rw e, rw e)

tops_laid : (d e : ℕ) (b g : Forest Node) → d < e → Low d g → (tops_deeper d (beside (laid_at e b) g) ≡ laid_at e b) × (tops_past d (beside (laid_at e b) g) ≡ g)
unfolding laid_at beside tops_deeper tops_past
tops_laid d e none g h low = tops_stop d g low
tops_laid d e (node x b a) g h low =
    let w = tops_laid d e a g h low in
    let deep = lt-ltb d e h in
    (rw deep (ap (λ (k : Forest Node). node (level e x) (laid_at (e + 1) b) k) w.0), rw deep w.1)

build_laid : (d : ℕ) (f : Forest Node) (rest : List Node) → Low d (build rest) → build (flatten d f ++ rest) ≡ beside (laid_at d f) (build rest)
unfolding flatten build laid_at beside
build_laid d none rest low = refl
build_laid d (node x b a) rest low =
    let after : build (flatten d a ++ rest) ≡ beside (laid_at d a) (build rest) = build_laid d a rest low in
    let still : Low d (build (flatten d a ++ rest)) = rw after (low_beside d a (build rest) low) in
    let all : build ((flatten (d + 1) b ++ flatten d a) ++ rest) ≡ beside (laid_at (d + 1) b) (beside (laid_at d a) (build rest)) =
    ap build (append_assoc (flatten (d + 1) b) (flatten d a) rest)
    ∙ build_laid (d + 1) b (flatten d a ++ rest) (low_suc d (build (flatten d a ++ rest)) still)
    ∙ ap (λ (k : Forest Node). beside (laid_at (d + 1) b) k) after in
    let w = tops_laid d (d + 1) b (beside (laid_at d a) (build rest)) (omega arith) (low_beside d a (build rest) low) in
    ap (λ (k : Forest Node). node (level d x) (tops_deeper d k) (tops_past d k)) all
    ∙ ap₂ (λ (u v : Forest Node). node (level d x) u v) w.0 w.1

beside_none : (f : Forest Node) → beside f none ≡ f
unfolding beside
beside_none none = refl
beside_none (node x b a) = ap (λ (k : Forest Node). node x b k) (beside_none a)

-- what doesn't look at depths sees the same tree
module _ {A : Type 0} (g : Node → A) (same : (d : ℕ) (x : Node) → g (level d x) ≡ g x) where
  map_laid : (d : ℕ) (f : Forest Node) → map_forest g (laid_at d f) ≡ map_forest g f
  unfolding map_forest laid_at
  map_laid d none = refl
  map_laid d (node x b a) =
      ap (λ (y : A). node y (map_forest g (laid_at (d + 1) b)) (map_forest g (laid_at d a))) (same d x)
      ∙ ap₂ (λ (u v : Forest A). node (g x) u v) (map_laid (d + 1) b) (map_laid d a)

  pub rebuilt : (f : Forest Node) → map_forest g (build (flatten 0 f)) ≡ map_forest g f
  unfolding build Low
  rebuilt f =
      ap (λ (k : Forest Node). map_forest g k) (ap build (sym (append-nil (flatten 0 f))) ∙ build_laid 0 f [] tt ∙ beside_none (laid_at 0 f)) ∙ map_laid 0 f
