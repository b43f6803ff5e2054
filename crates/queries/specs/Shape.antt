-- The structure of the tree is the same in the table and in what the plain tree knows of it: only numbers and depths matter.
use Rattle.std.specs.Prelude.{ℕ, ◌-◌, Bool, ◌≡◌, length, ltb, eqb}
use Rattle.std.proofs.Math.Bool.{true, false}
use Rattle.std.proofs.Math.Path.{refl, ap, ap₂}
use Rattle.std.proofs.Common.{◌∙◌}
use mathlib.Core.List.{List, [], ◌∷◌}
use Rattle.words.specs.Choice.{pick}
use Rattle.nodes.specs.declared.Node.{Node}
use Rattle.nodes.specs.Edit.{sink, take_deeper, drop_deeper, run_of}
use Rattle.nodes.specs.Structure.{no_node, first_or, last_or, at_depth, children_of, child_count, head_of, tail_of, depth_of, last_above, parent_of, last_beside, previous_of, first_beside, next_of}
use Rattle.model.specs.Engine.{Slot}
use Rattle.model.specs.View.{view_of, view_rows, shape_of, shape}

module _ (slots : List Slot) (controls : List ℕ) where
  -- the table's shape, through the view
  abbrev through : List Node → List Node
  through t = shape (view_rows slots controls t)

  abbrev seen_as : Node → Node
  seen_as r = shape_of (record { depth = r.depth; node = view_of slots controls r })

  depth_same : (n : ℕ) (t : List Node) → depth_of n (through t) ≡ depth_of n t
  unfolding view_rows shape depth_of
  depth_same n [] = refl
  depth_same n (r ∷ t) = ap (λ (d : ℕ). pick (eqb r.number n) r.depth d) (depth_same n t)

  above_same : (p d n : ℕ) (t : List Node) → last_above p d n (through t) ≡ last_above p d n t
  unfolding view_rows shape last_above
  above_same p d n [] = refl
  above_same p d n (r ∷ t) = ap (λ (m : ℕ). pick (eqb r.number n) p m) (above_same (pick (ltb r.depth d) r.number p) d n t)

  pub parent_same : (n : ℕ) (t : List Node) → parent_of n (through t) ≡ parent_of n t
  parent_same n t = ap (λ (d : ℕ). last_above no_node d n (through t)) (depth_same n t) ∙ above_same no_node (depth_of n t) n t

  beside_same : (p d n : ℕ) (t : List Node) → last_beside p d n (through t) ≡ last_beside p d n t
  unfolding view_rows shape last_beside
  beside_same p d n [] = refl
  beside_same p d n (r ∷ t) =
      ap (λ (m : ℕ). pick (eqb r.number n) p m) (beside_same (pick (ltb r.depth d) no_node (pick (eqb r.depth d) r.number p)) d n t)

  pub previous_same : (n : ℕ) (t : List Node) → previous_of n (through t) ≡ previous_of n t
  previous_same n t = ap (λ (d : ℕ). last_beside no_node d n (through t)) (depth_same n t) ∙ beside_same no_node (depth_of n t) n t

  behind_same : (d e : ℕ) (t : List Node) → first_beside d (drop_deeper e (through t)) ≡ first_beside d (drop_deeper e t)
  unfolding view_rows shape first_beside drop_deeper
  behind_same d e [] = refl
  behind_same d e (r ∷ t) = go (behind_same d e t) (ltb e r.depth)
    where
      go : first_beside d (drop_deeper e (through t)) ≡ first_beside d (drop_deeper e t) → (b : Bool)
          → first_beside d (pick b (drop_deeper e (through t)) (through (r ∷ t))) ≡ first_beside d (pick b (drop_deeper e t) (r ∷ t))
      go ih true = ih
      go ih false = refl

  pub next_same : (n : ℕ) (t : List Node) → next_of n (through t) ≡ next_of n t
  unfolding view_rows shape next_of
  next_same n [] = refl
  next_same n (r ∷ t) = ap₂ (λ (a b : ℕ). pick (eqb r.number n) a b) (behind_same r.depth r.depth t) (next_same n t)

  run_same : (k d e : ℕ) (t : List Node) → at_depth k (sink d (take_deeper e (through t))) ≡ at_depth k (sink d (take_deeper e t))
  unfolding view_rows shape sink take_deeper at_depth
  run_same k d e [] = refl
  run_same k d e (r ∷ t) = go (run_same k d e t) (ltb e r.depth)
    where
      go : at_depth k (sink d (take_deeper e (through t))) ≡ at_depth k (sink d (take_deeper e t)) → (b : Bool)
          → at_depth k (sink d (pick b (seen_as r ∷ (take_deeper e (through t))) [])) ≡ at_depth k (sink d (pick b (r ∷ take_deeper e t) []))
      go ih true = ap (λ (l : List ℕ). pick (eqb (r.depth - d) k) (r.number ∷ l) l) ih
      go ih false = refl

  children_same : (n : ℕ) (t : List Node) → children_of n (through t) ≡ children_of n t
  unfolding view_rows shape run_of sink at_depth
  children_same n [] = refl
  children_same n (r ∷ t) = go (children_same n t) (eqb r.number n)
    where
      go : children_of n (through t) ≡ children_of n t → (b : Bool)
          → at_depth 1 (pick b (sink r.depth (seen_as r ∷ (take_deeper r.depth (through t)))) (run_of n (through t)))
          ≡ at_depth 1 (pick b (sink r.depth (r ∷ take_deeper r.depth t)) (run_of n t))
      go ih true = ap (λ (l : List ℕ). pick (eqb (r.depth - r.depth) 1) (r.number ∷ l) l) (run_same 1 r.depth r.depth t)
      go ih false = ih

  pub head_same : (n : ℕ) (t : List Node) → head_of n (through t) ≡ head_of n t
  head_same n t = ap (first_or no_node) (children_same n t)

  pub tail_same : (n : ℕ) (t : List Node) → tail_of n (through t) ≡ tail_of n t
  tail_same n t = ap (last_or no_node) (children_same n t)

  pub count_same : (n : ℕ) (t : List Node) → child_count n (through t) ≡ child_count n t
  count_same n t = ap (length {A = ℕ}) (children_same n t)
