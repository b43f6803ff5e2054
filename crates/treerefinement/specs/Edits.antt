-- Each edit of the plain tree, laid out, is the same edit of the table.
use Rattle.std.specs.Prelude.{ℕ, ◌+◌, Bool, true, false, ◌≡◌, refl}
use Rattle.std.proofs.Common.{sym, ap₂, ◌∙◌, arith}
use Rattle.std.proofs.Math.Path.{ap}
use mathlib.Core.List.{List, [], ◌∷◌, ◌++◌, append_assoc}
use Rattle.words.specs.Choice.{pick}
use Rattle.nodes.specs.declared.Node.{Node}
use Rattle.nodes.specs.Place.{is_group, lives}
use Rattle.nodes.specs.Edit.{level, with_run, lift, take_deeper, drop_deeper, only_groups, is_below, cut, cut_below, deep_free, set_run, add_head, add_tail, add_before, add_after, add_over, move_before, move_after, move_head, move_tail}
use Rattle.nodes.specs.Forest.{Forest, none, node, flatten, beside, prune, subtree, inside, free, free_below, free_deep, change, put_head, put_tail, put_before, put_after, put_over, place_before, place_after, place_head, place_tail}
use Rattle.treerefinement.specs.Flatten.{key, taken, dropped, lift-flatten, beside-flatten, lives-has, Agrees, AgreesOn, edit_tree, edit_tree_on, run_tree}
use Rattle.treerefinement.specs.Leaves.{Leaves, leaves_down}

pub below_tree : (a b : ℕ) (f : Forest Node) → is_below a b (flatten 0 f) ≡ inside key a b f
below_tree a b f = ap (λ (l : List Node). lives a l) (run_tree b f) ∙ lives-has a 0 (subtree key b f)

-- freed nodes, and a run flag
free-agrees : Agrees (λ r l. drop_deeper r.depth l) (λ x b a. a)
free-agrees x d b a rest u s = dropped d b a rest s

pub cut_tree : (n : ℕ) (f : Forest Node) → cut n (flatten 0 f) ≡ flatten 0 (free key n f)
cut_tree n f = edit_tree n (λ r l. drop_deeper r.depth l) (λ x b a. a) free-agrees f

below_agrees : Agrees (λ r l. r ∷ drop_deeper r.depth l) (λ x b a. node x none a)
unfolding flatten
below_agrees x d b a rest u s = ap (λ (l : List Node). level d x ∷ l) (dropped d b a rest s)

pub cut_below_tree : (n : ℕ) (f : Forest Node) → cut_below n (flatten 0 f) ≡ flatten 0 (free_below key n f)
cut_below_tree n f = edit_tree n (λ r l. r ∷ drop_deeper r.depth l) (λ x b a. node x none a) below_agrees f

run_agrees : (flag : ℕ) → Agrees (λ r l. with_run flag r ∷ l) (λ x b a. node (with_run flag x) b a)
unfolding flatten
run_agrees flag x d b a rest u s = ap (λ (l : List Node). level d (with_run flag x) ∷ l) (sym (append_assoc (flatten (d + 1) b) (flatten d a) rest))

pub set_run_tree : (n flag : ℕ) (f : Forest Node) → set_run n flag (flatten 0 f) ≡ flatten 0 (change key n (with_run flag) f)
set_run_tree n flag f = edit_tree n (λ r l. with_run flag r ∷ l) (λ x b a. node (with_run flag x) b a) (run_agrees flag) f

-- synths at any depth freed: they have nothing below them
only_groups-append : (a b : List Node) → only_groups (a ++ b) ≡ only_groups a ++ only_groups b
unfolding only_groups
only_groups-append [] b = refl
only_groups-append (r ∷ a) b = ap (λ (l : List Node). pick (is_group r) (r ∷ l) l) (only_groups-append a b) ∙ go (is_group r)
  where
    go : (p : Bool) → pick p (r ∷ (only_groups a ++ only_groups b)) (only_groups a ++ only_groups b) ≡ pick p (r ∷ only_groups a) (only_groups a) ++ only_groups b
    go true = refl
    go false = refl

pub prune-flatten : (d : ℕ) (f : Forest Node) → Leaves f → only_groups (flatten d f) ≡ flatten d (prune is_group f)
unfolding only_groups flatten prune Leaves
prune-flatten d none l = refl
prune-flatten d (node x b a) l =
    ap (λ (t : List Node). pick (is_group x) (level d x ∷ t) t)
    (only_groups-append (flatten (d + 1) b) (flatten d a) ∙ ap₂ (λ (u v : List Node). u ++ v) (prune-flatten (d + 1) b l.1) (prune-flatten d a l.2))
    ∙ go (is_group x) refl
  where
    go : (p : Bool) → is_group x ≡ p
        → pick p (level d x ∷ (flatten (d + 1) (prune is_group b) ++ flatten d (prune is_group a))) (flatten (d + 1) (prune is_group b) ++ flatten d (prune is_group a))
        ≡ flatten d (pick p (node x (prune is_group b) (prune is_group a)) (prune is_group a))
    go true e = refl
    go false e = ap (λ (k : Forest Node). flatten (d + 1) (prune is_group k) ++ flatten d (prune is_group a)) (l.0 e)

deep_agrees : AgreesOn Leaves (λ r l. r ∷ (only_groups (take_deeper r.depth l) ++ drop_deeper r.depth l)) (λ x b a. node x (prune is_group b) a)
unfolding flatten Leaves
deep_agrees x d b a rest i s =
    rw (taken d b a rest s, dropped d b a rest s, prune-flatten (d + 1) b i.1)
    (ap (λ (l : List Node). level d x ∷ l) (sym (append_assoc (flatten (d + 1) (prune is_group b)) (flatten d a) rest)))

pub deep_free_tree : (n : ℕ) (f : Forest Node) → Leaves f → deep_free n (flatten 0 f) ≡ flatten 0 (free_deep key is_group n f)
deep_free_tree n f l =
    edit_tree_on Leaves leaves_down n (λ r l. r ∷ (only_groups (take_deeper r.depth l) ++ drop_deeper r.depth l)) (λ x b a. node x (prune is_group b) a) deep_agrees f l

-- nodes put in
module _ (g : Forest Node) where
  lifted : (d : ℕ) → lift d (flatten 0 g) ≡ flatten d g
  lifted d = lift-flatten d 0 d g (omega arith)

  head_agrees : Agrees (λ r l. r ∷ (lift (r.depth + 1) (flatten 0 g) ++ l)) (λ x b a. node x (beside g b) a)
  unfolding flatten
  head_agrees x d b a rest u s = rw (lifted (d + 1), beside-flatten (d + 1) g b) (simp append_assoc)

  pub add_head_tree : (n : ℕ) (f : Forest Node) → add_head (flatten 0 g) n (flatten 0 f) ≡ flatten 0 (put_head key g n f)
  add_head_tree n f = edit_tree n (λ r l. r ∷ (lift (r.depth + 1) (flatten 0 g) ++ l)) (λ x b a. node x (beside g b) a) head_agrees f

  tail-agrees : Agrees (λ r l. r ∷ (take_deeper r.depth l ++ (lift (r.depth + 1) (flatten 0 g) ++ drop_deeper r.depth l))) (λ x b a. node x (beside b g) a)
  unfolding flatten
  tail-agrees x d b a rest u s = rw (lifted (d + 1), beside-flatten (d + 1) b g, taken d b a rest s, dropped d b a rest s) (simp append_assoc)

  pub add_tail_tree : (n : ℕ) (f : Forest Node) → add_tail (flatten 0 g) n (flatten 0 f) ≡ flatten 0 (put_tail key g n f)
  add_tail_tree n f =
      edit_tree n (λ r l. r ∷ (take_deeper r.depth l ++ (lift (r.depth + 1) (flatten 0 g) ++ drop_deeper r.depth l))) (λ x b a. node x (beside b g) a) tail-agrees f

  before_agrees : Agrees (λ r l. lift r.depth (flatten 0 g) ++ r ∷ l) (λ x b a. beside g (node x b a))
  unfolding flatten
  before_agrees x d b a rest u s = rw (lifted d, beside-flatten d g (node x b a)) (simp append_assoc)

  pub add_before_tree : (n : ℕ) (f : Forest Node) → add_before (flatten 0 g) n (flatten 0 f) ≡ flatten 0 (put_before key g n f)
  add_before_tree n f = edit_tree n (λ r l. lift r.depth (flatten 0 g) ++ r ∷ l) (λ x b a. beside g (node x b a)) before_agrees f

  after_agrees : Agrees (λ r l. r ∷ (take_deeper r.depth l ++ (lift r.depth (flatten 0 g) ++ drop_deeper r.depth l))) (λ x b a. node x b (beside g a))
  unfolding flatten
  after_agrees x d b a rest u s =
      rw (lifted d, beside-flatten d g a, taken d b a rest s, dropped d b a rest s)
      (ap (λ (l : List Node). level d x ∷ l)
      (sym (append_assoc (flatten (d + 1) b) (flatten d g ++ flatten d a) rest ∙ ap (λ (l : List Node). flatten (d + 1) b ++ l) (append_assoc (flatten d g) (flatten d a) rest))))

  pub add_after_tree : (n : ℕ) (f : Forest Node) → add_after (flatten 0 g) n (flatten 0 f) ≡ flatten 0 (put_after key g n f)
  add_after_tree n f =
      edit_tree n (λ r l. r ∷ (take_deeper r.depth l ++ (lift r.depth (flatten 0 g) ++ drop_deeper r.depth l))) (λ x b a. node x b (beside g a)) after_agrees f

  over_agrees : Agrees (λ r l. lift r.depth (flatten 0 g) ++ drop_deeper r.depth l) (λ x b a. beside g a)
  over_agrees x d b a rest u s = rw (lifted d, beside-flatten d g a, dropped d b a rest s) (simp append_assoc)

  pub add_over_tree : (n : ℕ) (f : Forest Node) → add_over (flatten 0 g) n (flatten 0 f) ≡ flatten 0 (put_over key g n f)
  add_over_tree n f = edit_tree n (λ r l. lift r.depth (flatten 0 g) ++ drop_deeper r.depth l) (λ x b a. beside g a) over_agrees f

-- moves: also where m or n is not there, and where n lies below m, which the commands refuse
module _ (m n : ℕ) (f : Forest Node) where
  pub move_before_tree : move_before m n (flatten 0 f) ≡ flatten 0 (place_before key m n f)
  move_before_tree = ap₂ (λ (xs t : List Node). add_before xs n t) (run_tree m f) (cut_tree m f) ∙ add_before_tree (subtree key m f) n (free key m f)

  pub move_after_tree : move_after m n (flatten 0 f) ≡ flatten 0 (place_after key m n f)
  move_after_tree = ap₂ (λ (xs t : List Node). add_after xs n t) (run_tree m f) (cut_tree m f) ∙ add_after_tree (subtree key m f) n (free key m f)

  pub move_head_tree : move_head m n (flatten 0 f) ≡ flatten 0 (place_head key m n f)
  move_head_tree = ap₂ (λ (xs t : List Node). add_head xs n t) (run_tree m f) (cut_tree m f) ∙ add_head_tree (subtree key m f) n (free key m f)

  pub move_tail_tree : move_tail m n (flatten 0 f) ≡ flatten 0 (place_tail key m n f)
  move_tail_tree = ap₂ (λ (xs t : List Node). add_tail xs n t) (run_tree m f) (cut_tree m f) ∙ add_tail_tree (subtree key m f) n (free key m f)
