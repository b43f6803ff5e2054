-- Synths have nothing below them; and which edits keep that so.
use Prim.{Unit, tt}
use Rattle.std.specs.Prelude.{ℕ, Bool, eqb}
use Rattle.std.proofs.Math.Bool.{true, false}
use Rattle.std.proofs.Math.Path.{◌≡◌, refl, ap}
use native.Mathlib.Omega.{arith}
use Rattle.std.proofs.Common.{eqb-true}
use Rattle.words.specs.Choice.{pick}
use Rattle.nodes.specs.declared.Node.{Node}
use Rattle.nodes.specs.Place.{is_group}
use Rattle.nodes.specs.Edit.{with_run}
use Rattle.nodes.specs.Forest.{Forest, none, node, beside, prune, single, has, subtree, edit, free, free_below, free_deep, change, put_head, put_tail, put_before, put_after, put_over}
use Rattle.treerefinement.specs.Flatten.{key, Inherited}

-- an item that is no group has none below
unfoldable pub Leaves : Forest Node → Type 0
Leaves none = Unit {0}
Leaves (node x b a) = (is_group x ≡ false → b ≡ none) × Leaves b × Leaves a

-- no synth has the number n
unfoldable pub NoSynth : ℕ → Forest Node → Type 0
NoSynth n none = Unit {0}
NoSynth n (node x b a) = (x.number ≡ n → is_group x ≡ true) × NoSynth n b × NoSynth n a

pub leaves_down : Inherited Leaves
unfolding Leaves
leaves_down x b a l = (l.1, l.2)

pub leaves_single : (x : Node) → Leaves (single x)
unfolding Leaves
leaves_single x = (λ e. refl, tt, tt)

pub leaves_none : Leaves none
unfolding Leaves
leaves_none = tt

leaves_beside : (f g : Forest Node) → Leaves f → Leaves g → Leaves (beside f g)
unfolding Leaves beside
leaves_beside none g l m = m
leaves_beside (node x b a) g l m = (l.0, l.1, leaves_beside a g l.2 m)

leaves_prune : (f : Forest Node) → Leaves f → Leaves (prune is_group f)
unfolding Leaves prune
leaves_prune none l = tt
leaves_prune (node x b a) l = go (is_group x) refl (leaves_prune b l.1) (leaves_prune a l.2)
  where
    go : (p : Bool) → is_group x ≡ p → Leaves (prune is_group b) → Leaves (prune is_group a) → Leaves (pick p (node x (prune is_group b) (prune is_group a)) (prune is_group a))
    go true e m k = (λ q. (cc), m, k)
    go false e m k = k

pub leaves_subtree : (n : ℕ) (f : Forest Node) → Leaves f → Leaves (subtree key n f)
unfolding Leaves subtree
leaves_subtree n none l = tt
leaves_subtree n (node x b a) l = go (eqb x.number n) (has key n b) (leaves_subtree n b l.1) (leaves_subtree n a l.2)
  where
    go : (p q : Bool) → Leaves (subtree key n b) → Leaves (subtree key n a) → Leaves (pick p (node x b none) (pick q (subtree key n b) (subtree key n a)))
    go true q m k = (l.0, l.1, tt)
    go false true m k = m
    go false false m k = k

nosynth_down : (n : ℕ) → Inherited (NoSynth n)
unfolding NoSynth
nosynth_down n x b a s = (s.1, s.2)

-- one law for every edit: what it puts in the place of the node n, and of what is below and after it, has leaves
module _ (Q : Forest Node → Type 0) (down : Inherited Q) (n : ℕ) (h : Node → Forest Node → Forest Node → Forest Node)
    (g : (x : Node) (b a : Forest Node) → x.number ≡ n → Q (node x b a) → Leaves (node x b a) → Leaves (h x b a)) where
  leaves_edit : (f : Forest Node) → Q f → Leaves f → Leaves (edit key n h f)
  unfolding Leaves edit
  leaves_edit none s l = tt
  leaves_edit (node x b a) s l =
      go (eqb x.number n) (has key n b) refl (leaves_edit b (down x b a s).0 l.1) (leaves_edit a (down x b a s).1 l.2)
    where
      still : is_group x ≡ false → edit key n h b ≡ none
      still e = ap (λ (k : Forest Node). edit key n h k) (l.0 e)

      go : (p q : Bool) → eqb x.number n ≡ p → Leaves (edit key n h b) → Leaves (edit key n h a)
          → Leaves (pick p (h x b a) (pick q (node x (edit key n h b) a) (node x b (edit key n h a))))
      go true q e m k = g x b a (eqb-true x.number n e) s l
      go false true e m k = (still, m, l.2)
      go false false e m k = (l.0, l.1, k)

-- edits at any node
module _ (n : ℕ) (h : Node → Forest Node → Forest Node → Forest Node) (g : (x : Node) (b a : Forest Node) → Leaves (node x b a) → Leaves (h x b a)) (f : Forest Node) (l : Leaves f) where
  anywhere : Leaves (edit key n h f)
  anywhere = leaves_edit (λ f. Unit {0}) (λ x b a u. (tt, tt)) n h (λ x b a e u l. g x b a l) f tt l

module _ (n : ℕ) (f : Forest Node) (l : Leaves f) where
  pub leaves_free : Leaves (free key n f)
  unfolding Leaves
  leaves_free = anywhere n (λ x b a. a) (λ x b a l. l.2) f l

  pub leaves_free_below : Leaves (free_below key n f)
  unfolding Leaves
  leaves_free_below = anywhere n (λ x b a. node x none a) (λ x b a l. (λ e. refl, tt, l.2)) f l

  pub leaves_free_deep : Leaves (free_deep key is_group n f)
  unfolding Leaves prune
  leaves_free_deep = anywhere n (λ x b a. node x (prune is_group b) a) (λ x b a l. (λ e. ap (λ (k : Forest Node). prune is_group k) (l.0 e), leaves_prune b l.1, l.2)) f l

  pub leaves_run : (flag : ℕ) → Leaves (change key n (with_run flag) f)
  unfolding Leaves
  leaves_run flag = anywhere n (λ x b a. node (with_run flag x) b a) (λ x b a l. l) f l

  -- a forest put in
  module _ (g : Forest Node) (m : Leaves g) where
    pub leaves_put_before : Leaves (put_before key g n f)
    leaves_put_before = anywhere n (λ x b a. beside g (node x b a)) (λ x b a l. leaves_beside g (node x b a) m l) f l

    pub leaves_put_after : Leaves (put_after key g n f)
    unfolding Leaves
    leaves_put_after = anywhere n (λ x b a. node x b (beside g a)) (λ x b a l. (l.0, l.1, leaves_beside g a m l.2)) f l

    pub leaves_put_over : Leaves (put_over key g n f)
    unfolding Leaves
    leaves_put_over = anywhere n (λ x b a. beside g a) (λ x b a l. leaves_beside g a m l.2) f l

    -- into a group
    module _ (s : NoSynth n f) where
      into : (k : Forest Node → Forest Node) → ((b : Forest Node) → Leaves b → Leaves (k b)) → Leaves (edit key n (λ x b a. node x (k b) a) f)
      unfolding Leaves NoSynth
      into k keeps = leaves_edit (NoSynth n) (nosynth_down n) n (λ x b a. node x (k b) a) (λ x b a e s l. (λ q. absurd (clash x (s.0 e) q), keeps b l.1, l.2)) f s l
        where
          clash : (x : Node) → is_group x ≡ true → is_group x ≡ false → ⊥
          clash x t u = let z : ◌≡◌ {A = ℕ} 0 1 = cc in omega arith

      pub leaves_put_head : Leaves (put_head key g n f)
      leaves_put_head = into (λ b. beside g b) (λ b l. leaves_beside g b m l)

      pub leaves_put_tail : Leaves (put_tail key g n f)
      leaves_put_tail = into (λ b. beside b g) (λ b l. leaves_beside b g l m)

-- a free leaves no synth of a number where there was none
pub nosynth_free : (m n : ℕ) (f : Forest Node) → NoSynth m f → NoSynth m (free key n f)
unfolding NoSynth edit
nosynth_free m n none s = tt
nosynth_free m n (node x b a) s = go (eqb x.number n) (has key n b) (nosynth_free m n b s.1) (nosynth_free m n a s.2)
  where
    go : (p q : Bool) → NoSynth m (free key n b) → NoSynth m (free key n a) → NoSynth m (pick p a (pick q (node x (free key n b) a) (node x b (free key n a))))
    go true q i j = s.2
    go false true i j = (s.0, i, s.2)
    go false false i j = (s.0, s.1, j)
