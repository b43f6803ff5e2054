-- How many records of a table pass a test that does not look at depths: what each edit does to that sum.
use Rattle.std.specs.Prelude.{ℕ, ◌+◌, ◌-◌, ◌≤◌, Bool, ltb, eqb, length}
use Rattle.std.proofs.Math.Bool.{true, false}
use Rattle.std.proofs.Math.Path.{◌≡◌, refl, ap, ap₂}
use mathlib.Core.List.{List, [], ◌∷◌, ◌++◌}
use native.Mathlib.Omega.{arith}
use Rattle.words.specs.Choice.{pick}
use Rattle.nodes.specs.declared.Node.{Node}
use Rattle.nodes.specs.Place.{is_group, lives}
use Rattle.nodes.specs.Edit.{level, with_run, lift, sink, take_deeper, drop_deeper, only_groups, run_of, edit_rows, cut, cut_below, deep_free, set_run, add_head, add_tail, add_before, add_after, add_over, move_before, move_after, move_head, move_tail}

abbrev pub one : Bool → ℕ
one b = pick b 1 0

unfoldable pub tally : (Node → Bool) → List Node → ℕ
tally p [] = 0
tally p (r ∷ l) = one (p r) + tally p l

pub tally-length : (t : List Node) → tally (λ r. true) t ≡ length t
unfolding tally
tally-length [] = refl
tally-length (r ∷ l) = let ih = tally-length l in omega arith

-- the test does not look at depths
abbrev pub IgnoresDepth : (Node → Bool) → Type 0
IgnoresDepth p = (d : ℕ) (r : Node) → p (level d r) ≡ p r

module _ (p : Node → Bool) where
  pub tally-append : (a b : List Node) → tally p (a ++ b) ≡ tally p a + tally p b
  unfolding tally
  tally-append [] b = omega arith
  tally-append (r ∷ a) b = let ih = tally-append a b in omega arith

  tally_parts : (d : ℕ) (l : List Node) → tally p (take_deeper d l) + tally p (drop_deeper d l) ≡ tally p l
  unfolding tally take_deeper drop_deeper
  tally_parts d [] = refl
  tally_parts d (r ∷ l) = go (tally_parts d l) (ltb d r.depth)
    where
      go : tally p (take_deeper d l) + tally p (drop_deeper d l) ≡ tally p l → (b : Bool)
          → tally p (pick b (r ∷ take_deeper d l) []) + tally p (pick b (drop_deeper d l) (r ∷ l)) ≡ one (p r) + tally p l
      go ih true = omega arith
      go ih false = omega arith

  tally-groups : (l : List Node) → tally p (only_groups l) ≤ tally p l
  unfolding tally only_groups
  tally-groups [] = omega arith
  tally-groups (r ∷ l) = go (tally-groups l) (is_group r)
    where
      go : tally p (only_groups l) ≤ tally p l → (b : Bool) → tally p (pick b (r ∷ only_groups l) (only_groups l)) ≤ one (p r) + tally p l
      go ih true = omega arith
      go ih false = omega arith

  -- an edit that leaves no more than there was
  tally-edit_most : (n : ℕ) (H : Node → List Node → List Node) (t : List Node) → ((r : Node) (l : List Node) → tally p (H r l) ≤ tally p (r ∷ l)) → tally p (edit_rows n H t) ≤ tally p t
  unfolding tally edit_rows
  tally-edit_most n H [] g = omega arith
  tally-edit_most n H (r ∷ l) g = go (tally-edit_most n H l g) (eqb r.number n)
    where
      go : tally p (edit_rows n H l) ≤ tally p l → (b : Bool) → tally p (pick b (H r l) (r ∷ edit_rows n H l)) ≤ one (p r) + tally p l
      go ih true = g r l
      go ih false = omega arith

  -- an edit that adds as many
  tally-edit : (n : ℕ) (H : Node → List Node → List Node) (t : List Node) (more : ℕ) → ((r : Node) (l : List Node) → tally p (H r l) ≡ tally p (r ∷ l) + more)
      → lives n t ≡ true → tally p (edit_rows n H t) ≡ tally p t + more
  unfolding tally edit_rows lives
  tally-edit n H [] more g h = cc
  tally-edit n H (r ∷ l) more g h = go (tally-edit n H l more g) (eqb r.number n) h
    where
      go : (lives n l ≡ true → tally p (edit_rows n H l) ≡ tally p l + more) → (b : Bool) → pick b true (lives n l) ≡ true
          → tally p (pick b (H r l) (r ∷ edit_rows n H l)) ≡ one (p r) + tally p l + more
      go ih true e = g r l
      go ih false e = omega (arith, ih e)

  tally-cut_below : (n : ℕ) (t : List Node) → tally p (cut_below n t) ≤ tally p t
  unfolding tally
  tally-cut_below n t = tally-edit_most n (λ r l. r ∷ drop_deeper r.depth l) t (λ r l. omega (arith, tally_parts r.depth l))

  tally-deep_free : (n : ℕ) (t : List Node) → tally p (deep_free n t) ≤ tally p t
  unfolding tally
  tally-deep_free n t =
      tally-edit_most n (λ r l. r ∷ (only_groups (take_deeper r.depth l) ++ drop_deeper r.depth l)) t (λ r l.
      omega (
        arith,
        tally-append (only_groups (take_deeper r.depth l)) (drop_deeper r.depth l),
        tally-groups (take_deeper r.depth l),
        tally_parts r.depth l,
      ))

  -- a run flag, if it makes no record pass the test
  pub tally-set_run : (n flag : ℕ) (t : List Node) → ((r : Node) → p r ≡ false → p (with_run flag r) ≡ false) → tally p (set_run n flag t) ≤ tally p t
  unfolding tally
  tally-set_run n flag t g = tally-edit_most n (λ r l. with_run flag r ∷ l) t (λ r l. let k = one_most (p (with_run flag r)) (p r) (g r) in omega arith)
    where
      one_most : (a b : Bool) → (b ≡ false → a ≡ false) → one a ≤ one b
      one_most true true g = omega arith
      one_most true false g = absurd (let q : true ≡ false = g refl in let z : ◌≡◌ {A = ℕ} 0 1 = cc in omega arith)
      one_most false b g = omega arith

  -- .. and if it makes none fail it either
  pub tally-set_run_same : (n flag : ℕ) (t : List Node) → ((r : Node) → p (with_run flag r) ≡ p r) → tally p (set_run n flag t) ≡ tally p t
  unfolding tally edit_rows
  tally-set_run_same n flag [] g = refl
  tally-set_run_same n flag (r ∷ l) g = go (tally-set_run_same n flag l g) (eqb r.number n)
    where
      go : tally p (set_run n flag l) ≡ tally p l → (b : Bool) → tally p (pick b (with_run flag r ∷ l) (r ∷ set_run n flag l)) ≡ one (p r) + tally p l
      go ih true = ap (λ (b : Bool). one b + tally p l) (g r)
      go ih false = ap (λ (k : ℕ). one (p r) + k) ih

  module _ (ignores-depth : IgnoresDepth p) where
    tally-lift : (k : ℕ) (l : List Node) → tally p (lift k l) ≡ tally p l
    unfolding tally lift
    tally-lift k [] = refl
    tally-lift k (r ∷ l) = ap₂ (λ (b : Bool) (j : ℕ). one b + j) (ignores-depth (r.depth + k) r) (tally-lift k l)

    tally-sink : (k : ℕ) (l : List Node) → tally p (sink k l) ≡ tally p l
    unfolding tally sink
    tally-sink k [] = refl
    tally-sink k (r ∷ l) = ap₂ (λ (b : Bool) (j : ℕ). one b + j) (ignores-depth (r.depth - k) r) (tally-sink k l)

    -- a cut and the run that it takes out
    pub tally_cut : (n : ℕ) (t : List Node) → tally p (cut n t) + tally p (run_of n t) ≡ tally p t
    unfolding tally edit_rows run_of
    tally_cut n [] = refl
    tally_cut n (r ∷ l) = go (tally_cut n l) (eqb r.number n)
      where
        go : tally p (cut n l) + tally p (run_of n l) ≡ tally p l → (b : Bool)
            → tally p (pick b (drop_deeper r.depth l) (r ∷ cut n l)) + tally p (pick b (sink r.depth (r ∷ take_deeper r.depth l)) (run_of n l)) ≡ one (p r) + tally p l
        go ih true = omega (arith, tally-sink r.depth (r ∷ take_deeper r.depth l), tally_parts r.depth l)
        go ih false = omega arith

    -- records put in at a node that lives
    module _ (xs : List Node) (n : ℕ) (t : List Node) (h : lives n t ≡ true) where
      tally-add_head : tally p (add_head xs n t) ≡ tally p t + tally p xs
      unfolding tally
      tally-add_head =
          tally-edit n (λ r l. r ∷ (lift (r.depth + 1) xs ++ l)) t (tally p xs) (λ r l. omega (arith, tally-append (lift (r.depth + 1) xs) l, tally-lift (r.depth + 1) xs)) h

      tally-add_before : tally p (add_before xs n t) ≡ tally p t + tally p xs
      unfolding tally
      tally-add_before =
          tally-edit n (λ r l. lift r.depth xs ++ r ∷ l) t (tally p xs) (λ r l. omega (arith, tally-append (lift r.depth xs) (r ∷ l), tally-lift r.depth xs)) h

      behind : (k : Node → ℕ) → tally p (edit_rows n (λ r l. r ∷ (take_deeper r.depth l ++ (lift (k r) xs ++ drop_deeper r.depth l))) t) ≡ tally p t + tally p xs
      unfolding tally
      behind k =
          tally-edit n (λ r l. r ∷ (take_deeper r.depth l ++ (lift (k r) xs ++ drop_deeper r.depth l))) t (tally p xs) (λ r l.
          omega (
            arith,
            tally-append (take_deeper r.depth l) (lift (k r) xs ++ drop_deeper r.depth l),
            tally-append (lift (k r) xs) (drop_deeper r.depth l),
            tally-lift (k r) xs,
            tally_parts r.depth l,
          )) h

      tally-add_tail : tally p (add_tail xs n t) ≡ tally p t + tally p xs
      tally-add_tail = behind (λ r. r.depth + 1)

      tally-add_after : tally p (add_after xs n t) ≡ tally p t + tally p xs
      tally-add_after = behind (λ r. r.depth)

    -- records put in over a node: those of the cut table, and these
    tally-add_over : (xs : List Node) (n : ℕ) (t : List Node) → lives n t ≡ true → tally p (add_over xs n t) ≡ tally p (cut n t) + tally p xs
    unfolding tally edit_rows lives
    tally-add_over xs n [] h = cc
    tally-add_over xs n (r ∷ l) h = go (tally-add_over xs n l) (eqb r.number n) h
      where
        go : (lives n l ≡ true → tally p (add_over xs n l) ≡ tally p (cut n l) + tally p xs) → (b : Bool) → pick b true (lives n l) ≡ true
            → tally p (pick b (lift r.depth xs ++ drop_deeper r.depth l) (r ∷ add_over xs n l)) ≡ tally p (pick b (drop_deeper r.depth l) (r ∷ cut n l)) + tally p xs
        go ih true e = omega (arith, tally-append (lift r.depth xs) (drop_deeper r.depth l), tally-lift r.depth xs)
        go ih false e = omega (arith, ih e)

-- the table after has no more of any kind than the table before; or as many; or as many and those of the records xs
pub record Within (after before : List Node) : Type 0 where
  pub sum : (p : Node → Bool) → IgnoresDepth p → tally p after ≤ tally p before

pub record Same (after before : List Node) : Type 0 where
  pub sum : (p : Node → Bool) → IgnoresDepth p → tally p after ≡ tally p before

pub record Grown (xs after before : List Node) : Type 0 where
  pub sum : (p : Node → Bool) → IgnoresDepth p → tally p after ≡ tally p before + tally p xs

pub same_within : {after before : List Node} → Same after before → Within after before
same_within s = record { sum = λ p b. omega (arith, s.sum p b) }

pub cut_within : (n : ℕ) (t : List Node) → Within (cut n t) t
cut_within n t = record { sum = λ p b. omega (arith, tally_cut p b n t) }

pub cut_below_within : (n : ℕ) (t : List Node) → Within (cut_below n t) t
cut_below_within n t = record { sum = λ p b. tally-cut_below p n t }

pub deep_free_within : (n : ℕ) (t : List Node) → Within (deep_free n t) t
deep_free_within n t = record { sum = λ p b. tally-deep_free p n t }

-- records put in at a node that lives
module _ (xs : List Node) (n : ℕ) (t : List Node) (h : lives n t ≡ true) where
  pub add_head_grown : Grown xs (add_head xs n t) t
  add_head_grown = record { sum = λ p b. tally-add_head p b xs n t h }

  pub add_tail_grown : Grown xs (add_tail xs n t) t
  add_tail_grown = record { sum = λ p b. tally-add_tail p b xs n t h }

  pub add_before_grown : Grown xs (add_before xs n t) t
  add_before_grown = record { sum = λ p b. tally-add_before p b xs n t h }

  pub add_after_grown : Grown xs (add_after xs n t) t
  add_after_grown = record { sum = λ p b. tally-add_after p b xs n t h }

  pub add_over_grown : Grown xs (add_over xs n t) (cut n t)
  add_over_grown = record { sum = λ p b. tally-add_over p b xs n t h }

-- a move to a place at a node that lives when the moved one is out
module _ (m n : ℕ) (t : List Node) (h : lives n (cut m t) ≡ true) where
  -- a run put back in
  back : {after : List Node} → Grown (run_of m t) after (cut m t) → Same after t
  back g = record { sum = λ p b. omega (arith, g.sum p b, tally_cut p b m t) }

  pub move_head_same : Same (move_head m n t) t
  move_head_same = back (add_head_grown (run_of m t) n (cut m t) h)

  pub move_tail_same : Same (move_tail m n t) t
  move_tail_same = back (add_tail_grown (run_of m t) n (cut m t) h)

  pub move_before_same : Same (move_before m n t) t
  move_before_same = back (add_before_grown (run_of m t) n (cut m t) h)

  pub move_after_same : Same (move_after m n t) t
  move_after_same = back (add_after_grown (run_of m t) n (cut m t) h)
