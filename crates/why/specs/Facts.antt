-- What the answer says, in a tree where each number is of one node: "The reason given must be the true one".
use Rattle.std.specs.Prelude.{ℕ, ◌≤◌, Bool, true, false, not, ◌≡◌, refl, List, [], ◌∷◌, ◌++◌, eqb}
use Rattle.std.proofs.Common.{sym, ap, ◌∙◌, subst, eq-eqb}
use Rattle.std.proofs.Math.Option.{Option, none, some}
use Rattle.words.specs.Choice.{pick, both, either}
use Rattle.nodes.specs.Forest.{Forest, has, below}
use Rattle.nodes.specs.Order.{order_tree}
use Rattle.nodes.specs.Structure.{listed}
use Rattle.why.specs.declared.Reason.{Reason}
use Rattle.why.specs.declared.Reason.TheVariants.{NoNode, Group, Off, AncestorOff, Running}
use Rattle.why.specs.Reasons.{node_of, ancestors, reason}
use Rattle.why.specs.Runs.{times, all_on, runs, order_runs}
use Rattle.why.specs.Exactly.{StandsAt, NearestRoot, Holds, true_reason, one_reason}
use Rattle.why.specs.Ancestors.{is_ancestor}

-- the third or the fourth reason
abbrev pub is_off : Reason → Bool
is_off NoNode = false
is_off Group = false
is_off Off = true
is_off (AncestorOff m) = true
is_off (Running place) = false

module _ {A : Type 0} (key : A → ℕ) (group on : A → Bool) where
  -- the number is of a synth
  abbrev pub is_synth : Option A → Bool
  is_synth none = false
  is_synth (some x) = not (group x)

  -- the node of a number: it is off, every ancestor of it is on, and n lies below it
  pub record OffAbove (number n : ℕ) (f : Forest A) : Type 0 where
    pub ancestor : A
    pub found : node_of key number f ≡ some ancestor
    pub off : on ancestor ≡ false
    pub above_on : all_on key on (ancestors key number f) ≡ true
    pub holds : has key n (below key number f) ≡ true

  -- what is claimed of a number n
  pub record Facts (n : ℕ) (f : Forest A) : Type 0 where
    -- exactly one reason holds, and it is the answer
    pub holds : Holds key group on (reason key group on n f) n f
    pub only : (r : Reason) → Holds key group on r n f → r ≡ reason key group on n f
    -- running at k exactly if it stands at the place k of the order
    pub running : (k : ℕ) → reason key group on n f ≡ Running k → StandsAt k n (order_tree key group on f)
    pub standing : (k : ℕ) → StandsAt k n (order_tree key group on f) → reason key group on n f ≡ Running k
    -- off exactly if it is of a live synth that is not in the order
    pub silent : is_off (reason key group on n f) ≡ both (is_synth (node_of key n f)) (not (listed n (order_tree key group on f)))
    -- the ancestor that is named is one, is off, and none above it is
    pub named : (m : ℕ) → reason key group on n f ≡ AncestorOff m → OffAbove m n f

-- a number at a place stands in the list
stands_there : (n : ℕ) (front back : List ℕ) → listed n (front ++ n ∷ back) ≡ true
unfolding listed
stands_there n [] back = rw (eq-eqb n n refl)
stands_there n (m ∷ front) back = rw (stands_there n front back) (go (eqb m n))
  where
    go : (p : Bool) → either p true ≡ true
    go true = refl
    go false = refl

-- ancestors with one that is off are not all on
not_all : {A : Type 0} (key : A → ℕ) (on : A → Bool) (above : List A) (x : A) (under : List A) → on x ≡ false → all_on key on (above ++ x ∷ under) ≡ false
unfolding all_on
not_all key on [] x under o = rw o
not_all key on (y ∷ above) x under o = rw (not_all key on above x under o) (go (on y))
  where
    go : (p : Bool) → both p false ≡ false
    go true = refl
    go false = refl

module _ {A : Type 0} (key : A → ℕ) (group on : A → Bool) (f : Forest A) (once : (m : ℕ) → times key m f ≤ 1) (n : ℕ) where
  abbrev order_of : List ℕ
  order_of = order_tree key group on f

  -- it stands in the order exactly if it runs
  stands_by : (y : Option A) → node_of key n f ≡ y → listed n (order_tree key group on f) ≡ runs key group on y (ancestors key n f)
  stands_by y e = order_runs key group on n f (once n) ∙ ap (λ (z : Option A). runs key group on z (ancestors key n f)) e

  synth-runs : (y : Option A) (l : List A) → runs key group on y l ≡ true → is_synth key group on y ≡ true
  synth-runs none l h = h
  synth-runs (some x) l h = go (group x) h
    where
      go : (p : Bool) → pick p false (both (on x) (all_on key on l)) ≡ true → not p ≡ true
      go true h = h
      go false h = refl

  silent_by : (r : Reason) → Holds key group on r n f → is_off r ≡ both (is_synth key group on (node_of key n f)) (not (listed n (order_tree key group on f)))
  silent_by NoNode h = rw h
  silent_by Group h = rw (h.1, h.2)
  silent_by Off h = let out : listed n (order_tree key group on f) ≡ false = stands_by (some h.0) h.1 ∙ rw (h.2, h.3) in rw (h.1, h.2, out)
  silent_by (AncestorOff m) h =
      let w = h.4 in
      let out : listed n (order_tree key group on f) ≡ false =
      stands_by (some h.0) h.1
      ∙ rw (h.2, h.3) (ap (λ (l : List A). all_on key on l) w.split ∙ not_all key on w.above w.ancestor w.under w.off) in
      rw (h.1, h.2, out)
  silent_by (Running k) h =
      let there : listed n (order_tree key group on f) ≡ true = ap (λ (l : List ℕ). listed n l) h.split ∙ stands_there n h.front h.back in
      let voice : is_synth key group on (node_of key n f) ≡ true = synth-runs (node_of key n f) (ancestors key n f) (sym (stands_by (node_of key n f) refl) ∙ there) in
      rw (voice, there)

  named_by : (m : ℕ) → NearestRoot key on m (ancestors key n f) → OffAbove key group on m n f
  named_by m w =
      let y = is_ancestor key n f once w.above w.ancestor w.under w.split in
      subst (λ (k : ℕ). OffAbove key group on k n f) w.named (record {
        ancestor = w.ancestor;
        found = y.itself;
        off = w.off;
        above_on = ap (λ (l : List A). all_on key on l) y.ancestors_above ∙ w.above_on;
        holds = y.holds;
      })

  pub facts : Facts key group on n f
  facts =
      let h = true_reason key group on n f (once n) in
      record {
        holds = h;
        only = one_reason key group on n f (once n);
        running = λ k e. subst (λ (r : Reason). Holds key group on r n f) e h;
        standing = λ k at. sym (one_reason key group on n f (once n) (Running k) at);
        silent = silent_by (reason key group on n f) h;
        named = λ m e. named_by m (subst (λ (r : Reason). Holds key group on r n f) e h).4;
      }
