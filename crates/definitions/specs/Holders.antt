-- The slots that live synths hold, as a list of 32 tests beside the nodes.
use Rattle.std.specs.Prelude.{ℕ, zero, suc, ◌+◌, ◌*◌, ◌≤◌, ◌<◌, Bool, true, false, ◌≡◌, length, drop, get_or, set, eqb}
use Rattle.std.proofs.Math.Path.{refl, ap, subst}
use Rattle.std.proofs.Common.{sym, ◌∙◌, arith, add-zero, get_or-set_same, get_or-set_other, eq-eqb, ne_eqb, eqb-true}
use mathlib.Core.List.{List, [], ◌∷◌}
use Rattle.std.proofs.lemmas.Bool.{eqb-false}
use Rattle.words.specs.Choice.{pick, either}
use Rattle.nodes.specs.declared.Node.{Node}
use Rattle.nodes.specs.Table.{width, rows, slot_field}
use Rattle.nodes.specs.TableLaws.{rows_end, row-from}
use Rattle.model.specs.Layout.{slot_count}
use Rattle.model.specs.Engine.{Slot, held}
use Rattle.model.specs.Formed.{slots_formed}
use Rattle.model.specs.Checks.{staying}
use Rattle.model.specs.Effects.{free_from}

-- the tests tell which slots the live synths hold
pub record HeldBy (tests : List Bool) (t : List Node) : Type 0 where
  pub size : length tests ≡ slot_count
  pub each : (k : ℕ) → k < slot_count → get_or tests k false ≡ held k t

-- a table of synths that hold just the slots fact
abbrev pub holder : ℕ → Node
holder k = record { number = 0; depth = 0; run = 0; slot = k; row = 0 }

unfoldable pub holders_from : ℕ → List Bool → List Node
holders_from k [] = []
holders_from k (b ∷ tests) = pick b (holder k ∷ holders_from (k + 1) tests) (holders_from (k + 1) tests)

abbrev pub holders : List Bool → List Node
holders tests = holders_from 0 tests

-- two tables whose synths hold the same slots
abbrev pub SameHeld : List Node → List Node → Type 0
SameHeld t u = (k : ℕ) → k < slot_count → held k t ≡ held k u

held_before : (n k : ℕ) (tests : List Bool) → n < k → held n (holders_from k tests) ≡ false
unfolding holders_from held
held_before n k [] h = refl
held_before n k (true ∷ tests) h = rw (ne_eqb k n (λ e. omega arith)) (held_before n (k + 1) tests (omega arith))
held_before n k (false ∷ tests) h = held_before n (k + 1) tests (omega arith)

held_from : (k : ℕ) (tests : List Bool) (j : ℕ) → held (k + j) (holders_from k tests) ≡ get_or tests j false
unfolding holders_from held
held_from k [] j = refl
held_from k (true ∷ tests) zero = rw (eq-eqb k (k + 0) (omega arith))
held_from k (false ∷ tests) zero = rw add-zero (held_before k (k + 1) tests (omega arith))
held_from k (true ∷ tests) (suc j) =
    let next : k + suc j ≡ k + 1 + j = omega arith in
    rw (ne_eqb k (k + suc j) (λ e. omega arith)) (subst (λ (m : ℕ). held m (holders_from (k + 1) tests) ≡ get_or tests j false) (sym next) (held_from (k + 1) tests j))
held_from k (false ∷ tests) (suc j) =
    let next : k + suc j ≡ k + 1 + j = omega arith in
    subst (λ (m : ℕ). held m (holders_from (k + 1) tests) ≡ get_or tests j false) (sym next) (held_from (k + 1) tests j)

pub held-holders : (tests : List Bool) (k : ℕ) → held k (holders tests) ≡ get_or tests k false
held-holders tests k =
    let here : 0 + k ≡ k = omega arith in
    ap (λ (j : ℕ). held j (holders tests)) (sym here) ∙ held_from 0 tests k

-- what is fact of the holders is fact of the nodes
pub same_held : {tests : List Bool} {t : List Node} → HeldBy tests t → SameHeld (holders tests) t
same_held {tests} h k less = held-holders tests k ∙ h.each k less

module _ (t u : List Node) (same : SameHeld t u) where
  pub free-held : (k : ℕ) (slots : List Slot) → k + length slots ≤ slot_count → free_from k slots t ≡ free_from k slots u
  unfolding free_from
  free-held k [] h = refl
  free-held k (s ∷ more) h = rw (same k (omega arith), free-held (k + 1) more (omega arith))

  pub staying-held : (k : ℕ) (names : List (List ℕ)) (slots : List Slot) → k + length slots ≤ slot_count → staying k names slots t ≡ staying k names slots u
  unfolding staying
  staying-held k names [] h = refl
  staying-held k names (s ∷ more) h = rw (same k (omega arith), staying-held (k + 1) names more (omega arith))

  pub formed_held : (k : ℕ) (sizes : List ℕ) (slots : List Slot) → k + length slots ≤ slot_count → slots_formed k sizes slots t ≡ slots_formed k sizes slots u
  unfolding slots_formed
  formed_held k sizes [] h = refl
  formed_held k sizes (s ∷ more) h = rw (same k (omega arith), formed_held (k + 1) (drop 1 sizes) more (omega arith))

-- the tests found along the first n records of the words us: one step, and the end
module _ (n : ℕ) (us : List ℕ) where
  pub held_turn : (k i : ℕ) → i < n → held k (drop i (rows n us)) ≡ either (eqb (get_or us (width * i + slot_field) 0) k) (held k (drop (i + 1) (rows n us)))
  unfolding held
  held_turn k i h = ap (λ (l : List Node). held k l) (row-from n us i h)

  pub held_end : (k i : ℕ) → n ≤ i → held k (drop i (rows n us)) ≡ false
  unfolding held
  held_end k i h = ap (λ (l : List Node). held k l) (rows_end n us i h)

-- a slot met: its test is set
pub held-set : (tests : List Bool) (slot k : ℕ) (rest : Bool) → slot < length tests → either (get_or (set tests slot true) k false) rest ≡ either (get_or tests k false) (either (eqb slot k) rest)
held-set tests slot k rest h = by (eqb slot k) refl
  where
    or_true : (b : Bool) → either b true ≡ true
    or_true true = refl
    or_true false = refl

    by : (b : Bool) → eqb slot k ≡ b → either (get_or (set tests slot true) k false) rest ≡ either (get_or tests k false) (either b rest)
    by true e =
        let same : slot ≡ k = eqb-true slot k e in
        rw (← same, get_or-set_same tests slot true false h) (sym (or_true (get_or tests slot false)))
    by false e = rw (get_or-set_other tests slot k true false (λ q. eqb-false slot k e (sym q)))

-- a slot word that is no slot's
pub held_skip : (slot k : ℕ) (rest : Bool) → slot_count ≤ slot → k < slot_count → either (eqb slot k) rest ≡ rest
held_skip slot k rest h less = rw (ne_eqb slot k (λ e. omega arith))
