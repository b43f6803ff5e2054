-- Residents' names differ after slots are retired, and after a definition is put into a slot that is not resident.
use Rattle.std.specs.Prelude.{ℕ, zero, suc, ◌<◌, Bool, true, false, not, ◌≡◌, refl, List, [], ◌∷◌, length, set}
use Rattle.std.proofs.Common.{sym, ap, ap₂, ◌∙◌, arith}
use Rattle.std.proofs.lemmas.Bool.{not-true}
use Rattle.words.specs.Choice.{pick, both, either}
use Rattle.words.specs.ChoiceLaws.{both_true, either_false}
use Rattle.format.specs.Reader.{read_definition, same_name, among}
use Rattle.model.specs.Engine.{Slot, no_definition, value_or, name_in, slot_at}
use Rattle.model.specs.Effects.{retired}
use Rattle.model.specs.Formed.{name_resident, names_apart}
use Rattle.refinement.specs.Names.{same_equal, same_sym}
use Rattle.refinement.specs.Follow.{AllLess}

-- a slot's name, by its bytes
abbrev name_by : List ℕ → List ℕ
name_by bytes = (value_or no_definition (read_definition bytes 0)).front.name

both_less : (p q c : Bool) → (p ≡ true → q ≡ true) → both q c ≡ false → both p c ≡ false
both_less false q c f h = refl
both_less true true c f h = h
both_less true false c f h = let z : ◌≡◌ {A = Bool} false true = f refl in cc

-- a name that no resident had, none has after some are retired
less_named : (m : List ℕ) (slots old : List Slot) → AllLess slots old → name_resident m old ≡ false → name_resident m slots ≡ false
unfolding AllLess name_resident
less_named m [] [] f h = refl
less_named m [] (o ∷ old) f h = absurd f
less_named m (s ∷ more) [] f h = absurd f
less_named m (s ∷ more) (o ∷ old) f h =
    let w = either_false (both o.resident (same_name (name_in o) m)) (name_resident m old) h in
    ap₂ (λ (a b : Bool). either a b)
    (ap (λ (l : List ℕ). both s.resident (same_name (name_by l) m)) f.0.0 ∙ both_less s.resident o.resident (same_name (name_in o) m) f.0.1 w.0)
    (less_named m more old f.1 w.1)

pub less_apart : (slots old : List Slot) → AllLess slots old → names_apart old ≡ true → names_apart slots ≡ true
unfolding AllLess names_apart
less_apart [] [] f h = refl
less_apart [] (o ∷ old) f h = absurd f
less_apart (s ∷ more) [] f h = absurd f
less_apart (s ∷ more) (o ∷ old) f h =
    let w = both_true (pick o.resident (not (name_resident (name_in o) old)) true) (names_apart old) h in
    ap₂ (λ (a b : Bool). both a b) (go s.resident refl w.0) (less_apart more old f.1 w.1)
  where
    go : (p : Bool) → s.resident ≡ p → pick o.resident (not (name_resident (name_in o) old)) true ≡ true → pick p (not (name_resident (name_in s) more)) true ≡ true
    go false e k = refl
    go true e k =
        let alone : name_resident (name_in o) old ≡ false = not-true (name_resident (name_in o) old) (ap (λ (b : Bool). pick b (not (name_resident (name_in o) old)) true) (sym (f.0.1 e)) ∙ k) in
        ap (λ (l : List ℕ). not (name_resident (name_by l) more)) f.0.0 ∙ ap not (less_named (name_in o) more old f.1 alone)

-- "A load first retires residents whose names are in the file": no resident has such a name after
pub retired_named : (m : List ℕ) (names : List (List ℕ)) (slots : List Slot) → among m names ≡ true → name_resident m (retired names slots) ≡ false
unfolding retired name_resident
retired_named m names [] h = refl
retired_named m names (s ∷ more) h = ap₂ (λ (a b : Bool). either a b) (go s.resident (same_name (name_in s) m) refl) (retired_named m names more h)
  where
    go : (p c : Bool) → same_name (name_in s) m ≡ c → both (both p (not (among (name_in s) names))) c ≡ false
    go false c e = refl
    go true true e = ap (λ (l : List ℕ). both (not (among l names)) true) (same_equal (name_in s) m e) ∙ ap (λ (b : Bool). both (not b) true) h
    go true false e = none (not (among (name_in s) names))
      where
        none : (b : Bool) → both b false ≡ false
        none true = refl
        none false = refl

-- a resident put into a slot that is not resident
pub named_set : (m : List ℕ) (slots : List Slot) (j : ℕ) (x : Slot) → j < length slots → (slot_at slots j).resident ≡ false → x.resident ≡ true
    → name_resident m (set slots j x) ≡ either (same_name (name_in x) m) (name_resident m slots)
unfolding name_resident
named_set m [] j x h r t = absurd (omega arith)
named_set m (s ∷ more) zero x h r t = rw (t, r)
named_set m (s ∷ more) (suc j) x h r t = go (both s.resident (same_name (name_in s) m)) (same_name (name_in x) m) (named_set m more j x (omega arith) r t)
  where
    go : (p c : Bool) → name_resident m (set more j x) ≡ either c (name_resident m more) → either p (name_resident m (set more j x)) ≡ either c (either p (name_resident m more))
    go true true ih = refl
    go true false ih = refl
    go false c ih = ih

pub apart-set : (slots : List Slot) (j : ℕ) (x : Slot) → j < length slots → (slot_at slots j).resident ≡ false → x.resident ≡ true → name_resident (name_in x) slots ≡ false
    → names_apart slots ≡ true → names_apart (set slots j x) ≡ true
unfolding name_resident names_apart
apart-set [] j x h r t n k = absurd (omega arith)
apart-set (s ∷ more) zero x h r t n k =
    let w = either_false (both s.resident (same_name (name_in s) (name_in x))) (name_resident (name_in x) more) n in
    let v = both_true (pick s.resident (not (name_resident (name_in s) more)) true) (names_apart more) k in
    rw (t, w.1) v.1
apart-set (s ∷ more) (suc j) x h r t n k =
    let w = either_false (both s.resident (same_name (name_in s) (name_in x))) (name_resident (name_in x) more) n in
    let v = both_true (pick s.resident (not (name_resident (name_in s) more)) true) (names_apart more) k in
    ap₂ (λ (a b : Bool). both a b) (go s.resident w.0 v.0) (apart-set more j x (omega arith) r t w.1 v.1)
  where
    go : (p : Bool) → both p (same_name (name_in s) (name_in x)) ≡ false → pick p (not (name_resident (name_in s) more)) true ≡ true → pick p (not (name_resident (name_in s) (set more j x))) true ≡ true
    go false e g = refl
    go true e g =
        ap not (named_set (name_in s) more j x (omega arith) r t)
        ∙ ap (λ (b : Bool). not (either b (name_resident (name_in s) more))) (same_sym (name_in x) (name_in s) ∙ e)
        ∙ g
