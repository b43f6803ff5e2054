-- What names mean, in the slots and in the plain tree.
use Prim.{Unit, tt}
use Rattle.std.specs.Prelude.{ℕ, suc, ◌+◌, ◌≤◌, Bool, true, false, ◌≡◌, refl, List, [], ◌∷◌, ◌++◌, length, eqb}
use Rattle.std.proofs.Common.{sym, ap, ap₂, ◌∙◌, arith, lt-ltb, eq-eqb, eqb-true}
use Rattle.std.proofs.Math.Option.{Option, none, some}
use Rattle.std.proofs.Math.Dec.{leb-suc-suc}
use Rattle.words.specs.Choice.{pick, both}
use Rattle.words.specs.ChoiceLaws.{both_true}
use Rattle.format.specs.Definition.{Definition}
use Rattle.format.specs.Reader.{same_name}
use Rattle.model.specs.Engine.{Slot, name_in, definition_in, resident_from, resident_of}
use Rattle.model.specs.Plain.{Named, meaning, undefine}
use Rattle.model.specs.Demands.{definition_at_slot}

-- names that are the same are equal
pub same_equal : (a b : List ℕ) → same_name a b ≡ true → a ≡ b
unfolding same_name
same_equal [] [] h = refl
same_equal [] (y ∷ b) h = cc
same_equal (x ∷ a) [] h = cc
same_equal (x ∷ a) (y ∷ b) h =
    let s = both_true (eqb x y) _ h in
    ap₂ (λ (z : ℕ) (l : List ℕ). z ∷ l) (eqb-true x y s.0) (same_equal a b s.1)

pub same_self : (l : List ℕ) → same_name l l ≡ true
unfolding same_name
same_self [] = refl
same_self (x ∷ l) = rw (eq-eqb x x refl) (same_self l)

-- a name that is the same as one of two equal names is the same as the other
pub same-name : (a b m : List ℕ) → same_name a b ≡ true → same_name a m ≡ same_name b m
same-name a b m h = ap (λ (l : List ℕ). same_name l m) (same_equal a b h)

pub same_sym : (a b : List ℕ) → same_name a b ≡ same_name b a
same_sym a b = go (same_name a b) (same_name b a) refl refl
  where
    go : (p q : Bool) → same_name a b ≡ p → same_name b a ≡ q → p ≡ q
    go true true h g = refl
    go true false h g = sym (same_self b) ∙ ap (λ (l : List ℕ). same_name b l) (sym (same_equal a b h)) ∙ g
    go false true h g = sym h ∙ ap (λ (l : List ℕ). same_name a l) (same_equal b a g) ∙ same_self a
    go false false h g = refl

-- 1 where a name means something
abbrev pub there : Option Definition → ℕ
there none = 0
there (some d) = 1

-- the definition that a name means, along the slots
unfoldable pub means : List ℕ → List Slot → Option Definition
means m [] = none
means m (s ∷ more) = pick (both s.resident (same_name (name_in s) m)) (some (definition_in s)) (means m more)

-- the slot that is found, from the slot k on
from_most : (k : ℕ) (m : List ℕ) (slots : List Slot) → resident_from k m slots ≤ k + length slots
unfolding resident_from
from_most k m [] = omega arith
from_most k m (s ∷ more) = go (both s.resident (same_name (name_in s) m)) (from_most (k + 1) m more)
  where
    go : (b : Bool) → resident_from (k + 1) m more ≤ k + 1 + length more → pick b k (resident_from (k + 1) m more) ≤ k + suc (length more)
    go true h = omega arith
    go false h = omega arith

from_shift : (k : ℕ) (m : List ℕ) (slots : List Slot) → resident_from (k + 1) m slots ≡ resident_from k m slots + 1
unfolding resident_from
from_shift k m [] = refl
from_shift k m (s ∷ more) = go (both s.resident (same_name (name_in s) m)) (from_shift (k + 1) m more)
  where
    go : (b : Bool) → resident_from (k + 1 + 1) m more ≡ resident_from (k + 1) m more + 1 → pick b (k + 1) (resident_from (k + 1 + 1) m more) ≡ pick b k (resident_from (k + 1) m more) + 1
    go true h = refl
    go false h = h

shifted : (s : Slot) (more : List Slot) (j : ℕ) → definition_at_slot (s ∷ more) (j + 1) ≡ definition_at_slot more j
shifted s more j =
    let e : j + 1 ≡ suc j = omega arith in
    rw (e, leb-suc-suc (suc j) (length more))

-- the resident of a name is what the name means
pub meaning_means : (m : List ℕ) (slots : List Slot) → definition_at_slot slots (resident_of m slots) ≡ means m slots
unfolding resident_from means
meaning_means m [] = refl
meaning_means m (s ∷ more) = go (both s.resident (same_name (name_in s) m)) (meaning_means m more)
  where
    go : (b : Bool) → definition_at_slot more (resident_from 0 m more) ≡ means m more
        → definition_at_slot (s ∷ more) (pick b 0 (resident_from (0 + 1) m more)) ≡ pick b (some (definition_in s)) (means m more)
    go true ih = rw (lt-ltb 0 (suc (length more)) (omega arith))
    go false ih = ap (λ (j : ℕ). definition_at_slot (s ∷ more) j) (from_shift 0 m more) ∙ shifted s more (resident_from 0 m more) ∙ ih

-- what a name means once another is forgotten: where no name stands twice, the forgotten one means nothing
unfoldable pub Once : List Named → Type 0
Once [] = Unit {0}
Once (n ∷ ms) = (meaning n.name ms ≡ none) × Once ms

-- the meaning of a name that is the same as another
pub meaning_same : (a b : List ℕ) (ms : List Named) → same_name a b ≡ true → meaning a ms ≡ meaning b ms
meaning_same a b ms h = ap (λ (l : List ℕ). meaning l ms) (same_equal a b h)

pub meaning-undefine : (a m : List ℕ) (ms : List Named) → Once ms → meaning m (undefine a ms) ≡ pick (same_name a m) none (meaning m ms)
unfolding meaning undefine Once
meaning-undefine a m [] o = go (same_name a m)
  where
    go : (b : Bool) → ◌≡◌ {A = Option Definition} none (pick b none none)
    go true = refl
    go false = refl
meaning-undefine a m (n ∷ ms) o = go (same_name n.name a) refl (same_name n.name m) refl (meaning-undefine a m ms o.1)
  where
    go : (b : Bool) → same_name n.name a ≡ b → (c : Bool) → same_name n.name m ≡ c → meaning m (undefine a ms) ≡ pick (same_name a m) none (meaning m ms)
        → meaning m (pick b ms (n ∷ undefine a ms)) ≡ pick (same_name a m) none (pick c (some n.definition) (meaning m ms))
    go true h true g ih =
        let am : same_name a m ≡ true = sym (same-name n.name a m h) ∙ g in
        rw am (sym (meaning_same n.name m ms g) ∙ o.0)
    go true h false g ih =
        let am : same_name a m ≡ false = sym (same-name n.name a m h) ∙ g in
        rw am
    go false h true g ih =
        let am : same_name a m ≡ false = ap (λ (l : List ℕ). same_name a l) (sym (same_equal n.name m g)) ∙ same_sym a n.name ∙ h in
        rw (am, g)
    go false h false g ih = rw g ih

-- a name added behind others that it is not among
pub meaning_snoc : (m : List ℕ) (ms : List Named) (n : Named) → meaning n.name ms ≡ none → meaning m (ms ++ (n ∷ [])) ≡ pick (same_name n.name m) (some n.definition) (meaning m ms)
unfolding meaning
meaning_snoc m [] n h = refl
meaning_snoc m (x ∷ ms) n h = go (λ k. meaning_snoc m ms n k) (same_name x.name m) refl (same_name x.name n.name) refl h
  where
    go : (meaning n.name ms ≡ none → meaning m (ms ++ (n ∷ [])) ≡ pick (same_name n.name m) (some n.definition) (meaning m ms))
        → (b : Bool) → same_name x.name m ≡ b → (c : Bool) → same_name x.name n.name ≡ c → pick c (some x.definition) (meaning n.name ms) ≡ none
        → pick b (some x.definition) (meaning m (ms ++ (n ∷ []))) ≡ pick (same_name n.name m) (some n.definition) (pick b (some x.definition) (meaning m ms))
    go ih b e true f k = let z : ◌≡◌ {A = ℕ} 0 1 = cc in absurd (omega arith)
    go ih true e false f k =
        let nm : same_name n.name m ≡ false = ap (λ (l : List ℕ). same_name n.name l) (sym (same_equal x.name m e)) ∙ same_sym n.name x.name ∙ f in
        rw nm
    go ih false e false f k = ih k

-- no name stands twice once one is forgotten, and once one that is not there is added
none_pick : (b : Bool) (o : Option Definition) → o ≡ none → pick b none o ≡ none
none_pick true o h = refl
none_pick false o h = h

pub once_undefine : (a : List ℕ) (ms : List Named) → Once ms → Once (undefine a ms)
unfolding Once undefine
once_undefine a [] o = tt
once_undefine a (n ∷ ms) o = go (same_name n.name a) (once_undefine a ms o.1)
  where
    go : (b : Bool) → Once (undefine a ms) → Once (pick b ms (n ∷ undefine a ms))
    go true ih = o.1
    go false ih = (meaning-undefine a n.name ms o.1 ∙ none_pick (same_name a n.name) (meaning n.name ms) o.0, ih)

pub once_snoc : (ms : List Named) (n : Named) → Once ms → meaning n.name ms ≡ none → Once (ms ++ (n ∷ []))
unfolding Once meaning
once_snoc [] n o h = (refl, tt)
once_snoc (x ∷ ms) n o h = go (same_name x.name n.name) refl h (λ k. once_snoc ms n o.1 k)
  where
    go : (c : Bool) → same_name x.name n.name ≡ c → pick c (some x.definition) (meaning n.name ms) ≡ none → (meaning n.name ms ≡ none → Once (ms ++ (n ∷ [])))
        → (meaning x.name (ms ++ (n ∷ [])) ≡ none) × Once (ms ++ (n ∷ []))
    go true e k ih = let z : ◌≡◌ {A = ℕ} 0 1 = cc in absurd (omega arith)
    go false e k ih =
        (meaning_snoc x.name ms n k ∙ ap (λ (b : Bool). pick b (some n.definition) (meaning x.name ms)) (same_sym n.name x.name ∙ e) ∙ o.0, ih k)

-- how many names are left
pub undefine_count : (a : List ℕ) (ms : List Named) → length (undefine a ms) + there (meaning a ms) ≡ length ms
unfolding undefine meaning
undefine_count a [] = refl
undefine_count a (n ∷ ms) = go (same_name n.name a) (undefine_count a ms)
  where
    go : (b : Bool) → length (undefine a ms) + there (meaning a ms) ≡ length ms → length (pick b ms (n ∷ undefine a ms)) + there (pick b (some n.definition) (meaning a ms)) ≡ suc (length ms)
    go true ih = omega arith
    go false ih = omega arith
