-- What a key covers: the engine's index and width are those that the plain tree states by itself.
use Prim.{Unit, tt}
use Rattle.std.specs.Prelude.{ℕ, zero, suc, ◌+◌, ◌-◌, ◌≤◌, ◌<◌, min, Bool, true, false, ◌≡◌, refl, List, [], ◌∷◌, length, ltb, leb, eqb}
use Rattle.std.proofs.Common.{sym, ap, ap₂, ◌∙◌, arith, ltb-true, ltb-false, leb-true, le-leb, le-ltb, eq-eqb, ne_eqb}
use Rattle.std.proofs.Math.Option.{Option, none, some}
use Rattle.words.specs.Choice.{pick, both, either}
use Rattle.format.specs.Definition.{ParameterName, Definition}
use Rattle.format.specs.Reader.{same_name}
use Rattle.format.specs.Names.{Covered, first_index, next_index, cover_from}
use Rattle.format.specs.Widths.{next_most, next_above}
use Rattle.values.specs.declared.Key.{Key}
use Rattle.values.specs.declared.Key.TheVariants.{Index, Name}
use Rattle.values.specs.Controls.{ControlValue}
use Rattle.model.specs.Meaning.{cover_of, has_controls, past_width}
use Rattle.model.specs.Plain.{if_some, indices_of, first_in, asked_for, is_named, unnamed_from, width_at, up_to_width, change_from}
use Rattle.refinement.specs.RowChange.{change_clipped}

-- the index
first-index : (name : List ℕ) (names : List ParameterName) → first_in (indices_of name names) ≡ first_index name names
unfolding indices_of first_index
first-index name [] = refl
first-index name (q ∷ more) = go (same_name q.name name) (first-index name more)
  where
    go : (b : Bool) → first_in (indices_of name more) ≡ first_index name more → first_in (pick b (q.index ∷ indices_of name more) (indices_of name more)) ≡ pick b (some q.index) (first_index name more)
    go true ih = refl
    go false ih = ih

abbrev pub index_in : Option Covered → Option ℕ
index_in none = none
index_in (some c) = some c.index

pub same_start : (key : Key) (name : List ℕ) (d : Definition) → asked_for key name d ≡ index_in (cover_of key name d)
same_start (Index i) name d = refl
same_start Name name d = first-index name d.front.names ∙ go (first_index name d.front.names)
  where
    go : (o : Option ℕ) → o ≡ index_in (cover_from o (length d.front.values) d.front.names)
    go none = refl
    go (some i) = refl

-- between an index and the next there is no name
next_free : (i end : ℕ) (names : List ParameterName) (j : ℕ) → i < j → j < next_index i end names → is_named j names ≡ false
unfolding next_index is_named
next_free i end [] j h l = refl
next_free i end (q ∷ more) j h l = go (ltb i q.index) refl (ltb q.index end) refl l (λ n m. next_free i n more j h m)
  where
    go : (a : Bool) → ltb i q.index ≡ a → (b : Bool) → ltb q.index end ≡ b → j < next_index i (pick (both a b) q.index end) more
        → ((n : ℕ) → j < next_index i n more → is_named j more ≡ false) → either (eqb q.index j) (is_named j more) ≡ false
    go true x true y m ih = rw (ne_eqb q.index j (λ s. omega (arith, next_most i q.index more))) (ih q.index m)
    go true x false y m ih = rw (ne_eqb q.index j (λ s. omega (arith, ltb-false q.index end y, next_most i end more))) (ih end m)
    go false x b y m ih = rw (ne_eqb q.index j (λ s. omega (arith, ltb-false i q.index x))) (ih end m)

-- .. and the next has one, or is the end
next_met : (i end : ℕ) (names : List ParameterName) → next_index i end names < end → is_named (next_index i end names) names ≡ true
unfolding next_index is_named
next_met i end [] h = absurd (omega arith)
next_met i end (q ∷ more) h = go (both (ltb i q.index) (ltb q.index end)) h (λ n m. next_met i n more m)
  where
    right : (p r : Bool) → r ≡ true → either p r ≡ true
    right true r e = refl
    right false r e = e

    go : (b : Bool) → next_index i (pick b q.index end) more < end → ((n : ℕ) → next_index i n more < n → is_named (next_index i n more) more ≡ true)
        → either (eqb q.index (next_index i (pick b q.index end) more)) (is_named (next_index i (pick b q.index end) more) more) ≡ true
    go true m ih = at (ltb (next_index i q.index more) q.index) refl
      where
        at : (c : Bool) → ltb (next_index i q.index more) q.index ≡ c → either (eqb q.index (next_index i q.index more)) (is_named (next_index i q.index more) more) ≡ true
        at true e = right (eqb q.index (next_index i q.index more)) _ (ih q.index (ltb-true (next_index i q.index more) q.index e))
        at false e =
            let least = ltb-false (next_index i q.index more) q.index e in
            rw (eq-eqb q.index (next_index i q.index more) (omega (arith, next_most i q.index more)))
    go false m ih = right (eqb q.index (next_index i end more)) _ (ih end m)

-- so many controls without a name, up to one that has a name or to the end
unnamed_to : (names : List ParameterName) (m a left : ℕ) → a ≤ m → m ≤ a + left → ((j : ℕ) → a ≤ j → j < m → is_named j names ≡ false) → (m < a + left → is_named m names ≡ true)
    → unnamed_from a left names ≡ m - a
unfolding unnamed_from
unnamed_to names m a zero h l free met = omega arith
unnamed_to names m a (suc left) h l free met =
    go (is_named a names) refl (ltb a m) refl (λ n. unnamed_to names m (a + 1) left n (omega arith) (λ j u v. free j (omega arith) v) (λ u. met (omega arith)))
  where
    go : (b : Bool) → is_named a names ≡ b → (c : Bool) → ltb a m ≡ c → (a + 1 ≤ m → unnamed_from (a + 1) left names ≡ m - (a + 1)) → pick b 0 (suc (unnamed_from (a + 1) left names)) ≡ m - a
    go true e true u ih = let z : ◌≡◌ {A = Bool} true false = sym e ∙ free a (omega arith) (ltb-true a m u) in cc
    go true e false u ih = let w = ltb-false a m u in omega arith
    go false e true u ih = let w = ltb-true a m u in omega (arith, ih (omega arith))
    go false e false u ih =
        let w = ltb-false a m u in
        let here : m ≡ a = omega arith in
        let z : ◌≡◌ {A = Bool} false true = sym e ∙ sym (ap (λ (k : ℕ). is_named k names) here) ∙ met (omega arith) in
        cc

-- the width of an index that is a control
pub same_width : (i : ℕ) (d : Definition) → i < length d.front.values → next_index i (length d.front.values) d.front.names - i ≡ width_at i d
same_width i d h =
    let p = length d.front.values in
    let names = d.front.names in
    let above = next_above i p names h in
    let most = next_most i p names in
    let unnamed : unnamed_from (i + 1) (p - (i + 1)) names ≡ next_index i p names - (i + 1) =
    unnamed_to names (next_index i p names) (i + 1) (p - (i + 1)) (omega arith) (omega arith) (λ j u v. next_free i p names j (omega arith) v) (λ u. next_met i p names (omega arith)) in
    omega arith

-- what a key covers ends by P
abbrev pub Inside : ℕ → Option Covered → Type 0
Inside p none = Unit {0}
Inside p (some c) = c.width ≤ p - c.index

pub cover_inside : (key : Key) (name : List ℕ) (d : Definition) → Inside (length d.front.values) (cover_of key name d)
cover_inside (Index i) name d = omega arith
cover_inside Name name d = go (first_index name d.front.names)
  where
    go : (o : Option ℕ) → Inside (length d.front.values) (cover_from o (length d.front.values) d.front.names)
    go none = tt
    go (some i) = omega (arith, next_most i (length d.front.values) d.front.names)

-- a synth's controls after a change of those that are covered, count of them or as many as there are
abbrev pub change_in : (ControlValue → ControlValue) → Option Covered → ℕ → List ControlValue → List ControlValue
change_in f none count cs = cs
change_in f (some c) count cs = change_from f c.index (min count c.width) cs

pub same_change : (f : ControlValue → ControlValue) (key : Key) (name : List ℕ) (count : ℕ) (d : Definition) (cs : List ControlValue) → length cs ≡ length d.front.values
    → if_some (asked_for key name d) (λ i. change_from f i (up_to_width key i count d) cs) cs ≡ change_in f (cover_of key name d) count cs
same_change f (Index i) name count d cs many = change_clipped f i count (length d.front.values) cs many
same_change f Name name count d cs many =
    ap (λ (o : Option ℕ). if_some o (λ i. change_from f i (min count (width_at i d)) cs) cs) (first-index name names) ∙ go (first_index name names)
  where
    names : List ParameterName
    names = d.front.names

    p : ℕ
    p = length d.front.values

    -- a width reaches no further than P; past P there is nothing to change
    clipped : (i : ℕ) (b : Bool) → ltb i p ≡ b → min (min count (width_at i d)) (p - i) ≡ min count (next_index i p names - i)
    clipped i true e = let w = same_width i d (ltb-true i p e) in let most = next_most i p names in omega arith
    clipped i false e = let w = ltb-false i p e in let most = next_most i p names in omega arith

    go : (o : Option ℕ) → if_some o (λ i. change_from f i (min count (width_at i d)) cs) cs ≡ change_in f (cover_from o p names) count cs
    go none = refl
    go (some i) =
        change_clipped f i (min count (width_at i d)) p cs many ∙ ap (λ (n : ℕ). change_from f i n cs) (clipped i (ltb i p) refl)

-- the controls that are asked for are there on both sides, no more than their name covers
pub asked_there : (key : Key) (name : List ℕ) (count : ℕ) (d : Definition) (many : ℕ) → many ≡ length d.front.values
    → has_controls (cover_of key name d) count d ≡ true → past_width (cover_of key name d) count ≡ false
    → if_some (asked_for key name d) (λ i. both (leb (i + count) many) (leb count (up_to_width key i count d))) false ≡ true
asked_there (Index i) name count d many q h w = ap₂ (λ (a b : Bool). both a b) (ap (λ (m : ℕ). leb (i + count) m) q ∙ h) (le-leb count count (omega arith))
asked_there Name name count d many q h w =
    ap (λ (o : Option ℕ). if_some o (λ i. both (leb (i + count) many) (leb count (min count (width_at i d)))) false) (first-index name names) ∙ go (first_index name names) h w
  where
    names : List ParameterName
    names = d.front.names

    p : ℕ
    p = length d.front.values

    -- at P a name covers nothing, and nothing is asked for
    wide : (i : ℕ) → i + count ≤ p → count ≤ next_index i p names - i → (b : Bool) → ltb i p ≡ b → count ≤ min count (width_at i d)
    wide i l m true e = let v = same_width i d (ltb-true i p e) in omega arith
    wide i l m false e = let v = ltb-false i p e in omega arith

    go : (o : Option ℕ) → has_controls (cover_from o p names) count d ≡ true → past_width (cover_from o p names) count ≡ false
        → if_some o (λ i. both (leb (i + count) many) (leb count (min count (width_at i d)))) false ≡ true
    go none h w = h
    go (some i) h w =
        ap₂ (λ (a b : Bool). both a b) (ap (λ (m : ℕ). leb (i + count) m) q ∙ h)
        (le-leb count (min count (width_at i d)) (wide i (leb-true (i + count) p h) (ltb-false (next_index i p names - i) count w) (ltb i p) refl))

-- one control is no more than any key covers
pub one_covered : (key : Key) (name : List ℕ) (d : Definition) → has_controls (cover_of key name d) 1 d ≡ true → past_width (cover_of key name d) 1 ≡ false
one_covered (Index i) name d h = le-ltb (length d.front.values - i) 1 (omega (arith, leb-true (i + 1) (length d.front.values) h))
one_covered Name name d h = go (first_index name d.front.names) h
  where
    p : ℕ
    p = length d.front.values

    go : (o : Option ℕ) → has_controls (cover_from o p d.front.names) 1 d ≡ true → past_width (cover_from o p d.front.names) 1 ≡ false
    go none h = refl
    go (some i) h =
        let low : i + 1 ≤ p = leb-true (i + 1) p h in
        le-ltb (next_index i p d.front.names - i) 1 (omega (arith, next_above i p d.front.names (omega arith)))
