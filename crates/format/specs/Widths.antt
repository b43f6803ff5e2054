-- Laws of a name's width: it is at least one, it ends by P, and names of different indices cover no control in common.
use Rattle.std.specs.Prelude.{ℕ, ◌+◌, ◌-◌, ◌≤◌, ◌<◌, Bool, true, false, ◌≡◌, refl, List, [], ◌∷◌, ltb}
use Rattle.std.proofs.Common.{sym, subst, arith, ltb-true, ltb-false}
use Rattle.std.proofs.Math.Option.{Option, none, some, none-ne-some, some-injective}
use Rattle.words.specs.Choice.{pick, both}
use Rattle.words.specs.ChoiceLaws.{both_true}
use Rattle.format.specs.Definition.{ParameterName}
use Rattle.format.specs.Reader.{same_name}
use Rattle.format.specs.Bounds.{is_name, is_parameter_name, every}
use Rattle.format.specs.Names.{Covered, first_index, next_index, cover_from, covered_by}

-- the lower of an entry's index and the end, where the index is larger than i
abbrev lower : ℕ → ℕ → ℕ → ℕ
lower i end k = pick (both (ltb i k) (ltb k end)) k end

lower_most : (i end k : ℕ) → lower i end k ≤ end
lower_most i end k = go (both (ltb i k) (ltb k end)) refl
  where
    go : (b : Bool) → both (ltb i k) (ltb k end) ≡ b → pick b k end ≤ end
    go true e = omega (arith, ltb-true k end (both_true (ltb i k) (ltb k end) e).1)
    go false e = omega arith

lower-above : (i end k : ℕ) → i < end → i < lower i end k
lower-above i end k h = go (both (ltb i k) (ltb k end)) refl
  where
    go : (b : Bool) → both (ltb i k) (ltb k end) ≡ b → i < pick b k end
    go true e = ltb-true i k (both_true (ltb i k) (ltb k end) e).0
    go false e = h

lower_entry : (i end k : ℕ) → i < k → lower i end k ≤ k
lower_entry i end k h = go (ltb i k) refl (ltb k end) refl
  where
    go : (a : Bool) → ltb i k ≡ a → (b : Bool) → ltb k end ≡ b → pick (both a b) k end ≤ k
    go true x true y = omega arith
    go true x false y = ltb-false k end y
    go false x b y = absurd (let l = ltb-false i k x in omega arith)

-- the next index is at most the end
pub next_most : (i end : ℕ) (names : List ParameterName) → next_index i end names ≤ end
unfolding next_index
next_most i end [] = omega arith
next_most i end (q ∷ more) = omega (arith, next_most i (lower i end q.index) more, lower_most i end q.index)

-- .. and larger than i, where the end is
pub next_above : (i end : ℕ) (names : List ParameterName) → i < end → i < next_index i end names
unfolding next_index
next_above i end [] h = h
next_above i end (q ∷ more) h = next_above i (lower i end q.index) more (lower-above i end q.index h)

-- .. and at most every larger index that a name means
pub next_named : (i end : ℕ) (name : List ℕ) (names : List ParameterName) (j : ℕ) → first_index name names ≡ some j → i < j → next_index i end names ≤ j
unfolding next_index first_index
next_named i end name [] j e h = absurd (none-ne-some j e)
next_named i end name (q ∷ more) j e h = go (same_name q.name name) (next_named i (lower i end q.index) name more j) e
  where
    go : (b : Bool) → (first_index name more ≡ some j → i < j → next_index i (lower i end q.index) more ≤ j) → pick b (some q.index) (first_index name more) ≡ some j → next_index i (lower i end q.index) more ≤ j
    go true ih k =
        let here : q.index ≡ j = some-injective _ _ k in
        omega (arith, next_most i (lower i end q.index) more, lower_entry i end q.index (subst (λ (n : ℕ). i < n) (sym here) h))
    go false ih k = ih k h

-- a name means an index below P
pub first_below : (name : List ℕ) (p : ℕ) (names : List ParameterName) (i : ℕ) → every (is_parameter_name p) names ≡ true → first_index name names ≡ some i → i < p
unfolding first_index every
first_below name p [] i all e = absurd (none-ne-some i e)
first_below name p (q ∷ more) i all e = go (same_name q.name name) (first_below name p more i) e
  where
    parts : (is_parameter_name p q ≡ true) × (every (is_parameter_name p) more ≡ true)
    parts = both_true (is_parameter_name p q) (every (is_parameter_name p) more) all

    go : (b : Bool) → (every (is_parameter_name p) more ≡ true → first_index name more ≡ some i → i < p) → pick b (some q.index) (first_index name more) ≡ some i → i < p
    go true ih k = subst (λ (n : ℕ). n < p) (some-injective _ _ k) (ltb-true q.index p (both_true (is_name q.name) (ltb q.index p) parts.0).1)
    go false ih k = ih parts.1 k

-- a cover by its parts
pub record CoveredAt (name : List ℕ) (p : ℕ) (names : List ParameterName) (c : Covered) : Type 0 where
  pub first : first_index name names ≡ some c.index
  pub width : c.width ≡ next_index c.index p names - c.index

pub cover_parts : (name : List ℕ) (p : ℕ) (names : List ParameterName) (c : Covered) → covered_by name p names ≡ some c → CoveredAt name p names c
cover_parts name p names c e = go (first_index name names) refl e
  where
    go : (o : Option ℕ) → first_index name names ≡ o → cover_from o p names ≡ some c → CoveredAt name p names c
    go none f k = absurd (none-ne-some c k)
    go (some i) f k =
        let here : record { index = i; width = next_index i p names - i } ≡ c = some-injective _ _ k in
        subst (λ (d : Covered). CoveredAt name p names d) here (record { first = f; width = refl })

-- the width is at least 1, and index plus width at most P
pub cover_within : (name : List ℕ) (p : ℕ) (names : List ParameterName) (c : Covered) → every (is_parameter_name p) names ≡ true → covered_by name p names ≡ some c
    → (1 ≤ c.width) × (c.index + c.width ≤ p)
cover_within name p names c all e =
    let at = cover_parts name p names c e in
    let low = first_below name p names c.index all at.first in
    let above = next_above c.index p names low in
    let most = next_most c.index p names in
    (omega (arith, at.width), omega (arith, at.width))

-- whether a control is covered
abbrev pub Covers : Covered → ℕ → Type 0
Covers c k = (c.index ≤ k) × (k < c.index + c.width)

-- two names of different indices never cover the same control
pub cover-apart : (a b : List ℕ) (p : ℕ) (names : List ParameterName) (c d : Covered) → covered_by a p names ≡ some c → covered_by b p names ≡ some d
    → (c.index ≡ d.index → ⊥) → (k : ℕ) → Covers c k → Covers d k → ⊥
cover-apart a b p names c d e f other k x y = go (ltb c.index d.index) refl (ltb d.index c.index) refl
  where
    first : CoveredAt a p names c
    first = cover_parts a p names c e

    second : CoveredAt b p names d
    second = cover_parts b p names d f

    go : (l : Bool) → ltb c.index d.index ≡ l → (m : Bool) → ltb d.index c.index ≡ m → ⊥
    go true l m h = let n = next_named c.index p b names d.index second.first (ltb-true c.index d.index l) in let w = first.width in let u = x.1 in let v = y.0 in omega arith
    go false l true h = let n = next_named d.index p a names c.index first.first (ltb-true d.index c.index h) in let w = second.width in let u = y.1 in let v = x.0 in omega arith
    go false l false h = let u = ltb-false c.index d.index l in let v = ltb-false d.index c.index h in other (omega arith)
