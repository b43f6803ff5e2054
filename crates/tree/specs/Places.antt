-- Places and ends of runs in a table that has been parted, and in one without a run.
use Rattle.std.specs.Prelude.{ℕ, zero, suc, ◌+◌, ◌-◌, ◌≤◌, ◌<◌, Bool, true, false, ◌≡◌, refl, List, [], ◌∷◌, ◌++◌, length, take, drop, ltb, leb, eqb}
use Rattle.std.proofs.Common.{sym, ap, ◌∙◌, arith, zero-add, ltb-true, ltb-false, le-leb}
use Rattle.std.proofs.lemmas.Bool.{lt-leb}
use Rattle.words.specs.Choice.{pick}
use Rattle.nodes.specs.declared.Node.{Node}
use Rattle.nodes.specs.Place.{place, deeper}
use Rattle.nodes.specs.PlaceLaws.{nested}

-- the place of a number that stands in the front
pub place_front : (n k : ℕ) (l z : List Node) → place n l < k → k ≤ length l → place n (take k l ++ z) ≡ place n l
unfolding place
place_front n zero l z h g = absurd (omega arith)
place_front n (suc k) [] z h g = absurd (omega arith)
place_front n (suc k) (r ∷ l) z h g = go (place_front n k l z) (eqb r.number n) h
  where
    go : (place n l < k → k ≤ length l → place n (take k l ++ z) ≡ place n l) → (b : Bool) → pick b 0 (suc (place n l)) < suc k → pick b 0 (suc (place n (take k l ++ z))) ≡ pick b 0 (suc (place n l))
    go ih true q = refl
    go ih false q = ap suc (ih (omega arith) (omega arith))

-- the place of a number that stands behind the front
pub place_behind : (n k : ℕ) (l z : List Node) → k ≤ place n l → k ≤ length l → place n (take k l ++ z) ≡ k + place n z
unfolding place
place_behind n zero l z h g = sym (zero-add (place n z))
place_behind n (suc k) [] z h g = absurd (omega arith)
place_behind n (suc k) (r ∷ l) z h g = go (place_behind n k l z) (eqb r.number n) h
  where
    go : (k ≤ place n l → k ≤ length l → place n (take k l ++ z) ≡ k + place n z) → (b : Bool) → suc k ≤ pick b 0 (suc (place n l)) → pick b 0 (suc (place n (take k l ++ z))) ≡ suc k + place n z
    go ih true q = absurd (omega arith)
    go ih false q = let e = ih (omega arith) (omega arith) in omega arith

pub place_drop : (n k : ℕ) (l : List Node) → k ≤ place n l → k ≤ length l → place n l ≡ k + place n (drop k l)
unfolding place
place_drop n zero l h g = sym (zero-add (place n l))
place_drop n (suc k) [] h g = absurd (omega arith)
place_drop n (suc k) (r ∷ l) h g = go (place_drop n k l) (eqb r.number n) h
  where
    go : (k ≤ place n l → k ≤ length l → place n l ≡ k + place n (drop k l)) → (b : Bool) → suc k ≤ pick b 0 (suc (place n l)) → pick b 0 (suc (place n l)) ≡ suc k + place n (drop k l)
    go ih true q = absurd (omega arith)
    go ih false q = let e = ih (omega arith) (omega arith) in omega arith

-- a run of deeper records that ends in the front
pub deeper_front : (d k : ℕ) (l z : List Node) → deeper d l < k → k ≤ length l → deeper d (take k l ++ z) ≡ deeper d l
unfolding deeper
deeper_front d zero l z h g = absurd (omega arith)
deeper_front d (suc k) [] z h g = absurd (omega arith)
deeper_front d (suc k) (r ∷ l) z h g = go (deeper_front d k l z) (ltb d r.depth) h
  where
    go : (deeper d l < k → k ≤ length l → deeper d (take k l ++ z) ≡ deeper d l) → (b : Bool) → pick b (suc (deeper d l)) 0 < suc k → pick b (suc (deeper d (take k l ++ z))) 0 ≡ pick b (suc (deeper d l)) 0
    go ih true q = ap suc (ih (omega arith) (omega arith))
    go ih false q = refl

-- one that goes past it
pub deeper_behind : (d k : ℕ) (l z : List Node) → k ≤ deeper d l → deeper d (take k l ++ z) ≡ k + deeper d z
unfolding deeper
deeper_behind d zero l z h = sym (zero-add (deeper d z))
deeper_behind d (suc k) [] z h = absurd (omega arith)
deeper_behind d (suc k) (r ∷ l) z h = go (deeper_behind d k l z) (ltb d r.depth) h
  where
    go : (k ≤ deeper d l → deeper d (take k l ++ z) ≡ k + deeper d z) → (b : Bool) → suc k ≤ pick b (suc (deeper d l)) 0 → pick b (suc (deeper d (take k l ++ z))) 0 ≡ suc k + deeper d z
    go ih true q = let e = ih (omega arith) in omega arith
    go ih false q = absurd (omega arith)

pub deeper-drop : (d k : ℕ) (l : List Node) → k ≤ deeper d l → deeper d l ≡ k + deeper d (drop k l)
unfolding deeper
deeper-drop d zero l h = sym (zero-add (deeper d l))
deeper-drop d (suc k) [] h = absurd (omega arith)
deeper-drop d (suc k) (r ∷ l) h = go (deeper-drop d k l) (ltb d r.depth) h
  where
    go : (k ≤ deeper d l → deeper d l ≡ k + deeper d (drop k l)) → (b : Bool) → suc k ≤ pick b (suc (deeper d l)) 0 → pick b (suc (deeper d l)) 0 ≡ suc k + deeper d (drop k l)
    go ih true q = let e = ih (omega arith) in omega arith
    go ih false q = absurd (omega arith)

-- every record of a run is deeper
pub deeper_all : (d k : ℕ) (l : List Node) (r : Node) (rest : List Node) → k < deeper d l → drop k l ≡ r ∷ rest → d < r.depth
unfolding deeper
deeper_all d k l r rest h e = go (ltb d r.depth) refl
  where
    left : deeper d l ≡ k + pick (ltb d r.depth) (suc (deeper d rest)) 0
    left = deeper-drop d k l (omega arith) ∙ ap (λ (m : List Node). k + deeper d m) e

    go : (b : Bool) → ltb d r.depth ≡ b → d < r.depth
    go true q = ltb-true d r.depth q
    go false q = let none : deeper d l ≡ k + 0 = left ∙ ap (λ (b : Bool). k + pick b (suc (deeper d rest)) 0) q in absurd (omega arith)

-- what follows a run is no deeper than the run's first record, whose depth is d
pub deeper_past : (d e : ℕ) (l : List Node) → d ≤ e → deeper e (drop (deeper d l) l) ≡ 0
deeper_past d e l h =
    let z = drop (deeper d l) l in
    let none : deeper d z ≡ 0 = omega (arith, nested d d l (omega arith)) in
    omega (arith, nested d e z h)

-- a run of deeper records in a list without the run of a record r at the place k, counted from the place j
pub deeper-without : (d j k : ℕ) (l : List Node) (r : Node) (rest : List Node) → k ≤ length l → drop k l ≡ r ∷ rest
    → j + deeper d (take k l ++ drop (deeper r.depth rest) rest) ≡ pick (leb (j + deeper d l) (j + k)) (j + deeper d l) (j + deeper d l - suc (deeper r.depth rest))
unfolding deeper
deeper-without d j k l r rest h e = go (ltb (deeper d l) k) refl (ltb d r.depth) refl
  where
    z : List Node
    z = drop (deeper r.depth rest) rest

    go : (b : Bool) → ltb (deeper d l) k ≡ b → (a : Bool) → ltb d r.depth ≡ a → j + deeper d (take k l ++ z) ≡ pick (leb (j + deeper d l) (j + k)) (j + deeper d l) (j + deeper d l - suc (deeper r.depth rest))
    go true q a p =
        let less = ltb-true (deeper d l) k q in
        rw (le-leb (j + deeper d l) (j + k) (omega arith)) (ap (λ (i : ℕ). j + i) (deeper_front d k l z less h))
    go false q true p =
        let more = ltb-false (deeper d l) k q in
        let below = ltb-true d r.depth p in
        let on : deeper d l ≡ k + suc (deeper d rest) = deeper-drop d k l more ∙ ap (λ (m : List Node). k + deeper d m) e ∙ ap (λ (b : Bool). k + pick b (suc (deeper d rest)) 0) p in
        rw (lt-leb (j + deeper d l) (j + k) (omega arith)) (omega (arith, deeper_behind d k l z more, nested d r.depth rest (omega arith)))
    go false q false p =
        let more = ltb-false (deeper d l) k q in
        let beside = ltb-false d r.depth p in
        let on : deeper d l ≡ k + 0 = deeper-drop d k l more ∙ ap (λ (m : List Node). k + deeper d m) e ∙ ap (λ (b : Bool). k + pick b (suc (deeper d rest)) 0) p in
        rw (le-leb (j + deeper d l) (j + k) (omega arith)) (omega (arith, deeper_behind d k l z more, deeper_past r.depth d rest beside))
