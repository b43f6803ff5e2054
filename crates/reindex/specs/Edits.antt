-- Edits of the table by places: where each takes the nodes, and which it leaves.
use Rattle.std.specs.Prelude.{ℕ, ◌+◌, ◌-◌, ◌≤◌, ◌<◌, Bool, true, false, ◌≡◌, refl, List, [], ◌∷◌, ◌++◌, length, take, drop, get_or, ltb}
use Rattle.std.proofs.Common.{sym, ap, ◌∙◌, arith, ltb-true, ltb-false, lt-ltb, le-ltb, length-append, length-drop, get_or-take, get_or-drop, get_or-append-add, length-take-le}
use Rattle.std.proofs.Math.ListN.{get_or-append}
use Rattle.words.specs.Choice.{pick}
use Rattle.nodes.specs.declared.Node.{Node}
use Rattle.nodes.specs.Place.{lives}
use Rattle.nodes.specs.Table.{numbers}
use Rattle.index.specs.Index.{number_at}
use Rattle.reindex.specs.declared.edit.Edit.{Edit}
use Rattle.reindex.specs.declared.edit.Edit.TheVariants.{Cut, Put, Swap}
use Rattle.reindex.specs.Numbers.{numbers_length}
use Rattle.reindex.specs.Follow.{gone, Carries, PlaceOfNode}

-- the new place of a node: the nodes from one place up to another gone, and `by` new ones there
abbrev pub closed : ℕ → ℕ → ℕ → ℕ → ℕ
closed from to by p = pick (ltb p from) p (pick (ltb p to) gone (p - (to - from) + by))

-- two runs exchanged, from a up to b and on up to c
abbrev pub swapped : ℕ → ℕ → ℕ → ℕ → ℕ
swapped a b c p = pick (ltb p a) p (pick (ltb p b) (p + (c - b)) (pick (ltb p c) (p - (b - a)) p))

abbrev pub new_place : Edit → ℕ → ℕ
new_place (Cut from to) p = closed from to 0 p
new_place (Put from to) p = closed from to 1 p
new_place (Swap a b c) p = swapped a b c p

-- places in order, of a table of so many nodes, of which at most 256 are there after
abbrev pub Bounded : Edit → ℕ → Type 0
Bounded (Cut from to) count = (from ≤ to) × (to ≤ count)
Bounded (Put from to) count = (from ≤ to) × ((to ≤ count) × (count < gone + (to - from)))
Bounded (Swap a b c) count = (a ≤ b) × ((b ≤ c) × (c ≤ count))

-- in the run a node is gone
pub closed_gone : (from to by p : ℕ) → from ≤ p → p < to → closed from to by p ≡ gone
closed_gone from to by p h k = rw (le-ltb p from h, lt-ltb p to k)

-- beside it, where there is room, none is
pub closed_low : (from to by p : ℕ) → p + by < gone → (from ≤ p → p < to → ⊥) → closed from to by p < gone
closed_low from to by p low out = go (ltb p from) refl (ltb p to) refl
  where
    go : (u : Bool) → ltb p from ≡ u → (v : Bool) → ltb p to ≡ v → pick u p (pick v gone (p - (to - from) + by)) < gone
    go true e v f = omega arith
    go false e true f = absurd (out (ltb-false p from e) (ltb-true p to f))
    go false e false f = omega arith

-- an exchange keeps places below 256
pub swapped_low : (a b c p : ℕ) → a ≤ b → b ≤ c → c ≤ gone → p < gone → swapped a b c p < gone
swapped_low a b c p first second end low = go (ltb p a) (ltb p b) refl (ltb p c)
  where
    go : (u v : Bool) → ltb p b ≡ v → (w : Bool) → pick u p (pick v (p + (c - b)) (pick w (p - (b - a)) p)) < gone
    go true v f w = low
    go false true f w = omega (arith, ltb-true p b f)
    go false false f true = omega arith
    go false false f false = low

-- what an edit does to a table's numbers: those of a run replaced
pub record Replaced (from to : ℕ) (xs : List ℕ) (t s : List Node) : Type 0 where
  pub order : from ≤ to
  pub end : to ≤ length t
  pub left : numbers s ≡ take from (numbers t) ++ (xs ++ drop to (numbers t))

-- by one that did not live
pub record OneNew (from to : ℕ) (t s : List Node) : Type 0 where
  pub number : ℕ
  pub replaced : Replaced from to (number ∷ []) t s
  pub fresh : lives number t ≡ false

-- two runs exchanged
pub record Exchanged (a b c : ℕ) (t s : List Node) : Type 0 where
  pub first : a ≤ b
  pub second : b ≤ c
  pub end : c ≤ length t
  pub left : numbers s ≡ take a (numbers t) ++ (take (c - b) (drop b (numbers t)) ++ (take (b - a) (drop a (numbers t)) ++ drop c (numbers t)))

abbrev pub Does : Edit → List Node → List Node → Type 0
Does (Cut from to) t s = Replaced from to [] t s
Does (Put from to) t s = OneNew from to t s
Does (Swap a b c) t s = Exchanged a b c t s

-- an item of two runs, one behind the other
in_first : (xs ys : List ℕ) (n q : ℕ) → length xs ≡ n → q < n → get_or (xs ++ ys) q 0 ≡ get_or xs q 0
in_first xs ys n q e h = get_or-append xs ys 0 q (omega arith)

in_second : (xs ys : List ℕ) (n q k : ℕ) → length xs ≡ n → q ≡ n + k → get_or (xs ++ ys) q 0 ≡ get_or ys k 0
in_second xs ys n q k e h =
    let at : q ≡ length xs + k = omega arith in
    ap (λ (j : ℕ). get_or (xs ++ ys) j 0) at ∙ get_or-append-add xs ys k 0

-- a run replaced
module _ (from to : ℕ) (xs : List ℕ) (t s : List Node) (r : Replaced from to xs t s) where
  abbrev ks : List ℕ
  ks = numbers t

  abbrev by : ℕ
  by = length xs

  many : length ks ≡ length t
  many = numbers_length t

  front-size : length (take from ks) ≡ from
  front-size = length-take-le from ks (omega (arith, many, r.order, r.end))

  pub replaced_size : length s ≡ from + by + (length t - to)
  replaced_size =
      sym (numbers_length s)
      ∙ ap (λ (l : List ℕ). length l) r.left
      ∙ length-append (take from ks) (xs ++ drop to ks)
      ∙ omega (arith, front-size, length-append xs (drop to ks), length-drop to ks, many)

  at_front : (q : ℕ) → q < from → number_at (numbers s) q ≡ number_at ks q
  at_front q h =
      ap (λ (l : List ℕ). get_or l q 0) r.left
      ∙ in_first (take from ks) (xs ++ drop to ks) from q front-size h
      ∙ get_or-take from ks q 0 h

  at_back : (q : ℕ) → to ≤ q → number_at (numbers s) (q - (to - from) + by) ≡ number_at ks q
  at_back q h =
      let order = r.order in
      let back : to + (q - to) ≡ q = omega arith in
      ap (λ (l : List ℕ). get_or l (q - (to - from) + by) 0) r.left
      ∙ in_second (take from ks) (xs ++ drop to ks) from (q - (to - from) + by) (by + (q - to)) front-size (omega arith)
      ∙ in_second xs (drop to ks) by (by + (q - to)) (q - to) refl refl
      ∙ get_or-drop to ks (q - to) 0
      ∙ ap (λ (j : ℕ). get_or ks j 0) back

  -- the first of those put in
  pub at_new : 0 < by → number_at (numbers s) from ≡ get_or xs 0 0
  at_new h =
      ap (λ (l : List ℕ). get_or l from 0) r.left
      ∙ in_second (take from ks) (xs ++ drop to ks) from from 0 front-size (omega arith)
      ∙ in_first xs (drop to ks) by 0 refl h

  pub replaced_carries : length s ≤ gone → Carries (closed from to by) t s
  replaced_carries few = record {
    few = few;
    live = λ p h k. live p h (ltb p from) refl (ltb p to) refl k;
    same = λ p h k. same p h (ltb p from) refl (ltb p to) refl k;
  }
    where
      live : (p : ℕ) → p < length t → (b : Bool) → ltb p from ≡ b → (d : Bool) → ltb p to ≡ d
          → pick b p (pick d gone (p - (to - from) + by)) < gone → pick b p (pick d gone (p - (to - from) + by)) < length s
      live p h true e d f k = omega (arith, ltb-true p from e, replaced_size)
      live p h false e true f k = absurd (omega arith)
      live p h false e false f k = omega (arith, ltb-false p to f, replaced_size, r.order, r.end)

      same : (p : ℕ) → p < length t → (b : Bool) → ltb p from ≡ b → (d : Bool) → ltb p to ≡ d
          → pick b p (pick d gone (p - (to - from) + by)) < gone → number_at (numbers s) (pick b p (pick d gone (p - (to - from) + by))) ≡ number_at ks p
      same p h true e d f k = at_front p (ltb-true p from e)
      same p h false e true f k = absurd (omega arith)
      same p h false e false f k = at_back p (ltb-false p to f)

  -- those beside the new ones were there
  pub came_front : (q : ℕ) → q < from → PlaceOfNode (closed from to by) t q
  came_front q h = record { from = q; live = omega (arith, r.order, r.end); here = rw (lt-ltb q from h) }

  pub came_back : (q : ℕ) → q < length s → from + by ≤ q → PlaceOfNode (closed from to by) t q
  came_back q h k =
      let p = q - by + (to - from) in
      let order = r.order in
      let past : to ≤ p = omega arith in
      let there : p - (to - from) + by ≡ q = omega arith in
      record { from = p; live = omega (arith, replaced_size, r.end); here = rw (le-ltb p from (omega arith), le-ltb p to past) there }

-- two runs exchanged
module _ (a b c : ℕ) (t s : List Node) (x : Exchanged a b c t s) where
  abbrev ms : List ℕ
  ms = numbers t

  total : length ms ≡ length t
  total = numbers_length t

  abbrev low : List ℕ
  low = take (b - a) (drop a ms)

  abbrev high : List ℕ
  high = take (c - b) (drop b ms)

  head-size : length (take a ms) ≡ a
  head-size = length-take-le a ms (omega (arith, total, x.first, x.second, x.end))

  low_size : length low ≡ b - a
  low_size = length-take-le (b - a) (drop a ms) (omega (arith, length-drop a ms, total, x.first, x.second, x.end))

  high_size : length high ≡ c - b
  high_size = length-take-le (c - b) (drop b ms) (omega (arith, length-drop b ms, total, x.first, x.second, x.end))

  pub exchanged_size : length s ≡ length t
  exchanged_size =
      sym (numbers_length s)
      ∙ ap (λ (l : List ℕ). length l) x.left
      ∙ length-append (take a ms) (high ++ (low ++ drop c ms))
      ∙ omega (arith, head-size, length-append high (low ++ drop c ms), length-append low (drop c ms), low_size, high_size, length-drop c ms, total, x.first, x.second, x.end)

  at-head : (p : ℕ) → p < a → number_at (numbers s) p ≡ number_at ms p
  at-head p h =
      ap (λ (l : List ℕ). get_or l p 0) x.left
      ∙ in_first (take a ms) (high ++ (low ++ drop c ms)) a p head-size h
      ∙ get_or-take a ms p 0 h

  at_low : (p : ℕ) → a ≤ p → p < b → number_at (numbers s) (p + (c - b)) ≡ number_at ms p
  at_low p h k =
      let back : a + (p - a) ≡ p = omega arith in
      ap (λ (l : List ℕ). get_or l (p + (c - b)) 0) x.left
      ∙ in_second (take a ms) (high ++ (low ++ drop c ms)) a (p + (c - b)) (c - b + (p - a)) head-size (omega arith)
      ∙ in_second high (low ++ drop c ms) (c - b) (c - b + (p - a)) (p - a) high_size refl
      ∙ in_first low (drop c ms) (b - a) (p - a) low_size (omega arith)
      ∙ get_or-take (b - a) (drop a ms) (p - a) 0 (omega arith)
      ∙ get_or-drop a ms (p - a) 0
      ∙ ap (λ (j : ℕ). get_or ms j 0) back

  at_high : (p : ℕ) → b ≤ p → p < c → number_at (numbers s) (p - (b - a)) ≡ number_at ms p
  at_high p h k =
      let first = x.first in
      let back : b + (p - b) ≡ p = omega arith in
      ap (λ (l : List ℕ). get_or l (p - (b - a)) 0) x.left
      ∙ in_second (take a ms) (high ++ (low ++ drop c ms)) a (p - (b - a)) (p - b) head-size (omega arith)
      ∙ in_first high (low ++ drop c ms) (c - b) (p - b) high_size (omega arith)
      ∙ get_or-take (c - b) (drop b ms) (p - b) 0 (omega arith)
      ∙ get_or-drop b ms (p - b) 0
      ∙ ap (λ (j : ℕ). get_or ms j 0) back

  at_end : (p : ℕ) → c ≤ p → number_at (numbers s) p ≡ number_at ms p
  at_end p h =
      let first = x.first in
      let second = x.second in
      let back : c + (p - c) ≡ p = omega arith in
      ap (λ (l : List ℕ). get_or l p 0) x.left
      ∙ in_second (take a ms) (high ++ (low ++ drop c ms)) a p (c - b + (b - a + (p - c))) head-size (omega arith)
      ∙ in_second high (low ++ drop c ms) (c - b) (c - b + (b - a + (p - c))) (b - a + (p - c)) high_size refl
      ∙ in_second low (drop c ms) (b - a) (b - a + (p - c)) (p - c) low_size refl
      ∙ get_or-drop c ms (p - c) 0
      ∙ ap (λ (j : ℕ). get_or ms j 0) back

  pub exchanged_carries : length s ≤ gone → Carries (swapped a b c) t s
  exchanged_carries few = record {
    few = few;
    live = λ p h k. live p h (ltb p a) refl (ltb p b) refl (ltb p c) refl;
    same = λ p h k. same p (ltb p a) refl (ltb p b) refl (ltb p c) refl;
  }
    where
      live : (p : ℕ) → p < length t → (u : Bool) → ltb p a ≡ u → (v : Bool) → ltb p b ≡ v → (w : Bool) → ltb p c ≡ w
          → pick u p (pick v (p + (c - b)) (pick w (p - (b - a)) p)) < length s
      live p h true e v f w g = omega (arith, exchanged_size)
      live p h false e true f w g = omega (arith, exchanged_size, ltb-true p b f, x.second, x.end)
      live p h false e false f true g = omega (arith, exchanged_size)
      live p h false e false f false g = omega (arith, exchanged_size)

      same : (p : ℕ) → (u : Bool) → ltb p a ≡ u → (v : Bool) → ltb p b ≡ v → (w : Bool) → ltb p c ≡ w
          → number_at (numbers s) (pick u p (pick v (p + (c - b)) (pick w (p - (b - a)) p))) ≡ number_at ms p
      same p true e v f w g = at-head p (ltb-true p a e)
      same p false e true f w g = at_low p (ltb-false p a e) (ltb-true p b f)
      same p false e false f true g = at_high p (ltb-false p b f) (ltb-true p c g)
      same p false e false f false g = at_end p (ltb-false p c g)

  -- every node was there
  pub exchanged_came : (q : ℕ) → q < length s → PlaceOfNode (swapped a b c) t q
  exchanged_came q h = go (ltb q a) refl (ltb q (a + (c - b))) refl (ltb q c) refl
    where
      go : (u : Bool) → ltb q a ≡ u → (v : Bool) → ltb q (a + (c - b)) ≡ v → (w : Bool) → ltb q c ≡ w → PlaceOfNode (swapped a b c) t q
      go true e v f w g = record { from = q; live = omega (arith, exchanged_size); here = rw e }
      go false e true f w g =
          let p = q + (b - a) in
          let first = x.first in
          let low-q = ltb-false q a e in
          let high-q = ltb-true q (a + (c - b)) f in
          let there : p - (b - a) ≡ q = omega arith in
          record { from = p; live = omega (arith, x.second, x.end); here = rw (le-ltb p a (omega arith), le-ltb p b (omega arith), lt-ltb p c (omega (arith, x.second))) there }
      go false e false f true g =
          let p = q - (c - b) in
          let second = x.second in
          let past = ltb-false q (a + (c - b)) f in
          let high-q = ltb-true q c g in
          let there : p + (c - b) ≡ q = omega arith in
          record { from = p; live = omega (arith, exchanged_size); here = rw (le-ltb p a (omega arith), lt-ltb p b (omega arith)) there }
      go false e false f false g =
          let past = ltb-false q c g in
          record { from = q; live = omega (arith, exchanged_size); here = rw (le-ltb q a (omega (arith, x.first, x.second)), le-ltb q b (omega (arith, x.second)), g) }
