-- How the index follows an edit of the table: its entries stay in order, each at its node's new place, and at most one new entry is put in.
use Prim.Native.Nat.{ℕ, zero, suc, ◌≤◌, ◌<◌}
use Rattle.std.specs.Prelude.{Bool, ◌≡◌, List, [], ◌∷◌, get_or, eqb}
use Rattle.std.proofs.Math.Bool.{true, false}
use Rattle.std.proofs.Math.Path.{refl, sym}
use Rattle.std.proofs.Common.{ap, ◌∙◌, subst, arith}
use borrow.Author.Tests.{ltb-true, eqb-true, eqb-false, lt-ltb}
use Rattle.std.proofs.Math.ListN.{length}
use Rattle.std.proofs.Math.Dec.{ltb}
use Rattle.words.specs.Choice.{pick}
use Rattle.nodes.specs.declared.Node.{Node}
use Rattle.nodes.specs.Place.{lives}
use Rattle.nodes.specs.Table.{numbers}
use Rattle.index.specs.Index.{number_at, indexed, put_in}
use Rattle.index.specs.Rising.{Rising, done, next, rising_from, entry, higher}
use Rattle.index.specs.Afresh.{without, Stands, many, all_stand, put_rising, put-new, put_kept}
use Rattle.index.specs.Nodes.{lives_at, indexed_parts, parts_indexed}

-- a new place from 256 on says that the node is gone
abbrev pub gone : ℕ
gone = 256

-- the entries after an edit that takes the node at the place p to the place `to p`: in their order, without those of nodes that are gone
unfoldable pub followed : (ℕ → ℕ) → List ℕ → List ℕ
followed to [] = []
followed to (p ∷ ix) = pick (ltb (to p) gone) (to p ∷ followed to ix) (followed to ix)

-- an edit that takes the nodes t to the nodes s: a node that is not gone has its number at its new place
pub record Carries (to : ℕ → ℕ) (t s : List Node) : Type 0 where
  pub few : length s ≤ gone
  pub live : (p : ℕ) → p < length t → to p < gone → to p < length s
  pub same : (p : ℕ) → p < length t → to p < gone → number_at (numbers s) (to p) ≡ number_at (numbers t) p

-- the node at the place q is one that was there before
pub record PlaceOfNode (to : ℕ → ℕ) (t : List Node) (q : ℕ) : Type 0 where
  pub from : ℕ
  pub live : from < length t
  pub here : to from ≡ q

-- entries among which each of n places stands are at least n
without_kept : (m q : ℕ) (ix : List ℕ) → (q ≡ m → ⊥) → (i : ℕ) → i < length ix → get_or ix i 0 ≡ q → Stands (without m ix) q
unfolding without
without_kept m q [] o i h e = absurd (omega arith)
without_kept m q (p ∷ ix) o zero h e = go (eqb p m) refl
  where
    go : (b : Bool) → eqb p m ≡ b → Stands (pick b ix (p ∷ without m ix)) q
    go true x = absurd (o (sym e ∙ eqb-true p m x))
    go false x = record { at = 0; inside = omega arith; is = e }
without_kept m q (p ∷ ix) o (suc i) h e = go (without_kept m q ix o i (omega arith) e) (eqb p m)
  where
    go : Stands (without m ix) q → (b : Bool) → Stands (pick b ix (p ∷ without m ix)) q
    go ih true = record { at = i; inside = omega arith; is = e }
    go ih false = record { at = suc ih.at; inside = omega arith; is = ih.is }

without_fewer : (m : ℕ) (ix : List ℕ) (i : ℕ) → i < length ix → get_or ix i 0 ≡ m → length (without m ix) < length ix
unfolding without
without_fewer m [] i h e = absurd (omega arith)
without_fewer m (p ∷ ix) zero h e = go (eqb p m) refl
  where
    go : (b : Bool) → eqb p m ≡ b → length (pick b ix (p ∷ without m ix)) < suc (length ix)
    go true x = omega arith
    go false x = absurd (eqb-false p m x e)
without_fewer m (p ∷ ix) (suc i) h e = go (without_fewer m ix i (omega arith) e) (eqb p m)
  where
    go : length (without m ix) < length ix → (b : Bool) → length (pick b ix (p ∷ without m ix)) < suc (length ix)
    go ih true = omega arith
    go ih false = omega arith

enough : (n : ℕ) (ix : List ℕ) → ((q : ℕ) → q < n → Stands ix q) → n ≤ length ix
enough zero ix h = omega arith
enough (suc n) ix h =
    let top = h n (omega arith) in
    let less = without_fewer n ix top.at top.inside top.is in
    let rest = enough n (without n ix) (λ q k. let s = h q (omega arith) in without_kept n q ix (omega arith) s.at s.inside s.is) in
    omega arith

-- entries that rise, with each place among them, keep the rule
all_indexed : (ix : List ℕ) (s : List Node) → Rising (numbers s) (length s) 0 ix → ((q : ℕ) → q < length s → Stands ix q) → indexed ix s ≡ true
all_indexed ix s r h =
    let low = enough (length s) ix h in
    let high = many (numbers s) (length s) r in
    parts_indexed ix s (omega arith) r

follow_stands : (to : ℕ → ℕ) (ix : List ℕ) (i : ℕ) → i < length ix → to (get_or ix i 0) < gone → Stands (followed to ix) (to (get_or ix i 0))
unfolding followed
follow_stands to [] i h k = absurd (omega arith)
follow_stands to (p ∷ ix) zero h k = rw (lt-ltb (to p) gone k) (record { at = 0; inside = omega arith; is = refl })
follow_stands to (p ∷ ix) (suc i) h k = go (follow_stands to ix i (omega arith) k) (ltb (to p) gone)
  where
    go : Stands (followed to ix) (to (get_or ix i 0)) → (b : Bool) → Stands (pick b (to p ∷ followed to ix) (followed to ix)) (to (get_or ix i 0))
    go ih true = record { at = suc ih.at; inside = omega arith; is = ih.is }
    go ih false = ih

-- the number at an entry is one that a node had before
pub record NumberOfNode (t : List Node) (k : ℕ) : Type 0 where
  pub at : ℕ
  pub live : at < length t
  pub is : number_at (numbers t) at ≡ k

module _ (to : ℕ → ℕ) (t s : List Node) (carries : Carries to t s) where
  follow_rising : {least : ℕ} {ix : List ℕ} → Rising (numbers t) (length t) least ix → Rising (numbers s) (length s) least (followed to ix)
  unfolding followed
  follow_rising done = done
  follow_rising {least = least} (next {p = p} {ix = ix} a b r) = go (follow_rising r) (ltb (to p) gone) refl
    where
      go : Rising (numbers s) (length s) (suc (number_at (numbers t) p)) (followed to ix) → (x : Bool) → ltb (to p) gone ≡ x
          → Rising (numbers s) (length s) least (pick x (to p ∷ followed to ix) (followed to ix))
      go ih true e =
          let stays = ltb-true (to p) gone e in
          let same = carries.same p a stays in
          next {least = least} {p = to p} (carries.live p a stays) (omega arith) (rising_from (suc (number_at (numbers s) (to p))) (omega arith) ih)
      go ih false e = rising_from least (omega arith) ih

  follow_had : {least : ℕ} {ix : List ℕ} → Rising (numbers t) (length t) least ix → (i : ℕ) → i < length (followed to ix) → NumberOfNode t (number_at (numbers s) (get_or (followed to ix) i 0))
  unfolding followed
  follow_had done i h = absurd (omega arith)
  follow_had (next {p = p} {ix = ix} a b r) i h = go (follow_had r) (ltb (to p) gone) refl i h
    where
      go : ((j : ℕ) → j < length (followed to ix) → NumberOfNode t (number_at (numbers s) (get_or (followed to ix) j 0))) → (x : Bool) → ltb (to p) gone ≡ x
          → (j : ℕ) → j < length (pick x (to p ∷ followed to ix) (followed to ix)) → NumberOfNode t (number_at (numbers s) (get_or (pick x (to p ∷ followed to ix) (followed to ix)) j 0))
      go ih true e zero k = record { at = p; live = a; is = sym (carries.same p a (ltb-true (to p) gone e)) }
      go ih true e (suc j) k = ih j (omega arith)
      go ih false e j k = ih j k

  module _ (ix : List ℕ) (rule : indexed ix t ≡ true) where
    came_stands : (q : ℕ) → q < length s → PlaceOfNode to t q → Stands (followed to ix) q
    came_stands q h m =
        let b = indexed_parts ix t rule in
        let f = all_stand (numbers t) (length t) b.1 b.0 m.from m.live in
        let there : to (get_or ix f.at 0) ≡ q = ap (λ (p : ℕ). to p) f.is ∙ m.here in
        let few = carries.few in
        subst (λ (x : ℕ). Stands (followed to ix) x) there (follow_stands to ix f.at f.inside (omega arith))

    -- each entry followed is a place
    pub follow_below : (i : ℕ) → i < length (followed to ix) → get_or (followed to ix) i 0 < length s
    follow_below i h = (entry (follow_rising (indexed_parts ix t rule).1) i h).0

    -- and their numbers rise
    pub follow_higher : (i j : ℕ) → i < j → j < length (followed to ix) → number_at (numbers s) (get_or (followed to ix) i 0) < number_at (numbers s) (get_or (followed to ix) j 0)
    follow_higher i j h k = higher (follow_rising (indexed_parts ix t rule).1) i j h k

    -- where every node was there before, the entries followed are the index
    pub follow_indexed : ((q : ℕ) → q < length s → PlaceOfNode to t q) → indexed (followed to ix) s ≡ true
    follow_indexed m = all_indexed (followed to ix) s (follow_rising (indexed_parts ix t rule).1) (λ q h. came_stands q h (m q h))

    -- and with one new node, whose number did not live, with its entry put in
    pub insert_indexed : (at : ℕ) → at < length s → lives (number_at (numbers s) at) t ≡ false → ((q : ℕ) → q < length s → (q ≡ at → ⊥) → PlaceOfNode to t q)
        → indexed (put_in (numbers s) at (followed to ix)) s ≡ true
    insert_indexed at near fresh m = all_indexed (put_in (numbers s) at (followed to ix)) s rises each
      where
        r : Rising (numbers t) (length t) 0 ix
        r = (indexed_parts ix t rule).1

        other : (i : ℕ) → i < length (followed to ix) → number_at (numbers s) (get_or (followed to ix) i 0) ≡ number_at (numbers s) at → ⊥
        other i h e =
            let had = follow_had r i h in
            let live : lives (number_at (numbers s) at) t ≡ true = lives_at (number_at (numbers s) at) t had.at had.live (had.is ∙ e) in
            let z : ◌≡◌ {A = ℕ} 0 1 = cc in
            omega arith

        rises : Rising (numbers s) (length s) 0 (put_in (numbers s) at (followed to ix))
        rises = put_rising (numbers s) at near (omega arith) other (follow_rising r)

        each : (q : ℕ) → q < length s → Stands (put_in (numbers s) at (followed to ix)) q
        each q h = go (eqb q at) refl
          where
            go : (b : Bool) → eqb q at ≡ b → Stands (put_in (numbers s) at (followed to ix)) q
            go true e = rw (eqb-true q at e) (put-new (numbers s) at (followed to ix))
            go false e =
                let f = came_stands q h (m q h (eqb-false q at e)) in
                subst (λ (x : ℕ). Stands (put_in (numbers s) at (followed to ix)) x) f.is (put_kept (numbers s) at (followed to ix) f.at f.inside)
