-- Laws of `Lookup`: ten steps settle every lookup.
use Prim.Native.Nat.{ℕ, zero, suc, ◌+◌, ◌*◌, ◌-◌, ◌≤◌, ◌<◌}
use Rattle.std.specs.Prelude.{Bool, true, false, ◌≡◌, List, length, ltb, leb, eqb}
use Rattle.std.proofs.Math.Path.{refl}
use Rattle.std.proofs.Common.{sym, ap, ◌∙◌, arith}
use borrow.Author.Tests.{ltb-true, ltb-false, leb-true, leb-false, eqb-true, eqb-false, le-leb, lt-leb}
use Rattle.std.proofs.Math.ListN.{get_or}
use Rattle.words.specs.Choice.{pick}
use Rattle.nodes.specs.declared.Node.{Node}
use Rattle.nodes.specs.Place.{place}
use Rattle.index.specs.declared.step.Known.{Known}
use Rattle.index.specs.declared.step.Known.TheVariants.{Between, Found}
use Rattle.nodes.specs.Table.{numbers}
use Rattle.index.specs.Index.{number_at, indexed}
use Rattle.index.specs.Rising.{entry, higher}
use Rattle.index.specs.Afresh.{Stands, all_stand, all_differ}
use Rattle.index.specs.Nodes.{indexed_parts, lives_none, place_at}
use Rattle.index.specs.Lookup.{settled, answer, half, halfway, middle, step, after_steps, lookup, most_steps, SettledBy}

-- of how many entries so many steps leave one at most
unfoldable pub twos : ℕ → ℕ
twos zero = 1
twos (suc m) = 2 * twos m

module _ (n : ℕ) (ix ks : List ℕ) where
  -- the place and the number that a step is given
  abbrev pub step_at : Known → Known
  step_at k = step n (get_or ix (middle k) 0) (number_at ks (get_or ix (middle k) 0)) k

  -- one step more
  pub one_more : (m : ℕ) (k : Known) → after_steps (suc m) n ix ks k ≡ step_at (after_steps m n ix ks k)
  unfolding after_steps
  one_more zero k = refl
  one_more (suc m) k = one_more m (step_at k)

  -- what is settled stays
  pub settled-stays : (m : ℕ) (k : Known) → settled k ≡ true → after_steps m n ix ks k ≡ k
  unfolding after_steps step
  settled-stays zero k e = refl
  settled-stays (suc m) (Found p) e = settled-stays m (Found p) e
  settled-stays (suc m) (Between low high) e = rw e (settled-stays m (Between low high) e)

  -- and more steps say no more
  pub settled_later : (m j : ℕ) (k : Known) → m ≤ j → settled (after_steps m n ix ks k) ≡ true → after_steps j n ix ks k ≡ after_steps m n ix ks k
  unfolding after_steps
  settled_later zero j k h e = settled-stays j k e
  settled_later (suc m) zero k h e = absurd (omega arith)
  settled_later (suc m) (suc j) k h e = settled_later m j (step_at k) (omega arith) e

  -- what a step says of several entries
  pub step_up : (low high : ℕ) → low + 1 < high → number_at ks (get_or ix (halfway low high) 0) ≤ n → step_at (Between low high) ≡ Between (halfway low high) high
  unfolding step
  step_up low high more e = rw (lt-leb high low (omega arith), lt-leb high (low + 1) more, le-leb (number_at ks (get_or ix (halfway low high) 0)) n e)

  pub step_down : (low high : ℕ) → low + 1 < high → n < number_at ks (get_or ix (halfway low high) 0) → step_at (Between low high) ≡ Between low (high - half low high)
  unfolding step
  step_down low high more e = rw (lt-leb high low (omega arith), lt-leb high (low + 1) more, lt-leb (number_at ks (get_or ix (halfway low high) 0)) n e)

  -- with one entry left at most, a step settles
  pub one_left : (low high : ℕ) → high ≤ low + 1 → settled (step_at (Between low high)) ≡ true
  unfolding step
  one_left low high h = rw (le-leb high (low + 1) h) (go (leb high low) refl (eqb s n) (ltb s n))
    where
      p : ℕ
      p = get_or ix (halfway low high) 0

      s : ℕ
      s = number_at ks p

      go : (a : Bool) → leb high low ≡ a → (b d : Bool) → settled (pick a (Between low high) (pick b (Found p) (pick d (Between high high) (Between low low)))) ≡ true
      go true e b d = e
      go false e true d = refl
      go false e false true = le-leb high high (omega arith)
      go false e false false = le-leb low low (omega arith)

  -- each step leaves half of the entries, and the last one compares
  settles : (m low high : ℕ) → high ≤ low + twos m → settled (after_steps (suc m) n ix ks (Between low high)) ≡ true
  unfolding after_steps step twos
  settles zero low high h = one_left low high (omega arith)
  settles (suc m) low high h = go (leb high (low + 1)) refl (leb s n) refl (settles m)
    where
      s : ℕ
      s = number_at ks (get_or ix (halfway low high) 0)

      go : (a : Bool) → leb high (low + 1) ≡ a → (b : Bool) → leb s n ≡ b → ((l u : ℕ) → u ≤ l + twos m → settled (after_steps (suc m) n ix ks (Between l u)) ≡ true)
          → settled (after_steps (suc m) n ix ks (step_at (Between low high))) ≡ true
      go true e b f ih =
          let done = one_left low high (leb-true high (low + 1) e) in
          ap settled (settled-stays (suc m) (step_at (Between low high)) done) ∙ done
      go false e true f ih =
          let more = leb-false high (low + 1) e in
          rw (step_up low high more (leb-true s n f)) (ih (halfway low high) high (omega arith))
      go false e false f ih =
          let more = leb-false high (low + 1) e in
          rw (step_down low high more (leb-false s n f)) (ih low (high - half low high) (omega arith))

  -- the entries are places below c, and the numbers there rise
  abbrev pub Rises : ℕ → Type 0
  Rises c = ((i : ℕ) → i < length ix → get_or ix i 0 < c) × ((i j : ℕ) → i < j → j < length ix → number_at ks (get_or ix i 0) < number_at ks (get_or ix j 0))

  -- what is known is true, of places below c
  abbrev pub Sound : ℕ → Known → Type 0
  Sound c (Between low high) =
      (high ≤ length ix)
      × ((i : ℕ) → i < low → i < length ix → number_at ks (get_or ix i 0) < n)
      × ((i : ℕ) → high ≤ i → i < length ix → n < number_at ks (get_or ix i 0))
  Sound c (Found p) = (p < c) × (number_at ks p ≡ n)

  step_sound : (c : ℕ) → Rises c → (k : Known) → Sound c k → Sound c (step_at k)
  unfolding step
  step_sound c r (Found p) h = h
  step_sound c r (Between low high) h = go (leb high low) refl (leb high (low + 1)) refl (eqb s n) refl (ltb s n) refl (leb s n) refl
    where
      mid : ℕ
      mid = halfway low high

      p : ℕ
      p = get_or ix mid 0

      s : ℕ
      s = number_at ks p

      same : (i : ℕ) → i ≡ mid → number_at ks (get_or ix i 0) ≡ s
      same i e = ap (λ (j : ℕ). number_at ks (get_or ix j 0)) e

      -- up to the middle no number is higher than the one there, from it on none is lower
      before : mid < length ix → (i : ℕ) → i < mid → number_at ks (get_or ix i 0) < s
      before inside i a = r.1 i mid a inside

      up_to : s < n → (i : ℕ) → i ≤ mid → mid < length ix → number_at ks (get_or ix i 0) < n
      up_to less i a inside = split (ltb i mid) refl
        where
          split : (t : Bool) → ltb i mid ≡ t → number_at ks (get_or ix i 0) < n
          split true e = let q = before inside i (ltb-true i mid e) in omega arith
          split false e =
              let w = ltb-false i mid e in
              let q = same i (omega arith) in
              omega arith

      behind : (i : ℕ) → mid ≤ i → i < length ix → s ≤ number_at ks (get_or ix i 0)
      behind i a b = split (ltb mid i) refl
        where
          split : (t : Bool) → ltb mid i ≡ t → s ≤ number_at ks (get_or ix i 0)
          split true e = let q = r.1 mid i (ltb-true mid i e) b in omega arith
          split false e =
              let w = ltb-false mid i e in
              let q = same i (omega arith) in
              omega arith

      go : (a : Bool) → leb high low ≡ a → (b : Bool) → leb high (low + 1) ≡ b → (d : Bool) → eqb s n ≡ d → (e : Bool) → ltb s n ≡ e → (f : Bool) → leb s n ≡ f
          → Sound c (pick a (Between low high) (pick b (pick d (Found p) (pick e (Between high high) (Between low low))) (pick f (Between mid high) (Between low (high - half low high)))))
      go true u b v d w e x f y = h
      go false u true v true w e x f y = let q = leb-false high low u in (r.0 mid (omega arith), eqb-true s n w)
      go false u true v false w true x f y =
          let q = leb-true high (low + 1) v in
          let z = ltb-true s n x in
          (h.0, (λ i k l. up_to z i (omega arith) (omega (arith, h.0, leb-false high low u))), h.2)
      go false u true v false w false x f y =
          let q = leb-false high low u in
          let z = ltb-false s n x in
          let o = eqb-false s n w in
          (omega (arith, h.0), h.1, (λ i k l. omega (arith, behind i (omega (arith, leb-true high (low + 1) v)) l)))
      go false u false v d w e x true y =
          let q = leb-false high (low + 1) v in
          let z = leb-true s n y in
          (h.0, (λ i k l. omega (arith, before (omega (arith, h.0)) i k)), h.2)
      go false u false v d w e x false y =
          let q = leb-false high (low + 1) v in
          let z = leb-false s n y in
          (omega (arith, h.0), h.1, (λ i k l. omega (arith, behind i (omega arith) l)))

  steps_sound : (c : ℕ) → Rises c → (m : ℕ) (k : Known) → Sound c k → Sound c (after_steps m n ix ks k)
  unfolding after_steps
  steps_sound c r zero k h = h
  steps_sound c r (suc m) k h = steps_sound c r m (step_at k) (step_sound c r k h)

  -- what so many steps from the first entries on say is true
  pub lookup_sound : (c : ℕ) → Rises c → (m : ℕ) → Sound c (after_steps m n ix ks (Between 0 (length ix)))
  lookup_sound c r m = steps_sound c r m (Between 0 (length ix)) (omega arith, (λ i h k. absurd (omega arith)), (λ i h k. absurd (omega arith)))

module _ (n : ℕ) (ix : List ℕ) (t : List Node) (rule : indexed ix t ≡ true) where
  right_of : (k : Known) → Sound n ix (numbers t) (length t) k → settled k ≡ true → answer (length t) k ≡ place n t
  right_of (Found p) s e =
      let b = indexed_parts ix t rule in
      sym (place_at n t (all_differ (numbers t) (length t) b.1 b.0) p s.0 s.1)
  right_of (Between low high) s e = sym (lives_none n t none).1
    where
      none : (p : ℕ) → p < length t → number_at (numbers t) p ≡ n → ⊥
      none p h k = go (all_stand (numbers t) (length t) (indexed_parts ix t rule).1 (indexed_parts ix t rule).0 p h)
        where
          go : Stands ix p → ⊥
          go q =
              let here : number_at (numbers t) (get_or ix q.at 0) ≡ number_at (numbers t) p = ap (λ (x : ℕ). number_at (numbers t) x) q.is in
              split here (ltb q.at low) refl
            where
              split : number_at (numbers t) (get_or ix q.at 0) ≡ number_at (numbers t) p → (b : Bool) → ltb q.at low ≡ b → ⊥
              split here true x = let less = s.1 q.at (ltb-true q.at low x) q.inside in omega arith
              split here false x =
                  let past = ltb-false q.at low x in
                  let left = leb-true high low e in
                  let more = s.2 q.at (omega arith) q.inside in
                  omega arith

  -- what a settled lookup says is right
  settled_by : (m : ℕ) → settled (lookup m n ix t) ≡ true → SettledBy m n ix t (answer (length t) (lookup m n ix t))
  settled_by m e =
      let b = indexed_parts ix t rule in
      let s = lookup_sound n ix (numbers t) (length t) ((λ i h. (entry b.1 i h).0), higher b.1) m in
      record { settles = e; answers = refl; right = right_of (lookup m n ix t) (rw b.0 at s) e }

  -- of 256 nodes nine steps settle every lookup
  nine_settle : length t ≤ 256 → settled (lookup 9 n ix t) ≡ true
  unfolding twos
  nine_settle few = settles n ix (numbers t) 8 0 (length t) (omega arith)

  -- and so do more of them, ten among them
  pub steps_settle : (m : ℕ) → 9 ≤ m → length t ≤ 256 → settled (lookup m n ix t) ≡ true
  steps_settle m h few =
      let e = nine_settle few in
      ap settled (settled_later n ix (numbers t) 9 m (Between 0 (length t)) h e) ∙ e

  pub ten_settle : length t ≤ 256 → SettledBy most_steps n ix t (answer (length t) (lookup most_steps n ix t))
  ten_settle few = settled_by most_steps (steps_settle most_steps (omega arith) few)

  -- a lookup that is settled after fewer steps says what ten say
  pub settled_early : (m : ℕ) → m ≤ most_steps → settled (lookup m n ix t) ≡ true → length t ≤ 256 → SettledBy most_steps n ix t (answer (length t) (lookup m n ix t))
  settled_early m h e few =
      rw (sym (settled_later n ix (numbers t) m most_steps (Between 0 (length t)) h e)) (ten_settle few)
