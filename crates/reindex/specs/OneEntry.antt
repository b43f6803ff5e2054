-- The one entry that is a place, and the others.
use Rattle.std.specs.Prelude.{ℕ, ◌+◌, ◌≤◌, ◌<◌, Bool, true, false, ◌≡◌, refl, List, length, get_or, set, ltb}
use Rattle.std.proofs.Common.{sym, ap, ◌∙◌, arith, ltb-true, ltb-false}
use Rattle.reindex.specs.Follow.{gone}
use Rattle.reindex.specs.FollowWords.{Entries, Followed, follow_read, read_low, follow_gone, follow_kept}
use Rattle.reindex.specs.Edits.{closed, closed_gone, closed_low}

-- the sum of the spots, among the first i, at which the entry is the place: of one, or of none
pub record Summed (ws : List ℕ) (place i sum : ℕ) : Type 0 where
  pub one : (j : ℕ) → j < i → get_or ws j 0 ≡ place → sum ≡ j
  pub none : ((j : ℕ) → j < i → get_or ws j 0 ≡ place → ⊥) → sum ≡ 0

pub summed_first : (ws : List ℕ) (place : ℕ) → Summed ws place 0 0
summed_first ws place = record { one = λ j h e. absurd (omega arith); none = λ o. refl }

module _ (ws : List ℕ) (place i sum : ℕ) (s : Summed ws place i sum) where
  pub summed_here : (count : ℕ) → Entries ws count → i < count → get_or ws i 0 ≡ place → Summed ws place (i + 1) (sum + i)
  summed_here count es h here = record { one = λ j k e. one j k e (ltb j i) refl; none = λ o. absurd (o i (omega arith) here) }
    where
      before : (j : ℕ) → j < i → get_or ws j 0 ≡ place → ⊥
      before j k e = es.differ j i k h (e ∙ sym here)

      one : (j : ℕ) → j < i + 1 → get_or ws j 0 ≡ place → (b : Bool) → ltb j i ≡ b → sum + i ≡ j
      one j k e true x = absurd (before j (ltb-true j i x) e)
      one j k e false x = omega (arith, s.none before, ltb-false j i x)

  pub summed_past : (get_or ws i 0 ≡ place → ⊥) → Summed ws place (i + 1) sum
  summed_past other = record { one = λ j k e. one j k e (ltb j i) refl; none = λ o. s.none (λ j k e. o j (omega arith) e) }
    where
      one : (j : ℕ) → j < i + 1 → get_or ws j 0 ≡ place → (b : Bool) → ltb j i ≡ b → sum ≡ j
      one j k e true x = s.one j (ltb-true j i x) e
      one j k e false x =
          let same : i ≡ j = omega (arith, ltb-false j i x) in
          absurd (other (ap (λ (n : ℕ). get_or ws n 0) same ∙ e))

-- one entry is the place `at`, and goes
pub record Spotted (ws : List ℕ) (count spot at : ℕ) : Type 0 where
  pub entries : Entries ws count
  pub inside : spot < count
  pub here : get_or ws spot 0 ≡ at
  pub only : (j : ℕ) → j < count → get_or ws j 0 ≡ at → spot ≡ j

module _ (w : List ℕ) (count spot at : ℕ) (s : Spotted w count spot at) where
  abbrev to : ℕ → ℕ
  to = closed at (at + 1) 0

  pub spot_goes : (ws : List ℕ) → Followed to w spot ws spot → Followed to w (spot + 1) ws spot
  spot_goes ws f =
      let long : spot < length w = omega (arith, s.inside, s.entries.many) in
      let read = follow_read to w ws spot spot long (omega arith) f in
      let away : gone ≡ to (get_or ws spot 0) = sym (ap (λ (p : ℕ). to p) (read ∙ s.here) ∙ closed_gone at (at + 1) 0 at (omega arith) (omega arith)) in
      follow_gone to w ws spot spot long (omega arith) f gone away (omega arith)

  -- another stays
  module _ (ws : List ℕ) (j left : ℕ) (h : j < count) (o : spot ≡ j → ⊥) (near : left ≤ j) (f : Followed to w j ws left) where
    long : j < length w
    long = omega (arith, h, s.entries.many)

    read : get_or ws j 0 ≡ get_or w j 0
    read = follow_read to w ws j left long near f

    low : get_or ws j 0 < gone
    low = read_low to w ws j left long near f count s.entries h

    pub other_read : (get_or ws j 0 < gone) × (get_or ws j 0 ≡ at → ⊥)
    other_read = (low, λ e. o (s.only j h (sym read ∙ e)))

    pub other_stays : (v : ℕ) → v ≡ to (get_or ws j 0) → Followed to w (j + 1) (set ws left v) (left + 1)
    other_stays v is =
        let stays = closed_low at (at + 1) 0 (get_or ws j 0) (omega (arith, low)) (λ a b. o (s.only j h (omega (arith, read)))) in
        follow_kept to w ws j left long near f v is (omega arith)
