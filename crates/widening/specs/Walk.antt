-- Pieces of a file, one behind the other, each of which becomes some bytes and ends at some place.
use Prim.Native.Nat.{ℕ, zero, suc, ◌+◌, ◌-◌, ◌≤◌, ◌<◌}
use Rattle.std.specs.Prelude.{◌≡◌, List, [], ◌++◌}
use native.Mathlib.Omega.{arith}

unfoldable pub past_all : (ℕ → ℕ) → ℕ → ℕ → ℕ
past_all past zero at = at
past_all past (suc n) at = past_all past n (past at)

unfoldable pub wide_all : (ℕ → List ℕ) → (ℕ → ℕ) → ℕ → ℕ → List ℕ
wide_all wide past zero at = []
wide_all wide past (suc n) at = wide at ++ wide_all wide past n (past at)

-- pieces that never go back
abbrev pub Onward : (ℕ → ℕ) → Type 0
Onward past = (at : ℕ) → at ≤ past at

pub past_up : (past : ℕ → ℕ) → Onward past → (n at : ℕ) → at ≤ past_all past n at
unfolding past_all
past_up past up zero at = omega arith
past_up past up (suc n) at = omega (arith, up at, past_up past up n (past at))

module _ (wide : ℕ → List ℕ) (past : ℕ → ℕ) (n i at : ℕ) where
  -- the piece number i of n, and none
  pub past_turn : i < n → past_all past (n - i) at ≡ past_all past (n - (i + 1)) (past at)
  unfolding past_all
  past_turn h = let e : n - i ≡ suc (n - (i + 1)) = omega arith in rw e

  pub wide_turn : i < n → wide_all wide past (n - i) at ≡ wide at ++ wide_all wide past (n - (i + 1)) (past at)
  unfolding wide_all
  wide_turn h = let e : n - i ≡ suc (n - (i + 1)) = omega arith in rw e

  pub past_none : n ≤ i → past_all past (n - i) at ≡ at
  unfolding past_all
  past_none h = let e : n - i ≡ 0 = omega arith in rw e

  pub wide_none : n ≤ i → wide_all wide past (n - i) at ≡ []
  unfolding wide_all
  wide_none h = let e : n - i ≡ 0 = omega arith in rw e
