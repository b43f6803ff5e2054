-- Laws of `Targets`.
use Rattle.std.specs.Prelude.{ℕ, suc, ◌-◌, ◌<◌, ◌≤◌, ◌≡◌, refl, pos, negsuc}
use Rattle.std.proofs.Common.{ap, arith, lt-ltb, le-ltb}
use Rattle.values.specs.declared.Target.TheVariants.{Latest, Number, Reserved}
use Rattle.values.specs.Targets.{signed, named, target_of}

pub signed_low : (p : ℕ) → p < 2147483648 → signed p ≡ pos p
signed_low p h = rw (lt-ltb p 2147483648 h)

pub signed_high : (p k : ℕ) → 2147483648 ≤ p → 4294967295 - p ≡ k → signed p ≡ negsuc k
signed_high p k h e = rw (le-ltb p 2147483648 h) (ap negsuc (omega arith))

pub target_number : (p : ℕ) → p < 2147483648 → target_of p ≡ Number p
unfolding target_of
target_number p h = ap named (signed_low p h)

pub target_latest : target_of 4294967295 ≡ Latest
unfolding target_of
target_latest = refl

pub target_reserved : (p : ℕ) → 2147483648 ≤ p → p < 4294967295 → target_of p ≡ Reserved
unfolding target_of
target_reserved p h l = ap named (signed_high p (suc (4294967294 - p)) h (omega arith))
