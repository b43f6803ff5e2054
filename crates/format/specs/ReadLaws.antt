-- Laws of readings.
use Rattle.std.specs.Prelude.{ℕ, Bool, true, false, ◌≡◌}
use Rattle.std.proofs.Common.{sym}
use Rattle.faults.specs.declared.Fault.{Fault}
use Rattle.format.specs.Read.{Read, got, bad, checked}

module _ {A : Type 0} where
  -- a value that passes its test, one that does not, and one that was not read
  pub checked-pass : (r : Fault) (test : A → Bool) (at : ℕ) {x : A} {next : ℕ} {read : Read A}
      → got x next ≡ read → test x ≡ true → got x next ≡ checked r test at read
  checked-pass r test at {x} {next} e t = rw (sym e, t)

  pub checked_fail : (r : Fault) (test : A → Bool) (at : ℕ) {x : A} {next : ℕ} {read : Read A}
      → got x next ≡ read → test x ≡ false → bad r at ≡ checked r test at read
  checked_fail r test at {x} {next} e t = rw (sym e, t)

  pub checked_bad : (r : Fault) (test : A → Bool) (at : ℕ) {q : Fault} {place : ℕ} {read : Read A}
      → bad q place ≡ read → bad q place ≡ checked r test at read
  checked_bad r test at e = rw (sym e)
