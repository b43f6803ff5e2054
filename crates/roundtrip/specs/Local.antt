-- The reading of a definition depends only on its own bytes.
use Rattle.std.specs.Prelude.{ℕ, ◌+◌, ◌-◌, ◌≡◌, List, ◌++◌, length, take, drop}
use Rattle.std.proofs.Common.{ap, ◌∙◌, zero-add, arith}
use Rattle.words.specs.Bytes.{AreBytes}
use Rattle.words.specs.PartsLaws.{region-length}
use Rattle.format.specs.Read.{got}
use Rattle.format.specs.Definition.{Definition}
use Rattle.format.specs.declared.Width.{Width}
use Rattle.format.specs.Reader.{definition_by}
use Rattle.roundtrip.specs.Stands.{Stands, stands_in, stands_all}
use Rattle.roundtrip.specs.RecordsBack.{definition_reads}
use Rattle.roundtrip.specs.Forth.{definition_forth}

module _ (w : Width) (s : List ℕ) (b : AreBytes s) (at : ℕ) (d : Definition) (next : ℕ) (e : definition_by w s at ≡ got d next) where
  -- the same bytes in another file, at another place, are read as the same definition
  pub definition_moved : (t : List ℕ) (place : ℕ) → Stands t place (take (next - at) (drop at s)) → definition_by w t place ≡ got d (place + (next - at))
  definition_moved t place h =
      let t1 = definition_forth w s b at d next e in
      let forward = t1.forward in
      let inside = t1.inside in
      let size : length (take (next - at) (drop at s)) ≡ next - at = region-length at (next - at) s (omega arith) in
      (definition_reads w d t1.fits).found t place (rw t1.bytes h) ∙ ap (λ (n : ℕ). got d (place + n)) (ap length t1.bytes ∙ size)

  pub definition_local : (a z : List ℕ) → definition_by w (a ++ (take (next - at) (drop at s) ++ z)) (length a) ≡ got d (length a + (next - at))
  definition_local a z = definition_moved (a ++ (take (next - at) (drop at s) ++ z)) (length a) (stands_in a (take (next - at) (drop at s)) z)

  pub definition_alone : definition_by w (take (next - at) (drop at s)) 0 ≡ got d (next - at)
  definition_alone = rw zero-add at (definition_moved (take (next - at) (drop at s)) 0 (stands_all (take (next - at) (drop at s))))
