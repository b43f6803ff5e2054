-- Laws of a padded part, by the places where it starts and ends.
use Prim.{tt}
use Rattle.std.specs.Prelude.{ℕ, ◌+◌, ◌-◌, ◌≤◌, ◌<◌, Bool, true, false, ◌≡◌, List, length, Some, None}
use Rattle.std.proofs.Common.{sym, ap, ◌∙◌, arith}
use Rattle.words.specs.Parts.{region}
use Rattle.messages.specs.Form.{parsed, zeros, padded_at}
use Rattle.messageread.specs.Answers.{PartRead}
use Rattle.messageread.specs.FormLaws.{padded_cut, padded_marked, padded_read}

module _ (pad : ℕ) (fits : List ℕ → Bool) (s : List ℕ) (at end : ℕ) (behind : at ≤ end) where
  pub part_cut : length s < end + pad → PartRead s (padded_at (end - at) pad fits s at) None
  part_cut h = record { reads = padded_cut (end - at) pad fits s at (omega arith); inside = tt }

  zeros_behind : zeros (region (at + (end - at)) pad s) ≡ zeros (region end (end + pad - end) s)
  zeros_behind =
      let there : at + (end - at) ≡ end = omega arith in
      let size : end + pad - end ≡ pad = omega arith in
      rw (there, size)

  pub part_marked : zeros (region end (end + pad - end) s) ≡ false → PartRead s (padded_at (end - at) pad fits s at) None
  part_marked h = record { reads = padded_marked (end - at) pad fits s at (zeros_behind ∙ h); inside = tt }

  pub part_read : end + pad ≤ length s → fits (region at (end - at) s) ≡ true → zeros (region end (end + pad - end) s) ≡ true
      → PartRead s (padded_at (end - at) pad fits s at) (Some (record { start = at; end = end }, record { at = end + pad }))
  part_read h f z =
      let there : at + (end - at + pad) ≡ end + pad = omega arith in
      record {
        reads = ap (λ (k : ℕ). parsed (region at (end - at) s) k) (sym there) ∙ padded_read (end - at) pad fits s at (omega arith) f (zeros_behind ∙ z);
        inside = (behind, omega arith);
      }
