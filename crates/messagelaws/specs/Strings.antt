-- Strings of a message.
use Rattle.std.specs.Prelude.{ℕ, suc, ◌-◌, ◌%◌, ◌≤◌, ◌≡◌, refl, true, List, [], ◌∷◌, ◌++◌, length, drop, replicate, leb}
use Rattle.std.proofs.Common.{sym, ap, ◌∙◌, append_assoc, arith, take-append-drop, leb-true, ne_eqb}
use Rattle.words.specs.Choice.{both}
use Rattle.words.specs.ChoiceLaws.{both_true}
use Rattle.format.specs.Fields.{name_bytes}
use Rattle.osc.specs.Message.{padded}
use Rattle.roundtrip.specs.Stands.{Stands}
use Rattle.roundtrip.specs.Sound.{restate}
use Rattle.messages.specs.Form.{text_length, string_at}
use Rattle.messagelaws.specs.Codec.{Reads}
use Rattle.messagelaws.specs.Sound.{Sound, extend}
use Rattle.messagelaws.specs.Padding.{padded_reads, padded_sound}

-- a string of bytes 1 to 127 ends at the zero behind it
text_ends : (x rest : List ℕ) → name_bytes x ≡ true → text_length (x ++ 0 ∷ rest) ≡ length x
unfolding text_length name_bytes
text_ends [] rest t = refl
text_ends (b ∷ x) rest t =
    let u = both_true (both (leb 1 b) (leb b 127)) (name_bytes x) t in
    let low : leb 1 b ≡ true = (both_true (leb 1 b) (leb b 127) u.0).0 in
    rw (ne_eqb b 0 (λ z. omega (arith, leb-true 1 b low))) (ap suc (text_ends x rest u.1))

text_at : (s : List ℕ) (at : ℕ) (x : List ℕ) → name_bytes x ≡ true → Stands s at (padded x) → text_length (drop at s) ≡ length x
text_at s at x t h =
    let k : ℕ = 3 - length x % 4 in
    let more : 4 - length x % 4 ≡ suc k = omega arith in
    let z : List ℕ = drop (length (padded x)) (drop at s) in
    ap text_length
    (sym (take-append-drop (length (padded x)) (drop at s))
    ∙ ap (λ (l : List ℕ). l ++ z) h.there
    ∙ append_assoc x (replicate (4 - length x % 4) 0) z
    ∙ ap (λ (n : ℕ). x ++ (replicate n 0 ++ z)) more)
    ∙ text_ends x (replicate k 0 ++ z) t

pub string_reads : (x : List ℕ) → name_bytes x ≡ true → Reads string_at x (padded x)
string_reads x t = record {
  found = λ s at h. rw (text_at s at x t h) ((padded_reads (4 - length x % 4) name_bytes x t).found s at h);
}

pub string_sound : (s : List ℕ) (at : ℕ) → at ≤ length s → Sound s at padded (λ x. name_bytes x ≡ true) (string_at s at)
string_sound s at h =
    let n : ℕ = text_length (drop at s) in
    extend (padded_sound (4 - n % 4) name_bytes n s at h) (λ x next c. restate c (λ (e, t). (rw e, t)))
