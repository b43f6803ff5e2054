-- Laws of a name's bytes and of parts of a file.
use Rattle.std.specs.Prelude.{ℕ, suc, ◌+◌, ◌-◌, ◌≤◌, ◌<◌, Bool, ◌≡◌, List, [], ◌∷◌, length, get_or, leb, ltb}
use Rattle.std.proofs.Common.{arith, add-one, lt-ltb, drop_of_length-le, drop-cons}
use Rattle.std.proofs.Math.Seq.{take-nil}
use Rattle.words.specs.Choice.{both}
use Rattle.words.specs.Parts.{region}
use Rattle.words.specs.PartsLaws.{region-length}
use Rattle.format.specs.Fields.{name_bytes}

-- a part that is not empty: its first item and the rest
pub region-cons : (s : List ℕ) (i to : ℕ) → i < to → i < length s → region i (to - i) s ≡ get_or s i 0 ∷ region (i + 1) (to - (i + 1)) s
region-cons s i to h l =
    let e : to - i ≡ suc (to - (i + 1)) = omega arith in
    rw (e, add-one, drop-cons s i 0 l)

-- a part past the end
pub region_past : (s : List ℕ) (i k : ℕ) → length s ≤ i → region i k s ≡ []
region_past s i k h = rw (drop_of_length-le s h, take-nil)

-- a part from a place to one at or before it
pub region_none : (s : List ℕ) (i to : ℕ) → to ≤ i → region i (to - i) s ≡ []
region_none s i to h = let e : to - i ≡ 0 = omega arith in rw e

pub name_turn : (s : List ℕ) (i to : ℕ) → i < to → i < length s
    → name_bytes (region i (to - i) s) ≡ both (both (leb 1 (get_or s i 0)) (leb (get_or s i 0) 127)) (name_bytes (region (i + 1) (to - (i + 1)) s))
unfolding name_bytes
name_turn s i to h l = rw (region-cons s i to h l)

-- a definition's name, as a part of a file
abbrev pub full : List ℕ → Bool
full n = both (ltb 0 (length n)) (name_bytes n)

pub full_part : (s : List ℕ) (start end : ℕ) → start < end → end ≤ length s
    → full (region start (end - start) s) ≡ name_bytes (region start (end - start) s)
full_part s start end h l = rw (region-length start (end - start) s (omega arith), lt-ltb 0 (end - start) (omega arith))
