-- Paper 02, 4/14: "a version 1 file must load as its widened twin does". The widening is over the reading: a file whose definitions can be read,
-- one after the
-- other, has a twin, which is their writing in version 2 and then the bytes that are left over. A file with a fault in a field, or one that is cut,
-- has none.
use Prim.Native.Nat.{ℕ, zero, suc, ◌+◌, ◌-◌, ◌≤◌}
use Rattle.std.specs.Prelude.{◌≡◌, Bool}
use Rattle.std.proofs.Math.Path.{refl, sym, ap}
use Rattle.std.proofs.Common.{◌∙◌, add-zero, length-drop}
use Rattle.std.proofs.Math.Bool.{true, false}
use mathlib.Core.List.{List, [], ◌∷◌, ◌++◌}
use native.Mathlib.Omega.{arith}
use Rattle.std.proofs.Math.ListN.{length, drop, length-append}
use Rattle.std.proofs.Math.Dec.{ltb, leb}
use borrow.Author.Tests.{lt-ltb, le-ltb, ltb-true, ltb-false}
use Rattle.words.specs.Bytes.{AreBytes}
use Rattle.words.specs.Choice.{pick}
use Rattle.faults.specs.declared.Fault.{Fault}
use Rattle.faults.specs.declared.Fault.TheVariants.{TooLong, NameTwice, BytesLeft}
use Rattle.format.specs.declared.Width.{Width}
use Rattle.format.specs.declared.Width.TheVariants.{Long}
use Rattle.format.specs.Read.{Read, got, bad, and_then, repeat}
use Rattle.format.specs.Definition.{Definition}
use Rattle.format.specs.RepeatLaws.{went_on, repeat-length}
use Rattle.format.specs.Reader.{most_definitions, size_limit, among, Header, definition_by, read_definitions, read_header, read_file}
use Rattle.format.specs.HeaderLaws.{header_got}
use Rattle.format.specs.Writer.{write_all, write_definition, write_header, write_file}
use Rattle.roundtrip.specs.Stands.{Stands, stands_in, stands_left, stands_right}
use Rattle.roundtrip.specs.RecordsBack.{definition_reads}
use Rattle.roundtrip.specs.Back.{header_reads}
use Rattle.roundtrip.specs.Forth.{definition_forth}

-- two readings agree: the same definitions, or refusals of the same number, the places aside
abbrev pub Agree : Read (List Definition) → Read (List Definition) → Type 0
Agree (got ds p) (got es q) = ds ≡ es
Agree (got ds p) (bad g q) = ⊥
Agree (bad f p) (got es q) = ⊥
Agree (bad f p) (bad g q) = f ≡ g

-- two readings of definitions that can be read, to the ends of both, or both refused
data Alike (ds : List Definition) (end end' : ℕ) : Read (List Definition) → Read (List Definition) → Type 0 where
  both_got : Alike ds end end' (got ds end) (got ds end')
  both_bad : (f : Fault) (p p' : ℕ) → Alike ds end end' (bad f p) (bad f p')

-- one definition before those that are alike
alike_more : {d : Definition} {ds : List Definition} {end end' : ℕ} {r r' : Read (List Definition)} → Alike ds end end' r r'
    → Alike (d ∷ ds) end end' (and_then r (λ xs n. got (d ∷ xs) n)) (and_then r' (λ xs n. got (d ∷ xs) n))
alike_more both_got = both_got
alike_more (both_bad f p p') = both_bad f p p'

module _ (w : Width) (s t : List ℕ) (b : AreBytes s) where
  alike : (n : ℕ) (names : List (List ℕ)) (at place : ℕ) {ds : List Definition} {end : ℕ} → repeat (definition_by w s) n at ≡ got ds end → Stands t place (write_all write_definition ds)
      → Alike ds end (place + length (write_all write_definition ds)) (read_definitions w s n names at) (read_definitions Long t n names place)
  unfolding repeat read_definitions write_all
  alike zero names at place {ds} {end} e h =
      let none : [] ≡ ds = cc in
      let here : at ≡ end = cc in
      rw (sym none, sym here, add-zero) both_got
  alike (suc n) names at place {ds} {end} e h =
      went_on (definition_by w s at) _ e (λ d next e1 r1.
      went_on (repeat (definition_by w s) n next) _ r1 (λ rest last e2 r2.
      let all : d ∷ rest ≡ ds = cc in
      let here : last ≡ end = cc in
      let g = rw (sym all) at h in
      let size = length-append (write_definition d) (write_all write_definition rest) in
      let sum : place + length (write_all write_definition (d ∷ rest)) ≡ place + length (write_definition d) + length (write_all write_definition rest) = omega arith in
      let back = (definition_reads Long d (definition_forth w s b at d next e1).bounded).found t place (stands_left t place (write_definition d) (write_all write_definition rest) g) in
      let more = alike n (names ++ (d.front.name ∷ [])) next (place + length (write_definition d)) e2 (stands_right t place (write_definition d) (write_all write_definition rest) g) in
      rw (sym all, sym here, sum, e1, back) (by d next (place + length (write_definition d)) (ltb size_limit (length (write_definition d))) (among d.front.name names) more)))
    where
      by : (d : Definition) (next past : ℕ) {rest : List Definition} {last end' : ℕ} (long twice : Bool)
          → Alike rest last end' (read_definitions w s n (names ++ (d.front.name ∷ [])) next) (read_definitions Long t n (names ++ (d.front.name ∷ [])) past)
          → Alike (d ∷ rest) last end'
          (and_then (pick long (bad TooLong at) (pick twice (bad NameTwice at) (got d next))) (λ d next. and_then (read_definitions w s n (names ++ (d.front.name ∷ [])) next) (λ ds end. got (d ∷ ds) end)))
          (and_then (pick long (bad TooLong place) (pick twice (bad NameTwice place) (got d past))) (λ d next. and_then (read_definitions Long t n (names ++ (d.front.name ∷ [])) next) (λ ds end. got (d ∷ ds) end)))
      by d next past true twice m = both_bad TooLong at place
      by d next past false true m = both_bad NameTwice at place
      by d next past false false m = alike_more m

-- what stands behind the definitions: bytes are left over in both, or in none
ended : (s t : List ℕ) (ds : List Definition) (end end' : ℕ) {r r' : Read (List Definition)} → ltb end (length s) ≡ ltb end' (length t) → Alike ds end end' r r'
    → Agree (and_then r (λ xs n. pick (ltb n (length s)) (bad BytesLeft n) (got xs n))) (and_then r' (λ xs n. pick (ltb n (length t)) (bad BytesLeft n) (got xs n)))
ended s t ds end end' e both_got = rw e (by (ltb end' (length t)))
  where
    by : (c : Bool) → Agree (pick c (bad BytesLeft end) (got ds end)) (pick c (bad BytesLeft end') (got ds end'))
    by true = refl
    by false = refl
ended s t ds end end' e (both_bad f p p') = refl

-- a file whose definitions can be read, beside one that begins with their writing and has as many bytes left over
module _ (s : List ℕ) (b : AreBytes s) {h : Header} {first : ℕ} (e : read_header s ≡ got h first) {ds : List Definition} {end : ℕ} (r : repeat (definition_by h.width s) h.count first ≡ got ds end)
    (l : end ≤ length s) where
  beside : (t : List ℕ) → Stands t 0 (write_header Long (length ds) ++ write_all write_definition ds) → length t ≡ 10 + length (write_all write_definition ds) + (length s - end) → Agree (read_file s) (read_file t)
  unfolding read_file
  beside t stands size =
      let many : length ds ≡ h.count = repeat-length (definition_by h.width s) h.count first r in
      let few : leb (length ds) most_definitions ≡ true = rw many (header_got s e).few in
      let head : read_header t ≡ got (record { width = Long; count = length ds }) 10 =
      (header_reads Long (length ds) few).found t 0 (stands_left t 0 (write_header Long (length ds)) (write_all write_definition ds) stands) in
      let same = alike h.width s t b h.count [] first 10 r (stands_right t 0 (write_header Long (length ds)) (write_all write_definition ds) stands) in
      rw (e, head, many) (ended s t ds end (10 + length (write_all write_definition ds)) (left (10 + length (write_all write_definition ds)) (length t) size) same)
    where
      left : (place size : ℕ) → size ≡ place + (length s - end) → ltb end (length s) ≡ ltb place size
      left place size z = by (ltb end (length s)) refl
        where
          by : (c : Bool) → ltb end (length s) ≡ c → c ≡ ltb place size
          by true q = let more = ltb-true end (length s) q in sym (lt-ltb place size (omega arith))
          by false q = let none = ltb-false end (length s) q in sym (le-ltb place size (omega arith))

  -- "must load as its widened twin does": a file whose definitions can be read is read as its twin is
  pub twin-agrees : Agree (read_file s) (read_file (write_file ds ++ drop end s))
  unfolding write_file
  twin-agrees =
      let size : length (write_file ds ++ drop end s) ≡ length (write_file ds) + (length s - end) = length-append (write_file ds) (drop end s) ∙ ap (λ (k : ℕ). length (write_file ds) + k) (length-drop end s) in
      beside (write_file ds ++ drop end s) (stands_in [] (write_file ds) (drop end s)) (omega arith)
