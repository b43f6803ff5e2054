-- Laws of a file's definitions.
use Prim.{Unit, tt}
use Rattle.std.specs.Prelude.{ℕ, zero, suc, ◌+◌, ◌*◌, ◌-◌, ◌≤◌, ◌<◌, Bool, true, false, refl, length, get_or, take, drop, set, ltb, eqb}
use Rattle.std.proofs.Math.Path.{◌≡◌, sym}
use Rattle.std.proofs.Common.{ap, ap₂, ◌∙◌, add-zero, add-one, take-suc-set, get_or-take, get_or-drop, length-set, length-take, length-drop, lt-ltb, le-ltb, leb-true, ne_eqb, eqb-true}
use mathlib.Core.List.{List, [], ◌∷◌, ◌++◌, map}
use native.Mathlib.Omega.{arith}
use Rattle.std.proofs.Math.Nat.{sub-zero}
use Rattle.std.proofs.Math.ListN.{get_or-eq_default}
use Rattle.words.specs.Choice.{pick, both}
use Rattle.words.specs.PartsLaws.{region-length}
use Rattle.faults.specs.declared.Fault.{Fault}
use Rattle.faults.specs.declared.Fault.TheVariants.{TooLong, NameTwice, BytesLeft}
use Rattle.format.specs.Read.{Read, got, bad, and_then, map_read, ending}
use Rattle.format.specs.Fields.{string_at}
use Rattle.format.specs.Definition.{Definition}
use Rattle.format.specs.declared.Width.{Width}
use Rattle.format.specs.declared.Width.TheVariants.{Long}
use Rattle.format.specs.Reader.{Header, width_of, size_limit, most_definitions, same_name, among, fits, definition_by, read_definitions, read_header, read_file, version_in, file_width}
use Rattle.format.specs.HeaderLaws.{header_got}
use Rattle.format.specs.Writer.{first_version, write_definition}
use Rattle.format.specs.Endings.{Mapped, mapped_got, then_got, then_bad, ending_keeps, ending_got}
use Rattle.format.specs.RepeatLaws.{went_on}
use Rattle.files.specs.Forward.{definition_whole}
use Rattle.files.specs.File.{Named, names_from, skip_fitting, verdict, first_place}
use Rattle.std.specs.Prelude.{Ok, Err}

-- what is asked at a definition's end: whether it is too long, and its name, which stands at its start
abbrev pub fitting : Bool → List ℕ → List (List ℕ) → ℕ → ℕ → Read (Unit {0})
fitting long s names at next =
    pick long (bad TooLong at) (pick (among (string_at s at) names) (bad NameTwice at) (got tt next))

fits-ending : (s : List ℕ) (names : List (List ℕ)) (at : ℕ) (d : Definition) (next : ℕ) → string_at s at ≡ d.front.name
    → ending (fits names at d next) ≡ fitting (ltb size_limit (length (write_definition d))) s names at next
fits-ending s names at d next e = rw e (picks (ltb size_limit (length (write_definition d))) (among d.front.name names)) where
  picks : (a b : Bool) → ending (pick a (bad TooLong at) (pick b (bad NameTwice at) (got d next))) ≡ pick a (bad TooLong at) (pick b (bad NameTwice at) (got tt next))
  picks true b = refl
  picks false true = refl
  picks false false = refl

-- a definition that was read, and one that was not
pub fitting_read : (w : Width) (s : List ℕ) (names : List (List ℕ)) (at : ℕ) {d : Definition} {next : ℕ} → definition_by w s at ≡ got d next
    → skip_fitting w s names at ≡ fitting (ltb size_limit (length (write_definition d))) s names at next
fitting_read w s names at {d} {next} e = rw e (fits-ending s names at d next (definition_whole w s at e).named)

pub fitting_bad : (w : Width) (s : List ℕ) (names : List (List ℕ)) (at : ℕ) {q : Fault} {place : ℕ} → ending (definition_by w s at) ≡ bad q place → skip_fitting w s names at ≡ bad q place
fitting_bad w s names at {q} {place} e = cases (definition_by w s at) e where
  cases : (r : Read Definition) → ending r ≡ bad q place → ending (and_then r (λ d next. fits names at d next)) ≡ bad q place
  cases (got d next) h = absurd (let z : ◌≡◌ {A = ℕ} 0 1 = cc in omega arith)
  cases (bad f at) h = h

fits_got : (names : List (List ℕ)) (at : ℕ) (d : Definition) (next : ℕ) {d' : Definition} {end : ℕ} → fits names at d next ≡ got d' end → (d ≡ d') × (next ≡ end)
fits_got names at d next h = picks (ltb size_limit (length (write_definition d))) (among d.front.name names) h where
  picks : (a b : Bool) {d' : Definition} {end : ℕ} → pick a (bad TooLong at) (pick b (bad NameTwice at) (got d next)) ≡ got d' end → (d ≡ d') × (next ≡ end)
  picks true b h = absurd (let z : ◌≡◌ {A = ℕ} 0 1 = cc in omega arith)
  picks false true h = absurd (let z : ◌≡◌ {A = ℕ} 0 1 = cc in omega arith)
  picks false false h = ((cc), (cc))

-- a definition that fits was read
pub fitting_got : (w : Width) (s : List ℕ) (names : List (List ℕ)) (at : ℕ) {d : Definition} {end : ℕ}
    → and_then (definition_by w s at) (λ d next. fits names at d next) ≡ got d end → definition_by w s at ≡ got d end
fitting_got w s names at {d} {end} h =
    went_on (definition_by w s at) _ h (λ x next e1 r1.
    let f = fits_got names at x next r1 in
    e1 ∙ ap (λ (y : Definition). got y next) f.0 ∙ ap (λ (m : ℕ). got d m) f.1)

-- one definition of several
pub skip_definitions : (w : Width) (s : List ℕ) (n : ℕ) (names : List (List ℕ)) (at : ℕ)
    → ending (read_definitions w s (suc n) names at) ≡ and_then (skip_fitting w s names at) (λ u next. ending (read_definitions w s n (names ++ (string_at s at ∷ [])) next))
unfolding read_definitions
skip_definitions w s n names at = cases (and_then (definition_by w s at) (λ d next. fits names at d next)) refl where
  cases : (r : Read Definition) → and_then (definition_by w s at) (λ d next. fits names at d next) ≡ r
      → ending (and_then r (λ d next. and_then (read_definitions w s n (names ++ (d.front.name ∷ [])) next) (λ ds end. got (d ∷ ds) end)))
      ≡ and_then (ending r) (λ u next. ending (read_definitions w s n (names ++ (string_at s at ∷ [])) next))
  cases (got d next) e =
      ending_keeps (read_definitions w s n (names ++ (d.front.name ∷ [])) next) (λ ds. d ∷ ds)
      ∙ ap (λ (x : List ℕ). ending (read_definitions w s n (names ++ (x ∷ [])) next)) (sym (definition_whole w s at (fitting_got w s names at e)).named)
  cases (bad q place) e = refl

map_snoc : {A B : Type 0} (f : A → B) (xs : List A) (a : A) → map f (xs ++ (a ∷ [])) ≡ map f xs ++ (f a ∷ [])
map_snoc f [] a = refl
map_snoc {B = B} f (x ∷ xs) a = ap (λ (l : List B). f x ∷ l) (map_snoc f xs a)

names_more : (s starts : List ℕ) (i at : ℕ) → i < length starts → names_from s (take (i + 1) (set starts i at)) ≡ names_from s (take i starts) ++ (string_at s at ∷ [])
names_more s starts i at h = rw (add-one i, take-suc-set starts i at h) (map_snoc (string_at s) (take i starts) at)

-- The turns of a loop that reads definitions one by one, behind i of them, which start at the first i of starts.
pub record Walked (w : Width) (s : List ℕ) (first count : ℕ) (starts : List ℕ) (at i : ℕ) : Type 0 where
  pub most : i ≤ count
  pub few : count ≤ most_definitions
  pub sized : length starts ≡ most_definitions
  pub left : ending (read_definitions w s (count - i) (names_from s (take i starts)) at) ≡ ending (read_definitions w s count [] first)

pub walked_first : (w : Width) (s : List ℕ) (first count : ℕ) (starts : List ℕ) → count ≤ most_definitions → length starts ≡ most_definitions → Walked w s first count starts first 0
walked_first w s first count starts f z = record { most = omega arith; few = f; sized = z; left = rw sub-zero }

module _ (w : Width) (s : List ℕ) (first count : ℕ) {starts : List ℕ} {at i : ℕ} (k : Walked w s first count starts at i) where
  walked_turn : i < count → ending (read_definitions w s count [] first)
      ≡ and_then (skip_fitting w s (names_from s (take i starts)) at) (λ u next. ending (read_definitions w s (count - (i + 1)) (names_from s (take i starts) ++ (string_at s at ∷ [])) next))
  walked_turn l =
      let more : count - i ≡ suc (count - (i + 1)) = omega arith in
      sym k.left ∙ rw more (skip_definitions w s (count - (i + 1)) (names_from s (take i starts)) at)

  pub walked_next : {u : Unit {0}} {next : ℕ} → i < count → skip_fitting w s (names_from s (take i starts)) at ≡ got u next → Walked w s first count (set starts i at) next (i + 1)
  walked_next {u} {next} l e = record {
    most = omega arith;
    few = k.few;
    sized = length-set starts i at ∙ k.sized;
    left = ap (λ (names : List (List ℕ)). ending (read_definitions w s (count - (i + 1)) names next))
        (names_more s starts i at (omega (arith, k.sized, k.few)))
        ∙ sym (walked_turn l ∙ then_got _ e);
  }

  pub walked_bad : {q : Fault} {place : ℕ} → i < count → skip_fitting w s (names_from s (take i starts)) at ≡ bad q place → ending (read_definitions w s count [] first) ≡ bad q place
  walked_bad l e = walked_turn l ∙ then_bad _ e

  pub walked_done : count ≤ i → ending (read_definitions w s count [] first) ≡ got tt at
  unfolding read_definitions
  walked_done l =
      let none : count - i ≡ 0 = omega arith in
      sym k.left ∙ rw none

-- as many definitions are read as are counted
pub definitions_length : (w : Width) (s : List ℕ) (n : ℕ) (names : List (List ℕ)) (at : ℕ) {ds : List Definition} {end : ℕ} → read_definitions w s n names at ≡ got ds end → length ds ≡ n
unfolding read_definitions
definitions_length w s zero names at {ds} h =
    let e : ds ≡ [] = cc in
    ap length e
definitions_length w s (suc n) names at {ds} {end} h =
    went_on (and_then (definition_by w s at) (λ d next. fits names at d next)) _ h (λ d next e1 r1.
    went_on (read_definitions w s n (names ++ (d.front.name ∷ [])) next) _ r1 (λ rest last e2 r2.
    let e : ds ≡ d ∷ rest = cc in
    ap length e ∙ ap suc (definitions_length w s n (names ++ (d.front.name ∷ [])) next e2)))

-- the ways through a file: the width is that of its version
module _ (s : List ℕ) where
  pub file_head : {q : Fault} {place : ℕ} → map_read (λ (h : Header). h.count) (read_header s) ≡ bad q place → verdict (read_file s) ≡ Err (record { 0 = q; 1 = place })
  unfolding read_file
  file_head {q} {place} e = cases (read_header s) e where
    cases : (r : Read Header) → map_read (λ (h : Header). h.count) r ≡ bad q place
        → verdict (and_then r (λ h p1. and_then (read_definitions h.width s h.count [] p1) (λ ds end. pick (ltb end (length s)) (bad BytesLeft end) (got ds end)))) ≡ Err (record { 0 = q; 1 = place })
    cases (got h p) e = absurd (let z : ◌≡◌ {A = ℕ} 0 1 = cc in omega arith)
    cases (bad f at) e =
        let a : f ≡ q = cc in
        let b : at ≡ place = cc in
        cc

  module _ {n first : ℕ} (e : map_read (λ (h : Header). h.count) (read_header s) ≡ got n first) where
    head : Mapped (λ (h : Header). h.count) (read_header s) n first
    head = mapped_got (λ (h : Header). h.count) (read_header s) e

    pub head_few : (n ≤ most_definitions) × (first ≡ first_place)
    head_few =
        let g = header_got s head.read in
        (rw head.same at (leb-true head.value.count most_definitions g.few), g.past)

    -- the definitions behind the head, and what follows them
    file_rest : verdict (read_file s) ≡ verdict (and_then (read_definitions (file_width s) s n [] first) (λ ds end. pick (ltb end (length s)) (bad BytesLeft end) (got ds end)))
    unfolding read_file
    file_rest = rw (head.read, (header_got s head.read).width, head.same)

    pub file_bad : {q : Fault} {place : ℕ} → ending (read_definitions (file_width s) s n [] first) ≡ bad q place → verdict (read_file s) ≡ Err (record { 0 = q; 1 = place })
    file_bad {q} {place} d = file_rest ∙ cases (read_definitions (file_width s) s n [] first) d where
      cases : (r : Read (List Definition)) → ending r ≡ bad q place
          → verdict (and_then r (λ ds end. pick (ltb end (length s)) (bad BytesLeft end) (got ds end))) ≡ Err (record { 0 = q; 1 = place })
      cases (got ds end) d = absurd (let z : ◌≡◌ {A = ℕ} 0 1 = cc in omega arith)
      cases (bad q' place') d =
          let a : q' ≡ q = cc in
          let b : place' ≡ place = cc in
          cc

    pub file_left : {u : Unit {0}} {end : ℕ} → ending (read_definitions (file_width s) s n [] first) ≡ got u end → end < length s → verdict (read_file s) ≡ Err (record { 0 = BytesLeft; 1 = end })
    file_left d l =
        let t = ending_got (read_definitions (file_width s) s n [] first) d in
        file_rest ∙ rw (t.read, lt-ltb _ _ l)

    pub file_accepted : {u : Unit {0}} {end : ℕ} → ending (read_definitions (file_width s) s n [] first) ≡ got u end → length s ≤ end → verdict (read_file s) ≡ Ok n
    file_accepted d l =
        let t = ending_got (read_definitions (file_width s) s n [] first) d in
        file_rest ∙ rw (t.read, le-ltb _ _ l) (ap Ok (definitions_length (file_width s) s n [] first t.read))

-- a head that is cut before its version ends says nothing: the last byte of the version counts as 0, so it is not version 1
pub short_width : (s : List ℕ) → length s < 8 → file_width s ≡ Long
short_width s h =
    let none : get_or s 7 0 ≡ 0 = get_or-eq_default s 0 (omega arith) in
    rw (ne_eqb (version_in s) first_version (λ e. omega arith))

-- how many definitions a head says there are: of the head only the count is kept
pub head_count : (v : ℕ) (r : Read ℕ) → map_read (λ (h : Header). h.count) (and_then r (λ n p. got (record { width = width_of v; count = n }) p)) ≡ r
head_count v (got n p) = refl
head_count v (bad q at) = refl

-- a definition ends behind its start
pub end_forward : (w : Width) (s : List ℕ) (at : ℕ) {u : Unit {0}} {end : ℕ} → ending (definition_by w s at) ≡ got u end → at < end
end_forward w s at e = omega (arith, (definition_whole w s at (ending_got (definition_by w s at) e).read).forward)

-- the name of a definition that was read lies whole in the file
pub definition_named : (w : Width) (s : List ℕ) (at : ℕ) {d : Definition} {end : ℕ} → definition_by w s at ≡ got d end → Named s at
definition_named w s at h = let t = definition_whole w s at h in record { some = t.some; inside = t.inside }

different : (a b : List ℕ) → (a ≡ b → ⊥) → same_name a b ≡ false
unfolding same_name
different [] [] h = absurd (h refl)
different [] (y ∷ b) h = refl
different (x ∷ a) [] h = refl
different (x ∷ a) (y ∷ b) h = go (eqb x y) refl (different a b) where
  go : (e : Bool) → eqb x y ≡ e → ((a ≡ b → ⊥) → same_name a b ≡ false) → both e (same_name a b) ≡ false
  go false e rest = refl
  go true e rest = rest (λ same. h (ap₂ ◌∷◌ (eqb-true x y e) same))

first_letter : (s : List ℕ) (at : ℕ) → 0 < get_or s at 0 → get_or (string_at s at) 0 0 ≡ get_or s (at + 1) 0
first_letter s at h = get_or-take (get_or s at 0) (drop (at + 1) s) 0 0 h ∙ get_or-drop (at + 1) s 0 0 ∙ ap (λ (i : ℕ). get_or s i 0) (add-zero (at + 1))

-- names whose lengths or first letters differ
pub names-apart : (s : List ℕ) (other at : ℕ) → Named s at → other < at
    → (256 * get_or s other 0 + get_or s (other + 1) 0 ≡ 256 * get_or s at 0 + get_or s (at + 1) 0 → ⊥) → same_name (string_at s other) (string_at s at) ≡ false
names-apart s other at n l h =
    different (string_at s other) (string_at s at) (λ same.
    let long : length (string_at s at) ≡ get_or s at 0 = region-length (at + 1) (get_or s at 0) s n.inside in
    let size : get_or s other 0 ≡ get_or s at 0 = omega (arith, n.inside, simp (length-take, length-drop) at (ap length same ∙ long)) in
    let letter : get_or s (other + 1) 0 ≡ get_or s (at + 1) 0 = sym (first_letter s other (rw size n.some)) ∙ ap (λ (x : List ℕ). get_or x 0 0) same ∙ first_letter s at n.some in
    h (omega (arith, size, letter)))
