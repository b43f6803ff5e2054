-- The place that a reader of a file comes to by so many definitions, and where that definition starts and ends.
use Prim.Native.Nat.{ℕ, zero, suc, ◌+◌, ◌≤◌, ◌<◌}
use Rattle.std.specs.Prelude.{Bool, ◌≡◌}
use Rattle.std.proofs.Math.Bool.{true, false}
use Rattle.std.proofs.Math.Path.{refl, sym, ap}
use Rattle.std.proofs.Common.{ap₂, ◌∙◌}
use mathlib.Core.List.{List, [], ◌∷◌, ◌++◌}
use native.Mathlib.Omega.{arith}
use Rattle.std.proofs.Math.ListN.{length, get_or}
use Rattle.std.proofs.Math.Dec.{ltb}
use borrow.Author.Tests.{lt-ltb, ltb-true, ltb-false}
use Rattle.words.specs.Choice.{pick}
use Rattle.faults.specs.declared.Fault.TheVariants.{BytesLeft}
use Rattle.std.specs.Prelude.{Option, Some, None}
use Rattle.std.proofs.lemmas.Option.{some_pair_parts}
use Rattle.format.specs.Read.{Read, got, bad, and_then, repeat}
use Rattle.format.specs.Definition.{Definition}
use Rattle.format.specs.Reader.{fits, read_definitions, read_header, read_file, file_width}
use Rattle.format.specs.HeaderLaws.{header_got}
use Rattle.format.specs.RepeatLaws.{went_on}
use Rattle.files.specs.Forward.{definition_whole}
use Rattle.files.specs.File.{verdict, first_place}
use Rattle.reader.specs.Places.{definition_here, start_of, place_after, place_past, span_at}
use Rattle.reader.specs.PlaceLaws.{past_length, past_beyond, span_end}
use Rattle.reader.specs.Spans.{end_of, definition_start, span_in, definition_span}
use Rattle.files.specs.FileLaws.{fitting_got, definitions_length}

end_keeps : {A B : Type 0} (r : Read A) (f : A → B) → end_of (and_then r (λ x n. got (f x) n)) ≡ end_of r
end_keeps (got x n) f = refl
end_keeps (bad q at) f = refl

module _ {A : Type 0} (read : ℕ → Read A) where
  -- of several that were read, the first i were read, and then the next one
  split : (i n at : ℕ) {xs : List A} {end : ℕ} {P : Type 0} → i < n → repeat read n at ≡ got xs end
      → ((ys : List A) (p : ℕ) (x : A) (q : ℕ) → repeat read i at ≡ got ys p → read p ≡ got x q → P) → P
  unfolding repeat
  split i zero at l h go = absurd (omega arith)
  split zero (suc n) at l h go = went_on (read at) _ h (λ x next e r. go [] at x next refl e)
  split (suc i) (suc n) at l h go =
      went_on (read at) _ h (λ x next e1 r1.
      went_on (repeat read n next) _ r1 (λ zs last e2 r2.
      split i n next (omega arith) e2 (λ ys p y q e3 e4. go (x ∷ ys) p y q (rw (e1, e3)) e4)))

  -- one more behind the first i
  repeat-last : (i at : ℕ) {ys : List A} {p : ℕ} {x : A} {q : ℕ} → repeat read i at ≡ got ys p → read p ≡ got x q → end_of (repeat read (suc i) at) ≡ q
  unfolding repeat
  repeat-last zero at {ys} {p} {x} {q} h e =
      let same : at ≡ p = cc in
      rw (same, e)
  repeat-last (suc i) at {ys} {p} {x} {q} h e =
      went_on (read at) _ h (λ y next e1 r1.
      went_on (repeat read i next) _ r1 (λ zs last e2 r2.
      let same : p ≡ last = cc in
      let e3 : read last ≡ got x q = rw same at e in
      rw e1 (end_keeps (repeat read (suc i) next) (λ xs. y ∷ xs) ∙ repeat-last i next e2 e3)))

-- the definitions of a file are read one after the other
definitions_walk : (s : List ℕ) (n : ℕ) (names : List (List ℕ)) (at : ℕ) {ds : List Definition} {end : ℕ} → read_definitions (file_width s) s n names at ≡ got ds end → repeat (definition_here s) n at ≡ got ds end
unfolding read_definitions repeat
definitions_walk s zero names at h = h
definitions_walk s (suc n) names at h =
    went_on (and_then (definition_here s at) (λ d next. fits names at d next)) _ h (λ d next e1 r1.
    went_on (read_definitions (file_width s) s n (names ++ (d.front.name ∷ [])) next) _ r1 (λ rest last e2 r2.
    rw (fitting_got (file_width s) s names at e1, definitions_walk s n (names ++ (d.front.name ∷ [])) next e2) r2))

-- those of an accepted file from the first place on, to the file's end
pub record Read-whole (s : List ℕ) (ds : List Definition) (end : ℕ) : Type 0 where
  pub read : read_definitions (file_width s) s (length ds) [] first_place ≡ got ds end
  pub whole : length s ≤ end

pub read_whole : (s : List ℕ) {ds : List Definition} {end : ℕ} → read_file s ≡ got ds end → Read-whole s ds end
unfolding read_file
read_whole s {ds} {end} h =
    went_on (read_header s) _ h (λ head first e1 r1.
    let g = header_got s e1 in
    went_on (read_definitions (file_width s) s head.count [] first) _ (rw g.width at r1) (λ rest last e2 r2.
    let w = picked (ltb last (length s)) refl r2 in
    let many : length ds ≡ head.count = ap length (sym w.0) ∙ definitions_length (file_width s) s head.count [] first e2 in
    record {
      read = ap₂ (λ (m p : ℕ). read_definitions (file_width s) s m [] p) many (sym g.past) ∙ e2 ∙ ap₂ got w.0 w.1.0;
      whole = w.1.1;
    })) where
      picked : {x : List Definition} {m : ℕ} (b : Bool) → ltb m (length s) ≡ b → pick b (bad BytesLeft m) (got x m) ≡ got ds end → (x ≡ ds) × ((m ≡ end) × (length s ≤ end))
      picked true l h = absurd (let z : ◌≡◌ {A = ℕ} 0 1 = cc in omega arith)
      picked {x} {m} false l h =
          let last : m ≡ end = cc in
          ((cc), (last, omega (arith, ltb-false m (length s) l)))

module _ (s : List ℕ) where
  -- past definitions that were read one after the other, and past more than there are
  past_read : (n at : ℕ) {ds : List Definition} {end : ℕ} → repeat (definition_here s) n at ≡ got ds end → place_past s n at ≡ end
  unfolding repeat place_past
  past_read zero at h = cc
  past_read (suc n) at {ds} {end} h =
      went_on (definition_here s at) _ h (λ d next e1 r1.
      went_on (repeat (definition_here s) n next) _ r1 (λ rest last e2 r2.
      let same : last ≡ end = cc in
      let moved : place_after s at ≡ next = rw e1 in
      ap (place_past s n) moved ∙ past_read n next e2 ∙ same))

  past_over : (n i at : ℕ) {ds : List Definition} {end : ℕ} → repeat (definition_here s) n at ≡ got ds end → length s ≤ end → n ≤ i → length s ≤ place_past s i at
  unfolding repeat place_past
  past_over zero zero at {ds} {end} h l m =
      let same : at ≡ end = cc in
      omega arith
  past_over zero (suc i) at {ds} {end} h l m =
      let same : at ≡ end = cc in
      omega (arith, past_beyond s i at (omega arith))
  past_over (suc n) zero at h l m = absurd (omega arith)
  past_over (suc n) (suc i) at {ds} {end} h l m =
      went_on (definition_here s at) _ h (λ d next e1 r1.
      went_on (repeat (definition_here s) n next) _ r1 (λ rest last e2 r2.
      let same : last ≡ end = cc in
      let moved : place_after s at ≡ next = rw e1 in
      rw moved (past_over n i next e2 (omega arith) (omega arith))))

  -- a definition of an accepted file
  record Spanned (i : ℕ) : Type 0 where
    start : ℕ
    end : ℕ
    this : Definition
    there : place_past s i first_place ≡ start
    read : definition_here s start ≡ got this end
    span : definition_span s i ≡ Some (start, end)

  spanned : (i : ℕ) {ds : List Definition} {end : ℕ} → read_file s ≡ got ds end → i < length ds → Spanned i
  unfolding definition_span
  spanned i {ds} h l =
      split (definition_here s) i (length ds) first_place l (definitions_walk s (length ds) [] first_place (read_whole s h).read) (λ ys p x q e1 e2. record {
        start = p;
        end = q;
        this = x;
        there = past_read i first_place e1;
        read = e2;
        span = rw (h, lt-ltb i (length ds) l) (ap₂ (λ (p q : ℕ). Some (p, q)) (ap end_of e1) (repeat-last (definition_here s) i first_place e1 e2));
      })

  -- where a reader of the file comes to past so many definitions the definition of that number starts and ends, or there is none
  pub span_there : (i : ℕ) → span_at s (place_past s i (start_of s (verdict (read_file s)))) ≡ definition_span s i
  unfolding definition_span
  span_there i = cases (read_file s) refl where
    cases : (r : Read (List Definition)) → read_file s ≡ r → span_at s (place_past s i (start_of s (verdict r))) ≡ span_in s i r
    cases (got ds end) e = chosen (ltb i (length ds)) refl where
      chosen : (b : Bool) → ltb i (length ds) ≡ b → span_at s (place_past s i first_place) ≡ span_in s i (got ds end)
      chosen true l =
          let w = spanned i e (ltb-true i (length ds) l) in
          let here : span_at s w.start ≡ Some (w.start, w.end) = rw w.read in
          ap (span_at s) w.there ∙ here ∙ sym w.span ∙ ap (span_in s i) e
      chosen false l =
          let w = read_whole s e in
          rw l (span_end s (place_past s i first_place) (past_over (length ds) i first_place (definitions_walk s (length ds) [] first_place w.read) w.whole (ltb-false i (length ds) l)))
    cases (bad q at) e = ap (span_at s) (past_length s i) ∙ span_end s (length s) (omega arith)

  -- the name lies in the file
  pub span_inside : (i : ℕ) {start end : ℕ} → definition_span s i ≡ Some (start, end) → start + 1 + get_or s start 0 ≤ length s
  unfolding definition_span
  span_inside i {start} {end} h = cases (read_file s) refl h where
    inside : Spanned i → start + 1 + get_or s start 0 ≤ length s
    inside w =
        let same : start ≡ w.start = (some_pair_parts start w.start end w.end (sym h ∙ w.span)).0 in
        rw same (definition_whole (file_width s) s w.start w.read).inside

    cases : (r : Read (List Definition)) → read_file s ≡ r → span_in s i r ≡ Some (start, end) → start + 1 + get_or s start 0 ≤ length s
    cases (got ds last) e v = chosen (ltb i (length ds)) refl v where
      chosen : (b : Bool) → ltb i (length ds) ≡ b → pick {A = Option (ℕ × ℕ)} b (Some (definition_start s i, definition_start s (suc i))) None ≡ Some (start, end)
          → start + 1 + get_or s start 0 ≤ length s
      chosen true l v = inside (spanned i e (ltb-true i (length ds) l))
      chosen false l v = absurd (let z : ◌≡◌ {A = ℕ} 0 1 = cc in omega arith)
    cases (bad q at) e v = absurd (let z : ◌≡◌ {A = ℕ} 0 1 = cc in omega arith)
