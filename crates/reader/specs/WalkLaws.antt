-- A walk from the opening of a file to its end: exactly the definitions that the file is read as, each at its own bytes.
use Prim.Native.Nat.{ℕ, zero, suc, ◌+◌, ◌-◌, ◌≤◌, ◌<◌}
use Rattle.std.specs.Prelude.{true, false, ◌≡◌, refl, length, take}
use Rattle.std.proofs.Math.Path.{sym, ap}
use Rattle.std.proofs.Common.{◌∙◌, subst, drop-drop, le-leb, leb-false}
use mathlib.Core.List.{List, [], ◌∷◌, ◌++◌}
use native.Mathlib.Omega.{arith}
use Rattle.std.proofs.Math.ListN.{drop, take-append-drop, drop_of_length-le}
use Rattle.std.proofs.lemmas.Bool.{lt-leb}
use Rattle.std.specs.Borrow.{Bor}
use Rattle.words.specs.Bytes.{AreBytes}
use Rattle.words.specs.Parts.{region}
use Rattle.words.specs.PartsLaws.{region-length}
use Rattle.faults.specs.declared.Fault.{Fault}
use Rattle.format.specs.Read.{Read, got, bad, and_then, on_read}
use Rattle.format.specs.Definition.{Definition}
use Rattle.format.specs.Reader.{fits, read_definitions, read_file, file_width}
use Rattle.files.specs.File.{first_place}
use Rattle.format.specs.RepeatLaws.{went_on}
use Rattle.files.specs.FileLaws.{fitting_got}
use Rattle.files.specs.Forward.{definition_whole}
use Rattle.roundtrip.specs.Forth.{definition_forth}
use Rattle.roundtrip.specs.Local.{definition_alone}
use Rattle.reader.specs.declared.reader.Reader.{Reader}
use Rattle.reader.specs.declared.reader.Opened.{Opened}
use Rattle.reader.specs.Places.{definition_here, place_after, place_past}
use Rattle.reader.specs.SpanLaws.{read_whole}
use Rattle.reader.specs.Walk.{opened, Opens, after, past, ended, handed, walk, bytes_of, Hands, Each, none, more, Walks}

-- a reader at its end hands out nothing
ended_walk : (n : ℕ) (r : Reader) → ended r ≡ true → walk n r ≡ []
unfolding walk
ended_walk zero r e = refl
ended_walk (suc n) r e = rw e

step_walk : (n : ℕ) (r : Reader) → ended r ≡ false → walk (suc n) r ≡ handed r ∷ walk n (after r)
unfolding walk
step_walk n r e = rw e

module _ (f : Bor (List ℕ)) where
  abbrev s : List ℕ
  s = f.now

  abbrev at_place : ℕ → Reader
  at_place p = record { file = f; place = p }

  -- what is handed out from a place on, and that with it the rest of the file is at an end
  record From (n : ℕ) (p : ℕ) (ds : List Definition) : Type 0 where
    each : Each (file_width s) (walk n (at_place p)) ds
    rest : bytes_of (walk n (at_place p)) ≡ drop p s

  from_end : (n p : ℕ) → length s ≤ p → From n p []
  unfolding bytes_of
  from_end n p h =
      let none-left : walk n (at_place p) ≡ [] = ended_walk n (at_place p) (le-leb (length s) p h) in
      record { each = rw none-left none; rest = rw (none-left, drop_of_length-le s h) }

  module _ (b : AreBytes s) (p : ℕ) (d : Definition) (next : ℕ) (e : definition_here s p ≡ got d next) where
    bytes_here : handed (at_place p) ≡ region p (next - p) s
    bytes_here = rw e

    hands : Hands (file_width s) (handed (at_place p)) d
    hands =
        let w = definition_forth (file_width s) s b p d next e in
        let forward = w.forward in
        let inside = w.inside in
        let size : length (region p (next - p) s) ≡ next - p = region-length p (next - p) s (omega arith) in
        let alone = definition_alone (file_width s) s b p d next e in
        rw e (alone ∙ ap (λ (m : ℕ). got d m) (sym size))

    on_walk : (n : ℕ) → walk (suc n) (at_place p) ≡ handed (at_place p) ∷ walk n (at_place next)
    on_walk n =
        let inside = (definition_whole (file_width s) s p e).inside in
        let left : ended (at_place p) ≡ false = lt-leb (length s) p (omega arith) in
        let moved : place_after s p ≡ next = rw e in
        step_walk n (at_place p) left ∙ ap (λ (q : ℕ). handed (at_place p) ∷ walk n (at_place q)) moved

    from_step : (n : ℕ) (ds : List Definition) → From n next ds → From (suc n) p (d ∷ ds)
    unfolding bytes_of
    from_step n ds w =
        let forward = (definition_forth (file_width s) s b p d next e).forward in
        let ahead : next ≡ p + (next - p) = omega arith in
        record {
          each = rw (on_walk n) (more hands w.each);
          rest = ap bytes_of (on_walk n)
              ∙ ap (λ (l : List ℕ). l ++ bytes_of (walk n (at_place next))) bytes_here
              ∙ ap (λ (l : List ℕ). region p (next - p) s ++ l) (w.rest ∙ ap (λ (m : ℕ). drop m s) ahead ∙ sym (drop-drop (next - p) p s))
              ∙ take-append-drop (next - p) (drop p s);
        }

  -- definitions that were read one after the other, to the file's end, in as many steps or more
  from_all : AreBytes s → (k : ℕ) (names : List (List ℕ)) (p : ℕ) {ds : List Definition} {end : ℕ} → read_definitions (file_width s) s k names p ≡ got ds end → length s ≤ end
      → (n : ℕ) → k ≤ n → From n p ds
  unfolding read_definitions
  from_all b zero names p {ds} {end} h l n m =
      let same : p ≡ end = cc in
      let no_more : ds ≡ [] = cc in
      rw no_more (from_end n p (omega arith))
  from_all b (suc k) names p h l zero m = absurd (omega arith)
  from_all b (suc k) names p {ds} {end} h l (suc n) m =
      went_on (and_then (definition_here s p) (λ d next. fits names p d next)) _ h (λ d next e1 r1.
      went_on (read_definitions (file_width s) s k (names ++ (d.front.name ∷ [])) next) _ r1 (λ rest last e2 r2.
      let same : last ≡ end = cc in
      let all : ds ≡ d ∷ rest = cc in
      rw all (from_step b p d next (fitting_got (file_width s) s names p e1) n rest (from_all b k (names ++ (d.front.name ∷ [])) next e2 (omega arith) n (omega arith)))))

  opened_walks : AreBytes s → {ds : List Definition} {end : ℕ} → read_file s ≡ got ds end → (n : ℕ) → length ds ≤ n → Walks f (opened f).reader n ds
  opened_walks b {ds} {end} h n m =
      let w = from_all b (length ds) [] first_place (read_whole s h).read (read_whole s h).whole n m in
      record { each = rw h w.each; whole = rw h (ap (λ (l : List ℕ). take first_place s ++ l) w.rest ∙ take-append-drop first_place s) }

  opened_none : {q : Fault} {place : ℕ} → read_file s ≡ bad q place → (n : ℕ) → walk n (opened f).reader ≡ []
  opened_none h n = rw h (ended_walk n (at_place (length s)) (le-leb (length s) (length s) (omega arith)))

  -- "walks the definitions", of what `open` answers: those of an accepted file, in as many steps or more
  pub walks : (o : Opened) → Opens f o → {ds : List Definition} {end : ℕ} → read_file s ≡ got ds end → (n : ℕ) → length ds ≤ n → Walks f o.reader n ds
  walks o p {ds} h n m = subst (λ (x : Opened). Walks f x.reader n ds) (sym p.opens) (opened_walks p.lent_file h n m)

  -- and none of a file that is refused
  pub walks_none : (o : Opened) → Opens f o → {q : Fault} {place : ℕ} → read_file s ≡ bad q place → (n : ℕ) → walk n o.reader ≡ []
  walks_none o p h n = ap (λ (x : Opened). walk n x.reader) p.opens ∙ opened_none h n

-- a skip of one definition is a step of the walk
pub past_one : (r : Reader) → past 1 r ≡ after r
unfolding place_past
past_one r = refl

-- every step goes forward, so that every walk comes to an end
pub goes_forward : (r : Reader) → ended r ≡ false → r.place < (after r).place
goes_forward r h = cases (definition_here r.file.now r.place) refl where
  cases : (x : Read Definition) → definition_here r.file.now r.place ≡ x → r.place < on_read x (length r.file.now) (λ d next. next)
  cases (got d next) e = omega (arith, (definition_whole (file_width r.file.now) r.file.now r.place e).forward)
  cases (bad q place) e = leb-false (length r.file.now) r.place h
