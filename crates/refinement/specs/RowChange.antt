-- A change of controls in one row of the words: what it does to that row's controls, and that it leaves other rows.
use Rattle.std.specs.Prelude.{ℕ, zero, suc, ◌+◌, ◌-◌, ◌*◌, ◌≤◌, ◌<◌, min, Bool, true, false, ◌≡◌, refl, List, [], ◌∷◌, ◌++◌, map, length, drop, ltb, leb}
use Rattle.std.proofs.Common.{sym, ap₂, ◌∙◌, append-nil, append_assoc, ltb-true, ltb-false, leb-true, leb-false, length-drop, drop_of_length-le, drop-drop, take-add, drop_at, length-take-le, take_all}
use Rattle.std.proofs.Math.Path.{ap}
use native.Mathlib.Omega.{arith}
use Rattle.std.proofs.Math.ListN.{take, take-append-drop}
use Rattle.std.proofs.Math.Seq.{take-nil, drop-nil}
use Rattle.words.specs.Parts.{region, put}
use Rattle.values.specs.Controls.{ControlValue, control_at, mapping_word}
use Rattle.values.specs.ControlLaws.{words_control}
use Rattle.nodes.specs.Formed.{most_rows}
use Rattle.state.specs.Regions.{region_before, region_past, put_size}
use Rattle.model.specs.Layout.{row_words, controls_words}
use Rattle.model.specs.Engine.{controls_from}
use Rattle.model.specs.Effects.{control_words, change_words, change_row}
use Rattle.model.specs.Plain.{change_from}

-- the words that a change of n controls reaches, and those behind them
pub change_split : (f : ControlValue → ControlValue) (n : ℕ) (us : List ℕ) → n + n ≤ length us → change_words f n us ≡ change_words f n (take (n + n) us) ++ drop (n + n) us
unfolding change_words
change_split f zero us h = refl
change_split f (suc n) [] h = absurd (omega arith)
change_split f (suc n) (u ∷ []) h = absurd (omega arith)
change_split f (suc n) (u ∷ (v ∷ us)) h =
    let more : suc n + suc n ≡ suc (suc (n + n)) = omega arith in
    rw more (ap (λ (l : List ℕ). control_words (f (control_at u v)) ++ l) (change_split f n us (omega arith)))

pub change-length : (f : ControlValue → ControlValue) (n : ℕ) (us : List ℕ) → n + n ≤ length us → length (change_words f n us) ≡ length us
unfolding change_words
change-length f zero us h = refl
change-length f (suc n) [] h = absurd (omega arith)
change-length f (suc n) (u ∷ []) h = absurd (omega arith)
change-length f (suc n) (u ∷ (v ∷ us)) h = ap (λ (k : ℕ). suc (suc k)) (change-length f n us (omega arith))

-- the change of a row as a part put in
module _ (f : ControlValue → ControlValue) (a n : ℕ) (cs : List ℕ) (fits : a + (n + n) ≤ length cs) where
  abbrev changed_part : List ℕ
  changed_part = change_words f n (region a (n + n) cs)

  part_many : length (region a (n + n) cs) ≡ n + n
  part_many = length-take-le (n + n) (drop a cs) (rw (length-drop a cs) (omega arith))

  pub part_length : length changed_part ≡ n + n
  part_length = change-length f n (region a (n + n) cs) (rw part_many (omega arith)) ∙ part_many

  pub change_put : take a cs ++ change_words f n (drop a cs) ≡ put a (n + n) changed_part cs
  change_put = ap (λ (l : List ℕ). take a cs ++ l) (change_split f n (drop a cs) (rw (length-drop a cs) (omega arith)))

-- a change whose mappings are buses that fit a word
abbrev pub FitsWord : (ControlValue → ControlValue) → Type 0
FitsWord f = (c : ControlValue) → mapping_word (f c).mapping < 4294967295

-- n controls of a run of words that is changed from its first on
front_changed : (f : ControlValue → ControlValue) → FitsWord f → (n p : ℕ) (us : List ℕ) → n ≤ p → p + p ≤ length us
    → controls_from p (change_words f n us) ≡ map f (take n (controls_from p us)) ++ drop n (controls_from p us)
unfolding controls_from change_words
front_changed f fits_word zero p us h l = refl
front_changed f fits_word (suc n) zero us h l = absurd (omega arith)
front_changed f fits_word (suc n) (suc p) [] h l = absurd (omega arith)
front_changed f fits_word (suc n) (suc p) (u ∷ []) h l = absurd (omega arith)
front_changed f fits_word (suc n) (suc p) (u ∷ (v ∷ us)) h l =
    ap₂ (λ (x : ControlValue) (m : List ControlValue). x ∷ m) (words_control (f (control_at u v)) (fits_word (control_at u v))) (front_changed f fits_word n p us (omega arith) (omega arith))

-- .. and from another on
part_changed : (f : ControlValue → ControlValue) → FitsWord f → (s n p : ℕ) (us : List ℕ) → s + n ≤ p → p + p ≤ length us
    → controls_from p (take (s + s) us ++ change_words f n (drop (s + s) us)) ≡ take s (controls_from p us) ++ (map f (take n (drop s (controls_from p us))) ++ drop n (drop s (controls_from p us)))
unfolding controls_from
part_changed f fits_word zero n p us h l = front_changed f fits_word n p us (omega arith) l
part_changed f fits_word (suc s) n zero us h l = absurd (omega arith)
part_changed f fits_word (suc s) n (suc p) [] h l = absurd (omega arith)
part_changed f fits_word (suc s) n (suc p) (u ∷ []) h l = absurd (omega arith)
part_changed f fits_word (suc s) n (suc p) (u ∷ (v ∷ us)) h l =
    let more : suc s + suc s ≡ suc (suc (s + s)) = omega arith in
    rw more (ap (λ (m : List ControlValue). control_at u v ∷ m) (part_changed f fits_word s n p us (omega arith) (omega arith)))

pub controls_many : (p : ℕ) (us : List ℕ) → length (controls_from p us) ≡ p
unfolding controls_from
controls_many zero us = refl
controls_many (suc p) us = ap suc (controls_many p (drop 2 us))

-- a count past the end reaches as far as the end
take_within : (n m : ℕ) (l : List ControlValue) → length l ≤ m → take n l ≡ take (min n m) l
take_within n m l h = go (leb n m) refl
  where
    go : (b : Bool) → leb n m ≡ b → take n l ≡ take (min n m) l
    go true e = let w : n ≤ m = leb-true n m e in let z : min n m ≡ n = omega arith in rw z
    go false e =
        let w : m < n = leb-false n m e in
        let z : min n m ≡ m = omega arith in
        rw z (take_all n l (omega arith) ∙ sym (take_all m l h))

drop_within : (n m : ℕ) (l : List ControlValue) → length l ≤ m → drop n l ≡ drop (min n m) l
drop_within n m l h = go (leb n m) refl
  where
    go : (b : Bool) → leb n m ≡ b → drop n l ≡ drop (min n m) l
    go true e = let w : n ≤ m = leb-true n m e in let z : min n m ≡ n = omega arith in rw z
    go false e =
        let w : m < n = leb-false n m e in
        let z : min n m ≡ m = omega arith in
        rw z (drop_of_length-le l {i = n} (omega arith) ∙ sym (drop_of_length-le l {i = m} h))

-- .. and so does a change
pub change_clipped : (f : ControlValue → ControlValue) (start count p : ℕ) (l : List ControlValue) → length l ≡ p → change_from f start count l ≡ change_from f start (min count (p - start)) l
change_clipped f start count p l many =
    ap₂ (λ (x y : List ControlValue). take start l ++ (map f x ++ y)) (take_within count (p - start) (drop start l) (omega (arith, rest))) (drop_within count (p - start) (drop start l) (omega (arith, rest)))
  where
    rest : length (drop start l) ≡ p - start
    rest = length-drop start l ∙ ap (λ (k : ℕ). k - start) many

-- the change of one row of p controls, which ends by p
module _ (f : ControlValue → ControlValue) (fits_word : FitsWord f) (row start many p : ℕ) (cs : List ℕ) (size : length cs ≡ controls_words) (low : row < most_rows) (few : p + p ≤ row_words)
    (inside : many ≤ p - start) where
  abbrev at : ℕ
  at = row_words * row + 2 * start

  -- a change that starts past the last control changes nothing
  past_same : p < start → change_row f row start many cs ≡ cs
  unfolding change_words
  past_same h =
      let none-left : many ≡ 0 = omega arith in
      ap (λ (k : ℕ). take at cs ++ change_words f k (drop at cs)) none-left ∙ take-append-drop at cs

  within : start ≤ p → at + (many + many) ≤ row_words * row + row_words
  within h = omega arith

  pub row_length : length (change_row f row start many cs) ≡ controls_words
  row_length = go (ltb p start) refl
    where
      go : (b : Bool) → ltb p start ≡ b → length (change_row f row start many cs) ≡ controls_words
      go true e = ap length (past_same (ltb-true p start e)) ∙ size
      go false e =
          let w = within (ltb-false p start e) in
          ap length (change_put f at many cs (omega arith)) ∙ put_size at (many + many) (changed_part f at many cs (omega arith)) cs (omega arith) (part_length f at many cs (omega arith)) ∙ size

  -- another row
  pub row_other : (k : ℕ) → k < most_rows → (k ≡ row → ⊥) → region (row_words * k) row_words (change_row f row start many cs) ≡ region (row_words * k) row_words cs
  row_other k h ne = go (ltb p start) refl (ltb k row) refl
    where
      go : (b : Bool) → ltb p start ≡ b → (c : Bool) → ltb k row ≡ c → region (row_words * k) row_words (change_row f row start many cs) ≡ region (row_words * k) row_words cs
      go true e c g = ap (λ (l : List ℕ). region (row_words * k) row_words l) (past_same (ltb-true p start e))
      go false e true g =
          let w = within (ltb-false p start e) in
          let less : k < row = ltb-true k row g in
          ap (λ (l : List ℕ). region (row_words * k) row_words l) (change_put f at many cs (omega arith))
          ∙ region_before at (many + many) (changed_part f at many cs (omega arith)) cs (omega arith) (part_length f at many cs (omega arith)) (row_words * k) row_words (omega arith)
      go false e false g =
          let w = within (ltb-false p start e) in
          let more : row ≤ k = ltb-false k row g in
          let most : row < k = omega arith in
          ap (λ (l : List ℕ). region (row_words * k) row_words l) (change_put f at many cs (omega arith))
          ∙ region_past at (many + many) (changed_part f at many cs (omega arith)) cs (omega arith) (part_length f at many cs (omega arith)) (row_words * k) row_words (omega arith)

  -- the row's words after the change
  split_row : drop (row_words * row) (change_row f row start many cs) ≡ take (start + start) (drop (row_words * row) cs) ++ change_words f many (drop (start + start) (drop (row_words * row) cs))
  split_row =
      let two : row_words * row + 2 * start ≡ row_words * row + (start + start) = omega arith in
      let front : length (take (row_words * row) cs) ≡ row_words * row = length-take-le (row_words * row) cs (omega arith) in
      ap (λ (k : ℕ). drop (row_words * row) (take k cs ++ change_words f many (drop k cs))) two
      ∙ ap₂ (λ (x y : List ℕ). drop (row_words * row) (x ++ change_words f many y)) (take-add (row_words * row) (start + start) cs) (sym (drop-drop (start + start) (row_words * row) cs))
      ∙ ap (λ (l : List ℕ). drop (row_words * row) l) (append_assoc (take (row_words * row) cs) (take (start + start) (drop (row_words * row) cs)) (change_words f many (drop (start + start) (drop (row_words * row) cs))))
      ∙ drop_at (take (row_words * row) cs) (take (start + start) (drop (row_words * row) cs) ++ change_words f many (drop (start + start) (drop (row_words * row) cs))) (row_words * row) front

  -- its own controls
  abbrev before : List ControlValue
  before = controls_from p (drop (row_words * row) cs)

  pub row_own : controls_from p (drop (row_words * row) (change_row f row start many cs)) ≡ change_from f start many (controls_from p (drop (row_words * row) cs))
  row_own = go (ltb p start) refl
    where
      all : length before ≡ p
      all = controls_many p (drop (row_words * row) cs)

      go : (b : Bool) → ltb p start ≡ b → controls_from p (drop (row_words * row) (change_row f row start many cs)) ≡ change_from f start many before
      go true e =
          let w : p < start = ltb-true p start e in
          let gone : drop start before ≡ [] = drop_of_length-le before {i = start} (omega (arith, all)) in
          let nothing : map f (take many (drop start before)) ++ drop many (drop start before) ≡ [] =
          ap₂ (λ (x y : List ControlValue). map f (take many x) ++ drop many y) gone gone ∙ ap₂ (λ (x y : List ControlValue). map f x ++ y) (take-nil many) (drop-nil many) in
          ap (λ (l : List ℕ). controls_from p (drop (row_words * row) l)) (past_same w)
          ∙ sym (ap₂ (λ (x y : List ControlValue). x ++ y) (take_all start before (omega (arith, all))) nothing ∙ append-nil before)
      go false e =
          let w : start ≤ p = ltb-false p start e in
          ap (λ (l : List ℕ). controls_from p l) split_row
          ∙ part_changed f fits_word start many p (drop (row_words * row) cs) (omega arith) (rw (length-drop (row_words * row) cs) (omega arith))
