-- Initial values: floats in a definition's bytes, and the words of controls that they make.
use Rattle.std.specs.Prelude.{ℕ, zero, suc, ◌+◌, ◌*◌, ◌≤◌, ◌<◌, ◌≡◌, refl, List, [], ◌∷◌, ◌++◌, length, take, drop, get_or, set, Option, Some, None}
use Rattle.std.proofs.Common.{sym, ap, ap₂, ◌∙◌, append-nil, arith, add-zero, add-one, take-append-drop, take_all}
use Rattle.std.proofs.lemmas.Option.{some_pair_parts}
use Rattle.std.proofs.Math.Seq.{paste, paste-suc}
use Rattle.format.specs.declared.Width.TheVariants.{Long}
use Rattle.format.specs.Read.{on_read, Read, got, bad, repeat}
use Rattle.readable.specs.Lookup.{values_in}
use Rattle.format.specs.Fields.{float32, word}
use Rattle.format.specs.FieldLaws.{whole_got}
use Rattle.format.specs.RepeatLaws.{went_on, floats_at}
use Rattle.format.specs.Definition.{Front}
use Rattle.format.specs.Reader.{read_front}
use Rattle.front.specs.Front.{values_at}
use Rattle.front.specs.FrontLaws.{front_got}
use Rattle.words.specs.Parts.{over}
use Rattle.model.specs.Engine.{value_or}
use Rattle.model.specs.Effects.{initial_words}
use Rattle.controls.specs.Encoded.{no_front, front_in}

-- so many floats from a place on, 0 where one is not whole
unfoldable pub floats_from : List ℕ → ℕ → ℕ → List ℕ
floats_from s zero at = []
floats_from s (suc n) at = value_or 0 (float32 s at) ∷ floats_from s n (at + 4)

pub floats_length : (s : List ℕ) (n at : ℕ) → length (floats_from s n at) ≡ n
unfolding floats_from
floats_length s zero at = refl
floats_length s (suc n) at = ap suc (floats_length s n (at + 4))

-- each of them
pub float_of : (s : List ℕ) (n at i : ℕ) → i < n → get_or (floats_from s n at) i 0 ≡ value_or 0 (float32 s (at + 4 * i))
unfolding floats_from
float_of s zero at i h = absurd (omega arith)
float_of s (suc n) at zero h = rw add-zero
float_of s (suc n) at (suc i) h =
    let place : at + 4 + 4 * i ≡ at + 4 * suc i = omega arith in
    float_of s n (at + 4) i (omega arith) ∙ ap (λ (k : ℕ). value_or 0 (float32 s k)) place

-- floats that were read are these
pub floats_read : (s : List ℕ) (n at : ℕ) {xs : List ℕ} {end : ℕ} → repeat (float32 s) n at ≡ got xs end → floats_from s n at ≡ xs
unfolding floats_from repeat
floats_read s zero at {xs} {end} h = ap (value_or xs) h
floats_read s (suc n) at {xs} {end} h =
    went_on (float32 s at) _ h (λ x p e1 h1.
    went_on (repeat (float32 s) n p) _ h1 (λ ys q e2 h2.
    let next : at + 4 ≡ p = (whole_got 4 s at (word s at) e1).1.1 in
    ap₂ (λ (r : Read ℕ) (l : List ℕ). value_or 0 r ∷ l) e1 (floats_read s n (at + 4) (ap (λ (k : ℕ). repeat (float32 s) n k) next ∙ e2))
    ∙ ap (value_or xs) h2))

-- and the last of them ends in the bytes
pub floats_end : (s : List ℕ) (n at : ℕ) {xs : List ℕ} {end : ℕ} → repeat (float32 s) n at ≡ got xs end → 0 < n → at + 4 * n ≤ length s
floats_end s zero at h some = absurd (omega arith)
floats_end s (suc n) at h some =
    let last = (whole_got 4 s (at + 4 * n) (word s (at + 4 * n)) (floats_at s (suc n) at n h (omega arith))).0 in
    omega arith

-- the words of controls
pub words-length : (xs : List ℕ) → length (initial_words xs) ≡ 2 * length xs
unfolding initial_words
words-length [] = refl
words-length (x ∷ xs) = let ih = words-length xs in omega arith

pub own_of : (xs : List ℕ) (i : ℕ) → get_or (initial_words xs) (2 * i) 0 ≡ get_or xs i 0
unfolding initial_words
own_of [] i = refl
own_of (x ∷ xs) zero = refl
own_of (x ∷ xs) (suc i) = let place : 2 * suc i ≡ suc (suc (2 * i)) = omega arith in rw place (own_of xs i)

pub mapping-of : (xs : List ℕ) (i : ℕ) → get_or (initial_words xs) (2 * i + 1) 0 ≡ 0
unfolding initial_words
mapping-of [] i = refl
mapping-of (x ∷ xs) zero = refl
mapping-of (x ∷ xs) (suc i) = let place : 2 * suc i + 1 ≡ suc (suc (2 * i + 1)) = omega arith in rw place (mapping-of xs i)

-- words written one by one
pub pasted : (d vs : List ℕ) (at n : ℕ) → length vs ≡ n → paste d at vs n ≡ over at vs d
pasted d vs at n e = ap₂ (λ (l : List ℕ) (k : ℕ). take at d ++ l ++ drop (at + k) d) (take_all n vs (omega arith)) (sym e)

pub over_none : (at : ℕ) (us : List ℕ) → over at [] us ≡ us
over_none at us = ap₂ (λ (l : List ℕ) (k : ℕ). l ++ drop k us) (append-nil (take at us)) (add-zero at) ∙ take-append-drop at us

-- two words more
pub pasted_two : (d vs : List ℕ) (at n x y : ℕ) → at + n + 2 ≤ length d → n + 2 ≤ length vs → x ≡ get_or vs n 0 → y ≡ get_or vs (n + 1) 0
    → set (set (paste d at vs n) (at + n) x) (at + n + 1) y ≡ paste d at vs (n + 2)
pasted_two d vs at n x y room long ex ey =
    let place : at + n + 1 ≡ at + suc n = omega arith in
    let end : suc (suc n) ≡ n + 2 = omega arith in
    let last : y ≡ get_or vs (suc n) 0 = ey ∙ ap (λ (k : ℕ). get_or vs k 0) (add-one n) in
    ap₂ (λ (k v : ℕ). set (set (paste d at vs n) (at + n) x) k v) place last
    ∙ ap (λ (l : List ℕ). set l (at + suc n) (get_or vs (suc n) 0)) (ap (λ (v : ℕ). set (paste d at vs n) (at + n) v) ex ∙ paste-suc d at vs n 0 (omega arith) (omega arith))
    ∙ paste-suc d at vs (suc n) 0 (omega arith) (omega arith)
    ∙ ap (paste d at vs) end

-- the initial values of a definition, by where the lookup says that they stand
pub record ValuesAt (s : List ℕ) (start count : ℕ) (xs : List ℕ) : Type 0 where
  pub many : count ≡ length xs
  pub end : 0 < count → start + 4 * count ≤ length s
  pub same : floats_from s count start ≡ xs

abbrev fact : Read Front → Option (ℕ × ℕ)
fact r = on_read r None (λ f next. Some (values_at Long 0 f, length f.values))

fact-at : (s : List ℕ) (r : Read Front) {start count : ℕ} → read_front s 0 ≡ r → fact r ≡ Some (start, count) → ValuesAt s start count (value_or no_front r).values
fact-at s (got f p) {start} {count} e h =
    let parts = some_pair_parts (values_at Long 0 f) start (length f.values) count h in
    let from : values_at Long 0 f ≡ start = parts.0 in
    let many : length f.values ≡ count = parts.1 in
    let read = (front_got Long s 0 e).values in
    record {
      many = sym many;
      end = λ some. rw (sym from, sym many) (floats_end s (length f.values) (values_at Long 0 f) read (rw (sym many) at some));
      same = rw (sym from, sym many) (floats_read s (length f.values) (values_at Long 0 f) read);
    }
fact-at s (bad q place) {start} {count} e h = let z : ◌≡◌ {A = ℕ} 0 1 = cc in absurd (omega arith)

pub values_fact : (s : List ℕ) {start count : ℕ} → values_in s ≡ Some (start, count) → ValuesAt s start count (front_in s).values
unfolding front_in
values_fact s h = fact-at s (read_front s 0) refl h

fact_none : (r : Read Front) → fact r ≡ None → (value_or no_front r).values ≡ []
fact_none (got f p) h = let z : ◌≡◌ {A = ℕ} 0 1 = cc in absurd (omega arith)
fact_none (bad q place) h = refl

pub values_none : (s : List ℕ) → values_in s ≡ None → (front_in s).values ≡ []
unfolding front_in
values_none s h = fact_none (read_front s 0) h

-- a definition without controls writes nothing
pub nothing_written : (at : ℕ) (xs us : List ℕ) → xs ≡ [] → over at (initial_words xs) us ≡ us
unfolding initial_words
nothing_written at xs us e = ap (λ (l : List ℕ). over at (initial_words l) us) e ∙ over_none at us

pub empty : (xs : List ℕ) → length xs ≡ 0 → xs ≡ []
empty [] h = refl
empty (x ∷ xs) h = absurd (omega arith)
