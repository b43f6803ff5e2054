-- Laws of the first field of what is left of a store.
use Prim.Native.Nat.{ℕ, zero, suc, ◌+◌, ◌-◌, ◌≤◌, ◌<◌}
use Rattle.std.specs.Prelude.{true, false, ◌≡◌, refl, get_or, slice_range}
use Rattle.std.proofs.Common.{sym, ◌∙◌}
use Rattle.std.proofs.Math.Path.{ap}
use mathlib.Core.List.{List, [], ◌∷◌}
use native.Mathlib.Omega.{arith}
use Rattle.std.proofs.lemmas.List.{take_rest}
use borrow.Author.Tests.{lt-ltb, le-ltb, eq-eqb}
use Rattle.std.proofs.Math.ListN.{length, take, length-drop}
use Rattle.words.specs.Choice.{pick}
use Rattle.tagged.specs.Fields.{Field, head_size, size_in, is_cut, field_in, behind}
use Rattle.store.specs.Store.{closes, cut_field, fields_from, fields_of}
use Rattle.store.specs.ReadingLaws.{steps_enough}
use Rattle.store.specs.FormedWalk.{field_with, FieldFirst}

-- a list that does not begin with 0 has a first number
not_empty : (s : List ℕ) → (get_or s 0 0 ≡ 0 → ⊥) → 0 < length s
not_empty [] h = absurd (h refl)
not_empty (b ∷ s) h = omega arith

none_from : (n : ℕ) (s : List ℕ) → closes s ≡ true → fields_from n s ≡ []
unfolding fields_from
none_from zero s h = refl
none_from (suc n) s h = rw h

module _ (s : List ℕ) where
  pub first_closed : closes s ≡ true → fields_of s ≡ pick (closes s) [] (cut_field ∷ [])
  first_closed h = none_from (length s) s h ∙ rw h

  module _ (field : closes s ≡ false) where
    more : 0 < length s
    more = not_empty s (λ e. let no : false ≡ true = sym field ∙ eq-eqb (get_or s 0 0) 0 e in cc)

    fields_open : fields_of s ≡ pick (is_cut s) (cut_field ∷ []) (field_in s ∷ fields_from (length s - 1) (behind s))
    unfolding fields_from
    fields_open =
        let size : length s ≡ suc (length s - 1) = omega (arith, more) in
        ap (λ (n : ℕ). fields_from n s) size ∙ rw field

    pub first_cut : length s < head_size + size_in s → fields_of s ≡ pick (closes s) [] (cut_field ∷ [])
    first_cut h = fields_open ∙ rw (field, lt-ltb (length s) (head_size + size_in s) h)

    pub first_whole : (size : ℕ) → size ≡ size_in s → head_size + size ≤ length s
        → FieldFirst s (field_with (get_or s 0 0) (slice_range s head_size (head_size + size))) (slice_range s (head_size + size) (length s))
    first_whole size e inside =
        let within : head_size + size_in s ≤ length s = omega (arith, e) in
        let uncut : is_cut s ≡ false = le-ltb (length s) (head_size + size_in s) within in
        let contents : head_size + size_in s - head_size ≡ size_in s = omega arith in
        let last : take (length s - (head_size + size_in s)) (behind s) ≡ behind s = take_rest s (head_size + size_in s) in
        rw (e, contents, last) (record {
          whole = uncut;
          first = refl;
          next = refl;
          fields =
              fields_open
              ∙ rw uncut
              (ap (λ (fs : List Field). field_in s ∷ fs)
              (steps_enough (length s - 1) (length (behind s)) (behind s) (simp length-drop (omega (arith, more))) (omega arith)));
          shorter = simp length-drop (omega (arith, more));
        })
