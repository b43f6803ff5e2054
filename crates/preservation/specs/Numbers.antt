-- The number of a new synth: given, or the next one, which falls.
use Rattle.std.specs.Prelude.{ℕ, ◌-◌, ◌≤◌, ◌<◌, Bool, true, false, not, ◌≡◌, refl, List, [], ◌∷◌, ltb, leb, eqb}
use Rattle.std.proofs.Common.{sym, arith, lt-ltb, le-ltb, le-leb, leb-true, leb-false, eqb-true, ne_eqb}
use Rattle.std.proofs.lemmas.Bool.{eqb-false}
use Rattle.words.specs.Choice.{pick, both, either}
use Rattle.words.specs.ChoiceLaws.{both_true}
use Rattle.nodes.specs.declared.Node.{Node}
use Rattle.nodes.specs.Place.{group_slot, lives}
use Rattle.nodes.specs.Formed.{first_given, last_given, none_left, most_rows, number_formed, fields_formed, all_formed, next_formed}
use Rattle.model.specs.Layout.{slot_count}
use Rattle.words.specs.Patterns.{minus_one}
use Rattle.model.specs.Meaning.{is_negative}
use Rattle.model.specs.Effects.{new_synth, new_group, number_for, next_after}

-- the next number has not been given
next_new : (next : ℕ) (t : List Node) → last_given ≤ next → all_formed next t ≡ true → lives next t ≡ false
unfolding all_formed lives
next_new next [] h f = refl
next_new next (r ∷ l) h f =
    let a = both_true (fields_formed next r) (all_formed next l) f in
    let b = both_true (number_formed next r) _ a.0 in
    go (eqb r.number next) refl b.0 (next_new next l h a.1)
  where
    go : (p : Bool) → eqb r.number next ≡ p → number_formed next r ≡ true → lives next l ≡ false → pick p true (lives next l) ≡ false
    go true e g ih =
        let same : r.number ≡ next = eqb-true r.number next e in
        let high : ltb r.number last_given ≡ false = le-ltb r.number last_given (omega arith) in
        let given : ltb next r.number ≡ false = le-ltb next r.number (omega arith) in
        let z : both (leb r.number first_given) false ≡ true = rw (high, given) at g in
        clash (leb r.number first_given) z
      where
        clash : (b : Bool) → both b false ≡ true → true ≡ false
        clash true q = sym q
        clash false q = sym q
    go false e g ih = ih

-- what a new synth's number is, and the next one after it
pub record Given (number next : ℕ) (t : List Node) : Type 0 where
  pub fall : next_after number next ≤ next
  pub next_right : next_formed (next_after number next) ≡ true
  pub new : lives (number_for number next) t ≡ false
  pub fields : (slot row : ℕ) → slot < slot_count → row < most_rows → fields_formed (next_after number next) (new_synth (number_for number next) slot row) ≡ true

-- the fields of a new synth, by its number alone
synth_fields : (next number slot row : ℕ) → either (ltb number last_given) (both (leb number first_given) (ltb next number)) ≡ true → slot < slot_count → row < most_rows
    → fields_formed next (new_synth number slot row) ≡ true
synth_fields next number slot row h l m =
    rw (ne_eqb slot group_slot (λ q. omega arith), le-leb slot group_slot (omega arith), lt-ltb row most_rows m)
    (go (ltb number last_given) (leb number first_given) (ltb next number) h)
  where
    go : (a b c : Bool) → either a (both b c) ≡ true → both (either a (both b (both c true))) true ≡ true
    go true b c e = refl
    go false true true e = refl
    go false true false e = e
    go false false c e = e

pub given : (number next : ℕ) (t : List Node) → both (is_negative number) (not (eqb number minus_one)) ≡ false → both (not (eqb number minus_one)) (lives number t) ≡ false
    → both (eqb number minus_one) (eqb next none_left) ≡ false → next_formed next ≡ true → all_formed next t ≡ true → Given number next t
given number next t low dead left n f =
    let w = both_true (leb none_left next) (leb next first_given) n in
    go (eqb number minus_one) refl low dead left (leb-true none_left next w.0) (leb-true next first_given w.1)
  where
    go : (b : Bool) → eqb number minus_one ≡ b → both (is_negative number) (not b) ≡ false → both (not b) (lives number t) ≡ false → both b (eqb next none_left) ≡ false
        → none_left ≤ next → next ≤ first_given → Given number next t
    go true e a d c lo hi =
        let more : next ≡ none_left → ⊥ = eqb-false next none_left c in
        let from : last_given ≤ next = omega arith in
        record {
          fall = rw e (omega arith);
          next_right = rw (e, le-leb none_left (next - 1) (omega arith)) (le-leb (next - 1) first_given (omega arith));
          new = rw e (next_new next t from f);
          fields = λ slot row l m. rw e (synth_fields (next - 1) next slot row (rw (le-ltb next last_given from, le-leb next first_given hi) (lt-ltb (next - 1) next (omega arith))) l m);
        }
    go false e a d c lo hi =
        let small : number < last_given = leb-false last_given number (plain (leb last_given number) a) in
        record {
          fall = rw e (omega arith);
          next_right = rw e n;
          new = rw e d;
          fields = λ slot row l m. rw e (synth_fields next number slot row (rw (lt-ltb number last_given small)) l m);
        }
      where
        plain : (p : Bool) → both p true ≡ false → p ≡ false
        plain true q = q
        plain false q = q

-- the fields of a new group
pub group_fields : (next number : ℕ) → is_negative number ≡ false → fields_formed next (new_group number) ≡ true
group_fields next number h = rw (lt-ltb number last_given (leb-false last_given number h))
