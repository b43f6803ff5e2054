-- Laws of taking arguments, one by one.
use Rattle.std.specs.Prelude.{ℕ, zero, suc, ◌+◌, ◌<◌, ◌≤◌, ◌≡◌, refl, List, [], ◌∷◌, length, drop, get_or, slice_get}
use Rattle.std.proofs.Common.{sym, ap, subst, ◌∙◌, add-one, drop_of_length-le, drop-cons}
use Rattle.osc.specs.Message.{Argument}
use Rattle.messages.specs.Form.{Parse, parsed, faulty, and_then, map_parse, argument_at, arguments_at}
use Rattle.messages.specs.declared.Slot.{Slot}
use Rattle.messages.specs.Table.{Given, take_all}
use Rattle.messageread.specs.Keep.{take_in, argument_taken, taken_at}

take_one : (slots : List Slot) (k : ℕ) (x : Argument) (xs : List Argument) (g : Given)
    → take_all (drop k slots) (x ∷ xs) g ≡ take_all (drop (suc k) slots) xs (take_in (slice_get slots k) x g)
unfolding take_all
take_one [] zero x xs g = refl
take_one [] (suc k) x xs g = refl
take_one (slot ∷ slots) zero x xs g = refl
take_one (slot ∷ slots) (suc k) x xs g = take_one slots k x xs g

-- what was read under a name
pub mapped : {A B C : Type 0} (p : Parse A) (f : A → B) (more : B → ℕ → Parse C) → and_then (map_parse f p) more ≡ and_then p (λ x next. more (f x) next)
mapped (parsed x next) f more = refl
mapped faulty f more = refl

take_none : (slots : List Slot) (g : Given) → take_all slots [] g ≡ g
unfolding take_all
take_none [] g = refl
take_none (slot ∷ slots) g = refl

module _ (slots : List Slot) (k : ℕ) (g : Given) where
  after_rest : (x : Argument) (q : Parse (List Argument))
      → and_then (and_then q (λ xs end. parsed (x ∷ xs) end)) (λ xs end. parsed (take_all (drop k slots) xs g) end)
      ≡ and_then q (λ xs end. parsed (take_all (drop (suc k) slots) xs (take_in (slice_get slots k) x g)) end)
  after_rest x (parsed xs end) = ap (λ (h : Given). parsed h end) (take_one slots k x xs g)
  after_rest x faulty = refl

  after_one : (p : Parse Argument) (rest : ℕ → Parse (List Argument))
      → and_then (and_then p (λ x next. and_then (rest next) (λ xs end. parsed (x ∷ xs) end))) (λ xs end. parsed (take_all (drop k slots) xs g) end)
      ≡ and_then (and_then p (λ x next. parsed (take_in (slice_get slots k) x g) next)) (λ h next. and_then (rest next) (λ xs end. parsed (take_all (drop (suc k) slots) xs h) end))
  after_one (parsed x next) rest = after_rest x (rest next)
  after_one faulty rest = refl

-- one argument, and those behind it
pub taken_turn : (slots : List Slot) (tags : List ℕ) (k : ℕ) (s : List ℕ) (at : ℕ) (g : Given) → k < length tags
    → taken_at (drop k slots) (drop k tags) s at g
    ≡ and_then (argument_taken slots k (get_or tags k 0) s at g) (λ h next. taken_at (drop (k + 1) slots) (drop (k + 1) tags) s next h)
unfolding arguments_at
taken_turn slots tags k s at g l =
    subst
    (λ (j : ℕ). taken_at (drop k slots) (drop k tags) s at g ≡ and_then (argument_taken slots k (get_or tags k 0) s at g) (λ h next. taken_at (drop j slots) (drop j tags) s next h))
    (sym (add-one k))
    (ap (λ (ts : List ℕ). taken_at (drop k slots) ts s at g) (drop-cons tags k 0 l)
    ∙ after_one slots k g (argument_at (get_or tags k 0) s at) (λ next. arguments_at (drop (suc k) tags) s next))

pub taken_end : (slots : List Slot) (tags : List ℕ) (k : ℕ) (s : List ℕ) (at : ℕ) (g : Given) → length tags ≤ k → taken_at (drop k slots) (drop k tags) s at g ≡ parsed g at
unfolding arguments_at
taken_end slots tags k s at g l =
    ap (λ (ts : List ℕ). taken_at (drop k slots) ts s at g) (drop_of_length-le tags l) ∙ ap (λ (h : Given). parsed h at) (take_none (drop k slots) g)
