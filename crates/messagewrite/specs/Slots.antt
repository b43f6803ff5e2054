-- The slots of a row, one by one, by their codes.
use Rattle.std.specs.Prelude.{ℕ, zero, suc, ◌+◌, ◌≤◌, ◌<◌, ◌≡◌, refl, Bool, true, false, not, List, [], ◌∷◌, ◌++◌, length, take, drop, slice_get, Some}
use Rattle.std.specs.Option.{is_some}
use Rattle.std.proofs.Common.{ap, ap₂, ◌∙◌, append-nil, arith, add-one, length-append, take_all, length-take-le}
use Rattle.std.proofs.lemmas.Option.{same_Some}
use Rattle.words.specs.Choice.{either}
use Rattle.osc.specs.Message.{Argument, tag_of, argument_bytes, tags, arguments}
use Rattle.osc.specs.Lengths.{tags_size, tags-append, arguments_append}
use Rattle.messages.specs.declared.Slot.{Slot}
use Rattle.messages.specs.Table.{Given, give, give_all}
use Rattle.messages.specs.Write.{unfit, any_unfit}
use Rattle.messagewrite.specs.Codes.{size_by, size-by}

-- there is a slot at each place before the end alone
pub slot_none : (slots : List Slot) (k : ℕ) (b : Bool) → is_some (slice_get slots k) ≡ not b → b ≡ true → length slots ≤ k
slot_none [] k b e h = omega arith
slot_none (slot ∷ slots) zero b e h = cc
slot_none (slot ∷ slots) (suc k) b e h = omega (arith, slot_none slots k b e h)

pub slot_more : (slots : List Slot) (k : ℕ) (b : Bool) → is_some (slice_get slots k) ≡ not b → b ≡ false → k < length slots
slot_more [] k b e h = cc
slot_more (slot ∷ slots) zero b e h = omega arith
slot_more (slot ∷ slots) (suc k) b e h = omega (arith, slot_more slots k b e h)

pub given_count : (slots : List Slot) (g : Given) → length (give_all slots g) ≡ length slots
unfolding give_all
given_count [] g = refl
given_count (slot ∷ slots) g = ap suc (given_count slots g)

given_suc : (slots : List Slot) (g : Given) (k : ℕ) (slot : Slot) → slice_get slots k ≡ Some slot → take (suc k) (give_all slots g) ≡ take k (give_all slots g) ++ (give slot g ∷ [])
unfolding give_all
given_suc [] g k slot h = cc
given_suc (x ∷ slots) g zero slot h = ap (λ (y : Slot). give y g ∷ []) (same_Some x slot h)
given_suc (x ∷ slots) g (suc k) slot h = ap (λ (l : List Argument). give x g ∷ l) (given_suc slots g k slot h)

-- one argument more behind the first k
pub next_given : (slots : List Slot) (g : Given) (k : ℕ) (slot : Slot) → slice_get slots k ≡ Some slot → take (k + 1) (give_all slots g) ≡ take k (give_all slots g) ++ (give slot g ∷ [])
next_given slots g k slot h = rw add-one (given_suc slots g k slot h)

-- and with it its tag and its bytes
pub next_tag : (slots : List Slot) (g : Given) (k : ℕ) (slot : Slot) → slice_get slots k ≡ Some slot → tags (take (k + 1) (give_all slots g)) ≡ tags (take k (give_all slots g)) ++ (tag_of (give slot g) ∷ [])
unfolding tags
next_tag slots g k slot h = ap tags (next_given slots g k slot h) ∙ tags-append (take k (give_all slots g)) (give slot g ∷ [])

pub next_bytes : (slots : List Slot) (g : Given) (k : ℕ) (slot : Slot) → slice_get slots k ≡ Some slot → arguments (take (k + 1) (give_all slots g)) ≡ arguments (take k (give_all slots g)) ++ argument_bytes (give slot g)
unfolding arguments
next_bytes slots g k slot h =
    ap arguments (next_given slots g k slot h)
    ∙ arguments_append (take k (give_all slots g)) (give slot g ∷ [])
    ∙ ap (λ (l : List ℕ). arguments (take k (give_all slots g)) ++ l) (append-nil (argument_bytes (give slot g)))

pub tags_taken : (slots : List Slot) (g : Given) (k : ℕ) → k ≤ length slots → length (tags (take k (give_all slots g))) ≡ k
tags_taken slots g k h = tags_size (take k (give_all slots g)) ∙ length-take-le k (give_all slots g) (rw (given_count slots g) h)

pub taken_all : (slots : List Slot) (g : Given) (k : ℕ) → k ≡ length slots → take k (give_all slots g) ≡ give_all slots g
taken_all slots g k e = take_all k (give_all slots g) (rw (given_count slots g) (omega arith))

-- the sizes of all arguments, beside a name or a file of so many bytes
unfoldable pub sizes : List Slot → ℕ → ℕ
sizes [] size = 0
sizes (slot ∷ slots) size = size_by slot size + sizes slots size

pub arguments_size : (slots : List Slot) (g : Given) → length (arguments (give_all slots g)) ≡ sizes slots (length g.bytes)
unfolding give_all arguments sizes
arguments_size [] g = refl
arguments_size (slot ∷ slots) g =
    length-append (argument_bytes (give slot g)) (arguments (give_all slots g))
    ∙ ap₂ (λ (a b : ℕ). a + b) (size-by slot g) (arguments_size slots g)

pub sizes_past : (slots : List Slot) (k size : ℕ) → length slots ≤ k → sizes (drop k slots) size ≡ 0
unfolding sizes
sizes_past [] zero size h = refl
sizes_past [] (suc k) size h = refl
sizes_past (slot ∷ slots) zero size h = omega arith
sizes_past (slot ∷ slots) (suc k) size h = sizes_past slots k size (omega arith)

sizes-suc : (slots : List Slot) (k size : ℕ) (slot : Slot) → slice_get slots k ≡ Some slot → sizes (drop k slots) size ≡ size_by slot size + sizes (drop (suc k) slots) size
unfolding sizes
sizes-suc [] k size slot h = cc
sizes-suc (x ∷ slots) zero size slot h = ap (λ (y : Slot). size_by y size + sizes slots size) (same_Some x slot h)
sizes-suc (x ∷ slots) (suc k) size slot h = sizes-suc slots k size slot h

pub sizes_turn : (slots : List Slot) (k size : ℕ) (slot : Slot) → slice_get slots k ≡ Some slot → sizes (drop k slots) size ≡ size_by slot size + sizes (drop (k + 1) slots) size
sizes_turn slots k size slot h = rw add-one (sizes-suc slots k size slot h)

pub unfit_past : (bytes : List ℕ) (slots : List Slot) (k : ℕ) → length slots ≤ k → any_unfit bytes (drop k slots) ≡ false
unfolding any_unfit
unfit_past bytes [] zero h = refl
unfit_past bytes [] (suc k) h = refl
unfit_past bytes (slot ∷ slots) zero h = absurd (omega arith)
unfit_past bytes (slot ∷ slots) (suc k) h = unfit_past bytes slots k (omega arith)

unfit-suc : (bytes : List ℕ) (slots : List Slot) (k : ℕ) (slot : Slot) → slice_get slots k ≡ Some slot
    → any_unfit bytes (drop k slots) ≡ either (unfit bytes slot) (any_unfit bytes (drop (suc k) slots))
unfolding any_unfit
unfit-suc bytes [] k slot h = cc
unfit-suc bytes (x ∷ slots) zero slot h = ap (λ (y : Slot). either (unfit bytes y) (any_unfit bytes slots)) (same_Some x slot h)
unfit-suc bytes (x ∷ slots) (suc k) slot h = unfit-suc bytes slots k slot h

pub unfit_turn : (bytes : List ℕ) (slots : List Slot) (k : ℕ) (slot : Slot) → slice_get slots k ≡ Some slot
    → any_unfit bytes (drop k slots) ≡ either (unfit bytes slot) (any_unfit bytes (drop (k + 1) slots))
unfit_turn bytes slots k slot h = rw add-one (unfit-suc bytes slots k slot h)
