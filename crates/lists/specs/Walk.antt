-- A list's items from a place on: what is left of the list, as a walk along it finds them.
use Rattle.std.specs.Prelude.{ℕ, suc, ◌+◌, ◌*◌, ◌-◌, ◌<◌, ◌≤◌, ◌≡◌, List, [], ◌∷◌, length, take, drop}
use Rattle.std.proofs.Common.{ap, ◌∙◌, arith, drop-drop, length-drop, take_all}
use Rattle.lists.specs.Lent.{Item, item_words, item_in, items_from, count_in, items_of}

abbrev pub item_at : List ℕ → ℕ → Item
item_at us i = item_in (drop (item_words * i) us)

abbrev pub items_at : List ℕ → ℕ → List Item
items_at us i = items_from (count_in us - i) (drop (item_words * i) us)

-- the words of a list from a place on, as the code lends them
pub tail_is : (n : ℕ) (us : List ℕ) → take (length us - n) (drop n us) ≡ drop n us
tail_is n us = take_all (length us - n) (drop n us) (simp length-drop (omega arith))

pub items_first : (us : List ℕ) → items_at us 0 ≡ items_of us
items_first us = let e : count_in us - 0 ≡ count_in us = omega arith in rw e

pub items_next : (us : List ℕ) (i : ℕ) → i < count_in us → items_at us i ≡ item_at us i ∷ items_at us (i + 1)
unfolding items_from
items_next us i h =
    let n : count_in us - i ≡ suc (count_in us - (i + 1)) = omega arith in
    let far : item_words * i + item_words ≡ item_words * (i + 1) = omega arith in
    ap (λ (k : ℕ). items_from k (drop (item_words * i) us)) n
    ∙ ap (λ (l : List ℕ). item_at us i ∷ items_from (count_in us - (i + 1)) l) (drop-drop item_words (item_words * i) us ∙ ap (λ (k : ℕ). drop k us) far)

pub items_last : (us : List ℕ) (i : ℕ) → count_in us ≤ i → items_at us i ≡ []
unfolding items_from
items_last us i h =
    let n : count_in us - i ≡ 0 = omega arith in
    ap (λ (k : ℕ). items_from k (drop (item_words * i) us)) n
