-- The judgment of a list along its items.
use Rattle.std.specs.Prelude.{ℕ, ◌+◌, ◌%◌, ◌<◌, ◌≤◌, Bool, true, false, ◌≡◌, refl, length, leb}
use Rattle.std.proofs.Common.{sym, subst, ◌∙◌, arith, eq-eqb, ne_eqb}
use Rattle.std.proofs.Math.Path.{ap}
use mathlib.Core.List.{List}
use Rattle.words.specs.Choice.{pick, both}
use Rattle.lists.specs.declared.Verdict.TheVariants.{NoList, Unfit, Fit}
use Rattle.lists.specs.declared.Kind.{Kind}
use Rattle.lists.specs.declared.Kind.TheVariants.{NoItem, Unlisted, Acts}
use Rattle.lists.specs.Lent.{Item, item_words, most_commands, count_in, items_of, kind_of, is_item, acts, every, is_list, verdict}
use Rattle.lists.specs.Walk.{item_at, items_at, items_first, items_next, items_last}
use Rattle.words.specs.ChoiceLaws.{both_assoc}

-- words left over are no item's
pub not_whole : (us bytes : List ℕ) → (length us % item_words ≡ 0 → ⊥) → NoList ≡ verdict us bytes
unfolding verdict
not_whole us bytes h = rw (ne_eqb (length us % item_words) 0 h)

-- what is left to judge decides as the whole does
pub record Judging (us : List ℕ) (room i : ℕ) (fit : Bool) : Type 0 where
  pub near : i ≤ count_in us
  pub items : every is_item room (items_of us) ≡ every is_item room (items_at us i)
  pub fits : both (leb (count_in us) most_commands) (every acts room (items_of us)) ≡ both fit (every acts room (items_at us i))

pub both_none : (a : Bool) → false ≡ both a false
both_none true = refl
both_none false = refl

pub both_right : (fit : Bool) → both fit true ≡ fit
both_right true = refl
both_right false = refl

module _ (us : List ℕ) (room : ℕ) where
  pub judge_begins : Judging us room 0 (leb (count_in us) most_commands)
  judge_begins = record {
    near = omega arith;
    items = ap (λ (l : List Item). every is_item room l) (sym (items_first us));
    fits = ap (λ (l : List Item). both (leb (count_in us) most_commands) (every acts room l)) (sym (items_first us));
  }

  pub every_next : (pass : Kind → Bool) (i : ℕ) → i < count_in us → every pass room (items_at us i) ≡ both (pass (kind_of room (item_at us i))) (every pass room (items_at us (i + 1)))
  unfolding every
  every_next pass i h = ap (λ (l : List Item). every pass room l) (items_next us i h)

  every-last : (pass : Kind → Bool) (i : ℕ) → count_in us ≤ i → every pass room (items_at us i) ≡ true
  unfolding every
  every-last pass i h = ap (λ (l : List Item). every pass room l) (items_last us i h)

  module _ (i : ℕ) (fit : Bool) (j : Judging us room i fit) where
    pub judge_stops : i < count_in us → is_item (kind_of room (item_at us i)) ≡ false → every is_item room (items_of us) ≡ false
    judge_stops h k = j.items ∙ every_next is_item i h ∙ rw k

    pub judge_goes : i < count_in us → is_item (kind_of room (item_at us i)) ≡ true → Judging us room (i + 1) (both fit (acts (kind_of room (item_at us i))))
    judge_goes h k = record {
      near = omega arith;
      items = j.items ∙ every_next is_item i h ∙ rw k;
      fits =
          j.fits
          ∙ ap (λ (b : Bool). both fit b) (every_next acts i h)
          ∙ both_assoc fit (acts (kind_of room (item_at us i))) (every acts room (items_at us (i + 1)));
    }

    -- by its kind: one that no list holds, one that is tried
    pub judge_unlisted : i < count_in us → kind_of room (item_at us i) ≡ Unlisted → Judging us room (i + 1) false
    judge_unlisted h k =
        subst (λ (b : Bool). Judging us room (i + 1) b) (ap (λ (x : Kind). both fit (acts x)) k ∙ sym (both_none fit)) (judge_goes h (ap is_item k))

    pub judge_acts : i < count_in us → kind_of room (item_at us i) ≡ Acts → Judging us room (i + 1) fit
    judge_acts h k =
        subst (λ (b : Bool). Judging us room (i + 1) b) (ap (λ (x : Kind). both fit (acts x)) k ∙ both_right fit) (judge_goes h (ap is_item k))

    pub judge_ends : count_in us ≤ i → (every is_item room (items_of us) ≡ true) × (both (leb (count_in us) most_commands) (every acts room (items_of us)) ≡ fit)
    judge_ends h = (j.items ∙ every-last is_item i h, j.fits ∙ ap (λ (b : Bool). both fit b) (every-last acts i h) ∙ both_right fit)

-- the verdict, where the items are whole
module _ (us bytes : List ℕ) (whole : length us % item_words ≡ 0) where
  pub no_list : every is_item (length bytes) (items_of us) ≡ false → NoList ≡ verdict us bytes
  unfolding verdict
  no_list h = rw (eq-eqb (length us % item_words) 0 whole, h)

  pub a-list : (fit : Bool) → (every is_item (length bytes) (items_of us) ≡ true) × (both (leb (count_in us) most_commands) (every acts (length bytes) (items_of us)) ≡ fit) → pick fit Fit Unfit ≡ verdict us bytes
  unfolding verdict
  a-list fit h = rw (eq-eqb (length us % item_words) 0 whole, h.0, h.1)

-- a list that is fit: each item is a command that doesn't reply
pub fit_acts : (us bytes : List ℕ) → verdict us bytes ≡ Fit → every acts (length bytes) (items_of us) ≡ true
unfolding verdict
fit_acts us bytes h = go (is_list us bytes) (leb (count_in us) most_commands) (every acts (length bytes) (items_of us)) h
  where
    go : (listed short each : Bool) → pick listed (pick (both short each) Fit Unfit) NoList ≡ Fit → each ≡ true
    go listed short true k = refl
    go true true false k = let z : ◌≡◌ {A = ℕ} 0 1 = cc in absurd (omega arith)
    go true false false k = let z : ◌≡◌ {A = ℕ} 0 1 = cc in absurd (omega arith)
    go false short false k = let z : ◌≡◌ {A = ℕ} 0 1 = cc in absurd (omega arith)

pub acts_only : (k : Kind) → acts k ≡ true → k ≡ Acts
acts_only NoItem h = cc
acts_only Unlisted h = cc
acts_only Acts h = refl
