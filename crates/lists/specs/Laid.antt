-- The tests of one item, as the code makes them.
use Rattle.std.specs.Prelude.{ℕ, ◌+◌, ◌-◌, ◌<◌, ◌≤◌, Bool, ◌≡◌, [], ◌∷◌, eqb, leb, None}
use Rattle.std.proofs.Math.Bool.{true, false}
use Rattle.std.proofs.Math.Path.{refl}
use Rattle.std.proofs.Common.{sym, ap, ◌∙◌, arith}
use borrow.Author.Tests.{le-leb, lt-leb, eq-eqb, ne_eqb, leb-true, leb-false}
use Rattle.words.specs.Choice.{pick, both}
use Rattle.words.specs.ChoiceLaws.{both_true}
use Rattle.lists.specs.declared.Kind.TheVariants.{NoItem, Unlisted, Acts}
use Rattle.calls.specs.Ops.{recall}
use Rattle.lists.specs.Lent.{Item, parsed, zeros, is_laid, of_parsed, kind_of}

-- four words
module _ (a b c d : ℕ) where
  pub zeros_1 : (a ≡ 0 → ⊥) → false ≡ zeros (a ∷ (b ∷ (c ∷ (d ∷ []))))
  unfolding zeros
  zeros_1 h = rw (ne_eqb a 0 h)

  pub zeros_2 : a ≡ 0 → (b ≡ 0 → ⊥) → false ≡ zeros (a ∷ (b ∷ (c ∷ (d ∷ []))))
  unfolding zeros
  zeros_2 x h = rw (eq-eqb a 0 x, ne_eqb b 0 h)

  pub zeros_3 : a ≡ 0 → b ≡ 0 → (c ≡ 0 → ⊥) → false ≡ zeros (a ∷ (b ∷ (c ∷ (d ∷ []))))
  unfolding zeros
  zeros_3 x y h = rw (eq-eqb a 0 x, eq-eqb b 0 y, ne_eqb c 0 h)

  pub zeros_4 : a ≡ 0 → b ≡ 0 → c ≡ 0 → eqb d 0 ≡ zeros (a ∷ (b ∷ (c ∷ (d ∷ []))))
  unfolding zeros
  zeros_4 x y z = rw (eq-eqb a 0 x, eq-eqb b 0 y, eq-eqb c 0 z) (last (eqb d 0))
    where
      last : (t : Bool) → t ≡ both t true
      last true = refl
      last false = refl

module _ (room : ℕ) (i : Item) where
  pub laid_later : zeros i.later ≡ false → false ≡ is_laid room i
  laid_later h = rw h

  pub laid_past : zeros i.later ≡ true → room < i.start → false ≡ is_laid room i
  laid_past z h = rw (z, lt-leb (i.start + i.size) room (omega arith))

  pub laid_by : zeros i.later ≡ true → i.start ≤ room → leb i.size (room - i.start) ≡ is_laid room i
  laid_by z h = go (leb (i.start + i.size) room) refl
    where
      go : (t : Bool) → leb (i.start + i.size) room ≡ t → leb i.size (room - i.start) ≡ is_laid room i
      go true e = let low = leb-true (i.start + i.size) room e in rw (z, e) (le-leb i.size (room - i.start) (omega arith))
      go false e = let high = leb-false (i.start + i.size) room e in rw (z, e) (lt-leb i.size (room - i.start) (omega arith))

  -- an item that acts is laid as it should be, and has a command
  acts-both : kind_of room i ≡ Acts → (is_laid room i ≡ true) × (of_parsed (parsed i) ≡ Acts)
  acts-both h = go (is_laid room i) h
    where
      by_op : (r : Bool) → pick r Unlisted (of_parsed (parsed i)) ≡ Acts → of_parsed (parsed i) ≡ Acts
      by_op true k = let z : ◌≡◌ {A = ℕ} 0 1 = cc in absurd (omega arith)
      by_op false k = k

      go : (t : Bool) → pick t (pick (eqb i.op recall) Unlisted (of_parsed (parsed i))) NoItem ≡ Acts → (t ≡ true) × (of_parsed (parsed i) ≡ Acts)
      go true k = (refl, by_op (eqb i.op recall) k)
      go false k = let z : ◌≡◌ {A = ℕ} 0 1 = cc in absurd (omega arith)

  pub acts_laid : kind_of room i ≡ Acts → i.start + i.size ≤ room
  acts_laid h = leb-true (i.start + i.size) room (both_true (zeros i.later) (leb (i.start + i.size) room) (acts-both h).0).1

  pub acts-parsed : kind_of room i ≡ Acts → parsed i ≡ None → ⊥
  acts-parsed h n =
      let k : NoItem ≡ Acts = sym (ap of_parsed n) ∙ (acts-both h).1 in
      let z : ◌≡◌ {A = ℕ} 0 1 = cc in
      absurd (omega arith)
