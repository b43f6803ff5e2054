-- How many children each record has, last record to first.
use Rattle.std.specs.Prelude.{ℕ, suc, ◌+◌, ◌-◌, ◌≤◌, ◌<◌, Bool, ◌≡◌, length, get_or, set, replicate, ltb, eqb}
use Rattle.std.proofs.Math.Bool.{true, false}
use Rattle.std.proofs.Math.Path.{refl, ap}
use Rattle.std.proofs.Common.{sym, ◌∙◌, arith, length-set, get_or-set_same, get_or-set_other, eqb-true, ltb-true, ltb-false, lt-ltb, le-ltb, eq-eqb, ne_eqb}
use mathlib.Core.List.{List, [], ◌∷◌}
use Rattle.std.proofs.lemmas.List.{length-replicate, get_or-replicate}
use Rattle.std.proofs.lemmas.Bool.{eqb-false}
use Rattle.words.specs.Choice.{pick}
use Rattle.words.specs.Parts.{region}
use Rattle.nodes.specs.declared.Node.{Node}
use Rattle.nodes.specs.TableLaws.{row-from, rows_end}
use Rattle.model.specs.Layout.{nodes_place, nodes_words, controls_in, record_in}
use Rattle.model.specs.Engine.{decode}
use Rattle.model.specs.View.{view_of, view_rows}
use Rattle.model.specs.Replies.{rows_below, rows_at}
use Rattle.treequery.specs.RowArguments.{depth_at, view_to, children_at}
use Rattle.treequery.specs.Nested.{Nested}

-- each record's children at its place
abbrev pub Families : List ℕ → List ℕ → ℕ → ℕ → List ℕ → Type 0
Families ws bs from end children = (i : ℕ) → from ≤ i → i < end → get_or children i 0 ≡ children_at ws bs end i

-- the children that a record at the depth d before the place i has
abbrev pub children_from : List ℕ → List ℕ → ℕ → ℕ → ℕ → ℕ
children_from ws bs end d i = rows_at (d + 1) (rows_below d (view_to ws bs end i))

below_turn : (a b : Bool) (m : ℕ) → pick a (pick b (suc m) m) 0 ≡ pick a (pick b 1 0 + m) 0
below_turn true true m = omega arith
below_turn true false m = omega arith
below_turn false b m = refl

module _ (ws bs : List ℕ) (d end i : ℕ) where
  children_turn : i < end → children_from ws bs end d i ≡ pick (ltb d (depth_at ws i)) (pick (eqb (depth_at ws i) (d + 1)) 1 0 + children_from ws bs end d (i + 1)) 0
  unfolding rows_at rows_below view_rows
  children_turn h =
      ap (λ (t : List Node). rows_at (d + 1) (rows_below d (view_rows (decode ws bs).slots (controls_in ws) t))) (row-from end (region nodes_place nodes_words ws) i h)
      ∙ go (ltb d (depth_at ws i))
    where
      go : (b : Bool)
          → rows_at (d + 1) (pick b (record { depth = depth_at ws i; node = view_of (decode ws bs).slots (controls_in ws) (record_in ws i) } ∷ rows_below d (view_to ws bs end (i + 1))) [])
          ≡ pick b (pick (eqb (depth_at ws i) (d + 1)) 1 0 + children_from ws bs end d (i + 1)) 0
      go true = below_turn true (eqb (depth_at ws i) (d + 1)) (children_from ws bs end d (i + 1))
      go false = refl

  children_end : end ≤ i → children_from ws bs end d i ≡ 0
  unfolding rows_at rows_below view_rows
  children_end h =
      ap (λ (t : List Node). rows_at (d + 1) (rows_below d (view_rows (decode ws bs).slots (controls_in ws) t))) (rows_end end (region nodes_place nodes_words ws) i h)

  -- none where what comes is no deeper
  children_none : (i < end → depth_at ws i ≤ d) → children_from ws bs end d i ≡ 0
  children_none flat = go (ltb i end) refl
    where
      go : (b : Bool) → ltb i end ≡ b → children_from ws bs end d i ≡ 0
      go true e = let less = ltb-true i end e in rw (le-ltb d (depth_at ws i) (flat less)) at (children_turn less)
      go false e = children_end (ltb-false i end e)

-- one place more
pub families_more : (ws bs : List ℕ) (end i v : ℕ) (children : List ℕ) → i < length children → v ≡ children_at ws bs end i → Families ws bs (i + 1) end children
    → Families ws bs i end (set children i v)
families_more ws bs end i v children low is f j h l = go (eqb j i) refl
  where
    go : (b : Bool) → eqb j i ≡ b → get_or (set children i v) j 0 ≡ children_at ws bs end j
    go true e =
        let here : j ≡ i = eqb-true j i e in
        ap (λ (k : ℕ). get_or (set children i v) k 0) here ∙ get_or-set_same children i v 0 low ∙ is ∙ ap (children_at ws bs end) (sym here)
    go false e = let apart = eqb-false j i e in get_or-set_other children i j v 0 apart ∙ f j (omega (arith, apart)) l

-- what is known of each depth, when the records from i on were gone over
pub record PerDepth (ws : List ℕ) (end i : ℕ) (below : List ℕ) : Type 0 where
  pub size : length below ≡ 256
  pub few : (d : ℕ) → d < 256 → get_or below d 0 ≤ end - i
  pub same : (bs : List ℕ) (d : ℕ) → d < 256 → get_or below d 0 ≡ children_from ws bs end d i

pub known_none : (ws : List ℕ) (end : ℕ) → PerDepth ws end end (replicate 256 0)
known_none ws end = record {
  size = length-replicate {A = ℕ} 256 0;
  few = λ d h. omega (arith, get_or-replicate {A = ℕ} 256 d 0 0 h);
  same = λ bs d h. get_or-replicate {A = ℕ} 256 d 0 0 h ∙ sym (children_end ws bs d end end (omega arith));
}

-- the record before
module _ (ws : List ℕ) (at end : ℕ) (n : Nested ws at end) (i : ℕ) (some : 0 < i) (inside : i < end) (e : ℕ) (is : e ≡ depth_at ws i) (below : List ℕ) (k : PerDepth ws end (i + 1) below) where
  abbrev cleared : List ℕ
  cleared = set below e 0

  abbrev risen : List ℕ
  risen = set cleared (e - 1) (get_or cleared (e - 1) 0 + 1)

  deep : 0 < e
  deep = rw is (n.below i some inside)

  low : e < 256
  low = rw is (n.low i inside)

  clear_size : length cleared ≡ 256
  clear_size = length-set below e 0 ∙ k.size

  -- of a depth: the record's own, the one above it, those further above, those further below
  own : (d : ℕ) → d ≡ e → get_or risen d 0 ≡ 0
  own d h =
      get_or-set_other cleared (e - 1) d _ 0 (λ j. absurd (omega (arith, deep)))
      ∙ ap (λ (j : ℕ). get_or cleared j 0) h
      ∙ get_or-set_same below e 0 0 (omega (arith, k.size, low))

  -- room for one more
  pub few_above : get_or cleared (e - 1) 0 ≤ end - (i + 1)
  few_above = rw (get_or-set_other below e (e - 1) 0 0 (λ j. absurd (omega (arith, deep)))) (k.few (e - 1) (omega (arith, low)))

  above : (d : ℕ) → d ≡ e - 1 → get_or risen d 0 ≡ get_or below d 0 + 1
  above d h =
      ap (λ (j : ℕ). get_or risen j 0) h
      ∙ get_or-set_same cleared (e - 1) _ 0 (omega (arith, clear_size, low))
      ∙ ap (λ (m : ℕ). m + 1) (get_or-set_other below e (e - 1) 0 0 (λ j. absurd (omega (arith, deep))) ∙ ap (λ (j : ℕ). get_or below j 0) (sym h))

  other : (d : ℕ) → (d ≡ e → ⊥) → (d ≡ e - 1 → ⊥) → get_or risen d 0 ≡ get_or below d 0
  other d h g = get_or-set_other cleared (e - 1) d _ 0 g ∙ get_or-set_other below e d 0 0 h

  few_more : (d : ℕ) → d < 256 → get_or risen d 0 ≤ end - i
  few_more d h = go (eqb d e) (eqb d (e - 1)) refl refl
    where
      go : (a b : Bool) → eqb d e ≡ a → eqb d (e - 1) ≡ b → get_or risen d 0 ≤ end - i
      go true b p q = omega (arith, own d (eqb-true d e p))
      go false true p q = omega (arith, above d (eqb-true d (e - 1) q), k.few d h)
      go false false p q = omega (arith, other d (eqb-false d e p) (eqb-false d (e - 1) q), k.few d h)

  same_more : (bs : List ℕ) (d : ℕ) → d < 256 → get_or risen d 0 ≡ children_from ws bs end d i
  same_more bs d h = go (eqb d e) (eqb d (e - 1)) (ltb d e) refl refl refl
    where
      turn : children_from ws bs end d i ≡ pick (ltb d e) (pick (eqb e (d + 1)) 1 0 + children_from ws bs end d (i + 1)) 0
      turn = rw is (children_turn ws bs d end i inside)

      go : (a b c : Bool) → eqb d e ≡ a → eqb d (e - 1) ≡ b → ltb d e ≡ c → get_or risen d 0 ≡ children_from ws bs end d i
      go true b c p q r =
          let here : d ≡ e = eqb-true d e p in
          own d here ∙ sym (rw (le-ltb d e (omega arith)) at turn)
      go false true c p q r =
          let here : d ≡ e - 1 = eqb-true d (e - 1) q in
          let one : children_from ws bs end d i ≡ 1 + children_from ws bs end d (i + 1) = rw (lt-ltb d e (omega (arith, deep)), eq-eqb e (d + 1) (omega (arith, deep))) at turn in
          above d here ∙ omega (arith, one, k.same bs d h)
      go false false true p q r =
          let more : children_from ws bs end d i ≡ 0 + children_from ws bs end d (i + 1) = rw (r, ne_eqb e (d + 1) (λ j. eqb-false d (e - 1) q (omega arith))) at turn in
          other d (eqb-false d e p) (eqb-false d (e - 1) q) ∙ omega (arith, more, k.same bs d h)
      go false false false p q r =
          let past : e ≤ d = ltb-false d e r in
          let none : children_from ws bs end d i ≡ 0 = rw r at turn in
          let apart = eqb-false d e p in
          let behind : children_from ws bs end d (i + 1) ≡ 0 = children_none ws bs d end (i + 1) (λ l. omega (arith, is, apart, n.next i l)) in
          other d apart (eqb-false d (e - 1) q) ∙ k.same bs d h ∙ behind ∙ sym none

  pub known_more : PerDepth ws end i risen
  known_more = record { size = length-set cleared (e - 1) _ ∙ clear_size; few = few_more; same = same_more }
