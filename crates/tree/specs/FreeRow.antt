-- The lowest row of controls that no synth of the table has, found by a mark at each row that one has.
use Rattle.std.specs.Prelude.{ℕ, zero, suc, ◌+◌, ◌*◌, ◌-◌, ◌≤◌, ◌<◌, Bool, true, false, ◌≡◌, refl, length, take, drop, get_or, set, replicate, ltb, eqb}
use Rattle.std.proofs.Common.{sym, ◌∙◌, ⊎_elim, eq-or-lt_of_le, add-one, arith, get_or-set_same, get_or-set_other, ltb-true, ltb-false, ne_eqb, eqb-true}
use Rattle.std.proofs.Math.Path.{ap}
use mathlib.Core.List.{List, [], ◌∷◌, ◌++◌}
use Rattle.std.proofs.lemmas.List.{get_or-replicate}
use Rattle.std.proofs.lemmas.Bool.{eqb-false}
use Rattle.words.specs.Choice.{pick, either}
use Rattle.nodes.specs.declared.Node.{Node}
use Rattle.nodes.specs.Table.{width, node_from, rows}
use Rattle.nodes.specs.TableLaws.{rows_take, rows_end, row-from}
use Rattle.nodes.specs.Place.{is_group}
use Rattle.nodes.specs.Formed.{most_rows, row_taken, free_row_from, in_row}

-- the record's row, or 256 for a group
abbrev pub row_or : Node → ℕ
row_or r = pick (is_group r) most_rows r.row

module _ (n : ℕ) (us : List ℕ) (k i : ℕ) where
  pub taken_turn : i < n → row_taken k (drop i (rows n us)) ≡ either (in_row k (node_from us (width * i))) (row_taken k (drop (i + 1) (rows n us)))
  unfolding row_taken
  taken_turn h = ap (λ (l : List Node). row_taken k l) (row-from n us i h)

  pub taken_end : n ≤ i → row_taken k (drop i (rows n us)) ≡ false
  unfolding row_taken
  taken_end h = ap (λ (l : List Node). row_taken k l) (rows_end n us i h)

either_none : (b : Bool) → either b false ≡ b
either_none true = refl
either_none false = refl

either_three : (a b c : Bool) → either a (either b c) ≡ either (either a b) c
either_three true b c = refl
either_three false b c = refl

taken_append : (k : ℕ) (s t : List Node) → row_taken k (s ++ t) ≡ either (row_taken k s) (row_taken k t)
unfolding row_taken
taken_append k [] t = refl
taken_append k (r ∷ s) t = ap (λ (b : Bool). either (in_row k r) b) (taken_append k s t) ∙ either_three (in_row k r) (row_taken k s) (row_taken k t)

-- the marks of the records before a place and from another on, one after the other
pub taken_beside : (n : ℕ) (us : List ℕ) (from to k : ℕ) → from ≤ n → k < 256
    → either (either (get_or (replicate 256 false) k false) (row_taken k (drop 0 (rows from us)))) (row_taken k (drop to (rows n us))) ≡ row_taken k (take from (rows n us) ++ drop to (rows n us))
taken_beside n us from to k h s =
    rw (get_or-replicate 256 k false false s, ← rows_take from n us h) (sym (taken_append k (take from (rows n us)) (drop to (rows n us))))

-- marks of rows, which with those of the n records from i on are all of these
abbrev pub Marked : List Bool → (ℕ → Bool) → ℕ → List ℕ → ℕ → Type 0
Marked marks all n us i = (k : ℕ) → k < 256 → either (get_or marks k false) (row_taken k (drop i (rows n us))) ≡ all k

pub marked_end : (marks : List Bool) (all : ℕ → Bool) (n : ℕ) (us : List ℕ) (i : ℕ) → n ≤ i → Marked marks all n us i → (k : ℕ) → k < 256 → get_or marks k false ≡ all k
marked_end marks all n us i h is k s = sym (either_none (get_or marks k false)) ∙ ap (λ (b : Bool). either (get_or marks k false) b) (sym (taken_end n us k i h)) ∙ is k s

-- the row of a record is one below 256 where the record is a synth that has it
row-is : (r : Node) (k : ℕ) → k < most_rows → eqb (row_or r) k ≡ in_row k r
row-is r k h = go (is_group r)
  where
    go : (b : Bool) → eqb (pick b most_rows r.row) k ≡ pick b false (eqb r.row k)
    go true = ne_eqb most_rows k (λ e. omega arith)
    go false = refl

-- one record looked at
module _ (marks : List Bool) (all : ℕ → Bool) (n : ℕ) (us : List ℕ) (i row : ℕ) (inside : i < n) (own : row ≡ row_or (node_from us (width * i))) (is : Marked marks all n us i) where
  next : (k : ℕ) → k < 256 → either (get_or marks k false) (either (eqb row k) (row_taken k (drop (i + 1) (rows n us)))) ≡ all k
  next k h = ap (λ (b : Bool). either (get_or marks k false) (either b (row_taken k (drop (i + 1) (rows n us))))) (ap (λ (j : ℕ). eqb j k) own ∙ row-is (node_from us (width * i)) k h) ∙ ap (λ (b : Bool). either (get_or marks k false) b) (sym (taken_turn n us k i inside)) ∙ is k h

  pub marked_skip : 256 ≤ row → Marked marks all n us (i + 1)
  marked_skip h k s = rw (ne_eqb row k (λ e. omega arith)) at (next k s)

  pub marked_set : row < 256 → length marks ≡ 256 → Marked (set marks row true) all n us (i + 1)
  marked_set h size k s = go (eqb row k) refl
    where
      rest : Bool
      rest = row_taken k (drop (i + 1) (rows n us))

      either_true : (b : Bool) → either b true ≡ true
      either_true true = refl
      either_true false = refl

      go : (b : Bool) → eqb row k ≡ b → either (get_or (set marks row true) k false) rest ≡ all k
      go true e =
          ap (λ (b : Bool). either b rest) (ap (λ (j : ℕ). get_or (set marks row true) j false) (sym (eqb-true row k e)) ∙ get_or-set_same marks row true false (omega arith))
          ∙ sym (either_true (get_or marks k false))
          ∙ rw e at (next k s)
      go false e =
          ap (λ (b : Bool). either b rest) (get_or-set_other marks row k true false (λ q. eqb-false row k e (sym q))) ∙ rw e at (next k s)

-- one row looked at
module _ (n k : ℕ) (t : List Node) where
  pub free-here : row_taken k t ≡ false → free_row_from (suc n) k t ≡ k
  unfolding free_row_from
  free-here e = ap (λ (b : Bool). pick b (free_row_from n (k + 1) t) k) e

  pub free_on : row_taken k t ≡ true → free_row_from (suc n) k t ≡ free_row_from n (k + 1) t
  unfolding free_row_from
  free_on e = ap (λ (b : Bool). pick b (free_row_from n (k + 1) t) k) e

pub free_end : (k : ℕ) (t : List Node) → free_row_from 0 k t ≡ k
unfolding free_row_from
free_end k t = refl

-- where each row before this one is taken, the first free one from it on is the first of all
free_behind : (n r : ℕ) (t : List Node) → ((k : ℕ) → k < r → row_taken k t ≡ true) → free_row_from n r t ≡ free_row_from (n + r) 0 t
free_behind n zero t all = ap (λ (m : ℕ). free_row_from m 0 t) (omega arith)
free_behind n (suc r) t all =
    ap (λ (k : ℕ). free_row_from n k t) (sym (add-one r))
    ∙ sym (free_on n r t (all r (omega arith)))
    ∙ free_behind (suc n) r t (λ k h. all k (omega arith))
    ∙ ap (λ (m : ℕ). free_row_from m 0 t) (omega arith)

-- by the marks of rows: each before `from` has one, and so has each from there up to this one, which has none or is the end
module _ (marks : List Bool) (t : List Node) (are : (k : ℕ) → k < 256 → get_or marks k false ≡ row_taken k t) where
  pub free_first : (from r : ℕ) → ((k : ℕ) → k < from → get_or marks k false ≡ true) → r ≤ 256 → ((k : ℕ) → k < r → from ≤ k → get_or marks k false ≡ true) → (r < 256 → get_or marks r false ≡ false) → r ≡ free_row_from 256 0 t
  free_first from r before most on none =
      ⊎_elim
      (λ (e : r ≡ 256). sym (free_end r t) ∙ free_behind 0 r t taken ∙ ap (λ (m : ℕ). free_row_from m 0 t) (omega arith))
      (λ h. sym (free-here (255 - r) r t (sym (are r h) ∙ none h)) ∙ free_behind (suc (255 - r)) r t taken ∙ ap (λ (m : ℕ). free_row_from m 0 t) (omega arith))
      (eq-or-lt_of_le most)
    where
      marked : (k : ℕ) → k < r → (b : Bool) → ltb k from ≡ b → get_or marks k false ≡ true
      marked k h true e = before k (ltb-true k from e)
      marked k h false e = on k h (ltb-false k from e)

      taken : (k : ℕ) → k < r → row_taken k t ≡ true
      taken k h = sym (are k (omega arith)) ∙ marked k h (ltb k from) refl
