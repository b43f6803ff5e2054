-- A definition's shape put into its slot's part of the table.
use Rattle.std.specs.Prelude.{ℕ, ◌+◌, ◌*◌, ◌≤◌, ◌<◌, ◌≡◌, refl, List, length, get_or, set}
use Rattle.std.proofs.Common.{ap, ◌∙◌, arith, below_more, length-set, get_or-set_same, get_or-set_other}
use Rattle.readable.specs.Labels.{Labelled}
use Rattle.controls.specs.Encoded.{front_in}
use Rattle.treequery.specs.Shapes.{shape_words, shapes_length, label_in, Filled}

-- while the labels are put into the slot k's part, the first j of them
pub record Filling (k : ℕ) (table table' labels : List ℕ) (j : ℕ) : Type 0 where
  pub size : length table' ≡ shapes_length
  pub labelled : (t : ℕ) → t < j → label_in table' k t ≡ get_or labels t 0
  pub below : (m : ℕ) → m ≤ shape_words * k → get_or table' m 0 ≡ get_or table m 0
  pub above : (m : ℕ) → shape_words * k + shape_words ≤ m → get_or table' m 0 ≡ get_or table m 0

pub filling_none : (k : ℕ) (table labels : List ℕ) → length table ≡ shapes_length → Filling k table table labels 0
filling_none k table labels e = record { size = e; labelled = λ t h. absurd (omega arith); below = λ m h. refl; above = λ m h. refl }

pub filling_turn : (k : ℕ) (table table' labels : List ℕ) (j : ℕ) → k < 32 → j < 32 → Filling k table table' labels j
    → Filling k table (set table' (shape_words * k + 1 + j) (get_or labels j 0)) labels (j + 1)
filling_turn k table table' labels j low h f =
    let at = shape_words * k + 1 + j in
    let size = f.size in
    record {
      size = length-set table' at (get_or labels j 0) ∙ size;
      labelled = below_more (λ (t : ℕ). label_in (set table' at (get_or labels j 0)) k t ≡ get_or labels t 0) j
          (λ t l. get_or-set_other table' at (shape_words * k + 1 + t) (get_or labels j 0) 0 (λ e. omega arith) ∙ f.labelled t l)
          (get_or-set_same table' at (get_or labels j 0) 0 (omega arith));
      below = λ m l. get_or-set_other table' at m (get_or labels j 0) 0 (λ e. omega arith) ∙ f.below m l;
      above = λ m l. get_or-set_other table' at m (get_or labels j 0) 0 (λ e. omega arith) ∙ f.above m l;
    }

pub filling_done : (s : List ℕ) (k : ℕ) (table table' labels : List ℕ) (p : ℕ) → k < 32 → length table ≡ shapes_length → p ≡ length (front_in s).values → Labelled s labels
    → Filling k (set table (shape_words * k) (p + 1)) table' labels 32 → Filled s k table table'
filling_done s k table table' labels p low e m l f = record {
  size = f.size;
  shape = record {
    many = f.below (shape_words * k) (omega arith) ∙ get_or-set_same table (shape_words * k) (p + 1) 0 (omega arith) ∙ ap (λ (n : ℕ). n + 1) m;
    named = λ j h. rw (f.labelled j h) (l.named j h);
    within = λ j h. rw (f.labelled j h) (l.within j h);
  };
  below = λ n h. f.below n (omega arith) ∙ get_or-set_other table (shape_words * k) n (p + 1) 0 (λ x. omega arith);
  above = λ n h. f.above n h ∙ get_or-set_other table (shape_words * k) n (p + 1) 0 (λ x. omega arith);
}
