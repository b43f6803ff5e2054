-- Bytes that stand in a file at a place.
use Rattle.std.specs.Prelude.{ℕ, ◌+◌, ◌≤◌, ◌<◌, ◌≡◌, List, ◌++◌, length, get_or, take, drop}
use Rattle.std.proofs.Common.{sym, ap, ◌∙◌, arith, length-append, length-drop, drop_at, drop-drop, take-take, take-add, length-take-le, get_or-take, get_or-drop}
use Rattle.std.proofs.Math.Seq.{drop-append_seam, take-append_seam, take-length}
use Rattle.words.specs.Parts.{region}

-- w stands in s from a place on
pub record Stands (s : List ℕ) (at : ℕ) (w : List ℕ) : Type 0 where
  pub fits : at + length w ≤ length s
  pub there : region at (length w) s ≡ w

pub stands_in : (a w z : List ℕ) → Stands (a ++ (w ++ z)) (length a) w
stands_in a w z = record {
  fits = omega (arith, length-append a (w ++ z), length-append w z);
  there = ap (λ (l : List ℕ). take (length w) l) (drop-append_seam a (w ++ z)) ∙ take-append_seam w z;
}

pub stands_all : (w : List ℕ) → Stands w 0 w
stands_all w = record { fits = omega arith; there = take-length w }

module _ (s : List ℕ) (at : ℕ) (w v : List ℕ) (h : Stands s at (w ++ v)) where
  pub stands_left : Stands s at w
  stands_left =
      let sum : length (w ++ v) ≡ length w + length v = length-append w v in
      let part : length w ≤ length (w ++ v) = omega arith in
      record {
        fits = omega arith;
        there = sym (take-take (length w) (length (w ++ v)) (drop at s) part)
            ∙ ap (λ (l : List ℕ). take (length w) l) h.there
            ∙ take-append_seam w v;
      }

  pub stands_right : Stands s (at + length w) v
  stands_right =
      let sum : length (w ++ v) ≡ length w + length v = length-append w v in
      let left : length w ≤ length (drop at s) = rw length-drop (omega arith) in
      record {
        fits = omega arith;
        there = ap (λ (l : List ℕ). take (length v) l) (sym (drop-drop (length w) at s))
            ∙ sym (drop_at (take (length w) (drop at s)) (take (length v) (drop (length w) (drop at s))) (length w) (length-take-le (length w) (drop at s) left))
            ∙ ap (λ (l : List ℕ). drop (length w) l) (sym (take-add (length w) (length v) (drop at s)) ∙ ap (λ (n : ℕ). take n (drop at s)) (sym sum) ∙ h.there)
            ∙ drop-append_seam w v;
      }

-- the bytes of s there are those of w
pub stands_get_d : (s : List ℕ) (at : ℕ) (w : List ℕ) → Stands s at w → (i : ℕ) → i < length w → get_or s (at + i) 0 ≡ get_or w i 0
stands_get_d s at w h i l =
    sym (get_or-drop at s i 0)
    ∙ sym (get_or-take (length w) (drop at s) i 0 l)
    ∙ ap (λ (l : List ℕ). get_or l i 0) h.there
