-- The running order as it is kept, and one record's part in it.
use Rattle.std.specs.Prelude.{ℕ, ◌+◌, ◌*◌, ◌≤◌, ◌<◌, Bool, ◌≡◌, refl, length, drop, get_or, set}
use Rattle.std.proofs.Math.Bool.{true, false}
use Rattle.std.proofs.Common.{sym, ap, ap₂, ◌∙◌, arith, length-append, drop-drop, get_or-drop, add-zero}
use mathlib.Core.List.{List, [], ◌∷◌, ◌++◌, append_assoc, append-nil}
use borrow.Author.Tests.{eq-eqb, ne_eqb}
use Rattle.nodes.specs.declared.Node.{Node}
use Rattle.nodes.specs.Table.{width, node_from, rows}
use Rattle.nodes.specs.TableLaws.{row-from}
use Rattle.nodes.specs.Order.{order}
use Rattle.order.specs.Visits.{marks, marked_synths, marked_order}
use Rattle.order.specs.Pad.{pad_to, zeros, pad_none, pad_full, pad_more}

-- "it is kept in the state after each command and never exceeds 255 numbers"
abbrev pub most_order : ℕ
most_order = 255

-- the words of the running order
abbrev pub order_words : List Node → List ℕ
order_words t = pad_to most_order (order t)

-- the order so far: of the numbers found, and those that the marks give of the rest, the order is made
pub record OrderSoFar (t : List Node) (ms : List Bool) (rest : List Node) (n : ℕ) (numbers : List ℕ) : Type 0 where
  pub done : List ℕ
  pub joined : done ++ marked_synths ms rest ≡ order t
  pub many : length done ≡ n
  pub kept : numbers ≡ pad_to most_order done

pub so_none : (t : List Node) (ms : List Bool) → ms ≡ marks t → OrderSoFar t ms t 0 (zeros most_order)
so_none t ms e = record { done = []; joined = ap (λ (l : List Bool). marked_synths l t) e ∙ marked_order 0 t _; many = refl; kept = pad_none most_order }

pub so_all : (t rest : List Node) (ms : List Bool) (n : ℕ) (numbers : List ℕ) → rest ≡ [] → OrderSoFar t ms rest n numbers → (numbers ≡ order_words t) × (n ≡ length (order t))
unfolding marked_synths
so_all t rest ms n numbers e s =
    let all : s.done ≡ order t = sym (append-nil s.done) ∙ ap (λ (l : List Node). s.done ++ marked_synths ms l) (sym e) ∙ s.joined in
    (s.kept ∙ ap (λ (l : List ℕ). pad_to most_order l) all, sym s.many ∙ ap (λ (l : List ℕ). length l) all)

pub so_same : (t rest : List Node) (ms : List Bool) {n : ℕ} {numbers : List ℕ} (n' : ℕ) (numbers' : List ℕ) → OrderSoFar t ms rest n numbers → numbers' ≡ numbers → n' ≡ n → OrderSoFar t ms rest n' numbers'
so_same t rest ms n' numbers' s a b = rw (a, b) s

-- one record's part in it
module _ (count : ℕ) (us : List ℕ) (ms : List Bool) (i n : ℕ) (numbers : List ℕ) (h : i < count) (s : OrderSoFar (rows count us) (drop i ms) (drop i (rows count us)) n numbers) where
  abbrev this : Node
  this = node_from us (width * i)

  -- what the record and the rest give
  given : s.done ++ marked_synths (drop i ms) (this ∷ drop (i + 1) (rows count us)) ≡ order (rows count us)
  given = ap (λ (l : List Node). s.done ++ marked_synths (drop i ms) l) (sym (row-from count us i h)) ∙ s.joined

  first : (b : Bool) → get_or ms i false ≡ b → get_or (drop i ms) 0 false ≡ b
  first b e = get_or-drop i ms 0 false ∙ ap (λ (k : ℕ). get_or ms k false) (add-zero i) ∙ e

  rest : drop 1 (drop i ms) ≡ drop (i + 1) ms
  rest = drop-drop 1 i ms

  -- not visited
  pub so_unmarked : get_or ms i false ≡ false → OrderSoFar (rows count us) (drop (i + 1) ms) (drop (i + 1) (rows count us)) n numbers
  unfolding marked_synths
  so_unmarked e = record { done = s.done; joined = rw (first false e, rest) at given; many = s.many; kept = s.kept }

  -- a group
  pub so_group : get_or ms i false ≡ true → this.slot ≡ 32 → OrderSoFar (rows count us) (drop (i + 1) ms) (drop (i + 1) (rows count us)) n numbers
  unfolding marked_synths
  so_group e group = record { done = s.done; joined = rw (first true e, rest, eq-eqb this.slot 32 group) at given; many = s.many; kept = s.kept }

  -- a synth
  module _ (e : get_or ms i false ≡ true) (synth : this.slot ≡ 32 → ⊥) where
    longer : (s.done ++ this.number ∷ []) ++ marked_synths (drop (i + 1) ms) (drop (i + 1) (rows count us)) ≡ order (rows count us)
    unfolding marked_synths
    longer =
        append_assoc s.done (this.number ∷ []) (marked_synths (drop (i + 1) ms) (drop (i + 1) (rows count us)))
        ∙ (rw (first true e, rest, ne_eqb this.slot 32 synth) at given)

    more : length (s.done ++ this.number ∷ []) ≡ n + 1
    more = length-append s.done (this.number ∷ []) ∙ ap (λ (k : ℕ). k + 1) s.many

    pub so_more : n < most_order → OrderSoFar (rows count us) (drop (i + 1) ms) (drop (i + 1) (rows count us)) (n + 1) (set numbers n this.number)
    so_more room =
        let m = s.many in
        record {
          done = s.done ++ this.number ∷ [];
          joined = longer;
          many = more;
          kept = ap₂ (λ (l : List ℕ) (k : ℕ). set l k this.number) s.kept (sym m) ∙ pad_more most_order s.done this.number (omega arith);
        }

    pub so_full : most_order ≤ n → OrderSoFar (rows count us) (drop (i + 1) ms) (drop (i + 1) (rows count us)) (n + 1) numbers
    so_full full =
        let m = s.many in
        record { done = s.done ++ this.number ∷ []; joined = longer; many = more; kept = s.kept ∙ sym (pad_full most_order s.done this.number (omega arith)) }
