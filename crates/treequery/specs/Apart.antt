-- Pieces of a run that lie apart, written in either order.
use Rattle.std.specs.Prelude.{ℕ, ◌+◌, ◌-◌, ◌≤◌, ◌≡◌, refl, List, ◌++◌, length, take, drop}
use Rattle.std.proofs.Common.{sym, ap, ap₂, ◌∙◌, append_assoc, arith, length-append, take-append-drop, drop_at, take-add, take-take, length-take-le}
use Rattle.std.proofs.lemmas.List.{take-append-le, drop-append-le}
use Rattle.words.specs.Parts.{region, over}
use Rattle.words.specs.PartsLaws.{region-length}
use Rattle.osc.specs.Over.{over_over}

-- a piece before another is one piece
pub over_before : (at next : ℕ) (a b us : List ℕ) → next ≡ at + length a → next + length b ≤ length us → over at a (over next b us) ≡ over at (a ++ b) us
over_before at next a b us e h =
    let head : length (take next us) ≡ next = length-take-le next us (omega arith) in
    let front : length (take next us ++ b) ≡ next + length b = length-append (take next us) b ∙ ap (λ (k : ℕ). k + length b) head in
    let ends : at + length (a ++ b) ≡ next + length b = rw length-append (omega arith) in
    let first : take at (over next b us) ≡ take at us =
    take-append-le at (take next us ++ b) (drop (next + length b) us) (omega arith)
    ∙ take-append-le at (take next us) b (omega arith)
    ∙ take-take at next us (omega arith) in
    let last : drop (at + length a) (over next b us) ≡ b ++ drop (next + length b) us =
    ap (λ (k : ℕ). drop k (over next b us)) (sym e)
    ∙ drop-append-le next (take next us ++ b) (drop (next + length b) us) (omega arith)
    ∙ ap (λ (l : List ℕ). l ++ drop (next + length b) us) (drop_at (take next us) b next head) in
    ap₂ (λ (l m : List ℕ). l ++ a ++ m) first last
    ∙ sym (append_assoc (take at us ++ a) b (drop (next + length b) us))
    ∙ ap₂ (λ (l m : List ℕ). l ++ m) (append_assoc (take at us) a b) (ap (λ (k : ℕ). drop k us) (sym ends))

-- what is there already
over_same : (at n : ℕ) (us : List ℕ) → at + n ≤ length us → over at (region at n us) us ≡ us
over_same at n us h =
    ap (λ (k : ℕ). take at us ++ region at n us ++ drop (at + k) us) (region-length at n us h)
    ∙ ap (λ (l : List ℕ). l ++ drop (at + n) us) (sym (take-add at n us))
    ∙ take-append-drop (at + n) us

-- two pieces that lie apart, in either order
pub over_swap : (at next : ℕ) (a b us : List ℕ) → at + length a ≤ next → next + length b ≤ length us → over next b (over at a us) ≡ over at a (over next b us)
over_swap at next a b us h room =
    let k = at + length a in
    let n = next - k in
    let m = region k n us in
    let long : length m ≡ n = region-length k n us (omega arith) in
    let same : over k m us ≡ us = over_same k n us (omega arith) in
    let whole : length (a ++ m) ≡ next - at = length-append a m ∙ omega arith in
    let tail : length (m ++ b) ≡ n + length b = length-append m b ∙ omega arith in
    let left : over at a us ≡ over at (a ++ m) us = ap (λ (l : List ℕ). over at a l) (sym same) ∙ over_before at k a m us refl (omega arith) in
    let right : over next b us ≡ over k (m ++ b) us = ap (λ (l : List ℕ). over next b l) (sym same) ∙ over_over k next m b us (omega arith) room in
    ap (λ (l : List ℕ). over next b l) left
    ∙ over_over at next (a ++ m) b us (omega arith) room
    ∙ ap (λ (l : List ℕ). over at l us) (append_assoc a m b)
    ∙ sym (ap (λ (l : List ℕ). over at a l) right ∙ over_before at k a (m ++ b) us refl (omega arith))
