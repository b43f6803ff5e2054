-- Integers and float patterns one behind the other, four bytes each.
use Rattle.std.specs.Prelude.{ℕ, suc, ◌+◌, ◌*◌, ◌≤◌, ◌<◌, ◌≡◌, refl, List, [], ◌∷◌, ◌++◌, length, take, drop, get_or}
use Rattle.std.proofs.Common.{sym, ap, ◌∙◌, append_assoc, append-nil, arith, length-append, take-append-drop, take-suc, length-take-le}
use Rattle.words.specs.Bytes.{bytes32}
use Rattle.words.specs.Parts.{over}
use Rattle.osc.specs.Over.{over_over}

-- nothing written
pub over_none : (at : ℕ) (us : List ℕ) → over at [] us ≡ us
over_none at us =
    let z : at + length {A = ℕ} [] ≡ at = omega arith in
    ap (λ (k : ℕ). take at us ++ [] ++ drop k us) z ∙ ap (λ (l : List ℕ). l ++ drop at us) (append-nil (take at us)) ∙ take-append-drop at us

-- three pieces one behind the other
pub three_pieces : (a b d us o1 o2 o3 : List ℕ) (start front : ℕ) → start ≡ length a → front ≡ start + length b → front + length d ≤ length us
    → o1 ≡ over 0 a us → o2 ≡ over start b o1 → o3 ≡ over front d o2 → o3 ≡ over 0 (a ++ (b ++ d)) us
three_pieces a b d us o1 o2 o3 start front s f room e1 e2 e3 =
    e3
    ∙ ap (λ (l : List ℕ). over front d l)
    (e2 ∙ ap (λ (l : List ℕ). over start b l) e1 ∙ over_over 0 start a b us (omega arith) (omega arith))
    ∙ over_over 0 front (a ++ b) d us (rw length-append (omega arith)) room
    ∙ ap (λ (l : List ℕ). over 0 l us) (append_assoc a b d)

unfoldable pub word_bytes : List ℕ → List ℕ
word_bytes [] = []
word_bytes (w ∷ ws) = bytes32 w ++ word_bytes ws

pub word_bytes_size : (ws : List ℕ) → length (word_bytes ws) ≡ 4 * length ws
unfolding word_bytes
word_bytes_size [] = refl
word_bytes_size (w ∷ ws) = let e : length (word_bytes ws) ≡ 4 * length ws = word_bytes_size ws in omega arith

pub word_bytes_append : (l m : List ℕ) → word_bytes (l ++ m) ≡ word_bytes l ++ word_bytes m
unfolding word_bytes
word_bytes_append [] m = refl
word_bytes_append (w ∷ l) m = ap (λ (k : List ℕ). bytes32 w ++ k) (word_bytes_append l m)

pub word_bytes_none : word_bytes [] ≡ []
unfolding word_bytes
word_bytes_none = refl

one_word : (w : ℕ) → word_bytes (w ∷ []) ≡ bytes32 w
unfolding word_bytes
one_word w = refl

-- one word more behind the first i
pub next_word : (at i : ℕ) (ws us : List ℕ) → i < length ws → at + 4 * length ws ≤ length us
    → over (at + 4 * i) (bytes32 (get_or ws i 0)) (over at (word_bytes (take i ws)) us) ≡ over at (word_bytes (take (i + 1) ws)) us
next_word at i ws us h room =
    let size : length (word_bytes (take i ws)) ≡ 4 * i = word_bytes_size (take i ws) ∙ ap (λ (k : ℕ). 4 * k) (length-take-le i ws (omega arith)) in
    let one : i + 1 ≡ suc i = omega arith in
    let more : word_bytes (take (i + 1) ws) ≡ word_bytes (take i ws) ++ bytes32 (get_or ws i 0) =
    ap (λ (k : ℕ). word_bytes (take k ws)) one
    ∙ ap word_bytes (take-suc ws i 0 h)
    ∙ word_bytes_append (take i ws) (get_or ws i 0 ∷ [])
    ∙ ap (λ (l : List ℕ). word_bytes (take i ws) ++ l) (one_word (get_or ws i 0)) in
    over_over at (at + 4 * i) (word_bytes (take i ws)) (bytes32 (get_or ws i 0)) us (omega arith) (omega arith)
    ∙ ap (λ (l : List ℕ). over at l us) (sym more)
