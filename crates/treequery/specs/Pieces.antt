-- An argument of /g_queryTree's reply, as the code knows it: a number, a float, a name of a definition's bytes, or a bus.
use Rattle.std.specs.Prelude.{ℕ, ◌+◌, ◌-◌, ◌/◌, ◌%◌, ◌≤◌, ◌<◌, Bool, true, false, ◌≡◌, refl, List, [], ◌∷◌, ◌++◌, length, replicate, ltb}
use Rattle.std.proofs.Common.{sym, ap, ◌∙◌, arith, length-take, length-drop}
use Rattle.std.proofs.lemmas.List.{length-replicate}
use Rattle.words.specs.Choice.{pick}
use Rattle.words.specs.Parts.{region, over}
use Rattle.osc.specs.Message.{Argument, int, float, text, argument_bytes, padded, decimal}
use Rattle.osc.specs.Over.{over_over}
use Rattle.osc.specs.Lengths.{padded_size}
use Rattle.treequery.specs.declared.piece.Piece.{Piece}
use Rattle.treequery.specs.declared.piece.Piece.TheVariants.{Whole, Pattern, Part, Mapped}

-- "a mapped control shows 'c' and the decimal bus"
abbrev pub mapped_text : ℕ → List ℕ
mapped_text bus = 99 ∷ decimal bus

abbrev pub piece_argument : List ℕ → Piece → Argument
piece_argument s (Whole n) = int n
piece_argument s (Pattern p) = float p
piece_argument s (Part start end) = text (region start (end - start) s)
piece_argument s (Mapped bus) = text (mapped_text bus)

abbrev pub piece_bytes : List ℕ → Piece → List ℕ
piece_bytes s p = argument_bytes (piece_argument s p)

-- a bus has at most four digits
abbrev pub is_small : Piece → Bool
is_small (Whole n) = true
is_small (Pattern p) = true
is_small (Part start end) = true
is_small (Mapped bus) = ltb bus 10000

-- a definition's bytes
abbrev pub most_bytes : ℕ
most_bytes = 65536

pub record PieceSize (s : List ℕ) (p : Piece) (size : ℕ) : Type 0 where
  pub is : size ≡ length (piece_bytes s p)
  pub most : size ≤ 65540

pub record Puts (s : List ℕ) (p : Piece) (at : ℕ) (out : List ℕ) : Type 0 where
  pub short : length s ≤ most_bytes
  pub small : is_small p ≡ true
  pub room : at + length (piece_bytes s p) ≤ length out

-- a part is no longer than the whole
pub part_short : (a n : ℕ) (s : List ℕ) → length (region a n s) ≤ length s
part_short a n s = simp (length-take, length-drop) (omega arith)

-- room for 'c' and a bus's digits
pub record MappedRoom (bus at : ℕ) (out : List ℕ) : Type 0 where
  pub small : bus < 10000
  pub room : at + length (padded (mapped_text bus)) ≤ length out

pub digits_few : (n : ℕ) → length (decimal n) ≤ 4
digits_few n = go (ltb n 10) (ltb n 100) (ltb n 1000)
  where
    go : (a b d : Bool) → length (pick a ((48 + n) ∷ [])
        (pick b ((48 + n / 10) ∷ ((48 + n % 10) ∷ []))
        (pick d ((48 + n / 100) ∷ ((48 + n / 10 % 10) ∷ ((48 + n % 10) ∷ [])))
        ((48 + n / 1000) ∷ ((48 + n / 100 % 10) ∷ ((48 + n / 10 % 10) ∷ ((48 + n % 10) ∷ []))))))) ≤ 4
    go true b d = omega arith
    go false true d = omega arith
    go false false true = omega arith
    go false false false = omega arith

-- a string's size and bytes, by what the piece is
pub sized_text : (s : List ℕ) (p : Piece) (t : List ℕ) (n size : ℕ) → piece_argument s p ≡ text t → n ≡ length t → length t ≤ most_bytes → size ≡ n + (4 - n % 4) → PieceSize s p size
sized_text s p t n size e l few h =
    let bytes : piece_bytes s p ≡ padded t = ap argument_bytes e in
    let long : length (piece_bytes s p) ≡ length t + (4 - length t % 4) = ap (length {A = ℕ}) bytes ∙ padded_size t in
    let is : size ≡ length t + (4 - length t % 4) = h ∙ ap (λ (k : ℕ). k + (4 - k % 4)) l in
    record { is = is ∙ sym long; most = omega arith }

-- the three parts of a mapped control's text
pub mapped_put : (bus at : ℕ) (us o1 o2 o3 : List ℕ) (digits : ℕ) → digits ≡ length (decimal bus) → at + length (padded (mapped_text bus)) ≤ length us
    → o1 ≡ over at (99 ∷ []) us → o2 ≡ over (at + 1) (decimal bus) o1 → o3 ≡ over (at + 1 + digits) (replicate (4 - (1 + digits) % 4) 0) o2 → o3 ≡ over at (padded (mapped_text bus)) us
mapped_put bus at us o1 o2 o3 digits d room e1 e2 e3 =
    let size : length (padded (mapped_text bus)) ≡ length (mapped_text bus) + (4 - length (mapped_text bus) % 4) = padded_size (mapped_text bus) in
    let long : length (mapped_text bus) ≡ 1 + digits = omega arith in
    let zeros : length (replicate {A = ℕ} (4 - (1 + digits) % 4) 0) ≡ 4 - (1 + digits) % 4 = length-replicate (4 - (1 + digits) % 4) 0 in
    let fits : at + (1 + digits + (4 - (1 + digits) % 4)) ≤ length us = rw (size, long) at room in
    e3
    ∙ ap (λ (l : List ℕ). over (at + 1 + digits) (replicate (4 - (1 + digits) % 4) 0) l)
    (e2 ∙ ap (λ (l : List ℕ). over (at + 1) (decimal bus) l) e1 ∙ over_over at (at + 1) (99 ∷ []) (decimal bus) us refl (omega arith))
    ∙ over_over at (at + 1 + digits) (mapped_text bus) (replicate (4 - (1 + digits) % 4) 0) us (omega arith) (omega arith)
    ∙ ap (λ (k : ℕ). over at (mapped_text bus ++ replicate (4 - k % 4) 0) us) (sym long)
