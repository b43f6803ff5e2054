-- Arguments written one behind the other: their tags at one place, their bytes at another.
use Rattle.std.specs.Prelude.{ℕ, ◌+◌, ◌≤◌, true, ◌≡◌, refl, List, [], ◌∷◌, ◌++◌, length}
use Rattle.std.proofs.Common.{sym, ap, ap₂, ◌∙◌, arith, length-append}
use Rattle.words.specs.Bytes.{bytes32}
use Rattle.osc.specs.Message.{Argument, int, tag_of, tags, arguments}
use Rattle.words.specs.Parts.{over}
use Rattle.osc.specs.Over.{over_length, over_over}
use Rattle.osc.specs.Lengths.{tags_size, tags-append, arguments_append}
use Rattle.replies.specs.Words.{over_none}
use Rattle.treequery.specs.declared.piece.Piece.{Piece}
use Rattle.treequery.specs.declared.places.Places.{Places}
use Rattle.treequery.specs.Pieces.{piece_argument, piece_bytes, is_small, most_bytes}
use Rattle.treequery.specs.Places.{Moved, sizes, none-left, one_bytes, one_tag, pair_bytes, pair_tags, pair_size, piece_bytes_size}
use Rattle.treequery.specs.Apart.{over_swap}

-- room for arguments: their tags end before their bytes start
pub record Room (p : Places) (l : List Argument) (out : List ℕ) : Type 0 where
  pub apart : p.tag + length l ≤ p.byte
  pub room : p.byte + length (arguments l) ≤ length out

pub record PutsPiece (s : List ℕ) (piece : Piece) (p : Places) (out : List ℕ) : Type 0 where
  pub short : length s ≤ most_bytes
  pub small : is_small piece ≡ true
  pub room : Room p (piece_argument s piece ∷ []) out

-- arguments written at their places
abbrev pub laid : Places → List Argument → List ℕ → List ℕ
laid p l us = over p.byte (arguments l) (over p.tag (tags l) us)

pub record Wrote (p : Places) (l : List Argument) (out : List ℕ) (next : Places) (out' : List ℕ) : Type 0 where
  pub moved : Moved p l next
  pub buffer : out' ≡ laid p l out

-- arguments behind others are one run of arguments
laid_append : (p q : Places) (l m : List Argument) (us : List ℕ) → Moved p l q → Room p (l ++ m) us → laid q m (laid p l us) ≡ laid p (l ++ m) us
laid_append p q l m us h r =
    let size = sizes (l ++ m) l m refl in
    let apart = r.apart in
    let room = r.room in
    let tag = h.tag in
    let byte = h.byte in
    let tags_l : length (tags l) ≡ length l = tags_size l in
    let tags_m : length (tags m) ≡ length m = tags_size m in
    let first = over p.tag (tags l) us in
    let long : length first ≡ length us = over_length p.tag (tags l) us (omega arith) in
    let both : over q.tag (tags m) first ≡ over p.tag (tags l ++ tags m) us = over_over p.tag q.tag (tags l) (tags m) us (omega arith) (omega arith) in
    let second = over p.tag (tags l ++ tags m) us in
    let joined : length (tags l ++ tags m) ≡ length l + length m = length-append (tags l) (tags m) ∙ omega arith in
    let long₂ : length second ≡ length us = over_length p.tag (tags l ++ tags m) us (omega arith) in
    ap (λ (x : List ℕ). over q.byte (arguments m) x) (sym (over_swap q.tag p.byte (tags m) (arguments l) first (omega arith) (omega arith)))
    ∙ ap (λ (x : List ℕ). over q.byte (arguments m) (over p.byte (arguments l) x)) both
    ∙ over_over p.byte q.byte (arguments l) (arguments m) second byte (omega arith)
    ∙ ap₂ (λ (x y : List ℕ). over p.byte x (over p.tag y us)) (sym (arguments_append l m)) (sym (tags-append l m))

-- while w is written from the places p₀ on: what is left, from the places p on
pub record Left (p₀ : Places) (w : List Argument) (us : List ℕ) (p : Places) (l : List Argument) (out : List ℕ) : Type 0 where
  pub buffer : laid p l out ≡ laid p₀ w us
  pub tag : p.tag + length l ≡ p₀.tag + length w
  pub byte : p.byte + length (arguments l) ≡ p₀.byte + length (arguments w)
  pub room : Room p l out
  pub size : length out ≡ length us

pub left_all : {p : Places} {w : List Argument} {us : List ℕ} → Room p w us → Left p w us p w us
left_all r = record { buffer = refl; tag = refl; byte = refl; room = r; size = refl }

-- some arguments less
pub left_some : {p₀ : Places} {w : List Argument} {us : List ℕ} {p : Places} {l : List Argument} {out : List ℕ} (a b : List Argument) → Left p₀ w us p l out → l ≡ a ++ b → Room p a out
left_some {p₀} {w} {us} {p} {l} {out} a b h e =
    let size = sizes l a b e in
    let apart = h.room.apart in
    let room = h.room.room in
    record { apart = omega arith; room = omega arith }

pub left_less : {p₀ : Places} {w : List Argument} {us : List ℕ} {p : Places} {l : List Argument} {out : List ℕ} (a b : List Argument) {next : Places} {out' : List ℕ} → Left p₀ w us p l out → l ≡ a ++ b
    → Wrote p a out next out' → Left p₀ w us next b out'
left_less {p₀} {w} {us} {p} {l} {out} a b {next} {out'} h e k =
    let size = sizes l a b e in
    let apart = h.room.apart in
    let room = h.room.room in
    let tag = h.tag in
    let byte = h.byte in
    let tagged = k.moved.tag in
    let moved = k.moved.byte in
    let all : Room p (a ++ b) out = record { apart = rw (sym e) apart; room = rw (sym e) room } in
    let first : length (over p.tag (tags a) out) ≡ length out = over_length p.tag (tags a) out (omega (arith, tags_size a)) in
    let long : length out' ≡ length out = ap (length {A = ℕ}) k.buffer ∙ over_length p.byte (arguments a) (over p.tag (tags a) out) (omega arith) ∙ first in
    record {
      buffer =
          ap (λ (x : List ℕ). laid next b x) k.buffer
          ∙ laid_append p next a b out k.moved all
          ∙ ap (λ (m : List Argument). laid p m out) (sym e)
          ∙ h.buffer;
      tag = omega arith;
      byte = omega arith;
      room = record { apart = omega arith; room = omega arith };
      size = long ∙ h.size;
    }

laid_none : (p : Places) (us : List ℕ) → laid p [] us ≡ us
unfolding tags arguments
laid_none p us = ap (λ (x : List ℕ). over p.byte [] x) (over_none p.tag us) ∙ over_none p.byte us

-- none left
pub left_none : {p₀ : Places} {w : List Argument} {us : List ℕ} {p : Places} {l : List Argument} {out : List ℕ} → Left p₀ w us p l out → l ≡ [] → Wrote p₀ w us p out
left_none {p₀} {w} {us} {p} {l} {out} h e =
    let size = none-left l e in
    let tag = h.tag in
    let byte = h.byte in
    record {
      moved = record { tag = omega arith; byte = omega arith };
      buffer = sym (laid_none p out) ∙ ap (λ (m : List Argument). laid p m out) (sym e) ∙ h.buffer;
    }

pub wrote_piece : (s : List ℕ) (piece : Piece) (p : Places) (out o1 o2 : List ℕ) (tag size : ℕ) → tag ≡ tag_of (piece_argument s piece) → size ≡ length (piece_bytes s piece)
    → o1 ≡ over p.tag (tag ∷ []) out → o2 ≡ over p.byte (piece_bytes s piece) o1
    → Wrote p (piece_argument s piece ∷ []) out (record { tag = p.tag + 1; byte = p.byte + size }) o2
wrote_piece s piece p out o1 o2 tag size t z e1 e2 =
    let a = piece_argument s piece in
    record {
      moved = record { tag = refl; byte = ap (λ (k : ℕ). p.byte + k) (z ∙ sym (piece_bytes_size s piece)) };
      buffer =
          e2
          ∙ ap (λ (l : List ℕ). over p.byte (piece_bytes s piece) l) (e1 ∙ ap (λ (k : ℕ). over p.tag (k ∷ []) out) t)
          ∙ ap₂ (λ (x y : List ℕ). over p.byte x (over p.tag y out)) (sym (one_bytes a)) (sym (one_tag a));
    }

pub wrote_pair : (m n : ℕ) (p : Places) (out o1 o2 o3 o4 : List ℕ) → Room p (int m ∷ (int n ∷ [])) out
    → o1 ≡ over p.tag (105 ∷ []) out → o2 ≡ over (p.tag + 1) (105 ∷ []) o1 → o3 ≡ over p.byte (bytes32 m) o2 → o4 ≡ over (p.byte + 4) (bytes32 n) o3
    → Wrote p (int m ∷ (int n ∷ [])) out (record { tag = p.tag + 2; byte = p.byte + 8 }) o4
wrote_pair m n p out o1 o2 o3 o4 r e1 e2 e3 e4 =
    let size = pair_size m n in
    let apart = r.apart in
    let room = r.room in
    let p2 : o2 ≡ over p.tag (105 ∷ (105 ∷ [])) out =
    e2 ∙ ap (λ (l : List ℕ). over (p.tag + 1) (105 ∷ []) l) e1 ∙ over_over p.tag (p.tag + 1) (105 ∷ []) (105 ∷ []) out refl (omega arith) in
    let long : length o2 ≡ length out = ap (length {A = ℕ}) p2 ∙ over_length p.tag (105 ∷ (105 ∷ [])) out (omega arith) in
    record {
      moved = record { tag = refl; byte = ap (λ (k : ℕ). p.byte + k) (sym size) };
      buffer =
          e4
          ∙ ap (λ (l : List ℕ). over (p.byte + 4) (bytes32 n) l) e3
          ∙ over_over p.byte (p.byte + 4) (bytes32 m) (bytes32 n) o2 refl (omega arith)
          ∙ ap (λ (l : List ℕ). over p.byte (bytes32 m ++ bytes32 n) l) p2
          ∙ ap₂ (λ (x y : List ℕ). over p.byte x (over p.tag y out)) (sym (pair_bytes m n)) (sym (pair_tags m n));
    }
