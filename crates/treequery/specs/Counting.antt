-- Arguments counted one behind the other.
use Rattle.std.specs.Prelude.{ℕ, ◌+◌, ◌*◌, ◌≤◌, ◌≡◌, refl, List, [], ◌∷◌, ◌++◌, length}
use Rattle.std.proofs.Common.{arith}
use Rattle.osc.specs.Message.{Argument, tags, arguments}
use Rattle.osc.specs.Lengths.{tags_size}
use Rattle.treequery.specs.declared.piece.Piece.{Piece}
use Rattle.treequery.specs.declared.places.Places.{Places}
use Rattle.treequery.specs.Pieces.{piece_argument, most_bytes}
use Rattle.treequery.specs.Places.{nowhere, Moved, most_argument, most_tags, sizes, none-left}

pub record Counts (l : List Argument) (p : Places) : Type 0 where
  pub fair : p.byte ≤ most_argument * p.tag
  pub few : p.tag + length l ≤ most_tags

pub record Counted (l : List Argument) (p next : Places) : Type 0 where
  pub moved : Moved p l next
  pub fair : next.byte ≤ most_argument * next.tag

pub record CountsPiece (s : List ℕ) (piece : Piece) (p : Places) : Type 0 where
  pub short : length s ≤ most_bytes
  pub counts : Counts (piece_argument s piece ∷ []) p

-- while w is counted from the places p₀ on: what is left, from the places p on
pub record Counting (p₀ : Places) (w : List Argument) (p : Places) (l : List Argument) : Type 0 where
  pub tag : p.tag + length l ≡ p₀.tag + length w
  pub byte : p.byte + length (arguments l) ≡ p₀.byte + length (arguments w)
  pub counts : Counts l p

pub counting_all : {w : List Argument} {p : Places} → Counts w p → Counting p w p w
counting_all h = record { tag = refl; byte = refl; counts = h }

-- some arguments less
pub counting_some : {p₀ : Places} {w : List Argument} {p : Places} {l : List Argument} (a b : List Argument) → Counting p₀ w p l → l ≡ a ++ b → Counts a p
counting_some {p₀} {w} {p} {l} a b h e =
    let size = sizes l a b e in
    let few = h.counts.few in
    record { fair = h.counts.fair; few = omega arith }

pub counting_less : {p₀ : Places} {w : List Argument} {p : Places} {l : List Argument} (a b : List Argument) {next : Places} → Counting p₀ w p l → l ≡ a ++ b → Counted a p next
    → Counting p₀ w next b
counting_less {p₀} {w} {p} {l} a b {next} h e k =
    let size = sizes l a b e in
    let tag = h.tag in
    let byte = h.byte in
    let few = h.counts.few in
    let tagged = k.moved.tag in
    let moved = k.moved.byte in
    record {
      tag = omega arith;
      byte = omega arith;
      counts = record { fair = k.fair; few = omega arith };
    }

-- none left
pub counting_none : {p₀ : Places} {w : List Argument} {p : Places} {l : List Argument} → Counting p₀ w p l → l ≡ [] → Counted w p₀ p
counting_none {p₀} {w} {p} {l} h e =
    let size = none-left l e in
    let tag = h.tag in
    let byte = h.byte in
    record { moved = record { tag = omega arith; byte = omega arith }; fair = h.counts.fair }

-- how many tags and bytes some arguments have
pub record Size (l : List Argument) (p : Places) : Type 0 where
  pub tag : p.tag ≡ length (tags l)
  pub byte : p.byte ≡ length (arguments l)
  pub few : p.tag ≤ most_tags
  pub fair : p.byte ≤ most_argument * p.tag

pub counts_first : (l : List Argument) → length l ≤ most_tags → Counts l nowhere
counts_first l h = record { fair = omega arith; few = omega arith }

pub counted_all : (l : List Argument) (p : Places) → length l ≤ most_tags → Counted l nowhere p → Size l p
counted_all l p h k =
    let tag = k.moved.tag in
    let byte = k.moved.byte in
    record { tag = omega (arith, tags_size l); byte = omega arith; few = omega arith; fair = k.fair }
