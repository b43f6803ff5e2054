-- A padded address in words of four bytes, as it is written.
use Prim.{Unit, tt}
use Rattle.std.specs.Prelude.{ℕ, zero, suc, ◌+◌, ◌-◌, ◌%◌, ◌≤◌, ◌<◌, ◌≡◌, refl, List, [], ◌∷◌, ◌++◌, length, ltb}
use Rattle.std.proofs.Common.{sym, ap, ◌∙◌, arith, lt-ltb, le-ltb}
use Rattle.words.specs.Choice.{pick}
use Rattle.words.specs.Bytes.{bytes32}
use Rattle.format.specs.Fields.{word}
use Rattle.osc.specs.Message.{padded}
use Rattle.words.specs.Parts.{over}
use Rattle.osc.specs.Over.{over_over}
use Rattle.messages.specs.Table.{Row, table}
use Rattle.messages.specs.Write.{row_from}
use Rattle.messages.specs.Rows.{address_in, address_of}
use Rattle.messages.specs.TableRows.{some_address}
use Rattle.messagewrite.specs.Pieces.{two_parts, three_parts}

-- two words, a third where it has eight bytes, and zeros behind twelve
abbrev in_words : List ℕ → List ℕ
in_words a = bytes32 (word a 0) ++ (bytes32 (word a 4) ++ pick (ltb (length a) 8) [] (bytes32 (word a 8) ++ pick (ltb (length a) 12) [] (bytes32 0)))

unfoldable AllWords : List Row → Type 0
AllWords [] = Unit {0}
AllWords (r ∷ rows) = (padded r.address ≡ in_words r.address) × AllWords rows

table-words : AllWords table
unfolding AllWords
table-words =
    (refl, (refl, (refl, (refl, (refl, (refl, (refl, (refl, (refl, (refl, (refl, (refl, (refl, (refl, (refl, (refl, (refl, (refl, (refl, (refl, (refl, (refl, (refl, (refl, (refl, (refl, tt))))))))))))))))))))))))))

words_from : (rows : List Row) (op : ℕ) → AllWords rows → 0 < length (address_in (row_from rows op)) → padded (address_in (row_from rows op)) ≡ in_words (address_in (row_from rows op))
unfolding AllWords row_from
words_from [] op h l = absurd (omega arith)
words_from (r ∷ rows) zero h l = absurd (omega arith)
words_from (r ∷ rows) (suc zero) h l = h.0
words_from (r ∷ rows) (suc (suc op)) h l = words_from rows (suc op) h.1 l

padded_words : (op : ℕ) → 0 < length (address_of op) → padded (address_of op) ≡ in_words (address_of op)
unfolding address_of
padded_words op h = words_from table op table-words h

module _ (op : ℕ) (some : 0 < length (address_of op)) (us : List ℕ) (room : length (address_of op) + (4 - length (address_of op) % 4) ≤ length us)
    (w₀ w₁ : ℕ) (h₀ : w₀ ≡ word (address_of op) 0) (h₁ : w₁ ≡ word (address_of op) 4) (o₁ o₂ : List ℕ) (e₁ : o₁ ≡ over 0 (bytes32 w₀) us) (e₂ : o₂ ≡ over 4 (bytes32 w₁) o₁) where
  pub two_words : length (address_of op) < 8 → o₂ ≡ over 0 (padded (address_of op)) us
  two_words short =
      let long = some_address op some in
      let is : bytes32 w₀ ++ bytes32 w₁ ≡ padded (address_of op) = rw (h₀, h₁) (sym (rw (lt-ltb (length (address_of op)) 8 short) at (padded_words op some))) in
      two_parts 0 (bytes32 w₀) (bytes32 w₁) us o₁ o₂ 4 refl e₁ e₂ (omega arith) ∙ ap (λ (l : List ℕ). over 0 l us) is

  module _ (w₂ : ℕ) (h₂ : w₂ ≡ word (address_of op) 8) (o₃ : List ℕ) (e₃ : o₃ ≡ over 8 (bytes32 w₂) o₂) (l : 8 ≤ length (address_of op)) where
    three : o₃ ≡ over 0 (bytes32 w₀ ++ (bytes32 w₁ ++ bytes32 w₂)) us
    three = three_parts 0 (bytes32 w₀) (bytes32 w₁) us o₁ o₂ 4 refl e₁ e₂ (bytes32 w₂) o₃ 8 refl (omega arith) e₃

    pub three_words : length (address_of op) < 12 → o₃ ≡ over 0 (padded (address_of op)) us
    three_words short =
        let is : bytes32 w₀ ++ (bytes32 w₁ ++ bytes32 w₂) ≡ padded (address_of op) =
        rw (h₀, h₁, h₂) (sym (rw (le-ltb (length (address_of op)) 8 l, lt-ltb (length (address_of op)) 12 short) at (padded_words op some))) in
        three ∙ ap (λ (k : List ℕ). over 0 k us) is

    pub four_words : 12 ≤ length (address_of op) → (o₄ : List ℕ) → o₄ ≡ over 12 (bytes32 0) o₃ → o₄ ≡ over 0 (padded (address_of op)) us
    four_words long o₄ e₄ =
        let is : bytes32 w₀ ++ (bytes32 w₁ ++ (bytes32 w₂ ++ bytes32 0)) ≡ padded (address_of op) =
        rw (h₀, h₁, h₂) (sym (rw (le-ltb (length (address_of op)) 8 l, le-ltb (length (address_of op)) 12 long) at (padded_words op some))) in
        e₄
        ∙ ap (λ (k : List ℕ). over 12 (bytes32 0) k) three
        ∙ over_over 0 12 (bytes32 w₀ ++ (bytes32 w₁ ++ bytes32 w₂)) (bytes32 0) us refl (omega arith)
        ∙ ap (λ (k : List ℕ). over 0 k us) is
