-- The version 2 encoding of a definition put at a place.
use Rattle.std.specs.Prelude.{ℕ, ◌+◌, ◌≤◌, ◌≡◌, List, length}
use Rattle.std.proofs.Common.{sym, ap, ◌∙◌}
use Rattle.words.specs.Parts.{put, over}
use Rattle.format.specs.declared.Width.{Width}
use Rattle.format.specs.Read.{got}
use Rattle.format.specs.Definition.{Definition}
use Rattle.format.specs.Reader.{definition_by}
use Rattle.format.specs.RepeatLaws.{got_value}
use Rattle.format.specs.Writer.{write_definition}
use Rattle.words.specs.PartsLaws.{over_put}

-- a definition is read from one place to another
pub record Readable (w : Width) (s : List ℕ) (at end : ℕ) : Type 0 where
  pub definition : Definition
  pub read : definition_by w s at ≡ got definition end

-- .. and its encoding has room at a place
pub record Encodable (w : Width) (s : List ℕ) (at end : ℕ) (out : List ℕ) (place : ℕ) : Type 0 where
  pub readable : Readable w s at end
  pub room : place + length (write_definition readable.definition) ≤ length out

-- the encoding stands there, the rest is as before, and this is the place past it
pub record Encoded (d : Definition) (place : ℕ) (before after : List ℕ) (past : ℕ) : Type 0 where
  pub bytes : after ≡ put place (length (write_definition d)) (write_definition d) before
  pub end : past ≡ place + length (write_definition d)

module _ {w : Width} {s : List ℕ} {at end : ℕ} {out : List ℕ} {place : ℕ} (e : Encodable w s at end out place) where
  -- one definition is read there
  pub encodable_is : {d : Definition} → definition_by w s at ≡ got d end → d ≡ e.readable.definition
  encodable_is h = got_value (sym h ∙ e.readable.read)

  -- whatever was written is its encoding
  pub encoded : (b : List ℕ) {after : List ℕ} {past : ℕ} → write_definition e.readable.definition ≡ b → after ≡ over place b out → past ≡ place + length b
      → (d : Definition) → definition_by w s at ≡ got d end → Encoded d place out after past
  encoded b f g h d r =
      let same : write_definition d ≡ b = ap write_definition (encodable_is r) ∙ f in
      let size = ap length same in
      record {
        bytes = g ∙ over_put place b out ∙ sym (ap (λ (x : List ℕ). put place (length x) x out) same);
        end = h ∙ sym (ap (λ (n : ℕ). place + n) size);
      }
