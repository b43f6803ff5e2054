-- Laws of a string that begins with a byte.
use Prim.{tt}
use Rattle.std.specs.Prelude.{ℕ, ◌≤◌, ◌<◌, ◌≡◌, List, length, get_or, eqb, Some, None}
use Rattle.std.proofs.Common.{sym, ap, ◌∙◌, arith, eq-eqb, ne_eqb}
use Rattle.words.specs.Choice.{pick}
use Rattle.format.specs.NameLaws.{region-cons, region_none}
use Rattle.messages.specs.Form.{Parse, parsed, faulty, headed}
use Rattle.messageread.specs.declared.cursor.Cursor.{Cursor}
use Rattle.messageread.specs.declared.cursor.Part.{Part}
use Rattle.messageread.specs.Answers.{bytes_of, HeadRead}
use Rattle.messageread.specs.FormLaws.{goes_on, stops}

module _ (byte : ℕ) (s : List ℕ) (p : Parse (List ℕ)) where
  abbrev test : List ℕ → ℕ → Parse (List ℕ)
  test l next = pick (eqb (get_or l 0 0) byte) (parsed l next) faulty

  pub no_head : faulty ≡ p → HeadRead s (headed byte p) None
  no_head h = record { reads = stops p test h; full = tt }

  module _ (part : Part) (next : Cursor) (found : parsed (bytes_of s part) next.at ≡ p) where
    other_head : (get_or (bytes_of s part) 0 0 ≡ byte → ⊥) → HeadRead s (headed byte p) None
    other_head e = record {
      reads = sym (ap (λ b. pick b (parsed (bytes_of s part) next.at) faulty) (ne_eqb (get_or (bytes_of s part) 0 0) byte e)) ∙ goes_on p test found;
      full = tt;
    }

    pub empty_head : 0 < byte → part.end ≤ part.start → HeadRead s (headed byte p) None
    empty_head b h =
        let none : get_or (bytes_of s part) 0 0 ≡ 0 = rw (region_none s part.start part.end h) in
        other_head (λ z. omega arith)

    module _ (l : part.start < part.end) (m : part.end ≤ length s) where
      first : get_or (bytes_of s part) 0 0 ≡ get_or s part.start 0
      first = ap (λ (b : List ℕ). get_or b 0 0) (region-cons s part.start part.end l (omega arith))

      pub wrong_head : (get_or s part.start 0 ≡ byte → ⊥) → HeadRead s (headed byte p) None
      wrong_head e = other_head (λ z. e (sym first ∙ z))

      pub right_head : get_or s part.start 0 ≡ byte → HeadRead s (headed byte p) (Some (part, next))
      right_head e = record {
        reads = sym (ap (λ b. pick b (parsed (bytes_of s part) next.at) faulty) (eq-eqb (get_or (bytes_of s part) 0 0) byte (first ∙ e))) ∙ goes_on p test found;
        full = (l, m);
      }
