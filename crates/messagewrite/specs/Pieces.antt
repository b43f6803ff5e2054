-- Room for the parts of a message, and the parts one behind the other.
use Rattle.std.specs.Prelude.{ℕ, ◌+◌, ◌-◌, ◌%◌, ◌≤◌, ◌<◌, false, ◌≡◌, List, ◌++◌, length}
use Rattle.std.proofs.Common.{ap, ◌∙◌, append_assoc, arith, length-append}
use Rattle.format.specs.Fields.{highest32}
use Rattle.words.specs.Parts.{over}
use Rattle.osc.specs.Over.{over_over}
use Rattle.messages.specs.declared.Slot.{Slot}
use Rattle.messages.specs.Write.{unfit, any_unfit}
use Rattle.messages.specs.Rows.{slots_of, address_of}
use Rattle.messagewrite.specs.Codes.{size_by}
use Rattle.messagewrite.specs.Slots.{sizes}
use Rattle.messagewrite.specs.Whole.{whole_size}

pub record BlobRoom (at : ℕ) (bytes out : List ℕ) : Type 0 where
  pub small : length bytes ≤ highest32
  pub room : at + (4 + (length bytes + (4 - length bytes % 4) % 4)) ≤ length out

pub record ArgumentRoom (slot : Slot) (at : ℕ) (bytes out : List ℕ) : Type 0 where
  pub fit : unfit bytes slot ≡ false
  pub room : at + size_by slot (length bytes) ≤ length out

pub record AddressRoom (op size : ℕ) (out : List ℕ) : Type 0 where
  pub is : size ≡ length (address_of op)
  pub some : 0 < size
  pub room : size + (4 - size % 4) ≤ length out

pub record TagsRoom (at op count : ℕ) (out : List ℕ) : Type 0 where
  pub is : count ≡ length (slots_of op)
  pub room : at + count ≤ length out

pub record TagStringRoom (at op count : ℕ) (out : List ℕ) : Type 0 where
  pub is : count ≡ length (slots_of op)
  pub room : at + (count + 1 + (4 - (count + 1) % 4)) ≤ length out

pub record ArgumentsRoom (start op count : ℕ) (bytes out : List ℕ) : Type 0 where
  pub is : count ≡ length (slots_of op)
  pub fit : any_unfit bytes (slots_of op) ≡ false
  pub room : start + sizes (slots_of op) (length bytes) ≤ length out

pub record MessageRoom (op count : ℕ) (bytes out : List ℕ) : Type 0 where
  pub some : 0 < length (address_of op)
  pub is : count ≡ length (slots_of op)
  pub fit : any_unfit bytes (slots_of op) ≡ false
  pub room : whole_size op (length bytes) ≤ length out

-- two and three parts one behind the other
module _ (at : ℕ) (a b us o1 o2 : List ℕ) (start : ℕ) (s : start ≡ at + length a) (e1 : o1 ≡ over at a us) (e2 : o2 ≡ over start b o1) where
  pub two_parts : start + length b ≤ length us → o2 ≡ over at (a ++ b) us
  two_parts room = e2 ∙ ap (λ (l : List ℕ). over start b l) e1 ∙ over_over at start a b us s room

  pub three_parts : (d o3 : List ℕ) (front : ℕ) → front ≡ start + length b → front + length d ≤ length us → o3 ≡ over front d o2 → o3 ≡ over at (a ++ (b ++ d)) us
  three_parts d o3 front f room e3 =
      e3
      ∙ ap (λ (l : List ℕ). over front d l) (two_parts (omega arith))
      ∙ over_over at front (a ++ b) d us (rw length-append (omega arith)) room
      ∙ ap (λ (l : List ℕ). over at l us) (append_assoc a b d)
