-- Laws of a message's end, and of what stands behind its address.
use Prim.{tt}
use Rattle.std.specs.Prelude.{ℕ, ◌+◌, ◌-◌, ◌≡◌, List, length, drop, Option, Some, None, Result, Ok, Err}
use Rattle.std.proofs.Math.Path.{refl}
use Rattle.std.proofs.Common.{sym, ap, ◌∙◌, arith, eq-eqb, ne_eqb}
use Rattle.words.specs.Bytes.{AreBytes}
use Rattle.words.specs.Parts.{region}
use Rattle.format.specs.NameLaws.{region-cons}
use Rattle.refusals.specs.declared.Refusal.{Refusal}
use Rattle.refusals.specs.declared.Refusal.TheVariants.{Malformed, UnknownMessage}
use Rattle.model.specs.declared.Command.{Command}
use Rattle.calls.specs.Ops.{command_in}
use Rattle.messages.specs.declared.Received.{Received}
use Rattle.messages.specs.Form.{Parse, parsed, faulty, and_then, string_at, headed, arguments_at, read_message}
use Rattle.messages.specs.Table.{table, Given}
use Rattle.messages.specs.Rows.{slots_of}
use Rattle.messages.specs.Receive.{bare, calls, meaning_of, meaning, Reads}
use Rattle.messageread.specs.declared.cursor.Cursor.{Cursor}
use Rattle.messageread.specs.declared.cursor.Part.{Part}
use Rattle.messageread.specs.declared.keep.Kept.{Kept}
use Rattle.messageread.specs.FormLaws.{goes_on, stops}
use Rattle.messageread.specs.Answers.{bytes_of, Inside, HeadRead}
use Rattle.messageread.specs.Keep.{given, step_of, StepHolds, Walks, taken_at}
use Rattle.messageread.specs.Lookup.{op_from}
use Rattle.messageread.specs.Finish.{Stands, end_of, message_end, after_tags, after_address}
use Rattle.messageread.specs.ReadLaws.{taken_meaning}

module _ (s : List ℕ) (kept : Kept) (end : ℕ) where
  pub left_over : (end ≡ length s → ⊥) → Stands s (end_of s (parsed (given s kept) end)) (Err Malformed)
  left_over e = record { stands = rw (ne_eqb end (length s) e); within = tt }

  called : end ≡ length s → (c : Option Command) → c ≡ command_in kept.numbers → end_of s (parsed (given s kept) end) ≡ calls c (given s kept).bytes
  called e c h = rw (eq-eqb end (length s) e, h)

  pub no_command : end ≡ length s → None ≡ command_in kept.numbers → Stands s (end_of s (parsed (given s kept) end)) (Err UnknownMessage)
  no_command e h = record { stands = called e None h; within = tt }

  pub a_command : (c : Command) → end ≡ length s → Some c ≡ command_in kept.numbers → Inside s kept.part
      → Stands s (end_of s (parsed (given s kept) end)) (Ok (record { command = c; start = kept.part.start; end = kept.part.end }))
  a_command c e h lies = record { stands = called e (Some c) h; within = lies }

module _ (s address : List ℕ) (next : ℕ) where
  pub no_tags : faulty ≡ headed 44 (string_at s next) → Stands s (meaning_of (after_address s address next)) (Err Malformed)
  no_tags h = record { stands = ap meaning_of (sym (stops (headed 44 (string_at s next)) (after_tags s address) h)); within = tt }

  pub tagged : (tags ts : List ℕ) (place op : ℕ) → parsed tags place ≡ headed 44 (string_at s next) → ts ≡ drop 1 tags → op ≡ op_from 1 table address ts
      → meaning_of (after_address s address next) ≡ end_of s (taken_at (slots_of op) ts s place (bare op))
  tagged tags ts place op h e found =
      ap meaning_of (sym (goes_on (headed 44 (string_at s next)) (after_tags s address) h))
      ∙ ap (λ (l : List ℕ). meaning_of (and_then (arguments_at l s place) (message_end s address))) (sym e)
      ∙ taken_meaning s address ts op found place

  pub tags_stand : (t : Part) (place : Cursor) → HeadRead s (headed 44 (string_at s next)) (Some (t, place)) → (ts : List ℕ) → ts ≡ region (t.start + 1) (t.end - (t.start + 1)) s
      → (op : ℕ) → op ≡ op_from 1 table address ts → (w : Option (Kept × Cursor)) → Walks s (taken_at (slots_of op) ts s place.at (bare op)) w
      → (r : Result Received Refusal) → (StepHolds s w → Stands s (end_of s (step_of s w)) r) → Stands s (meaning_of (after_address s address next)) r
  tags_stand t place head ts cut op found w walks r stands =
      let behind = cut ∙ sym (ap (λ (l : List ℕ). drop 1 l) (region-cons s t.start t.end head.full.0 (let inside = head.full in omega arith))) in
      let held = stands walks.holds in
      record {
        stands = tagged (bytes_of s t) ts place.at op head.reads behind found ∙ ap (λ (p : Parse Given). end_of s p) (sym walks.reads) ∙ held.stands;
        within = held.within;
      }

module _ (s : List ℕ) (lent : AreBytes s) where
  by_address : meaning s ≡ meaning_of (and_then (headed 47 (string_at s 0)) (after_address s))
  unfolding meaning read_message
  by_address = refl

  pub no_address : faulty ≡ headed 47 (string_at s 0) → Reads s (Err Malformed)
  no_address h = record { stands = by_address ∙ ap meaning_of (sym (stops (headed 47 (string_at s 0)) (after_address s) h)); within = tt; lent_message = lent }

  pub addressed : (address : List ℕ) (next : ℕ) (r : Result Received Refusal) → parsed address next ≡ headed 47 (string_at s 0) → Stands s (meaning_of (after_address s address next)) r → Reads s r
  addressed address next r h t = record {
    stands = by_address ∙ ap meaning_of (sym (goes_on (headed 47 (string_at s 0)) (after_address s) h)) ∙ t.stands;
    within = t.within;
    lent_message = lent;
  }
