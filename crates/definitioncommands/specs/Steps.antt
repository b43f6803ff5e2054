-- What the commands of definitions do, by the rows of the table; and the export.
use Rattle.std.specs.Prelude.{ℕ, Option, Some, None, Result, Ok, Err, ◌+◌, ◌-◌, ◌≤◌, ◌<◌, Bool, ◌≡◌, set}
use Rattle.std.proofs.Math.Bool.{true, false}
use Rattle.std.proofs.Math.Path.{refl, ap, ap₂}
use Rattle.std.proofs.Common.{sym, ◌∙◌, arith}
use mathlib.Core.List.{List, ◌++◌}
use borrow.Author.Tests.{lt-ltb, le-ltb, le-leb, lt-leb}
use Rattle.std.proofs.Math.ListN.{length, drop}
use Rattle.std.proofs.Math.Dec.{ltb}
use Rattle.words.specs.Parts.{region, put}
use Rattle.faults.specs.declared.Fault.{Fault}
use Rattle.faults.specs.declared.FileError.{FileError}
use Rattle.refusals.specs.declared.Refusal.{Refusal}
use Rattle.model.specs.declared.Denied.{Denied}
use Rattle.std.specs.Option.{ok_or}
use Rattle.refusals.specs.declared.Refusal.TheVariants.{NoSlot, NoDefinition, NoRoom}
use Rattle.format.specs.Read.{Read, got, bad}
use Rattle.format.specs.Definition.{Definition}
use Rattle.format.specs.Reader.{read_file}
use Rattle.files.specs.File.{verdict}
use Rattle.nodes.specs.Table.{rows}
use Rattle.model.specs.declared.DefinitionCommand.{DefinitionCommand}
use Rattle.model.specs.declared.DefinitionCommand.TheVariants.{Receive, Free}
use Rattle.model.specs.declared.Query.TheVariants as query
use Rattle.model.specs.declared.Command.TheVariants as command
use Rattle.model.specs.Answers.{Answer}
use Rattle.model.specs.Answers.{Done, Replied, Refused, RefusedAt}
use Rattle.model.specs.Layout.{slot_count, lengths_place, nodes_place, nodes_words, count_in, nodes_in}
use Rattle.model.specs.Engine.{Slot, decode, resident_of}
use Rattle.model.specs.Checks.{first_of, fault_of, definitions_of, names_of, staying, no_slot, no_resident}
use Rattle.model.specs.Replies.{export_file, reply_to}
use Rattle.model.specs.After.{words_after, arena_after}
use Rattle.model.specs.Apply.{query_answer, answer_in}
use Rattle.state.specs.Known.{Known}
use Rattle.state.specs.Does.{Step, Reply}
use Rattle.slots.specs.Slots.{table_words, slots_on, slots_lent, decoded_many}
use Rattle.definitions.specs.Slots.{Formed}
use Rattle.definitions.specs.Holders.{HeldBy, holders}
use Rattle.definitions.specs.Files.{Accepted, definitions_on}
use Rattle.definitions.specs.Lent.{table_in, formed_lent, staying_lent, free_lent}

abbrev pub Steps : DefinitionCommand → List ℕ → List ℕ → List ℕ → Answer → List ℕ → List ℕ → Type 0
Steps c bytes ws bs a ws' bs' = Step (command.Definitions c) bytes ws bs a ws' bs'

-- the table of slots, as it is lent from words that passed the check
pub formed_table : (ws bs : List ℕ) → Known ws bs → Formed (table_in ws) bs
formed_table ws bs k = formed_lent ws bs k.size k.arena_size k.flags k.slots

-- what the check of a file tells
pub verdict_bad : (r : Read (List Definition)) (e : FileError) → Err e ≡ verdict r → r ≡ bad e.0 e.1
verdict_bad (got ds end) e h = cc
verdict_bad (bad q place) e h = let same : e ≡ record { 0 = q; 1 = place } = cc in rw same

pub verdict_got : (r : Read (List Definition)) (n : ℕ) → Ok n ≡ verdict r → ((fault_of r).fires ≡ false) × (length (definitions_of r) ≡ n)
verdict_got (got ds end) n h = (refl, (cc))
verdict_got (bad q place) n h = ((cc), (cc))

-- what a command answers that is done, or denied by the table or by a file's fault
abbrev pub done_with : {A : Type 0} → Result A Denied → Answer
done_with (Ok x) = Done
done_with (Err d) = Err d

-- the refusal of a name that no resident has
pub no_definition : (o : Option ℕ) (r e : Refusal) → ◌≡◌ {A = Result ℕ Refusal} (Err e) (ok_or o r) → e ≡ r
no_definition None r e h = cc
no_definition (Some k) r e h = cc

-- /d_recv
module _ (bytes ws bs : List ℕ) where
  pub receive_fault : (q : Fault) (at : ℕ) → read_file bytes ≡ bad q at → Steps Receive bytes ws bs (RefusedAt q at) ws bs
  unfolding answer_in first_of
  receive_fault q at h = record { answers = rw h; words = refl; arena = refl }

  pub receive-full : Accepted bytes → no_slot (definitions_on bytes) (decode ws bs) ≡ true → Steps Receive bytes ws bs (Refused NoSlot) ws bs
  unfolding answer_in first_of
  receive-full fine full = record { answers = rw (fine, full); words = refl; arena = refl }

  pub receive_done : (ws' bs' : List ℕ) → Accepted bytes → no_slot (definitions_on bytes) (decode ws bs) ≡ false
      → (ws' ≡ words_after (command.Definitions Receive) bytes ws bs) × (bs' ≡ arena_after (command.Definitions Receive) bytes ws bs)
      → Steps Receive bytes ws bs Done ws' bs'
  unfolding answer_in first_of
  receive_done ws' bs' fine room left = record { answers = rw (fine, room); words = left.0; arena = left.1 }

  -- the nodes whose slots are held
  pub held_here : (many : ℕ) (tests : List Bool) → many ≡ count_in ws → HeldBy tests (rows many (region nodes_place nodes_words ws)) → HeldBy tests (nodes_in ws)
  held_here many tests same held = rw same at held

  -- the count that the code tests is the table's
  pub full-fact : (many count stay : ℕ) (tests : List Bool) → many ≡ count_in ws → HeldBy tests (rows many (region nodes_place nodes_words ws)) → length (definitions_on bytes) ≡ count
      → stay ≡ staying 0 (names_of (definitions_on bytes)) (slots_on (table_in ws) bs) (holders tests)
      → ltb (slot_count - stay) count ≡ no_slot (definitions_on bytes) (decode ws bs)
  unfolding decode
  full-fact many count stay tests same held long fact =
      ap₂ (λ (x y : ℕ). ltb (slot_count - x) y)
      (fact ∙ staying_lent ws bs tests (held_here many tests same held) (names_of (definitions_on bytes)))
      (sym long)

-- /d_free
module _ (bytes ws bs : List ℕ) (k : ℕ) (fact : k ≡ resident_of bytes (slots_on (table_in ws) bs)) where
  here : k ≡ resident_of bytes (decode ws bs).slots
  here = fact ∙ ap (λ (l : List Slot). resident_of bytes l) (slots_lent ws bs)

  pub free_none : slot_count ≤ k → Steps Free bytes ws bs (Refused NoDefinition) ws bs
  unfolding answer_in first_of
  free_none h =
      let none : no_resident bytes (decode ws bs) ≡ true = le-leb (length (decode ws bs).slots) (resident_of bytes (decode ws bs).slots) (omega (arith, decoded_many ws bs, here)) in
      record { answers = rw none; words = refl; arena = refl }

  pub free_done : (known : Known ws bs) (table : List ℕ) → k < slot_count → table ≡ set (table_in ws) (slot_count + k) 0
      → Steps Free bytes ws bs Done (put lengths_place table_words table ws) bs
  unfolding answer_in first_of
  free_done known table h o =
      let some : no_resident bytes (decode ws bs) ≡ false = lt-leb (length (decode ws bs).slots) (resident_of bytes (decode ws bs).slots) (omega (arith, decoded_many ws bs, here)) in
      let left = free_lent ws bs bytes table k known.size (formed_table ws bs known) fact h o in
      record { answers = rw some; words = left.0; arena = left.1 }

-- the export
module _ (ws bs out : List ℕ) where
  file_here : export_file (slots_on (table_in ws) bs) ≡ export_file (decode ws bs).slots
  file_here = ap export_file (slots_lent ws bs)

  pub export-long : length out < length (export_file (slots_on (table_in ws) bs)) → (bytes : List ℕ) → Reply query.Export bytes ws bs out (Refused NoRoom) out
  unfolding query_answer first_of reply_to
  export-long h bytes =
      let long : ltb (length out) (length (export_file (decode ws bs).slots)) ≡ true = lt-ltb (length out) (length (export_file (decode ws bs).slots)) (rw file_here at h) in
      record { answers = rw long; reply = refl }

  pub export_done : (size : ℕ) (out' : List ℕ) → size ≡ length (export_file (slots_on (table_in ws) bs)) → size ≤ length out
      → out' ≡ export_file (slots_on (table_in ws) bs) ++ drop (length (export_file (slots_on (table_in ws) bs))) out
      → (bytes : List ℕ) → Reply query.Export bytes ws bs out (Replied size) out'
  unfolding query_answer first_of reply_to
  export_done size out' long fits o bytes =
      let e = export_file (decode ws bs).slots in
      let same : size ≡ length e = long ∙ ap length file_here in
      let room : ltb (length out) (length e) ≡ false = le-ltb (length out) (length e) (omega arith) in
      record {
        answers = rw room (ap Replied same);
        reply = o ∙ ap (λ (l : List ℕ). l ++ drop (length l) out) file_here ∙ ap (λ (n : ℕ). e ++ drop n out) (sym same);
      }
