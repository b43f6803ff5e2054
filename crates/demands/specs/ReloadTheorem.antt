-- What a fresh engine accepts is its export byte for byte; an export loaded into a fresh one gives the same definitions.
use Rattle.std.specs.Prelude.{ℕ, true, ◌≡◌, refl, List, [], ◌∷◌, length, leb}
use Rattle.std.proofs.Common.{sym, ap, ◌∙◌, arith}
use borrow.Author.Tests.{le-ltb, leb-true}
use Rattle.words.specs.ChoiceLaws.{both_true}
use Rattle.words.specs.Bytes.{AreBytes}
use Rattle.refusals.specs.declared.Refusal.TheVariants.{NoSlot}
use Rattle.format.specs.Read.{Read, got, bad}
use Rattle.format.specs.Definition.{Definition}
use Rattle.format.specs.Reader.{read_file, most_definitions, version_in}
use Rattle.format.specs.Bounds.{is_file}
use Rattle.model.specs.Answers.{Done}
use Rattle.model.specs.Layout.{slot_count}
use Rattle.model.specs.Engine.{Slot, Engine, decode, residents, resident_of}
use Rattle.model.specs.Formed.{formed}
use Rattle.model.specs.Checks.{first_of, check, fault_of, definitions_of, names_of, no_slot}
use Rattle.model.specs.Replies.{definitions_in, export_file}
use Rattle.model.specs.After.{words_after, arena_after, fresh_state, fresh_arena}
use Rattle.model.specs.Apply.{answer_in}
use Rattle.model.specs.Demands.{receive, meaning_in, definition_at_slot as resident_definition}
use Rattle.roundtrip.specs.Forth.{file_forth, file_same}
use Rattle.format.specs.Writer.{file_version, write_file}
use Rattle.state.specs.Known.{Known, known}
use Rattle.slots.specs.Slots.{lengths_on, flags_on, slots_on, slots_length, slots_lent}
use Rattle.definitions.specs.Slots.{Formed}
use Rattle.definitions.specs.Lent.{table_in, formed_lent}
use Rattle.definitions.specs.Exported.{AllBounded, formed_fine, residents-file, export_read, fresh-residents, fresh-export, meaning_of, meaning-residents}
use Rattle.demands.specs.FreshLoad.{fresh_many, fresh_out, fresh_idle, fresh-staying}
use Rattle.demands.specs.Loaded.{fresh_loaded, fresh_after}

abbrev fresh : Engine
fresh = decode fresh_state fresh_arena

-- an accepted file was read
record Read-whole (file : List ℕ) : Type 0 where
  pub definitions : List Definition
  pub end : ℕ
  pub read : read_file file ≡ got definitions end

accepted_read : (file : List ℕ) → answer_in receive file fresh 0 ≡ Done → Read-whole file
unfolding answer_in first_of
accepted_read file a = by (read_file file) refl a
  where
    by : (r : Read (List Definition)) → read_file file ≡ r → first_of (fault_of r ∷ (check NoSlot (no_slot (definitions_of r) fresh) ∷ [])) Done ≡ Done → Read-whole file
    by (got ds end) e t = record { definitions = ds; end = end; read = e }
    by (bad q at) e t = absurd (let z : ◌≡◌ {A = ℕ} 0 1 = cc in omega arith)

-- what a fresh engine accepts is exported: its definitions in version 2
pub exported_file : (file : List ℕ) → AreBytes file → answer_in receive file fresh 0 ≡ Done
    → export_file (decode (words_after receive file fresh_state fresh_arena) (arena_after receive file fresh_state fresh_arena)).slots ≡ write_file (definitions_of (read_file file))
exported_file file b a =
    let r = accepted_read file a in
    let ds = r.definitions in
    let w = file_forth file b ds r.end r.read in
    let known_as : definitions_of (read_file file) ≡ ds = ap definitions_of r.read in
    ap export_file (fresh_after file ds known_as w.bounded)
    ∙ fresh-export file b ds r.end r.read fresh.slots fresh.nodes fresh_many fresh_out fresh_idle
    ∙ ap write_file (sym known_as)

-- and a file of version 2 is that, byte for byte
pub exported_same : (file : List ℕ) → AreBytes file → answer_in receive file fresh 0 ≡ Done → version_in file ≡ file_version → write_file (definitions_of (read_file file)) ≡ file
exported_same file b a v =
    let r = accepted_read file a in
    ap write_file (ap definitions_of r.read) ∙ file_same file b r.definitions r.end r.read v

-- an export, loaded into a fresh engine
module _ (ws bs : List ℕ) (b : AreBytes bs) (h : formed ws bs ≡ true) where
  k : Known ws bs
  k = known ws bs h

  abbrev export : List ℕ
  export = export_file (decode ws bs).slots

  abbrev ds : List Definition
  ds = definitions_in (residents (decode ws bs).slots)

  well : Formed (table_in ws) bs
  well = formed_lent ws bs k.size k.arena_size k.flags k.slots

  same : slots_on (table_in ws) bs ≡ (decode ws bs).slots
  same = slots_lent ws bs

  fine : AllBounded (decode ws bs).slots
  fine = rw same at (formed_fine (table_in ws) bs b well)

  many : length (decode ws bs).slots ≡ slot_count
  many = sym (ap length same) ∙ slots_length 0 slot_count (lengths_on (table_in ws)) (flags_on (table_in ws)) bs

  file : is_file (definitions_in (residents (decode ws bs).slots)) ≡ true
  file = residents-file (decode ws bs).slots many fine k.names

  read : read_file (export_file (decode ws bs).slots) ≡ got (definitions_in (residents (decode ws bs).slots)) (length (export_file (decode ws bs).slots))
  read = export_read (decode ws bs).slots many fine k.names

  pub accepted : answer_in receive (export_file (decode ws bs).slots) fresh 0 ≡ Done
  unfolding answer_in first_of
  accepted =
      let few = leb-true (length ds) most_definitions (both_true (leb (length ds) most_definitions) _ file).0 in
      rw (read, fresh-staying (names_of ds), le-ltb slot_count (length ds) few)

  after_slots : (decode (words_after receive (export_file (decode ws bs).slots) fresh_state fresh_arena) (arena_after receive (export_file (decode ws bs).slots) fresh_state fresh_arena)).slots ≡ fresh_loaded ds
  after_slots = fresh_after export ds (ap definitions_of read) file

  pub meant_same : (name : List ℕ)
      → meaning_in name (decode (words_after receive (export_file (decode ws bs).slots) fresh_state fresh_arena) (arena_after receive (export_file (decode ws bs).slots) fresh_state fresh_arena))
      ≡ meaning_in name (decode ws bs)
  meant_same name =
      ap (λ (s : List Slot). resident_definition s (resident_of name s)) after_slots
      ∙ meaning-residents name (fresh_loaded ds)
      ∙ ap (λ (l : List Definition). meaning_of name l) (fresh-residents ds file fresh.slots fresh.nodes fresh_many fresh_out fresh_idle)
      ∙ sym (meaning-residents name (decode ws bs).slots)
