-- An accepted command of definitions leaves a well-formed state, which decodes to the command's effect.
use Rattle.std.specs.Prelude.{ℕ, true, ◌≡◌, length}
use Rattle.std.proofs.Math.Path.{ap}
use Rattle.std.proofs.Common.{◌∙◌, arith}
use mathlib.Core.List.{List}
use Rattle.words.specs.Bytes.{AreBytes}
use Rattle.model.specs.declared.DefinitionCommand.{DefinitionCommand}
use Rattle.model.specs.declared.DefinitionCommand.TheVariants as definitions
use Rattle.model.specs.declared.Command.TheVariants as command
use Rattle.model.specs.Layout.{slot_count, index_place, index_words, lengths_in, flags_in, nodes_in, controls_in, buses_in, put_resident}
use Rattle.model.specs.Engine.{Slot, decode, resident_of}
use Rattle.model.specs.Effects.{definition_effect, with_slots, effect}
use Rattle.model.specs.After.{put_slots, flags_of, lengths_of, arena_of, words_after, arena_after}
use Rattle.model.specs.Formed.{formed, flags_formed, slots_formed, controls_formed}
use Rattle.state.specs.Accepted.{DefinitionAccepted}
use Rattle.state.specs.Known.{Known, known}
use Rattle.slots.specs.Slots.{decoded_many}
use Rattle.slots.specs.Arena.{Backed, backed_short, arena-length, flags_length}
use Rattle.state.specs.Decoded.{resident_size, resident_word, resident_lengths, resident_flags, resident_past, resident_decoded, slots_size, slots_index, slots_word, slots_lengths, slots_flags, slots_decoded}
use Rattle.refinement.specs.Beside.{beside_formed}
use Rattle.refinement.specs.Follow.{AllLess, retire_less, follow_length, follow_backed, follow_formed, less_back, less_formed, flags_right, controls_held}
use Rattle.refinement.specs.LoadKept.{Kept, slots_kept}

-- what the slots after a command of definitions keep
module _ (c : DefinitionCommand) (bytes ws bs : List ℕ) (b : AreBytes bytes) (h : formed ws bs ≡ true) (a : DefinitionAccepted c bytes (decode ws bs)) where
  abbrev slots_after : List Slot
  slots_after = (definition_effect c bytes (decode ws bs)).slots

  old_many : length (decode ws bs).slots ≡ slot_count
  old_many = decoded_many ws bs

  kept : Kept slots_after (decode ws bs).slots (nodes_in ws)
  unfolding decode
  kept = slots_kept c bytes b (decode ws bs) a old_many (known ws bs h).names

  many : length slots_after ≡ slot_count
  many = follow_length slots_after (decode ws bs).slots kept.follow ∙ old_many

  controls_right : controls_formed slots_after (controls_in ws) (nodes_in ws) ≡ true
  unfolding decode
  controls_right = controls_held slots_after (decode ws bs).slots (controls_in ws) (nodes_in ws) kept.holds ∙ (known ws bs h).controls

-- a load
module _ (bytes ws bs : List ℕ) (b : AreBytes bytes) (h : formed ws bs ≡ true) (a : DefinitionAccepted definitions.Receive bytes (decode ws bs)) where
  abbrev loaded : List Slot
  loaded = (definition_effect definitions.Receive bytes (decode ws bs)).slots

  k : Known ws bs
  k = known ws bs h

  loaded_many : length loaded ≡ slot_count
  loaded_many = many definitions.Receive bytes ws bs b h a

  loaded_kept : Kept loaded (decode ws bs).slots (nodes_in ws)
  loaded_kept = kept definitions.Receive bytes ws bs b h a

  backed : Backed loaded (decode ws bs).slots
  unfolding decode
  backed = follow_backed 0 slot_count loaded (lengths_in ws) (flags_in ws) bs loaded_kept.follow

  loaded_decoded : decode (put_slots loaded ws) (arena_of loaded bs) ≡ with_slots loaded (decode ws bs)
  loaded_decoded = slots_decoded loaded ws bs k.size k.arena_size loaded_many backed

  slots_right : slots_formed 0 (lengths_of loaded (lengths_in ws)) loaded (nodes_in ws) ≡ true
  unfolding decode
  slots_right = follow_formed 0 slot_count loaded (lengths_in ws) (flags_in ws) bs (nodes_in ws) (omega (arith, k.arena_size)) loaded_kept.follow k.slots

  receive_kept : formed (put_slots loaded ws) (arena_of loaded bs) ≡ true
  unfolding decode
  receive_kept =
      beside_formed ws bs (put_slots loaded ws) (arena_of loaded bs) loaded (controls_in ws) (buses_in ws) k (record {
        size = slots_size loaded ws bs k.size k.arena_size loaded_many backed;
        arena_size = arena-length 0 loaded bs (backed_short loaded (decode ws bs).slots backed) (omega (arith, loaded_many, k.arena_size)) ∙ k.arena_size;
        decoded = loaded_decoded;
        count = slots_word loaded ws bs k.size k.arena_size loaded_many backed 0 (omega arith);
        index = slots_index loaded ws bs k.size k.arena_size loaded_many backed;
        order_length = slots_word loaded ws bs k.size k.arena_size loaded_many backed 1 (omega arith);
        flags = ap flags_formed (slots_flags loaded ws bs k.size k.arena_size loaded_many backed) ∙ flags_right loaded;
        slots_right = ap (λ (l : List ℕ). slots_formed 0 l loaded (nodes_in ws)) (slots_lengths loaded ws bs k.size k.arena_size loaded_many backed) ∙ slots_right;
        names = loaded_kept.apart;
        controls_right = controls_right definitions.Receive bytes ws bs b h a;
      })

-- `/d_free`: the flags alone
module _ (bytes ws bs : List ℕ) (b : AreBytes bytes) (h : formed ws bs ≡ true) (a : DefinitionAccepted definitions.Free bytes (decode ws bs)) where
  abbrev fewer : List Slot
  fewer = (definition_effect definitions.Free bytes (decode ws bs)).slots

  known_free : Known ws bs
  known_free = known ws bs h

  less : AllLess fewer (decode ws bs).slots
  less = retire_less (resident_of bytes (decode ws bs).slots) (decode ws bs).slots

  flags_many : length (flags_of fewer) ≡ slot_count
  flags_many = flags_length fewer ∙ many definitions.Free bytes ws bs b h a

  fewer_decoded : decode (put_resident (flags_of fewer) ws) bs ≡ with_slots fewer (decode ws bs)
  unfolding decode
  fewer_decoded =
      resident_decoded (flags_of fewer) ws bs known_free.size flags_many
      ∙ ap (λ (l : List Slot). with_slots l (decode ws bs)) (less_back 0 slot_count fewer (lengths_in ws) (flags_in ws) bs less)

  fewer_right : slots_formed 0 (lengths_in ws) fewer (nodes_in ws) ≡ true
  unfolding decode
  fewer_right = less_formed 0 fewer (decode ws bs).slots (lengths_in ws) (nodes_in ws) less known_free.slots

  free_kept : formed (put_resident (flags_of fewer) ws) bs ≡ true
  unfolding decode
  free_kept =
      beside_formed ws bs (put_resident (flags_of fewer) ws) bs fewer (controls_in ws) (buses_in ws) known_free (record {
        size = resident_size (flags_of fewer) ws bs known_free.size flags_many;
        arena_size = known_free.arena_size;
        decoded = fewer_decoded;
        count = resident_word (flags_of fewer) ws bs known_free.size flags_many 0 (omega arith);
        index = resident_past (flags_of fewer) ws bs known_free.size flags_many index_place index_words (omega arith);
        order_length = resident_word (flags_of fewer) ws bs known_free.size flags_many 1 (omega arith);
        flags = ap flags_formed (resident_flags (flags_of fewer) ws bs known_free.size flags_many) ∙ flags_right fewer;
        slots_right = ap (λ (l : List ℕ). slots_formed 0 l fewer (nodes_in ws)) (resident_lengths (flags_of fewer) ws bs known_free.size flags_many) ∙ fewer_right;
        names = (kept definitions.Free bytes ws bs b h a).apart;
        controls_right = controls_right definitions.Free bytes ws bs b h a;
      })

pub definitions_effect : (c : DefinitionCommand) (bytes ws bs : List ℕ) → AreBytes bytes → formed ws bs ≡ true → DefinitionAccepted c bytes (decode ws bs)
    → decode (words_after (command.Definitions c) bytes ws bs) (arena_after (command.Definitions c) bytes ws bs) ≡ effect (command.Definitions c) bytes (decode ws bs)
unfolding words_after arena_after effect
definitions_effect definitions.Receive bytes ws bs b h a = loaded_decoded bytes ws bs b h a
definitions_effect definitions.Free bytes ws bs b h a = fewer_decoded bytes ws bs b h a

pub definitions_kept : (c : DefinitionCommand) (bytes ws bs : List ℕ) → AreBytes bytes → formed ws bs ≡ true → DefinitionAccepted c bytes (decode ws bs)
    → formed (words_after (command.Definitions c) bytes ws bs) (arena_after (command.Definitions c) bytes ws bs) ≡ true
unfolding words_after arena_after effect
definitions_kept definitions.Receive bytes ws bs b h a = receive_kept bytes ws bs b h a
definitions_kept definitions.Free bytes ws bs b h a = free_kept bytes ws bs b h a
