-- /s_new: its checks, one after the other.
use Rattle.std.specs.Prelude.{ℕ, ◌<◌, Bool, true, false, not, ◌≡◌, List, ltb, leb, eqb, Result, Ok, Err, Option, Some, None}
use Rattle.std.proofs.Common.{sym, ap, ◌∙◌}
use borrow.Author.Tests.{le-ltb, le-leb, lt-leb}
use Rattle.words.specs.Choice.{both}
use Rattle.refusals.specs.declared.Refusal.{Refusal}
use Rattle.refusals.specs.declared.Refusal.TheVariants.{BadNumber, NumberLive, NoDefinition, WrongKind, NodesFull, NoNumber}
use Rattle.nodes.specs.Place.{lives}
use Rattle.nodes.specs.Formed.{none_left}
use Rattle.values.specs.declared.NodeArgument.{NodeArgument}
use Rattle.model.specs.declared.TreeCommand.TheVariants as tree
use Rattle.model.specs.Answers.{Done, Refused}
use Rattle.model.specs.Layout.{slot_count, count_in, next_in, lengths_in, flags_in, nodes_in, node_words}
use Rattle.model.specs.Engine.{decode, resident_of}
use Rattle.words.specs.Patterns.{minus_one}
use Rattle.model.specs.Meaning.{is_negative}
use Rattle.model.specs.Checks.{first_of, tree_checks, no_resident}
use Rattle.slots.specs.Slots.{slots_on, slots_length, slots_lent}
use Rattle.definitions.specs.Slots.{slot_found, found_slot, found_none}
use Rattle.definitions.specs.Lent.{table_in}
use Rattle.tree.specs.declared.action.Action.{Action}
use Rattle.tree.specs.Action.{number_of, number_most}
use Rattle.tree.specs.Add.{Room}
use Rattle.treecommands.specs.Ready.{Ready}
use Rattle.names.specs.Judged.{NodeFound, NodeRefused}
use Rattle.treecommands.specs.Adding.{bad_at, full_at, bad-target, is_full, room}

-- "new number below -1", "number live", "no number left for a new -1"
abbrev pub bad_number : ℕ → Bool
bad_number number = both (is_negative number) (not (eqb number minus_one))

abbrev pub live_in : ℕ → List ℕ → Bool
live_in number ws = both (not (eqb number minus_one)) (lives number (nodes_in ws))

abbrev pub spent : ℕ → ℕ → Bool
spent number next = both (eqb number minus_one) (eqb next none_left)

-- the slot is that of the resident of the name in the bytes
abbrev pub Meant : ℕ → List ℕ → List ℕ → List ℕ → Type 0
Meant slot bytes ws bs = slot ≡ resident_of bytes (decode ws bs).slots

-- by the slot that was found
module _ (bytes ws bs : List ℕ) (named : Option ℕ) (found : named ≡ slot_found (resident_of bytes (slots_on (table_in ws) bs))) where
  here : resident_of bytes (slots_on (table_in ws) bs) ≡ resident_of bytes (decode ws bs).slots
  here = ap (λ l. resident_of bytes l) (slots_lent ws bs)

  many : no_resident bytes (decode ws bs) ≡ leb slot_count (resident_of bytes (decode ws bs).slots)
  unfolding decode
  many = ap (λ (n : ℕ). leb n (resident_of bytes (decode ws bs).slots)) (slots_length 0 slot_count (lengths_in ws) (flags_in ws) bs)

  pub slot_meant : (slot : ℕ) → named ≡ Some slot → Meant slot bytes ws bs × (slot < slot_count)
  slot_meant slot e =
      let f = found_slot (resident_of bytes (slots_on (table_in ws) bs)) slot (sym found ∙ e) in
      (sym f.0 ∙ here, f.1)

  pub slot_present : (slot : ℕ) → named ≡ Some slot → no_resident bytes (decode ws bs) ≡ false
  slot_present slot e =
      let m = slot_meant slot e in
      many ∙ ap (λ (n : ℕ). leb slot_count n) (sym m.0) ∙ lt-leb slot_count slot m.1

  pub slot_absent : named ≡ None → no_resident bytes (decode ws bs) ≡ true
  slot_absent e =
      let high = found_none (resident_of bytes (slots_on (table_in ws) bs)) (sym found ∙ e) in
      many ∙ le-leb slot_count (resident_of bytes (decode ws bs).slots) (rw here at high)

-- no check fires, the name's resident is in the slot, and the target stands at its place, with room
pub record Clear (number : ℕ) (action : Action) (target : NodeArgument) (slot : ℕ) (bytes ws bs : List ℕ) (at : ℕ) : Type 0 where
  pub passed : first_of (tree_checks (tree.NewSynth number (number_of action) target) bytes (decode ws bs)) Done ≡ Done
  pub meant : Meant slot bytes ws bs
  pub there : slot < slot_count
  pub spot : NodeFound target ws at
  pub room : Room (node_words ws) (count_in ws) action at

module _ (number : ℕ) (action : Action) (target : NodeArgument) (bytes ws bs : List ℕ) where
  abbrev pub Answers : Refusal → Type 0
  Answers r = first_of (tree_checks (tree.NewSynth number (number_of action) target) bytes (decode ws bs)) Done ≡ Refused r

  abbrev pub SynthPlaced : Result (ℕ × ℕ) Refusal → Type 0
  SynthPlaced (Ok spot) = Clear number action target spot.0 bytes ws bs spot.1
  SynthPlaced (Err r) = Answers r

  low : ltb 4 (number_of action) ≡ false
  low = le-ltb 4 (number_of action) (number_most action)

  pub synth_number : bad_number number ≡ true → Answers BadNumber
  unfolding first_of
  synth_number h = rw (low, h)

  module _ (good : bad_number number ≡ false) where
    pub synth_live : live_in number ws ≡ true → Answers NumberLive
    unfolding first_of decode
    synth_live h = rw (low, good, h)

    module _ (new : live_in number ws ≡ false) where
      pub synth_absent : no_resident bytes (decode ws bs) ≡ true → Answers NoDefinition
      unfolding first_of decode
      synth_absent h = rw (low, good, new, h)

      module _ (resident : no_resident bytes (decode ws bs) ≡ false) where
        pub synth-unknown : (r : Refusal) → NodeRefused target ws r → Answers r
        unfolding first_of decode
        synth-unknown r n = rw (low, good, new, resident, n.fires bs) (n.answer bs)

        module _ (k : Ready ws) (at : ℕ) (f : NodeFound target ws at) where
          pub synth_kind : bad_at action ws at ≡ true → Answers WrongKind
          unfolding first_of decode
          synth_kind h = rw (low, good, new, resident, f.passes bs, bad-target target ws k at f bs action ∙ h)

          module _ (kind : bad_at action ws at ≡ false) where
            pub synth-spent : spent number (next_in ws) ≡ true → Answers NoNumber
            unfolding first_of decode
            synth-spent h = rw (low, good, new, resident, f.passes bs, bad-target target ws k at f bs action ∙ kind, h)

            module _ (left : spent number (next_in ws) ≡ false) (count : ℕ) (same : count ≡ count_in ws) where
              pub synth-full : full_at action count ≡ true → Answers NodesFull
              unfolding first_of decode
              synth-full h = rw (low, good, new, resident, f.passes bs, bad-target target ws k at f bs action ∙ kind, left, is_full ws count same bs action ∙ h)

              synth_passes : full_at action count ≡ false → first_of (tree_checks (tree.NewSynth number (number_of action) target) bytes (decode ws bs)) Done ≡ Done
              unfolding first_of decode
              synth_passes h = rw (low, good, new, resident, f.passes bs, bad-target target ws k at f bs action ∙ kind, left, is_full ws count same bs action ∙ h)

              pub synth_clear : (slot : ℕ) → Meant slot bytes ws bs × (slot < slot_count) → full_at action count ≡ false → Clear number action target slot bytes ws bs at
              synth_clear slot m h = record { passed = synth_passes h; meant = m.0; there = m.1; spot = f; room = room action ws k at f.live (rw same at h) }
