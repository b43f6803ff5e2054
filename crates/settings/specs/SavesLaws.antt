-- Laws of `Saves`: a law for each refusal of a save, and one for its end.
use Rattle.std.specs.Prelude.{ℕ, ◌+◌, ◌-◌, ◌*◌, ◌<◌, false, ◌≡◌, List, take, drop, Err}
use Rattle.std.proofs.Common.{sym, ◌∙◌, arith, drop-drop}
use Rattle.std.proofs.Math.Path.{ap}
use Rattle.words.specs.Bytes.{AreBytes}
use Rattle.words.specs.Parts.{region}
use Rattle.words.specs.Bytes.{AreBytes}
use Rattle.refusals.specs.declared.Refusal.{Refusal}
use Rattle.format.specs.Definition.{Front}
use Rattle.nodes.specs.Place.{is_group}
use Rattle.nodes.specs.Formed.{most_rows}
use Rattle.values.specs.declared.NodeArgument.{NodeArgument}
use Rattle.model.specs.Answers.{Refused}
use Rattle.model.specs.Layout.{row_words, controls_place, controls_words, buses_place, count_in, controls_in, record_in}
use Rattle.model.specs.Engine.{decode}
use Rattle.model.specs.Meaning.{node}
use Rattle.model.specs.Checks.{first_of}
use Rattle.slots.specs.Slots.{slot_bytes, drop-take}
use Rattle.state.specs.Known.{Known}
use Rattle.controls.specs.Encoded.{front_in}
use Rattle.controls.specs.Ready.{ready_known, Synth, synth_ready}
use Rattle.names.specs.Here.{node_here}
use Rattle.readable.specs.Lookup.{name_in}
use Rattle.readable.specs.Readable.{Readable, whole_readable}
use Rattle.settings.specs.Settings.{Saved, name_of, settings_of, save_judged, Lent, Saves}
use Rattle.settings.specs.OwnFields.{taken, taken_in}
use Rattle.settings.specs.Synths.{SynthFound, SynthRefused}
use Rattle.settings.specs.Saving.{room_checks, room_judged, SavesTaken}

-- a refusal leaves the store
module _ (a : NodeArgument) (ws bs store : List ℕ) (bytes : AreBytes store) (lent : Lent ws bs) where
  saves_refused : (r : Refusal) → save_judged a ws bs store ≡ Refused r → Saves a ws bs store (Err r) store
  saves_refused r e = record { answers = rw e; kept = rw e; lent_store = bytes; lent = lent }

  pub saves_unfit : (r : Refusal) → SynthRefused a ws bs store r → Saves a ws bs store (Err r) store
  unfolding save_judged
  saves_unfit r n = saves_refused r (n.answer (room_checks (name_of (node a (decode ws bs)) (decode ws bs)) (settings_of (node a (decode ws bs)) (decode ws bs)) store))

  module _ (at : ℕ) (k : SynthFound a ws bs store at) where
    -- of a synth the name and the settings decide
    pub saves_synth : {r : Saved} {store' : List ℕ}
        → SavesTaken (name_of (record_in ws at) (decode ws bs)) (settings_of (record_in ws at) (decode ws bs)) store r store' → Saves a ws bs store r store'
    unfolding save_judged first_of
    saves_synth {r} {store'} t =
        let r₀ = record_in ws at in
        let judged : save_judged a ws bs store ≡ room_judged (name_of r₀ (decode ws bs)) (settings_of r₀ (decode ws bs)) store =
        rw (k.whole, k.stands, k.found.passes bs, node_here a ws at k.found bs, k.single) in
        record {
          answers = rw (judged, node_here a ws at k.found bs) t.answers;
          kept = rw (judged, node_here a ws at k.found bs) t.kept;
          lent_store = bytes;
          lent = lent;
        }

-- what is taken from a synth, by its definition's bytes and its row
front_is : (s : List ℕ) (k : Readable s) → front_in s ≡ k.front
unfolding front_in
front_is s k = rw k.reads

-- the words from a row's first on, as they are lent
abbrev pub row_in : List ℕ → ℕ → List ℕ
row_in ws row = region (controls_place + row_words * row) (buses_place - (controls_place + row_words * row)) ws

row_lent : (ws : List ℕ) (row : ℕ) → row < most_rows → row_in ws row ≡ drop (row_words * row) (controls_in ws)
row_lent ws row h =
    let left : controls_words ≡ row_words * row + (buses_place - (controls_place + row_words * row)) = omega arith in
    sym (ap (λ (m : ℕ). drop (row_words * row) (take m (drop controls_place ws))) left
    ∙ drop-take (row_words * row) (buses_place - (controls_place + row_words * row)) (drop controls_place ws)
    ∙ ap (take (buses_place - (controls_place + row_words * row))) (drop-drop (row_words * row) controls_place ws))

module _ (ws bs : List ℕ) (k : Known ws bs) (at : ℕ) (live : at < count_in ws) (single : is_group (record_in ws at) ≡ false) where
  synth : Synth ws bs (record_in ws at)
  synth = synth_ready ws bs (ready_known ws bs k) at live single

  abbrev bytes : List ℕ
  bytes = slot_bytes ws bs (record_in ws at).slot

  readable : Readable bytes
  readable = whole_readable bytes synth.whole

  pub name-of : name_of (record_in ws at) (decode ws bs) ≡ name_in (slot_bytes ws bs (record_in ws at).slot)
  name-of = ap (λ (f : Front). f.name) (synth.front ∙ front_is bytes readable) ∙ rw readable.reads

  pub settings-of : settings_of (record_in ws at) (decode ws bs) ≡ taken_in (slot_bytes ws bs (record_in ws at).slot) (row_in ws (record_in ws at).row)
  unfolding decode
  settings-of =
      ap (λ (f : Front). taken f (drop (row_words * (record_in ws at).row) (controls_in ws))) (synth.front ∙ front_is bytes readable)
      ∙ ap (taken readable.front) (sym (row_lent ws (record_in ws at).row synth.row))
      ∙ rw readable.reads
