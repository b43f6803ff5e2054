-- An accepted command of controls leaves a well-formed state, which decodes to the command's effect.
use Rattle.std.specs.Prelude.{ℕ, ◌+◌, ◌≤◌, ◌<◌, Bool, true, ◌≡◌, refl, length, get_or, leb}
use Rattle.std.proofs.Math.Path.{sym, ap}
use Rattle.std.proofs.Common.{◌∙◌, arith}
use mathlib.Core.List.{List, [], ◌∷◌}
use Rattle.words.specs.Choice.{both}
use Rattle.words.specs.ChoiceLaws.{both_true}
use Rattle.words.specs.Parts.{region}
use Rattle.words.specs.PartsLaws.{region-length}
use Rattle.format.specs.Bounds.{every}
use Rattle.nodes.specs.declared.Node.{Node}
use Rattle.nodes.specs.Place.{group_slot}
use Rattle.nodes.specs.Edit.{run_of}
use Rattle.nodes.specs.Formed.{number_formed, row_formed, fields_formed, all_formed}
use Rattle.treerefinement.specs.Tally.{tally_cut}
use Rattle.values.specs.declared.Key.{Key}
use Rattle.values.specs.declared.NodeArgument.{NodeArgument}
use Rattle.values.specs.Controls.{ControlValue}
use Rattle.model.specs.declared.ControlCommand.{ControlCommand}
use Rattle.model.specs.declared.ControlCommand.TheVariants as controls
use Rattle.model.specs.declared.Command.TheVariants as command
use Rattle.model.specs.Layout.{controls_place, controls_words, lengths_place, resident_place, slot_count, next_in, nodes_in, controls_in, buses_in, put_controls}
use Rattle.model.specs.Engine.{Engine, decode}
use Rattle.model.specs.Meaning.{meant}
use Rattle.model.specs.Effects.{changed, control_effect, with_controls, effect}
use Rattle.model.specs.After.{words_after}
use Rattle.model.specs.Formed.{formed, flags_formed, slots_formed}
use Rattle.state.specs.Known.{Known}
use Rattle.state.specs.Accepted.{ChangeAccepted, ControlAccepted}
use Rattle.state.specs.Known as state
use Rattle.state.specs.Regions.{region_before, word_before}
use Rattle.state.specs.Decoded.{controls_size, controls_index, controls_decoded}
use Rattle.preservation.specs.Every.{Fewer, every_fewer}
use Rattle.refinement.specs.Beside.{beside_formed}
use Rattle.refinement.specs.Mappings.{MappingsStayLow, all_changed, controls_mild}

-- the rows of a node and of all below it are among 256
rows_low : (next : ℕ) (t : List Node) → all_formed next t ≡ true → every row_formed t ≡ true
unfolding all_formed every
rows_low next [] h = refl
rows_low next (r ∷ l) h =
    let a = both_true (fields_formed next r) (all_formed next l) h in
    let b = both_true (number_formed next r) _ a.0 in
    let c = both_true (leb r.run 1) _ b.1 in
    let d = both_true (leb r.slot group_slot) (row_formed r) c.1 in
    ap (λ (p : Bool). both p (every row_formed l)) d.1 ∙ rows_low next l a.1

run_few : (n : ℕ) (t : List Node) → Fewer (run_of n t) t
run_few n t = record { sum = λ p b s. omega (arith, tally_cut p b n t) }

-- the controls after, of an engine whose rows are among 256
changed_right : (c : ControlCommand) (bytes : List ℕ) (e : Engine) → ControlAccepted c bytes e → every row_formed e.nodes ≡ true → length e.controls ≡ controls_words
    → (length (control_effect c bytes e).controls ≡ controls_words) × MappingsStayLow (control_effect c bytes e).controls e.controls
changed_right c bytes e a rows size = go c a
  where
    by : {f : ControlValue → ControlValue} {n : NodeArgument} {key : Key} {count : ℕ} {bad_value : Bool} → ChangeAccepted f n key count bad_value bytes e
        → (length (changed f n key count bytes e).controls ≡ controls_words) × MappingsStayLow (changed f n key count bytes e).controls e.controls
    by {f} {n} {key} {count} a =
        all_changed f (record { low = a.bus_low }) key bytes count e.slots (run_of (meant n e) e.nodes)
        (every_fewer row_formed (λ d r. refl) (λ flag r. refl) (run_few (meant n e) e.nodes) rows) e.controls size

    go : (c : ControlCommand) → ControlAccepted c bytes e → (length (control_effect c bytes e).controls ≡ controls_words) × MappingsStayLow (control_effect c bytes e).controls e.controls
    go (controls.Set n key value) a = by a
    go (controls.Fill n key count value) a = by a.change
    go (controls.Map n key bus) a = by a

-- no command of controls changes anything else
unchanged : (c : ControlCommand) (bytes : List ℕ) (e : Engine) → control_effect c bytes e ≡ with_controls (control_effect c bytes e).controls e
unchanged (controls.Set n key value) bytes e = refl
unchanged (controls.Fill n key count value) bytes e = refl
unchanged (controls.Map n key bus) bytes e = refl

module _ (c : ControlCommand) (bytes ws bs : List ℕ) (h : formed ws bs ≡ true) (a : ControlAccepted c bytes (decode ws bs)) where
  k : Known ws bs
  k = state.known ws bs h

  abbrev cs : List ℕ
  cs = (control_effect c bytes (decode ws bs)).controls

  right : (length cs ≡ controls_words) × MappingsStayLow cs (controls_in ws)
  unfolding decode
  right =
      changed_right c bytes (decode ws bs) a (rows_low (next_in ws) (nodes_in ws) k.tree.fields) (region-length controls_place controls_words ws (omega (arith, k.size)))

  decoded : decode (put_controls cs ws) bs ≡ with_controls cs (decode ws bs)
  decoded = controls_decoded cs ws bs k.size right.0

  pub controls_effect : decode (words_after (command.Controls c) bytes ws bs) bs ≡ effect (command.Controls c) bytes (decode ws bs)
  unfolding words_after effect
  controls_effect = decoded ∙ sym (unchanged c bytes (decode ws bs))

  before : (b m : ℕ) → b + m ≤ controls_place → region b m (put_controls cs ws) ≡ region b m ws
  before b m l = region_before controls_place controls_words cs ws (omega (arith, k.size)) right.0 b m l

  word : (i : ℕ) → i < controls_place → get_or (put_controls cs ws) i 0 ≡ get_or ws i 0
  word i l = word_before controls_place controls_words cs ws (omega (arith, k.size)) right.0 i l

  pub controls_kept : formed (words_after (command.Controls c) bytes ws bs) bs ≡ true
  unfolding words_after effect decode
  controls_kept =
      beside_formed ws bs (put_controls cs ws) bs (decode ws bs).slots cs (buses_in ws) k (record {
        size = controls_size cs ws bs k.size right.0;
        arena_size = k.arena_size;
        decoded = decoded;
        count = word 0 (omega arith);
        index = controls_index cs ws bs k.size right.0;
        order_length = word 1 (omega arith);
        flags = ap flags_formed (before resident_place slot_count (omega arith)) ∙ k.flags;
        slots_right = ap (λ (l : List ℕ). slots_formed 0 l (decode ws bs).slots (nodes_in ws)) (before lengths_place slot_count (omega arith)) ∙ k.slots;
        names = k.names;
        controls_right = controls_mild (decode ws bs).slots cs (controls_in ws) (nodes_in ws) right.1 k.controls;
      })
