-- What a save takes from a synth of a well-formed state: a name that a store takes, and settings whose names are names and differ.
use Prim.{tt}
use Rattle.std.specs.Prelude.{ℕ, zero, suc, ◌+◌, ◌*◌, ◌≤◌, ◌<◌, Bool, true, false, not, ◌≡◌, refl, List, [], ◌∷◌, length, take, drop, get_or, ltb, leb}
use Rattle.std.proofs.Common.{sym, ap, ◌∙◌, subst, arith, ltb-true, ltb-false, length-take, get_or-take, get_or-drop}
use Rattle.std.proofs.Math.ListN.{get_or-eq_default}
use Rattle.words.specs.Choice.{both}
use Rattle.words.specs.ChoiceLaws.{both_true}
use Rattle.words.specs.Parts.{region}
use Rattle.words.specs.Bytes.{AreBytes}
use Rattle.format.specs.declared.Width.TheVariants.{Long}
use Rattle.format.specs.Definition.{ParameterName, Front}
use Rattle.format.specs.Reader.{size_limit}
use Rattle.format.specs.Bounds.{every, is_parameter_name, is_front, is_definition_by}
use Rattle.roundtrip.specs.Forth.{definition_forth}
use Rattle.nodes.specs.declared.Node.{Node}
use Rattle.nodes.specs.Place.{place, lives, is_group}
use Rattle.nodes.specs.PlaceLaws.{lives_place}
use Rattle.nodes.specs.TableLaws.{rows-length}
use Rattle.values.specs.declared.NodeArgument.{NodeArgument}
use Rattle.values.specs.Controls.{ControlValue}
use Rattle.model.specs.Layout.{row_words, nodes_place, nodes_words, lengths_place, controls_place, controls_words, count_in, nodes_in, controls_in, start_of, record_in}
use Rattle.model.specs.Engine.{decode, definition_of, controls_from, controls_of}
use Rattle.model.specs.Meaning.{known, node}
use Rattle.model.specs.Formed.{formed}
use Rattle.slots.specs.Slots.{slot_bytes}
use Rattle.state.specs.Known as state
use Rattle.state.specs.Accepted.{known_lives}
use Rattle.definitions.specs.Exporting.{bytes_take, bytes_drop}
use Rattle.controls.specs.Encoded.{front_in, front_read}
use Rattle.controls.specs.Ready.{ready_known, Synth, synth_ready}
use Rattle.names.specs.Judged.{meant_in, NodeFound}
use Rattle.names.specs.Here.{node_here}
use Rattle.readable.specs.Readable.{ReadableWhole}
use Rattle.store.specs.Store.{Setting, is_name, settings_apart}
use Rattle.store.specs.Places.{AreSettings}
use Rattle.settings.specs.Settings.{settings_from, settings_of, name_of, Lent, AreWords}
use Rattle.settings.specs.NamesApart.{AreNames, AreFloats, are_settings, settings-apart}

-- a name and settings that a store takes
pub record Taken (name : List ℕ) (cs : List Setting) : Type 0 where
  pub full : 0 < length name
  pub named : is_name name ≡ true
  pub settings : AreSettings cs
  pub apart : settings_apart cs ≡ true

-- parts of words are words
words_take : (n : ℕ) (ws : List ℕ) → AreWords ws → AreWords (take n ws)
words_take n ws h i = by (ltb i n) refl
  where
    by : (t : Bool) → ltb i n ≡ t → get_or (take n ws) i 0 < 4294967296
    by true e = rw (get_or-take n ws i 0 (ltb-true i n e)) (h i)
    by false e =
        let short : length (take n ws) ≤ i = omega (arith, length-take n ws, ltb-false i n e) in
        rw (get_or-eq_default (take n ws) 0 {n = i} short) (omega arith)

words_drop : (n : ℕ) (ws : List ℕ) → AreWords ws → AreWords (drop n ws)
words_drop n ws h i = rw (get_or-drop n ws i 0) (h (n + i))

-- .. so a row's own floats have 32 bits
floats-from : (n : ℕ) (us : List ℕ) → AreWords us → AreFloats (controls_from n us)
unfolding controls_from AreFloats
floats-from zero us h = tt
floats-from (suc n) us h = (h 0, floats-from n (drop 2 us) (words_drop 2 us h))

-- the names of a definition within its bounds are names
names_are : (p : ℕ) (names : List ParameterName) → every (is_parameter_name p) names ≡ true → AreNames names
unfolding every AreNames
names_are p [] h = tt
names_are p (n ∷ more) h =
    let here = both_true (is_parameter_name p n) (every (is_parameter_name p) more) h in
    ((both_true (is_name n.name) (ltb n.index p) here.0).0, names_are p more here.1)

-- a definition that was read is within its bounds
front_bounded : (s : List ℕ) → AreBytes s → (w : ReadableWhole s) → is_front Long (front_in s) ≡ true
unfolding is_definition_by
front_bounded s lent w =
    let d = w.definition in
    let bounds = (definition_forth Long s lent 0 d w.past w.reads).fits in
    ap (is_front Long) (front_read s w.reads) ∙ (both_true (is_front Long d.front) _ bounds).0

front_taken : (f : Front) (cs : List ControlValue) → is_front Long f ≡ true → AreFloats cs → Taken f.name (settings_from 0 f.names cs)
front_taken f cs h floats =
    let a = both_true (both (ltb 0 (length f.name)) (is_name f.name)) _ h in
    let own = both_true (ltb 0 (length f.name)) (is_name f.name) a.0 in
    let b = both_true (leb (length f.constants) _) _ a.1 in
    let c = both_true (every _ f.constants) _ b.1 in
    let d = both_true (leb (length f.values) _) _ c.1 in
    let e = both_true (every _ f.values) _ d.1 in
    let g = both_true (leb (length f.names) _) (every (is_parameter_name (length f.values)) f.names) e.1 in
    let names : AreNames f.names = names_are (length f.values) f.names g.1 in
    record {
      full = ltb-true 0 (length f.name) own.0;
      named = own.1;
      settings = are_settings 0 f.names names cs floats;
      apart = settings-apart 0 f.names cs;
    }

-- where the node that an argument names stands
found_at : (a : NodeArgument) (ws bs : List ℕ) → known a (decode ws bs) ≡ true → NodeFound a ws (place (meant_in a ws) (nodes_in ws))
unfolding decode
found_at a ws bs h =
    let m = meant_in a ws in
    let live : lives m (nodes_in ws) ≡ true = known_lives a (decode ws bs) h in
    let many : length (nodes_in ws) ≡ count_in ws = rows-length (count_in ws) (region nodes_place nodes_words ws) in
    record {
      live = subst (λ (n : ℕ). place m (nodes_in ws) < n) many (ltb-true (place m (nodes_in ws)) (length (nodes_in ws)) (sym (lives_place m (nodes_in ws)) ∙ live));
      here = refl;
      passes = λ b. ap not h;
    }

-- the synth at a place of the table
module _ (ws bs : List ℕ) (whole : formed ws bs ≡ true) (lent : Lent ws bs) where
  at_taken : (at : ℕ) → at < count_in ws → is_group (record_in ws at) ≡ false → Taken (name_of (record_in ws at) (decode ws bs)) (settings_of (record_in ws at) (decode ws bs))
  unfolding decode
  at_taken at live single =
      let r = record_in ws at in
      let s : Synth ws bs r = synth_ready ws bs (ready_known ws bs (state.known ws bs whole)) at live single in
      let bytes : AreBytes (slot_bytes ws bs r.slot) =
      bytes_take (get_or ws (lengths_place + r.slot) 0) (region (start_of r.slot) size_limit bs)
      (bytes_take size_limit (drop (start_of r.slot) bs) (bytes_drop (start_of r.slot) bs lent.arena)) in
      let row : AreWords (drop (row_words * r.row) (controls_in ws)) =
      words_drop (row_words * r.row) (controls_in ws) (words_take controls_words (drop controls_place ws) (words_drop controls_place ws lent.words)) in
      front_taken (definition_of (decode ws bs).slots r).front (controls_of (decode ws bs).slots (decode ws bs).controls r)
      (ap (is_front Long) s.front ∙ front_bounded (slot_bytes ws bs r.slot) bytes s.whole)
      (floats-from (length (definition_of (decode ws bs).slots r).front.values) (drop (row_words * r.row) (controls_in ws)) row)

  pub save_taken : (a : NodeArgument) → known a (decode ws bs) ≡ true → is_group (node a (decode ws bs)) ≡ false
      → Taken (name_of (node a (decode ws bs)) (decode ws bs)) (settings_of (node a (decode ws bs)) (decode ws bs))
  save_taken a there single =
      let at = place (meant_in a ws) (nodes_in ws) in
      let n = found_at a ws bs there in
      let here : node a (decode ws bs) ≡ record_in ws at = node_here a ws at n bs in
      subst (λ (r : Node). Taken (name_of r (decode ws bs)) (settings_of r (decode ws bs))) (sym here)
      (at_taken at n.live (sym (ap is_group here) ∙ single))
