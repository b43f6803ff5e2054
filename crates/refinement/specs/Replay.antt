-- One accepted command, on the engine and on the plain tree.
use Rattle.std.specs.Prelude.{ℕ, zero, suc, ◌+◌, ◌-◌, ◌*◌, ◌≤◌, Bool, true, false, not, ◌≡◌, refl, List, [], ◌∷◌, ◌++◌, map, length, take, drop, set, replicate, ltb, leb, eqb}
use Rattle.std.proofs.Common.{sym, ap, ap₂, ◌∙◌, subst, arith, lt-ltb, le-ltb, le-leb, ltb-false, leb-true, leb-false, ne_eqb, length-drop}
use Rattle.std.proofs.Math.Option.{Option, none, some}
use Rattle.std.proofs.lemmas.Bool.{eqb-false, not-false}
use Rattle.words.specs.Choice.{pick, both, either}
use Rattle.words.specs.ChoiceLaws.{both_true, either_false}
use Rattle.words.specs.PartsLaws.{region-length}
use Rattle.words.specs.Bytes.{AreBytes}
use Rattle.format.specs.Read.{Read}
use Rattle.format.specs.Definition.{Definition}
use Rattle.format.specs.Reader.{read_file}
use Rattle.nodes.specs.declared.Node.{Node}
use Rattle.nodes.specs.Place.{group_slot, is_group, lives}
use Rattle.nodes.specs.Edit.{cut}
use Rattle.nodes.specs.Forest.{Forest, flatten, map_forest, has, free}
use Rattle.nodes.specs.Formed.{none_left, rooted, synth_lives}
use Rattle.treerefinement.specs.Flatten.{key, lives-has}
use Rattle.treerefinement.specs.Leaves.{NoSynth, nosynth_free}
use Rattle.treerefinement.specs.Edits.{cut_tree}
use Rattle.treerefinement.specs.MapForest.{map-free}
use Rattle.treerefinement.specs.Rooted.{nosynth_tree, rooted_cut}
use Rattle.treerefinement.specs.Keep.{within_lives, within_formed}
use Rattle.preservation.specs.Groups.{group_only}
use Rattle.preservation.specs.TreeSteps.{Sound, place_stays, synth_comes}
use Rattle.preservation.specs.TreeKept.{known_sound}
use Rattle.state.specs.Known.{Known}
use Rattle.state.specs.Accepted.{NewNodeAccepted, NewSynthAccepted, MoveAccepted, TreeAccepted, ChangeAccepted, ControlAccepted, BusesAccepted, BusAccepted, DefinitionAccepted, Accepted, known_lives}
use Rattle.values.specs.declared.NodeArgument.{NodeArgument}
use Rattle.values.specs.declared.Key.{Key}
use Rattle.values.specs.declared.Key.TheVariants.{Index, Name}
use Rattle.values.specs.declared.Value.{Value}
use Rattle.values.specs.Controls.{ControlValue}
use Rattle.values.specs.Values.{in_bounds, pattern}
use Rattle.model.specs.declared.DefinitionCommand.{DefinitionCommand}
use Rattle.model.specs.declared.DefinitionCommand.TheVariants as definitions
use Rattle.model.specs.declared.TreeCommand.{TreeCommand}
use Rattle.model.specs.declared.TreeCommand.TheVariants as tree
use Rattle.model.specs.declared.ControlCommand.{ControlCommand}
use Rattle.model.specs.declared.ControlCommand.TheVariants as controls
use Rattle.model.specs.declared.BusCommand.{BusCommand}
use Rattle.model.specs.declared.BusCommand.TheVariants as buses
use Rattle.model.specs.declared.Command.{Command}
use Rattle.model.specs.declared.Command.TheVariants as command
use Rattle.model.specs.Layout.{slot_count, row_words, bus_count, buses_place}
use Rattle.model.specs.Engine.{Engine, decode, definition_in, definition_of, controls_of, slot_at, resident_of}
use Rattle.model.specs.View.{group, synth, PlainNode, kind_in, view_of}
use Rattle.model.specs.Formed.{names_apart}
use Rattle.words.specs.Patterns.{minus_one}
use Rattle.model.specs.Meaning.{is_negative, meant, cover_of, has_controls, past_width, negative_key, is_bus}
use Rattle.model.specs.Meaning.{known as known_in, node as node_of}
use Rattle.model.specs.Checks.{definitions_of, no_resident, is_root, not_group, no_controls, past_name}
use Rattle.model.specs.Effects.{changed, number_for, with_buses, definition_effect, tree_effect, control_effect, bus_effect, effect}
use Rattle.model.specs.Plain.{Plain, buses_in_all, lowest, and_then, only_if, meaning, number_in, is_group_in, has_parent, undefine, define, define_file, with_names, with_tree, with_plain_buses, meant_in, at_head, at_tail, before, behind, put_group, step_synth, move_to, freed, freed_below, freed_deep, turned_to, edit_at, edit_at_both, change_from, not_negative, has_asked, change_node, change_below, step_changed, stored, mapped_to, float_of, change_buses, step_definitions, step_tree, step_controls, step_buses, step}
use Rattle.refinement.specs.Kept.{Kept, Replayed, group_kind, same_meant}
use Rattle.refinement.specs.Same.{number, found}
use Rattle.refinement.specs.Places.{seen_has, group-there, parent_there}
use Rattle.refinement.specs.RowChange.{controls_many}
use Rattle.refinement.specs.Widths.{asked_there, one_covered}
use Rattle.refinement.specs.TreeReplay.{can, Place, cut_replayed, cut_below_replayed, deep_free_replayed, run_replayed, before_replayed, after_replayed, head_replayed, tail_replayed, group_replayed}
use Rattle.refinement.specs.SynthReplay.{synth_replayed}
use Rattle.refinement.specs.DefinitionsReplay.{load_replayed, retire_replayed}
use Rattle.refinement.specs.Load.{file_bounded}
use Rattle.refinement.specs.ControlsReplay.{changed_replayed}

-- a command on a node that is known, and on two
module _ (e : Engine) (p : Plain) (k : Kept e p) where
  on_one : {t : Engine} (a : NodeArgument) → known_in a e ≡ true → (next : ℕ → Option Plain) → Replayed t (next (meant a e)) → Replayed t (and_then (meant_in a p) (λ n. next n))
  on_one {t} a h next r = subst (λ (o : Option ℕ). Replayed t (and_then o (λ n. next n))) (sym (same_meant a e p k h)) r

  edit_one : {t : Engine} {g : Forest PlainNode} (a : NodeArgument) → known_in a e ≡ true → (edited : ℕ → Forest PlainNode → Option (Forest PlainNode)) → edited (meant a e) p.tree ≡ some g
      → Kept t (with_tree g p) → Replayed t (edit_at a edited p)
  edit_one {t} {g} a h edited q kept =
      on_one {t = t} a h (λ n. and_then (edited n p.tree) (λ f. some (with_tree f p)))
      (record { plain = with_tree g p; stepped = ap (λ (o : Option (Forest PlainNode)). and_then o (λ f. some (with_tree f p))) q; kept = kept })

  edit-both : {t : Engine} {g : Forest PlainNode} (a b : NodeArgument) → known_in a e ≡ true → known_in b e ≡ true → (edited : ℕ → ℕ → Forest PlainNode → Option (Forest PlainNode))
      → edited (meant a e) (meant b e) p.tree ≡ some g → Kept t (with_tree g p) → Replayed t (edit_at_both a b edited p)
  edit-both {t} a b h l edited q kept = on_one {t = t} a h (λ m. edit_at b (edited m) p) (edit_one b l (edited (meant a e)) q kept)

  -- a name that has a resident means its definition
  means_resident : (name : List ℕ) → no_resident name e ≡ false → meaning name p.names ≡ some (definition_in (slot_at e.slots (resident_of name e.slots)))
  means_resident name h =
      let slot = resident_of name e.slots in
      sym (k.names name) ∙ ap (λ (b : Bool). pick b (some (definition_in (slot_at e.slots slot))) none) (lt-ltb slot (length e.slots) (leb-false (length e.slots) slot h))

-- the root lives, so that no new number is its
root-lives : (t : List Node) → rooted t ≡ true → lives 0 t ≡ true
unfolding rooted lives
root-lives [] h = h
root-lives (r ∷ l) h = rw (both_true (eqb r.number 0) _ h).0

new_nonzero : (n : ℕ) (t : List Node) → rooted t ≡ true → lives n t ≡ false → eqb n 0 ≡ false
new_nonzero n t h new = ne_eqb n 0 (λ q. clash (root-lives t h) (ap (λ (m : ℕ). lives m t) (sym q) ∙ new))
  where
    clash : lives 0 t ≡ true → lives 0 t ≡ false → ⊥
    clash u v = let z : ◌≡◌ {A = ℕ} 0 1 = cc in omega arith

-- commands of the tree
module _ (bytes sizes : List ℕ) (e : Engine) (p : Plain) (s : Sound sizes e) (k : Kept e p) where
  abbrev look : Node → PlainNode
  look = view_of e.slots e.controls

  -- a group that is named is no synth of the tree
  group_nosynth : (a : NodeArgument) → not_group a e ≡ false → NoSynth (meant a e) k.forest
  group_nosynth a h =
      nosynth_tree (meant a e) k.forest (ap (λ (l : List Node). synth_lives (meant a e) l) (sym k.laid) ∙ group_only a e s.tree.distinct h)

  there : (n : ℕ) → lives n e.nodes ≡ true → has key n k.forest ≡ true
  there n h = sym (lives-has n 0 k.forest) ∙ ap (λ (l : List Node). lives n l) (sym k.laid) ∙ h

  -- in the plain tree it is a group too
  group_here : (a : NodeArgument) → known_in a e ≡ true → not_group a e ≡ false → is_group_in (meant a e) p.tree ≡ true
  group_here a l h =
      ap (λ (g : Forest PlainNode). is_group_in (meant a e) g) k.tree
      ∙ group-there look (λ x. refl) (meant a e) (λ x. group_kind e.slots e.controls x) k.forest (group_nosynth a h) (there (meant a e) (known_lives a e l))

  -- and a node that is not the root stands below another
  below_here : (a : NodeArgument) → known_in a e ≡ true → is_root (meant a e) ≡ false → has_parent (meant a e) p.tree ≡ true
  below_here a l h =
      ap (λ (g : Forest PlainNode). has_parent (meant a e) g) k.tree
      ∙ parent_there look (λ x. refl) (meant a e) k.forest (ap (λ (l : List Node). rooted l) (sym k.laid) ∙ s.tree.root) (there (meant a e) (known_lives a e l)) h

  new_here : (number : ℕ) → lives number e.nodes ≡ false → has number_in number p.tree ≡ false
  new_here number h =
      ap (λ (g : Forest PlainNode). has number_in number g) k.tree
      ∙ seen_has look (λ x. refl) number k.forest
      ∙ sym (lives-has number 0 k.forest)
      ∙ ap (λ (l : List Node). lives number l) (sym k.laid)
      ∙ h

  -- the place of an add action
  place : (action : ℕ) (target : NodeArgument) → NewNodeAccepted action target e → Place action (meant target e) k.forest p.tree
  place action target h = record {
    no_synth = λ q. group_nosynth target (kind true q);
    group_there = λ q. group_here target h.target_known (kind true q);
    node_there = λ q. below_here target h.target_known (kind false q);
  }
    where
      kind : (b : Bool) → ltb action 2 ≡ b → pick b (not_group target e) (is_root (meant target e)) ≡ false
      kind b q = ap (λ (c : Bool). pick c (not_group target e) (is_root (meant target e))) (sym q) ∙ h.target_kind

  pub made_replayed : (number action : ℕ) (target : NodeArgument) → NewSynthAccepted number action target bytes e
      → Replayed (tree_effect (tree.NewSynth number action target) bytes e) (step_tree (tree.NewSynth number action target) bytes p)
  made_replayed number action target h =
      let c = synth_comes sizes e s number action target bytes h in
      let a = c.added in
      let slot = resident_of bytes e.slots in
      let fresh = number_for number e.next in
      let single : eqb slot group_slot ≡ false = ne_eqb slot group_slot (λ q. omega (arith, c.slot_low)) in
      let made = synth_replayed e p k number action (meant target e) slot e.next h.place.good_action (place action target h.place) (given h.good_number) (left h.number_left)
      (new_nonzero fresh e.nodes s.tree.root c.given.new) s.words c.row_low c.row_free c.given.new (within_lives fresh a.within c.given.new)
      (within_formed a.within e.next s.tree.fields) single a.grown in
      on_one e p k target h.place.target_known (λ n. and_then (meaning bytes p.names) (λ d. step_synth number action n d p))
      (subst (λ (o : Option Definition). Replayed (tree_effect (tree.NewSynth number action target) bytes e) (and_then o (λ d. step_synth number action (meant target e) d p)))
      (sym (means_resident e p k bytes h.resident)) made)
    where
      given : both (is_negative number) (not (eqb number minus_one)) ≡ false → eqb number minus_one ≡ false → ltb number lowest ≡ true
      given g q = lt-ltb number lowest (leb-false lowest number (at (is_negative number) (sym (ap (λ (b : Bool). both (is_negative number) (not b)) q) ∙ g)))
        where
          at : (b : Bool) → both b true ≡ false → b ≡ false
          at true u = u
          at false u = refl

      left : both (eqb number minus_one) (eqb e.next none_left) ≡ false → eqb number minus_one ≡ true → ltb p.next lowest ≡ false
      left g q =
          let more : e.next ≡ none_left → ⊥ = eqb-false e.next none_left (sym (ap (λ (b : Bool). both b (eqb e.next none_left)) q) ∙ g) in
          let least : none_left ≤ e.next = leb-true none_left e.next (both_true (leb none_left e.next) _ s.tree.next_right).0 in
          sym (ap (λ (m : ℕ). ltb m lowest) k.next) ∙ le-ltb e.next lowest (omega arith)

  -- a move: its place is in the tree that is left
  module _ {a b : NodeArgument} {wrong_kind : Bool} (h : MoveAccepted a b wrong_kind e) where
    abbrev rest : Forest Node
    rest = free key (meant a e) k.forest

    rest_laid : cut (meant a e) e.nodes ≡ flatten 0 rest
    rest_laid = ap (λ (l : List Node). cut (meant a e) l) k.laid ∙ cut_tree (meant a e) k.forest

    rest_seen : free number_in (meant a e) p.tree ≡ map_forest look rest
    rest_seen = ap (λ (g : Forest PlainNode). free number_in (meant a e) g) k.tree ∙ map-free look key number_in (λ x. refl) (meant a e) k.forest

    place_left : has key (meant b e) rest ≡ true
    place_left = sym (lives-has (meant b e) 0 rest) ∙ ap (λ (l : List Node). lives (meant b e) l) (sym rest_laid) ∙ place_stays h

    group_left : not_group b e ≡ false → is_group_in (meant b e) (free number_in (meant a e) p.tree) ≡ true
    group_left q =
        ap (λ (g : Forest PlainNode). is_group_in (meant b e) g) rest_seen
        ∙ group-there look (λ x. refl) (meant b e) (λ x. group_kind e.slots e.controls x) rest (nosynth_free (meant b e) (meant a e) k.forest (group_nosynth b q)) place_left

    below_left : is_root (meant b e) ≡ false → has_parent (meant b e) (free number_in (meant a e) p.tree) ≡ true
    below_left q =
        ap (λ (g : Forest PlainNode). has_parent (meant b e) g) rest_seen
        ∙ parent_there look (λ x. refl) (meant b e) rest (ap (λ (l : List Node). rooted l) (sym rest_laid) ∙ rooted_cut e.nodes s.tree.root (meant a e) h.moved_kind) place_left q

    -- .. and what is moved is not the root
    moves : {c : Bool} {g : Forest PlainNode} → c ≡ true → pick (has_parent (meant a e) p.tree) (only_if c g) none ≡ some g
    moves {c} {g} q = ap₂ (λ (x y : Bool). pick x (only_if y g) none) (below_here a h.moved_known h.moved_kind) q

  pub tree_replayed : (c : TreeCommand) → TreeAccepted c bytes e → Replayed (tree_effect c bytes e) (step_tree c bytes p)
  tree_replayed (tree.NewSynth number action target) h = made_replayed number action target h
  tree_replayed (tree.NewGroup number action target) h =
      on_one e p k target h.place.target_known (λ n. and_then (put_group number action n p.tree) (λ f. some (with_tree f p)))
      (group_replayed e p k number action (meant target e) h.place.good_action (lt-ltb number lowest (leb-false lowest number h.good_number)) (new_here number h.free_number) (place action target h.place))
  tree_replayed (tree.Free a) h = edit_one e p k a h.node_known freed (can (below_here a h.node_known h.node_kind) refl) (cut_replayed e p k (meant a e))
  tree_replayed (tree.FreeAll g) h = edit_one e p k g h.node_known freed_below (can (group_here g h.node_known h.node_kind) refl) (cut_below_replayed e p k (meant g e))
  tree_replayed (tree.DeepFree g) h = edit_one e p k g h.node_known freed_deep (can (group_here g h.node_known h.node_kind) refl) (deep_free_replayed e p k (meant g e))
  tree_replayed (tree.Before a b) h =
      edit-both e p k a b h.moved_known h.place_known (move_to before) (moves h (below_left h h.place_kind)) (before_replayed e p k (meant a e) (meant b e))
  tree_replayed (tree.After a b) h =
      edit-both e p k a b h.moved_known h.place_known (move_to behind) (moves h (below_left h h.place_kind)) (after_replayed e p k (meant a e) (meant b e))
  tree_replayed (tree.Head g a) h =
      edit-both e p k a g h.moved_known h.place_known (move_to at_head) (moves h (group_left h h.place_kind)) (head_replayed e p k (meant a e) (meant g e) (group_nosynth g h.place_kind))
  tree_replayed (tree.Tail g a) h =
      edit-both e p k a g h.moved_known h.place_known (move_to at_tail) (moves h (group_left h h.place_kind)) (tail_replayed e p k (meant a e) (meant g e) (group_nosynth g h.place_kind))
  tree_replayed (tree.Run a flag) h =
      let low : ltb flag 2 ≡ true = lt-ltb flag 2 (omega (arith, ltb-false 1 flag h.good_flag)) in
      let here : has number_in (meant a e) p.tree ≡ true =
      ap (λ (g : Forest PlainNode). has number_in (meant a e) g) k.tree ∙ seen_has look (λ x. refl) (meant a e) k.forest ∙ there (meant a e) (known_lives a e h.node_known) in
      edit_one e p k a h.node_known (turned_to flag) (can (ap₂ (λ (x y : Bool). both x y) low here) refl) (run_replayed e p k (meant a e) flag)

pub definitions_replayed : (c : DefinitionCommand) (bytes : List ℕ) → AreBytes bytes → (e : Engine) (p : Plain) (k : Kept e p) → names_apart e.slots ≡ true → length e.slots ≡ slot_count
    → DefinitionAccepted c bytes e → Replayed (definition_effect c bytes e) (step_definitions c bytes p)
definitions_replayed definitions.Receive bytes clean e p k apart many h = record {
  plain = with_names (define (definitions_of (read_file bytes)) p.names) p;
  stepped = ap (λ (r : Read (List Definition)). and_then (define_file r p.names) (λ ms. some (with_names ms p))) h.reads;
  kept = load_replayed e p k apart (definitions_of (read_file bytes)) (file_bounded bytes clean h) h.room many;
}
definitions_replayed definitions.Free bytes clean e p k apart many h = record {
  plain = with_names (undefine bytes p.names) p;
  stepped = ap (λ (o : Option Definition). and_then o (λ d. some (with_names (undefine bytes p.names) p))) (means_resident e p k bytes h);
  kept = retire_replayed e p k apart bytes h;
}

-- a value that is in bounds is a float
of_value : {t : Engine} (value : Value) (next : ℕ → Option Plain) → not (in_bounds value) ≡ false → Replayed t (next (pattern value)) → Replayed t (and_then (float_of value) (λ float. next float))
of_value {t} value next h r = subst (λ (b : Bool). Replayed t (and_then (only_if b (pattern value)) (λ float. next float))) (sym (not-false (in_bounds value) h)) r

-- commands of controls
module _ (bytes sizes : List ℕ) (e : Engine) (p : Plain) (s : Sound sizes e) (k : Kept e p) where
  -- neither the index nor the count is negative
  natural : (key : Key) (count : ℕ) → either (negative_key key) (is_negative count) ≡ false → not_negative key count ≡ true
  natural (Index i) count h =
      let w = either_false (is_negative i) (is_negative count) h in
      ap₂ (λ (a b : Bool). both a b) (lt-ltb i lowest (leb-false lowest i w.0)) (lt-ltb count lowest (leb-false lowest count w.1))
  natural Name count h = lt-ltb count lowest (leb-false lowest count h)

  -- a synth has the controls that are asked for
  asked : (key : Key) (count : ℕ) (n : NodeArgument) → no_controls key count bytes n e ≡ false → past_name key count bytes n e ≡ false
      → both (not_negative key count) (has_asked key bytes count (kind_in e.slots e.controls (node_of n e))) ≡ true
  asked key count n h w =
      let u = either_false (either (negative_key key) (is_negative count)) _ h in
      ap₂ (λ (a b : Bool). both a b) (natural key count u.0) (go (is_group (node_of n e)) u.1 w)
    where
      d : Definition
      d = definition_of e.slots (node_of n e)

      go : (g : Bool) → pick g false (not (has_controls (cover_of key bytes d) count d)) ≡ false → pick g false (past_width (cover_of key bytes d) count) ≡ false
          → has_asked key bytes count (pick g group (synth d (controls_of e.slots e.controls (node_of n e)))) ≡ true
      go true a b = refl
      go false a b =
          asked_there key bytes count d _ (controls_many (length d.front.values) (drop (row_words * (node_of n e).row) e.controls)) (not-false (has_controls (cover_of key bytes d) count d) a) b

  -- one control is never past a name's width
  one_asked : (key : Key) (n : NodeArgument) → no_controls key 1 bytes n e ≡ false → past_name key 1 bytes n e ≡ false
  one_asked key n h = go (is_group (node_of n e)) (either_false (either (negative_key key) (is_negative 1)) _ h).1
    where
      d : Definition
      d = definition_of e.slots (node_of n e)

      go : (g : Bool) → pick g false (not (has_controls (cover_of key bytes d) 1 d)) ≡ false → pick g false (past_width (cover_of key bytes d) 1) ≡ false
      go true a = refl
      go false a = one_covered key bytes d (not-false (has_controls (cover_of key bytes d) 1 d) a)

  change_replayed : {f : ControlValue → ControlValue} {n : NodeArgument} {key : Key} {count : ℕ} {bad_value : Bool} → ChangeAccepted f n key count bad_value bytes e
      → past_name key count bytes n e ≡ false → Replayed (changed f n key count bytes e) (step_changed f n key count bytes p)
  change_replayed {f} {n} {key} {count} h w = record {
    plain = change_below (change_node f key bytes count) (meant n e) p;
    stepped = ap (λ (o : Option PlainNode). and_then o (λ x. only_if (both (not_negative key count) (has_asked key bytes count x.kind)) (change_below (change_node f key bytes count) x.number p))) (found e p k n h.node_known)
        ∙ can (asked key count n h.controls w) (ap (λ (m : ℕ). change_below (change_node f key bytes count) m p) (number e p k n h.node_known));
    kept = changed_replayed f (λ v. omega (arith, h.bus_low v)) key bytes count (meant n e) e.next e p k s.words (known_lives n e h.node_known) s.tree.rows_differ s.tree.fields;
  }

  pub controls_replayed : (c : ControlCommand) → ControlAccepted c bytes e → Replayed (control_effect c bytes e) (step_controls c bytes p)
  controls_replayed (controls.Set n key value) h = of_value value (λ float. step_changed (stored float) n key 1 bytes p) h.good_value (change_replayed h (one_asked key n h.controls))
  controls_replayed (controls.Fill n key count value) h = of_value value (λ float. step_changed (stored float) n key count bytes p) h.change.good_value (change_replayed h.change h.in_width)
  controls_replayed (controls.Map n key bus) h =
      subst (λ (b : Bool). Replayed (control_effect (controls.Map n key bus) bytes e) (pick b (step_changed (mapped_to bus) n key 1 bytes p) none)) (sym (not-false (either (eqb bus minus_one) (is_bus bus)) h.good_value))
      (change_replayed h (one_asked key n h.controls))

-- commands of buses: one float, or a run of them
set_changes : (v i : ℕ) (bs : List ℕ) → set bs i v ≡ change_from (λ b. v) i 1 bs
set_changes v zero [] = refl
set_changes v (suc i) [] = refl
set_changes v zero (b ∷ bs) = refl
set_changes v (suc i) (b ∷ bs) = ap (λ (l : List ℕ). b ∷ l) (set_changes v i bs)

all_changed : (v n : ℕ) (bs : List ℕ) → n ≤ length bs → replicate n v ≡ map (λ (b : ℕ). v) (take n bs)
all_changed v zero bs h = refl
all_changed v (suc n) [] h = absurd (omega arith)
all_changed v (suc n) (b ∷ bs) h = ap (λ (l : List ℕ). v ∷ l) (all_changed v n bs (omega arith))

-- a range of buses that there are, and a value in bounds
in_range : {start count : ℕ} {value : Value} (bs : List ℕ) {after : List ℕ} → BusesAccepted start count value → change_from (λ b. pattern value) start count bs ≡ after → change_buses start count value bs ≡ some after
in_range {start} {count} {value} bs h q =
    ap₂ (λ (v l : Bool). and_then (only_if v (pattern value)) (λ float. only_if l (change_from (λ b. float) start count bs))) h.good_value (le-leb (start + count) buses_in_all h.low)
    ∙ ap (λ (l : List ℕ). some l) q

buses_changed : (c : BusCommand) (bs : List ℕ) → length bs ≡ bus_count → BusAccepted c → step_buses c bs ≡ some (bus_effect c bs)
buses_changed (buses.Set bus value) bs size h = in_range bs h (sym (set_changes (pattern value) bus bs))
buses_changed (buses.Fill start count value) bs size h =
    let low = h.low in
    let rest : length (drop start bs) ≡ length bs - start = length-drop start bs in
    in_range bs h (sym (ap (λ (l : List ℕ). take start bs ++ (l ++ drop count (drop start bs))) (all_changed (pattern value) count (drop start bs) (omega arith))))

pub buses_replayed : (c : BusCommand) (e : Engine) (p : Plain) (k : Kept e p) → length e.buses ≡ bus_count → BusAccepted c
    → Replayed (with_buses (bus_effect c e.buses) e) (and_then (step_buses c p.buses) (λ bs. some (with_plain_buses bs p)))
buses_replayed c e p k size h = record {
  plain = with_plain_buses (bus_effect c e.buses) p;
  stepped = ap (λ (o : Option (List ℕ)). and_then o (λ bs. some (with_plain_buses bs p))) (ap (λ (bs : List ℕ). step_buses c bs) (sym k.buses) ∙ buses_changed c e.buses size h);
  kept = record {
    forest = k.forest;
    laid = k.laid;
    leaves = k.leaves;
    tree = k.tree;
    names = k.names;
    name_count = k.name_count;
    once = k.once;
    next = k.next;
    latest = k.latest;
    buses = refl;
    ordered = k.ordered;
  };
}

buses_long : (ws bs : List ℕ) → Known ws bs → length (decode ws bs).buses ≡ bus_count
unfolding decode
buses_long ws bs w = region-length buses_place bus_count ws (omega (arith, w.size))

-- every kind of command
pub replayed : (c : Command) (bytes ws bs : List ℕ) (p : Plain) → AreBytes bytes → Known ws bs → Kept (decode ws bs) p → length (decode ws bs).slots ≡ slot_count
    → Accepted c bytes (decode ws bs) → Replayed (effect c bytes (decode ws bs)) (step c bytes p)
unfolding effect step
replayed (command.Definitions c) bytes ws bs p clean w k many h = definitions_replayed c bytes clean (decode ws bs) p k w.names many h
replayed (command.Tree c) bytes ws bs p clean w k many h = tree_replayed bytes _ (decode ws bs) p (known_sound ws bs w) k c h
replayed (command.Controls c) bytes ws bs p clean w k many h = controls_replayed bytes _ (decode ws bs) p (known_sound ws bs w) k c h
replayed (command.Buses c) bytes ws bs p clean w k many h = buses_replayed c (decode ws bs) p k (buses_long ws bs w) h
replayed (command.Query q) bytes ws bs p clean w k many h = record { plain = p; stepped = refl; kept = k }
