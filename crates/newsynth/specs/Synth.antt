-- /s_new: the words after it.
use Rattle.std.specs.Prelude.{ℕ, ◌+◌, ◌*◌, ◌≤◌, ◌<◌, true, false, ◌≡◌, List, [], ◌∷◌, length, get_or, leb}
use Rattle.std.proofs.Common.{sym, ap₂, ◌∙◌, subst, arith, length-take, lt-ltb, leb-true}
use Rattle.std.proofs.Math.Path.{ap}
use Rattle.words.specs.ChoiceLaws.{both_true}
use Rattle.words.specs.Parts.{region, put, over}
use Rattle.words.specs.PartsLaws.{region-length, put_put}
use Rattle.refusals.specs.declared.Refusal.{Refusal}
use Rattle.refusals.specs.declared.Refusal.TheVariants.{BadFlag}
use Rattle.format.specs.Read.{Read}
use Rattle.format.specs.Definition.{Front, Definition}
use Rattle.readable.specs.Readable.{Readable, whole_readable}
use Rattle.nodes.specs.declared.Node.{Node}
use Rattle.nodes.specs.Table.{rows}
use Rattle.nodes.specs.Place.{lives}
use Rattle.nodes.specs.Edit.{edit_at, add_by}
use Rattle.nodes.specs.Split.{edit_first}
use Rattle.nodes.specs.Order.{order}
use Rattle.nodes.specs.Formed.{most_nodes, most_rows, none_left, first_given, free_row}
use Rattle.index.specs.Index.{index_of}
use Rattle.values.specs.declared.NodeArgument.{NodeArgument}
use Rattle.model.specs.declared.TreeCommand.TheVariants as tree
use Rattle.model.specs.declared.Command.TheVariants as command
use Rattle.model.specs.Answers.{Done, Refused}
use Rattle.model.specs.Layout.{slot_count, row_words, words_length, lengths_place, nodes_place, nodes_words, controls_place, controls_words, count_in, next_in, lengths_in, nodes_in, controls_in, put_header, put_controls, put_index, put_order, put_nodes, slot_in, node_words}
use Rattle.model.specs.Engine.{Engine, decode, definition_in, no_definition, value_or, definition_of, slot_at}
use Rattle.model.specs.Checks.{first_of, tree_checks}
use Rattle.model.specs.Effects.{staying_nodes, new_synth, number_for, next_after, initial_words, synth_made, effect}
use Rattle.model.specs.After.{put_tree, words_after}
use Rattle.model.specs.Apply.{answer_in, is_accepted}
use Rattle.state.specs.Known.{Known}
use Rattle.state.specs.Accepted.{accepted}
use Rattle.state.specs.Does.{WordsStep, step_refused, step_done}
use Rattle.state.specs.Decoded.{tree_size, tree_controls}
use Rattle.state.specs.Regions.{put_size}
use Rattle.preservation.specs.TreeSteps.{NewSynthComes, synth_comes}
use Rattle.preservation.specs.TreeKept.{known_sound}
use Rattle.tree.specs.declared.action.Action.{Action}
use Rattle.tree.specs.Sizes.{Leaves, leaves_first}
use Rattle.tree.specs.declared.add.Gap.{Gap}
use Rattle.tree.specs.Action.{number_of, add_here, add_number}
use Rattle.tree.specs.Gaps.{gap_by, in_gap, gap_leaves}
use Rattle.reindex.specs.declared.edit.Edit.TheVariants as edit
use Rattle.slots.specs.Slots.{slot_on, slots_lent, part_word}
use Rattle.definitions.specs.Slots.{Whole, Formed}
use Rattle.definitions.specs.Retiring.{slot_is}
use Rattle.definitions.specs.Lent.{table_in, formed_lent}
use Rattle.controls.specs.Encoded.{front_in, front_read}
use Rattle.treecommands.specs.Ready.{ready, words_long}
use Rattle.treecommands.specs.Edits.{edit_by, add_does}
use Rattle.names.specs.Judged.{meant_in}
use Rattle.treecommands.specs.Settle.{Changed, settled, settled_tree, order_size, index_size, nodes_size, changed_left}
use Rattle.treecommands.specs.Adding.{after_few}
use Rattle.newsynth.specs.Checks.{Clear, Answers}
use Rattle.newsynth.specs.Rows.{Standing, staying_at, staying_first}
use Rattle.newsynth.specs.Parts.{header_put}

-- no check fires on the name in the bytes
pub record MakingReady (number : ℕ) (action : Action) (target : NodeArgument) (at slot : ℕ) (bytes ws bs : List ℕ) : Type 0 where
  pub known : Known ws bs
  pub clear : Clear number action target slot bytes ws bs at

pub record Fit (number : ℕ) (action : Action) (at slot : ℕ) (ws bs : List ℕ) : Type 0 where
  pub target : NodeArgument
  pub bytes : List ℕ
  pub ground : MakingReady number action target at slot bytes ws bs

-- the bytes of a slot that is lent
abbrev pub lent_bytes : ℕ → ℕ → List ℕ → List ℕ
lent_bytes slot size bs = slot_in bs slot size

-- a resident's front is what its slot's bytes tell
module _ (ws bs : List ℕ) (k : Known ws bs) (slot : ℕ) (low : slot < slot_count) (live : (slot_at (decode ws bs).slots slot).resident ≡ true) (size : ℕ) (same : size ≡ get_or ws (lengths_place + slot) 0) where
  lent : slot_at (decode ws bs).slots slot ≡ slot_on (table_in ws) bs slot
  lent = ap (λ l. slot_at l slot) (sym (slots_lent ws bs)) ∙ slot_is (table_in ws) bs slot low

  whole : Whole (table_in ws) bs slot
  whole = (formed_lent ws bs k.size k.arena_size k.flags k.slots).resident slot low (ap (λ s. s.resident) (sym lent) ∙ live)

  lent-bytes : (slot_on (table_in ws) bs slot).bytes ≡ lent_bytes slot size bs
  lent-bytes = ap (λ (n : ℕ). lent_bytes slot n bs) (part_word lengths_place 64 slot ws (omega arith) ∙ sym same)

  pub resident_front : (definition_in (slot_at (decode ws bs).slots slot)).front ≡ front_in (lent_bytes slot size bs)
  resident_front =
      ap (λ s. (definition_in s).front) lent
      ∙ ap (λ (r : Read Definition). (value_or no_definition r).front) whole.read
      ∙ sym (front_read (slot_on (table_in ws) bs slot).bytes whole.read)
      ∙ ap front_in lent-bytes

  pub resident_readable : Readable (lent_bytes slot size bs)
  resident_readable =
      subst Readable lent-bytes
      (whole_readable (slot_on (table_in ws) bs slot).bytes
      (record { definition = whole.definition; past = get_or (table_in ws) slot 0; reads = whole.read; short = rw lent-bytes (simp length-take (omega arith)) }))

module _ (number : ℕ) (action : Action) (target : NodeArgument) (at slot : ℕ) (bytes ws bs : List ℕ) (g : MakingReady number action target at slot bytes ws bs) where
  k : Known ws bs
  k = g.known

  -- the target, the row and the new node
  abbrev n : ℕ
  n = meant_in target ws

  abbrev row : ℕ
  row = free_row (staying_nodes (number_of action) n (nodes_in ws))

  abbrev made : Node
  made = new_synth (number_for number (next_in ws)) slot row

  abbrev after : List Node
  after = add_by (number_of action) made n (nodes_in ws)

  done : first_of (tree_checks (tree.NewSynth number (number_of action) target) bytes (decode ws bs)) Done ≡ Done
  done = g.clear.passed

  few : length after ≤ most_nodes
  unfolding answer_in decode
  few = rw g.clear.meant (after_few (tree.NewSynth number (number_of action) target) bytes ws bs k done)

  pub next_some : 1 ≤ next_in ws
  next_some =
      let w = both_true (leb none_left (next_in ws)) (leb (next_in ws) first_given) k.tree.next_right in
      omega (arith, leb-true none_left (next_in ws) w.0)

  -- the new synth has a free row, and its slot a resident
  comes : NewSynthComes number (number_of action) target bytes (decode ws bs)
  unfolding answer_in
  comes =
      synth_comes (lengths_in ws) (decode ws bs) (known_sound ws bs k) number (number_of action) target bytes
      (accepted bytes (decode ws bs) (command.Tree (tree.NewSynth number (number_of action) target)) 0 (ap is_accepted done))

  pub row-low : row < most_rows
  unfolding decode
  row-low = comes.row_low

  resident : (slot_at (decode ws bs).slots slot).resident ≡ true
  resident = rw g.clear.meant comes.resident

  pub definition_readable : (size : ℕ) → size ≡ get_or ws (lengths_place + slot) 0 → Readable (lent_bytes slot size bs)
  definition_readable size same = resident_readable ws bs k slot g.clear.there resident size same

  pub standing : (count : ℕ) → count ≡ count_in ws → Standing (node_words ws) count at
  standing count same =
      rw same (record { size = words_long ws k.size; few = k.few; live = g.clear.spot.live })

  -- the node region with the new node, as the table's function leaves it
  module _ (count : ℕ) (same : count ≡ count_in ws) (taken : ℕ) (free : taken ≡ free_row (staying_at action at (rows count (node_words ws))))
      (next : ℕ) (counter : next ≡ next_in ws) (given : ℕ) (named : given ≡ number_for number next) (gap : Gap) (opens : gap ≡ gap_by action count (node_words ws) at) (us : List ℕ) (many : ℕ)
      (fills : Leaves (node_words ws) (in_gap gap (new_synth given slot taken) (rows count (node_words ws))) us many) where
    does : Leaves (node_words ws) (edit_at at (add_here action (new_synth given slot taken ∷ [])) (rows count (node_words ws))) us many
    does = gap_leaves (node_words ws) count action at (rw same g.clear.spot.live) gap opens (new_synth given slot taken) us many fills

    taken_row : taken ≡ row
    taken_row = (rw same at free) ∙ ap free_row (staying_first action n at (nodes_in ws) g.clear.spot.here)

    new : new_synth given slot taken ≡ made
    new = ap₂ (λ (i j : ℕ). new_synth i slot j) (named ∙ ap (λ (j : ℕ). number_for number j) counter) taken_row

    -- the table after, by the target's place
    table : edit_at at (add_here action (made ∷ [])) (nodes_in ws) ≡ after
    table = edit_first n at (add_here action (made ∷ [])) (nodes_in ws) g.clear.spot.here ∙ add_number action made n (nodes_in ws)

    left : Leaves (node_words ws) after us many
    left =
        rw (← add_number action made n (nodes_in ws), ← new) (leaves_first (add_here action (new_synth given slot taken ∷ [])) (node_words ws) (nodes_in ws) us many at (rw same at does) n g.clear.spot.here)

    new_number : lives made.number (nodes_in ws) ≡ false
    unfolding decode
    new_number = comes.given.new

    pub synth_ready : Changed (edit.Put gap.at gap.end) many (put nodes_place nodes_words us ws)
    synth_ready =
        rw opens
        (changed_left ws (ready ws bs k) after few (edit_by action count (node_words ws) at)
        (rw (same, ← table) (add_does (count_in ws) (node_words ws) at g.clear.spot.live action made new_number)) us many left)

    -- the engine before the controls are written
    abbrev half : Engine
    half = record {
      slots = [];
      nodes = after;
      order = order after;
      controls = controls_in ws;
      buses = [];
      next = next_after number (next_in ws);
      latest = number_for number (next_in ws);
    }

    module _ (fell : ℕ) (falls : fell ≡ next_after number next) (mid : List ℕ) (fact : mid ≡ settled many fell given (put nodes_place nodes_words us ws)) where
      many_controls : length (controls_in ws) ≡ controls_words
      many_controls = region-length controls_place controls_words ws (omega (arith, k.size))

      mid_is : mid ≡ put_tree half ws
      mid_is =
          fact
          ∙ ap₂ (λ (j : ℕ) (l : List ℕ). settled j fell given (put nodes_place nodes_words l ws)) left.size left.words
          ∙ ap₂ (λ (i j : ℕ). settled (length after) i j (put_nodes after ws)) (falls ∙ ap (λ (j : ℕ). next_after number j) counter) (named ∙ ap (λ (j : ℕ). number_for number j) counter)
          ∙ settled_tree ws k.size after few (next_after number (next_in ws)) (number_for number (next_in ws))

      pub mid_size : length mid ≡ words_length
      mid_size = ap length mid_is ∙ tree_size half ws k.size few many_controls

      mid_controls : controls_in mid ≡ controls_in ws
      mid_controls = ap controls_in mid_is ∙ tree_controls half ws k.size few many_controls

      pub row_fits : row_words * taken + row_words ≤ length (region controls_place controls_words mid)
      row_fits = rw (region-length controls_place controls_words mid (omega (arith, mid_size))) (omega (arith, taken_row, row-low))

      -- the controls put in
      put_made : (cs : List ℕ) → put_controls cs (put_tree half ws) ≡ put_tree (record { slots = []; nodes = after; order = order after; controls = cs; buses = []; next = half.next; latest = half.latest }) ws
      put_made cs =
          header_put (length after) (length (order after)) half.next half.latest 1599 controls_words cs (put_controls (controls_in ws) indexed) (omega (arith, third))
          ∙ ap (λ (l : List ℕ). put_header (length after) (length (order after)) half.next half.latest l)
          (put_put controls_place controls_words (controls_in ws) cs indexed (omega (arith, second)) many_controls)
        where
          indexed : List ℕ
          indexed = put_index (index_of after) (put_order (order after) (put_nodes after ws))

          second : length indexed ≡ words_length
          second = index_size after few (put_order (order after) (put_nodes after ws)) (order_size (order after) (put_nodes after ws) (nodes_size ws k.size after few))

          third : length (put_controls (controls_in ws) indexed) ≡ words_length
          third = put_size controls_place controls_words (controls_in ws) indexed (omega (arith, second)) many_controls ∙ second

      -- the controls written last
      module _ (size : ℕ) (sized : size ≡ get_or ws (lengths_place + slot) 0) (out : List ℕ)
          (o : out ≡ put controls_place controls_words (over (row_words * taken) (initial_words (front_in (lent_bytes slot size bs)).values) (region controls_place controls_words mid)) mid) where
        abbrev written : ℕ → Front → List ℕ → List ℕ
        written j f cs = over (row_words * j) (initial_words f.values) cs

        abbrev own : Front
        own = (definition_of (decode ws bs).slots (new_synth 0 slot 0)).front

        out_is : out ≡ put_controls (written row own (controls_in ws)) (put_tree half ws)
        out_is =
            o
            ∙ ap₂ (λ (j : ℕ) (cs : List ℕ). put_controls (written j (front_in (lent_bytes slot size bs)) cs) mid) taken_row mid_controls
            ∙ ap₂ (λ (f : Front) (l : List ℕ). put_controls (written row f (controls_in ws)) l) (sym (resident_front ws bs k slot g.clear.there resident size sized)) mid_is

        made_left : out ≡ put_tree (synth_made number (number_of action) n slot (decode ws bs)) ws
        unfolding decode
        made_left = out_is ∙ put_made (written row own (controls_in ws))

        pub synth_done : WordsStep (command.Tree (tree.NewSynth number (number_of action) target)) bytes ws bs Done out
        unfolding answer_in decode words_after effect
        synth_done =
            step_done (command.Tree (tree.NewSynth number (number_of action) target)) bytes ws bs out done
            (made_left ∙ ap (λ (s : ℕ). put_tree (synth_made number (number_of action) n s (decode ws bs)) ws) g.clear.meant)

-- a number that asks for no add action
pub synth_unasked : (number action : ℕ) (target : NodeArgument) (bytes ws bs : List ℕ) → 4 < action → WordsStep (command.Tree (tree.NewSynth number action target)) bytes ws bs (Refused BadFlag) ws
unfolding answer_in first_of
synth_unasked number action target bytes ws bs h = step_refused (command.Tree (tree.NewSynth number action target)) bytes ws bs BadFlag (rw (lt-ltb 4 action h))

pub synth_refused : (number : ℕ) (action : Action) (target : NodeArgument) (bytes ws bs : List ℕ) (r : Refusal) → Answers number action target bytes ws bs r
    → WordsStep (command.Tree (tree.NewSynth number (number_of action) target)) bytes ws bs (Refused r) ws
unfolding answer_in
synth_refused number action target bytes ws bs r h = step_refused (command.Tree (tree.NewSynth number (number_of action) target)) bytes ws bs r h

pub table_formed : (ws bs : List ℕ) → Known ws bs → Formed (table_in ws) bs
table_formed ws bs k = formed_lent ws bs k.size k.arena_size k.flags k.slots
