-- Each accepted command of the tree kind keeps the rules, of the engine as decoded.
use Rattle.std.specs.Prelude.{ℕ, ◌≤◌, ◌<◌, Bool, true, false, ◌≡◌, refl, List, length}
use Rattle.std.proofs.Common.{sym, ◌∙◌, arith, lt-ltb, ltb-true, ltb-false, leb-false, ne_eqb}
use Rattle.nodes.specs.declared.Node.{Node}
use Rattle.nodes.specs.Place.{group_slot, lives}
use Rattle.nodes.specs.Edit.{run_of, is_below, cut, cut_below, deep_free, set_run, move_before, move_after, move_head, move_tail, add_by}
use Rattle.nodes.specs.Formed.{most_rows, rooted, row_taken, free_row}
use Rattle.treerefinement.specs.Tally.{tally, tally_cut, Within, same_within, cut_within, cut_below_within, deep_free_within, move_head_same, move_tail_same, move_before_same, move_after_same}
use Rattle.treerefinement.specs.Keep.{numbered, lives_some, within_formed}
use Rattle.treerefinement.specs.Rooted.{rooted_cut, rooted-cut_below, rooted-deep_free, rooted-move_head, rooted-move_tail, rooted-move_before, rooted-move_after}
use Rattle.values.specs.declared.NodeArgument.{NodeArgument}
use Rattle.model.specs.declared.TreeCommand.{TreeCommand}
use Rattle.model.specs.declared.TreeCommand.TheVariants as tree
use Rattle.model.specs.Layout.{slot_count, controls_words}
use Rattle.model.specs.Engine.{Engine, slot_at, resident_of}
use Rattle.model.specs.Meaning.{meant}
use Rattle.model.specs.Effects.{latest_among, with_nodes, staying_nodes, new_group, new_synth, number_for, next_after, synth_made, tree_effect}
use Rattle.model.specs.Formed.{slots_formed, controls_formed}
use Rattle.state.specs.Known.{Tree}
use Rattle.state.specs.Accepted.{NewNodeAccepted, NewSynthAccepted, NewGroupAccepted, MoveAccepted, TreeAccepted, known_lives}
use Rattle.preservation.specs.Groups.{group_only}
use Rattle.preservation.specs.Rows.{free-row}
use Rattle.preservation.specs.Every.{Fewer, within_fewer, run_fewer}
use Rattle.preservation.specs.Nodes.{Added, tree_within, tree_run, tree_added, latest_new, latest_added}
use Rattle.preservation.specs.Adds.{added}
use Rattle.preservation.specs.Slots.{slots_fewer, slots_grown, resident_found}
use Rattle.preservation.specs.ControlRows.{controls_fewer, controls_grown, started, started-length, started_mapped, others_mapped}
use Rattle.preservation.specs.Numbers.{Given, given, group_fields}

-- the rules that a command of the tree kind can break, of an engine whose slots have these lengths
pub record Sound (sizes : List ℕ) (e : Engine) : Type 0 where
  pub tree : Tree e.next e.latest e.nodes
  pub many : length e.slots ≡ slot_count
  pub words : length e.controls ≡ controls_words
  pub slots : slots_formed 0 sizes e.slots e.nodes ≡ true
  pub controls : controls_formed e.slots e.controls e.nodes ≡ true

-- a node that is not moved lives while another is out
pub still_lives : (m n : ℕ) (t : List Node) → lives n t ≡ true → is_below n m t ≡ false → lives n (cut m t) ≡ true
still_lives m n t h b =
    let is : 0 < tally (numbered n) t = ltb-true 0 (tally (numbered n) t) (sym (lives_some n t) ∙ h) in
    let none = ltb-false 0 (tally (numbered n) (run_of m t)) (sym (lives_some n (run_of m t)) ∙ b) in
    lives_some n (cut m t) ∙ lt-ltb 0 (tally (numbered n) (cut m t)) (omega (arith, tally_cut (numbered n) (λ d r. refl) m t))

-- the place of a move lives while the moved node is out
pub place_stays : {moved place : NodeArgument} {wrong_kind : Bool} {e : Engine} → MoveAccepted moved place wrong_kind e → lives (meant place e) (cut (meant moved e) e.nodes) ≡ true
place_stays {moved} {place} {wrong_kind} {e} h = still_lives (meant moved e) (meant place e) e.nodes (known_lives place e h.place_known) h.outside

-- the node that /s_new brings
abbrev pub synth_for : ℕ → ℕ → NodeArgument → List ℕ → Engine → Node
synth_for number action target bytes e = new_synth (number_for number e.next) (resident_of bytes e.slots) (free_row (staying_nodes action (meant target e) e.nodes))

pub record NewSynthComes (number action : ℕ) (target : NodeArgument) (bytes : List ℕ) (e : Engine) : Type 0 where
  pub given : Given number e.next e.nodes
  pub slot_low : resident_of bytes e.slots < slot_count
  pub resident : (slot_at e.slots (resident_of bytes e.slots)).resident ≡ true
  pub added : Added (synth_for number action target bytes e) (add_by action (synth_for number action target bytes e) (meant target e) e.nodes) (staying_nodes action (meant target e) e.nodes) e.nodes
  pub row_low : free_row (staying_nodes action (meant target e) e.nodes) < most_rows
  pub row_free : row_taken (free_row (staying_nodes action (meant target e) e.nodes)) (staying_nodes action (meant target e) e.nodes) ≡ false

module _ (sizes : List ℕ) (e : Engine) (k : Sound sizes e) where
  sound_fewer : (after : List Node) → Tree e.next (latest_among after e.latest) after → Fewer after e.nodes → Sound sizes (with_nodes after e)
  sound_fewer after t f = record {
    tree = t;
    many = k.many;
    words = k.words;
    slots = slots_fewer sizes e.slots f k.slots;
    controls = controls_fewer e.slots e.controls f k.controls;
  }

  sound_within : (after : List Node) → Within after e.nodes → rooted after ≡ true → Sound sizes (with_nodes after e)
  sound_within after w r = sound_fewer after (tree_within e.next e.latest e.nodes k.tree after w r) (within_fewer w)

  sound_run : (n flag : ℕ) → flag ≤ 1 → Sound sizes (with_nodes (set_run n flag e.nodes) e)
  sound_run n flag low = sound_fewer (set_run n flag e.nodes) (tree_run e.next e.latest e.nodes k.tree n flag low) (run_fewer n flag e.nodes)

  -- a new node goes in
  pub comes : (action : ℕ) (target : NodeArgument) → NewNodeAccepted action target e → (x : Node) → x.depth ≡ 0
      → Added x (add_by action x (meant target e) e.nodes) (staying_nodes action (meant target e) e.nodes) e.nodes
  comes action target a x flat =
      added x flat (meant target e) e.nodes (known_lives target e a.target_known) k.tree.root k.tree.few action a.good_action a.room
      (λ q. group_only target e k.tree.distinct (rw q at a.target_kind))
      (λ q. rw q at a.target_kind)

  sound_group : (number action : ℕ) (target : NodeArgument) → NewGroupAccepted number action target e → Sound sizes (with_nodes (add_by action (new_group number) (meant target e) e.nodes) e)
  sound_group number action target h =
      let a = comes action target h.place (new_group number) refl in
      let before = staying_nodes action (meant target e) e.nodes in
      let after = add_by action (new_group number) (meant target e) e.nodes in
      record {
        tree = tree_added e.next e.latest e.nodes k.tree (new_group number) after before a h.free_number e.next (latest_among after e.latest) (omega arith) k.tree.next_right
            (group_fields e.next number h.good_number) (λ q. cc) (latest_added e.next e.latest e.nodes k.tree (new_group number) after before a h.free_number);
        many = k.many;
        words = k.words;
        slots = slots_grown sizes e.slots (new_group number) a.grown k.many (λ q. absurd (omega arith)) (slots_fewer sizes e.slots (within_fewer a.within) k.slots);
        controls = controls_grown e.slots e.controls (new_group number) a.grown refl (controls_fewer e.slots e.controls (within_fewer a.within) k.controls);
      }

  -- a new synth: its number is new, its slot a resident's, its row free
  pub synth_comes : (number action : ℕ) (target : NodeArgument) (bytes : List ℕ) → NewSynthAccepted number action target bytes e → NewSynthComes number action target bytes e
  synth_comes number action target bytes h =
      let a = comes action target h.place (synth_for number action target bytes e) refl in
      let free = free-row (staying_nodes action (meant target e) e.nodes) a.room in
      record {
        given = given number e.next e.nodes h.good_number h.free_number h.number_left k.tree.next_right k.tree.fields;
        slot_low = omega (arith, leb-false (length e.slots) (resident_of bytes e.slots) h.resident, k.many);
        resident = resident_found bytes e.slots h.resident;
        added = a;
        row_low = free.0;
        row_free = free.1;
      }

  sound_synth : (number action : ℕ) (target : NodeArgument) (bytes : List ℕ) → NewSynthComes number action target bytes e
      → Sound sizes (synth_made number action (meant target e) (resident_of bytes e.slots) e)
  sound_synth number action target bytes c =
      record {
        tree = tree_added e.next e.latest e.nodes k.tree x after before a n.new (next_after number e.next) (number_for number e.next) n.fall n.next_right
            (n.fields slot row c.slot_low c.row_low) (λ q. c.row_free)
            (latest_new e.next e.latest e.nodes k.tree x after before a n.new (ne_eqb slot group_slot (λ q. omega (arith, c.slot_low))));
        many = k.many;
        words = started-length e.slots e.controls k.words slot row c.row_low;
        slots = slots_grown sizes e.slots x a.grown k.many (λ q. c.resident) (slots_fewer sizes e.slots (within_fewer a.within) k.slots);
        controls = controls_grown e.slots (started e.slots e.controls k.words slot row c.row_low) x a.grown
            (started_mapped e.slots e.controls k.words slot row c.row_low x refl refl)
            (others_mapped e.slots e.controls k.words slot row c.row_low e.next before (within_formed a.within e.next k.tree.fields) c.row_free
            (controls_fewer e.slots e.controls (within_fewer a.within) k.controls));
      }
    where
      slot : ℕ
      slot = resident_of bytes e.slots

      before : List Node
      before = staying_nodes action (meant target e) e.nodes

      row : ℕ
      row = free_row before

      x : Node
      x = synth_for number action target bytes e

      after : List Node
      after = add_by action x (meant target e) e.nodes

      n : Given number e.next e.nodes
      n = c.given

      a : Added x after before e.nodes
      a = c.added

  -- every command of the tree kind
  pub sound_step : (c : TreeCommand) (bytes : List ℕ) → TreeAccepted c bytes e → Sound sizes (tree_effect c bytes e)
  sound_step (tree.NewSynth number action target) bytes h = sound_synth number action target bytes (synth_comes number action target bytes h)
  sound_step (tree.NewGroup number action target) bytes h = sound_group number action target h
  sound_step (tree.Free n) bytes h =
      sound_within (cut (meant n e) e.nodes) (cut_within (meant n e) e.nodes) (rooted_cut e.nodes k.tree.root (meant n e) h.node_kind)
  sound_step (tree.FreeAll g) bytes h =
      sound_within (cut_below (meant g e) e.nodes) (cut_below_within (meant g e) e.nodes) (rooted-cut_below e.nodes k.tree.root (meant g e))
  sound_step (tree.DeepFree g) bytes h =
      sound_within (deep_free (meant g e) e.nodes) (deep_free_within (meant g e) e.nodes) (rooted-deep_free e.nodes k.tree.root (meant g e))
  sound_step (tree.Before a b) bytes h =
      sound_within (move_before (meant a e) (meant b e) e.nodes) (same_within (move_before_same (meant a e) (meant b e) e.nodes (place_stays h)))
      (rooted-move_before e.nodes k.tree.root (meant a e) (meant b e) h.moved_kind h.place_kind)
  sound_step (tree.After a b) bytes h =
      sound_within (move_after (meant a e) (meant b e) e.nodes) (same_within (move_after_same (meant a e) (meant b e) e.nodes (place_stays h)))
      (rooted-move_after e.nodes k.tree.root (meant a e) (meant b e) h.moved_kind h.place_kind)
  sound_step (tree.Head g a) bytes h =
      sound_within (move_head (meant a e) (meant g e) e.nodes) (same_within (move_head_same (meant a e) (meant g e) e.nodes (place_stays h)))
      (rooted-move_head e.nodes k.tree.root (meant a e) (meant g e) h.moved_kind (group_only g e k.tree.distinct h.place_kind))
  sound_step (tree.Tail g a) bytes h =
      sound_within (move_tail (meant a e) (meant g e) e.nodes) (same_within (move_tail_same (meant a e) (meant g e) e.nodes (place_stays h)))
      (rooted-move_tail e.nodes k.tree.root (meant a e) (meant g e) h.moved_kind (group_only g e k.tree.distinct h.place_kind))
  sound_step (tree.Run n flag) bytes h = sound_run (meant n e) flag (ltb-false 1 flag h.good_flag)
