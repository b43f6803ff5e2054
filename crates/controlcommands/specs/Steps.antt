-- What the commands of controls do: each row of the table, and the change of the node's run of places.
use Rattle.std.specs.Prelude.{ℕ, ◌+◌, ◌-◌, ◌≤◌, ◌<◌, Bool, true, false, not, ◌≡◌, List, [], ◌∷◌, take, drop, eqb, Some, Ok}
use Rattle.std.proofs.Math.Path.{refl, sym}
use Rattle.std.proofs.Common.{ap, ◌∙◌, arith}
use Rattle.words.specs.Choice.{pick, either}
use Rattle.words.specs.Parts.{region}
use Rattle.refusals.specs.declared.Refusal.{Refusal}
use Rattle.refusals.specs.declared.Refusal.TheVariants.{NoControl, NoBus, BadValue, PastWidth}
use Rattle.nodes.specs.declared.Node.{Node}
use Rattle.nodes.specs.PlaceLaws.{end_most}
use Rattle.values.specs.declared.Key.{Key}
use Rattle.values.specs.declared.NodeArgument.{NodeArgument}
use Rattle.values.specs.declared.Value.{Value}
use Rattle.values.specs.Controls.{ControlValue, set_to, map_to}
use Rattle.values.specs.Values.{in_bounds, pattern, pattern_of}
use Rattle.values.specs.ValueLaws.{pattern_fact}
use Rattle.model.specs.declared.ControlCommand.{ControlCommand}
use Rattle.model.specs.declared.ControlCommand.TheVariants as controls
use Rattle.model.specs.declared.Command.TheVariants as command
use Rattle.model.specs.Answers.{Answer}
use Rattle.model.specs.Answers.{Done, Refused, done_or}
use Rattle.model.specs.Layout.{nodes_place, nodes_words, count_in, nodes_in, controls_in, put_controls, record_in}
use Rattle.model.specs.Engine.{Engine, decode}
use Rattle.words.specs.Patterns.{minus_one}
use Rattle.model.specs.Meaning.{is_bus, meant, node, mapping_to}
use Rattle.model.specs.Checks.{Check, check, first_of, node_check, no_controls, past_name}
use Rattle.model.specs.Effects.{effect, control_effect, change_all, changed}
use Rattle.model.specs.After.{words_after}
use Rattle.model.specs.Apply.{answer_in, is_accepted}
use Rattle.state.specs.Does.{WordsStep}
use Rattle.nodes.specs.Sizes.{depth_at, end_at}
use Rattle.names.specs.Judged.{NodeFound, NodeRefused, found_place}
use Rattle.names.specs.Here.{node_here}
use Rattle.controls.specs.declared.control.Change.{Change}
use Rattle.controls.specs.declared.control.Change.TheVariants as change
use Rattle.controls.specs.Change.{change_of}
use Rattle.controls.specs.Cover.{asked_by}
use Rattle.controls.specs.Asked.{controls_asked, one_there}
use Rattle.controls.specs.All.{all_run}

abbrev pub Steps : ControlCommand → List ℕ → List ℕ → List ℕ → Answer → List ℕ → Type 0
Steps c bytes ws bs a ws' = WordsStep (command.Controls c) bytes ws bs a ws'

-- the end of the run of the node at a place
abbrev pub run_end : List ℕ → ℕ → ℕ
run_end ws at = end_at (count_in ws) (region nodes_place nodes_words ws) at

pub run_inside : (ws : List ℕ) (at many end : ℕ) → at < count_in ws → many ≡ count_in ws → end ≡ end_at many (region nodes_place nodes_words ws) at → end ≤ count_in ws
run_inside ws at many end live same e =
    let here : end ≡ run_end ws at = e ∙ ap (λ (k : ℕ). end_at k (region nodes_place nodes_words ws) at) same in
    omega (arith, end_most (count_in ws) (region nodes_place nodes_words ws) (depth_at (region nodes_place nodes_words ws) at) (at + 1) (omega arith))

-- the controls after a change of the run of the node at a place
abbrev pub run_changed : (ControlValue → ControlValue) → Key → ℕ → List ℕ → ℕ → List ℕ → List ℕ → List ℕ
run_changed f key count bytes at ws bs = change_all f key bytes count (decode ws bs).slots (take (run_end ws at - at) (drop at (nodes_in ws))) (controls_in ws)

-- refusal 21 or 28, by what is asked of the node at a place, or the run of the node changed
pub record Changed (c : Change) (key : Key) (count : ℕ) (bytes : List ℕ) (at : ℕ) (ws bs : List ℕ) (a : Answer) (ws' : List ℕ) : Type 0 where
  pub answers : a ≡ done_or (controls_asked key count bytes (decode ws bs).slots (record_in ws at))
  pub words : ws' ≡ pick (is_accepted a) (put_controls (run_changed (change_of c) key count bytes at ws bs) ws) ws

pub run-changed : (c : Change) (key : Key) (count : ℕ) (bytes : List ℕ) (at : ℕ) (ws bs : List ℕ) (many end : ℕ) (ws' : List ℕ) {u : Unit {0}}
    → Ok u ≡ controls_asked key count bytes (decode ws bs).slots (record_in ws at)
    → many ≡ count_in ws → end ≡ end_at many (region nodes_place nodes_words ws) at
    → ws' ≡ put_controls (change_all (change_of c) key bytes count (decode ws bs).slots (take (end - at) (drop at (nodes_in ws))) (controls_in ws)) ws
    → Changed c key count bytes at ws bs Done ws'
run-changed c key count bytes at ws bs many end ws' {u} there same e o =
    let here : end ≡ run_end ws at = e ∙ ap (λ (k : ℕ). end_at k (region nodes_place nodes_words ws) at) same in
    record {
      answers = ap (done_or {A = Unit {0}}) there;
      words = o ∙ ap (λ (k : ℕ). put_controls (change_all (change_of c) key bytes count (decode ws bs).slots (take (k - at) (drop at (nodes_in ws))) (controls_in ws)) ws) here;
    }

-- the words after an accepted command
after : (c : ControlCommand) (bytes ws bs : List ℕ) → words_after (command.Controls c) bytes ws bs ≡ put_controls (control_effect c bytes (decode ws bs)).controls ws
unfolding words_after effect
after c bytes ws bs = refl

-- four checks: of the node, of what is asked of it, and of its controls
unfoldable pub four_checks : Check → Refusal → Bool → Bool → Bool → Answer
four_checks n q b c d = first_of (n ∷ (check q b ∷ (check NoControl c ∷ (check PastWidth d ∷ [])))) Done

last-two : (n : Check) (q : Refusal) (b c d : Bool) → n.fires ≡ false → b ≡ false → four_checks n q b c d ≡ done_or (asked_by c d)
unfolding four_checks first_of
last-two n q b c d h g = rw (h, g) (go c d)
  where
    go : (c d : Bool) → pick c (Refused NoControl) (pick d (Refused PastWidth) Done) ≡ done_or (asked_by c d)
    go true d = refl
    go false true = refl
    go false false = refl

-- three of them, where the fourth fires only behind the third
three_checks : (n : Check) (q : Refusal) (b c d : Bool) → (c ≡ false → d ≡ false) → first_of (n ∷ (check q b ∷ (check NoControl c ∷ []))) Done ≡ four_checks n q b c d
unfolding four_checks first_of
three_checks n q b true d h = refl
three_checks n q b false d h = sym (rw (h refl))

-- the node that an argument means
module _ (n : NodeArgument) (ws bs : List ℕ) where
  pub no_node : (c : ControlCommand) (bytes : List ℕ) (q : Refusal) (b d e : Bool) → answer_in (command.Controls c) bytes (decode ws bs) 0 ≡ four_checks (node_check n (decode ws bs)) q b d e
      → (r : Refusal) → NodeRefused n ws r → Steps c bytes ws bs (Refused r) ws
  unfolding four_checks first_of
  no_node c bytes q b d e row r u = record { answers = sym (row ∙ rw (u.fires bs) (u.answer bs)); words = refl }

  module _ (at : ℕ) (found : NodeFound n ws at) where
    pub second : (c : ControlCommand) (bytes : List ℕ) (q : Refusal) (b d e : Bool) → answer_in (command.Controls c) bytes (decode ws bs) 0 ≡ four_checks (node_check n (decode ws bs)) q b d e
        → b ≡ true → Steps c bytes ws bs (Refused q) ws
    unfolding four_checks first_of
    second c bytes q b d e row h = record { answers = sym (row ∙ rw (found.passes bs, h)); words = refl }

    asked_here : (key : Key) (count : ℕ) (bytes : List ℕ)
        → asked_by (no_controls key count bytes n (decode ws bs)) (past_name key count bytes n (decode ws bs)) ≡ controls_asked key count bytes (decode ws bs).slots (record_in ws at)
    asked_here key count bytes = ap (λ (r : Node). controls_asked key count bytes (decode ws bs).slots r) (node_here n ws at found bs)

    reached : (f : ControlValue → ControlValue) (key : Key) (count : ℕ) (bytes : List ℕ) → run_changed f key count bytes at ws bs ≡ (changed f n key count bytes (decode ws bs)).controls
    unfolding decode
    reached f key count bytes =
        sym (all_run f key bytes count (decode ws bs).slots (count_in ws) (region nodes_place nodes_words ws) (meant n (decode ws bs)) at (found_place n ws bs at found) found.live
        (depth_at (region nodes_place nodes_words ws) at) (run_end ws at) refl refl (controls_in ws))

    pub ran : (c : ControlCommand) (h : Change) (f : ControlValue → ControlValue) (key : Key) (count : ℕ) (bytes : List ℕ) (q : Refusal) (b : Bool) (a : Answer) (ws' : List ℕ)
        → answer_in (command.Controls c) bytes (decode ws bs) 0 ≡ four_checks (node_check n (decode ws bs)) q b (no_controls key count bytes n (decode ws bs)) (past_name key count bytes n (decode ws bs))
        → control_effect c bytes (decode ws bs) ≡ changed f n key count bytes (decode ws bs)
        → change_of h ≡ f → b ≡ false → Changed h key count bytes at ws bs a ws' → Steps c bytes ws bs a ws'
    ran c h f key count bytes q b a ws' e does same fine changes = record {
      answers =
          changes.answers
          ∙ sym (ap (done_or {A = Unit {0}}) (asked_here key count bytes))
          ∙ sym (last-two (node_check n (decode ws bs)) q b (no_controls key count bytes n (decode ws bs)) (past_name key count bytes n (decode ws bs)) (found.passes bs) fine)
          ∙ sym e;
      words =
          changes.words
          ∙ ap (λ (l : List ℕ). pick (is_accepted a) l ws)
          (ap (λ (g : ControlValue → ControlValue). put_controls (run_changed g key count bytes at ws bs) ws) same
          ∙ ap (λ (l : List ℕ). put_controls l ws) (reached f key count bytes)
          ∙ ap (λ (x : Engine). put_controls x.controls ws) (sym does)
          ∙ sym (after c bytes ws bs));
    }

-- the rows of the table. `/n_set` and `/n_map` ask for one control, which is never past the width
module _ (n : NodeArgument) (key : Key) (bytes ws bs : List ℕ) where
  pub fill_row : (count : ℕ) (value : Value)
      → answer_in (command.Controls (controls.Fill n key count value)) bytes (decode ws bs) 0
      ≡ four_checks (node_check n (decode ws bs)) BadValue (not (in_bounds value)) (no_controls key count bytes n (decode ws bs)) (past_name key count bytes n (decode ws bs))
  unfolding answer_in four_checks
  fill_row count value = refl

  pub set_row : (value : Value)
      → answer_in (command.Controls (controls.Set n key value)) bytes (decode ws bs) 0 ≡ answer_in (command.Controls (controls.Fill n key 1 value)) bytes (decode ws bs) 0
  unfolding answer_in
  set_row value =
      three_checks (node_check n (decode ws bs)) BadValue (not (in_bounds value)) (no_controls key 1 bytes n (decode ws bs)) (past_name key 1 bytes n (decode ws bs))
      (one_there key bytes (decode ws bs).slots (node n (decode ws bs)))
      ∙ sym (fill_row 1 value)

  pub map_row : (bus : ℕ)
      → answer_in (command.Controls (controls.Map n key bus)) bytes (decode ws bs) 0
      ≡ four_checks (node_check n (decode ws bs)) NoBus (not (either (eqb bus minus_one) (is_bus bus))) (no_controls key 1 bytes n (decode ws bs)) (past_name key 1 bytes n (decode ws bs))
  unfolding answer_in
  map_row bus =
      three_checks (node_check n (decode ws bs)) NoBus (not (either (eqb bus minus_one) (is_bus bus))) (no_controls key 1 bytes n (decode ws bs)) (past_name key 1 bytes n (decode ws bs))
      (one_there key bytes (decode ws bs).slots (node n (decode ws bs)))

-- `/n_set` is `/n_fill` with a count of one
pub set_filled : (n : NodeArgument) (key : Key) (value : Value) (bytes ws bs : List ℕ) (a : Answer) (ws' : List ℕ)
    → Steps (controls.Fill n key 1 value) bytes ws bs a ws' → Steps (controls.Set n key value) bytes ws bs a ws'
unfolding words_after effect
set_filled n key value bytes ws bs a ws' s = record { answers = s.answers ∙ sym (set_row n key bytes ws bs value); words = s.words }

-- what each command comes to once its node is found and its value or bus is one
module _ (n : NodeArgument) (key : Key) (bytes ws bs : List ℕ) (at : ℕ) (found : NodeFound n ws at) (a : Answer) (ws' : List ℕ) where
  pub fill_ran : (count : ℕ) (value : Value) (p : ℕ) → pattern_of value ≡ Some p → Changed (change.Set p) key count bytes at ws bs a ws' → Steps (controls.Fill n key count value) bytes ws bs a ws'
  fill_ran count value p fact changes =
      let t = pattern_fact value p fact in
      ran n ws bs at found (controls.Fill n key count value) (change.Set p) (set_to (pattern value)) key count bytes BadValue (not (in_bounds value)) a ws'
      (fill_row n key bytes ws bs count value) refl (ap set_to (sym t.1)) (ap not t.0) changes

  pub map_ran : (bus : ℕ) → either (eqb bus minus_one) (is_bus bus) ≡ true → Changed (change.Map (mapping_to bus)) key 1 bytes at ws bs a ws' → Steps (controls.Map n key bus) bytes ws bs a ws'
  map_ran bus fine changes =
      ran n ws bs at found (controls.Map n key bus) (change.Map (mapping_to bus)) (map_to (mapping_to bus)) key 1 bytes NoBus (not (either (eqb bus minus_one) (is_bus bus))) a ws'
      (map_row n key bytes ws bs bus) refl refl (ap not fine) changes
