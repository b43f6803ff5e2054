-- A recall on the engine and on the plain tree that is kept with it: each `/n_set` changes the plain tree as that setting does, whether it is accepted
-- or the synth lacks its name; and the settings one by one are the recall.
use Rattle.std.specs.Prelude.{ℕ, ◌+◌, ◌*◌, min, Bool, true, false, not, ◌≡◌, List, [], ◌∷◌, length, drop}
use Rattle.std.proofs.Math.Path.{refl, ap}
use Rattle.std.proofs.Common.{sym, ap₂, ◌∙◌, subst, arith, leb-false, take-append-drop}
use Rattle.std.proofs.Math.Option.{Option, none, some}
use Rattle.std.proofs.lemmas.Bool.{not-true}
use Rattle.words.specs.Choice.{pick, both}
use Rattle.refusals.specs.declared.Refusal.TheVariants.{NoControl}
use Rattle.format.specs.Definition.{Definition}
use Rattle.format.specs.Names.{Covered}
use Rattle.nodes.specs.declared.Node.{Node}
use Rattle.nodes.specs.Place.{is_group}
use Rattle.nodes.specs.Forest.{Forest}
use Rattle.values.specs.declared.Key.TheVariants.{Name}
use Rattle.values.specs.declared.Value.TheVariants.{Float}
use Rattle.values.specs.declared.NodeArgument.{NodeArgument}
use Rattle.values.specs.Controls.{ControlValue}
use Rattle.values.specs.Values.{in_bounds, pattern}
use Rattle.model.specs.declared.ControlCommand.TheVariants as controls
use Rattle.model.specs.declared.Command.{Command}
use Rattle.model.specs.declared.Command.TheVariants as command
use Rattle.model.specs.Answers.{Done, Refused}
use Rattle.model.specs.Layout.{row_words}
use Rattle.model.specs.Engine.{Engine, definition_of, controls_of}
use Rattle.model.specs.View.{Kind, group, synth, PlainNode, view_of}
use Rattle.model.specs.Meaning.{meant, known, node, cover_of, has_controls}
use Rattle.model.specs.Checks.{first_of, no_controls}
use Rattle.model.specs.Apply.{answer_in, is_accepted}
use Rattle.model.specs.Plain.{Plain, if_some, and_then, only_if, is_group_node, node_in, named_in, not_negative, has_asked, change_kind, change_below, change_from, step, after}
use Rattle.model.specs.Plain as plain
use Rattle.refinement.specs.Kept.{Kept, group_kind, same_meant}
use Rattle.refinement.specs.Same.{number, found}
use Rattle.refinement.specs.RowChange.{controls_many}
use Rattle.refinement.specs.Widths.{Inside, cover_inside, change_in, same_change}
use Rattle.store.specs.Store.{Setting, Version, Entry, entries_of}
use Rattle.store.specs.Writing.{version_in}
use Rattle.settings.specs.Recalling.{settings_by, stored}
use Rattle.settings.specs.PlainRecall.{recall_kind, recall_node, step_recall}
use Rattle.settings.specs.RecallLaws.{RecallAccepted}
use Rattle.settings.specs.PlainLaws.{PlainLeaves, leaves_seen, changed-twice, changed_same}

-- a setting as a command
abbrev pub set_command : NodeArgument → Setting → Command
set_command a c = command.Controls (controls.Set a Name (Float c.float))

-- controls of which none is covered
uncovered : (f : ControlValue → ControlValue) (d : Definition) (o : Option Covered) (cs : List ControlValue) → Inside (length d.front.values) o → has_controls o 1 d ≡ false
    → change_in f o 1 cs ≡ cs
uncovered f d none cs within lacks = refl
uncovered f d (some c) cs within lacks =
    let past = leb-false (c.index + 1) (length d.front.values) lacks in
    let nothing : min 1 c.width ≡ 0 = omega arith in
    ap (λ (n : ℕ). change_from f c.index n cs) nothing ∙ take-append-drop c.index cs

-- settings one behind the other
pub recall_more : (c : Setting) (cs : List Setting) (n : ℕ) (p : Plain) → change_below (recall_node cs) n (change_below (recall_node (c ∷ [])) n p) ≡ change_below (recall_node (c ∷ cs)) n p
unfolding recall_kind
recall_more c cs n p =
    ap (λ (f : Forest PlainNode). record { tree = f; names = p.names; next = p.next; latest = p.latest; buses = p.buses })
    (changed-twice (recall_node (c ∷ [])) (λ x. refl) n (recall_node cs) p.tree)

-- a synth that an argument names
module _ (e : Engine) (p : Plain) (k : Kept e p) (a : NodeArgument) (there : known a e ≡ true) (kind : is_group (node a e) ≡ false) where
  abbrev n : ℕ
  n = meant a e

  abbrev look : Node → PlainNode
  look = view_of e.slots e.controls

  abbrev x : PlainNode
  x = look (node a e)

  abbrev d : Definition
  d = definition_of e.slots (node a e)

  abbrev values : List ControlValue
  values = controls_of e.slots e.controls (node a e)

  named : named_in a p ≡ some x
  named = found e p k a there

  numbered : node_in n p.tree ≡ some x
  numbered = sym (ap (λ (o : Option ℕ). and_then o (λ m. node_in m p.tree)) (same_meant a e p k there)) ∙ named

  no_group : is_group_node x ≡ false
  no_group = group_kind e.slots e.controls (node a e) ∙ kind

  leaves : PlainLeaves p.tree
  leaves = subst PlainLeaves (sym k.tree) (leaves_seen look (λ y. group_kind e.slots e.controls y) k.forest k.leaves)

  -- a change that leaves the synth as it is
  stays_so : (g : PlainNode → PlainNode) → g x ≡ x → change_below g n p ≡ p
  stays_so g same =
      ap (λ (f : Forest PlainNode). record { tree = f; names = p.names; next = p.next; latest = p.latest; buses = p.buses })
      (changed_same g n x no_group same p.tree leaves numbered)

  pub recall_nothing : change_below (recall_node []) n p ≡ p
  unfolding recall_kind
  recall_nothing = stays_so (recall_node []) refl

  kind_is : x.kind ≡ synth d values
  kind_is = ap (λ (b : Bool). pick b group (synth d values)) kind

  many : length values ≡ length d.front.values
  many = controls_many (length d.front.values) (drop (row_words * (node a e).row) e.controls)

  module _ (c : Setting) where
    -- a name that the synth lacks
    kept_kind : has_controls (cover_of Name c.name d) 1 d ≡ false → change_kind (plain.stored c.float) Name c.name 1 x.kind ≡ x.kind
    kept_kind lacks =
        ap (λ (y : Kind). change_kind (plain.stored c.float) Name c.name 1 y) kind_is
        ∙ ap (λ (l : List ControlValue). synth d l)
        (same_change (plain.stored c.float) Name c.name 1 d values many
        ∙ uncovered (plain.stored c.float) d (cover_of Name c.name d) values (cover_inside Name c.name d) lacks)
        ∙ sym kind_is

    skipped : has_controls (cover_of Name c.name d) 1 d ≡ false → change_below (recall_node (c ∷ [])) n p ≡ p
    unfolding recall_kind
    skipped lacks = stays_so (recall_node (c ∷ [])) (ap (λ (y : Kind). record { number = x.number; run = x.run; kind = y }) (kept_kind lacks))

    answered : answer_in (set_command a c) c.name e 0 ≡ pick (no_controls Name 1 c.name a e) (Refused NoControl) Done
    unfolding answer_in first_of in_bounds
    answered = rw there

    lacked : no_controls Name 1 c.name a e ≡ true → has_controls (cover_of Name c.name d) 1 d ≡ false
    lacked h = not-true (has_controls (cover_of Name c.name d) 1 d) (rw kind at h)

    refused : is_accepted (answer_in (set_command a c) c.name e 0) ≡ false → change_below (recall_node (c ∷ [])) n p ≡ p
    refused h = go (no_controls Name 1 c.name a e) refl (sym (ap is_accepted answered) ∙ h)
      where
        go : (b : Bool) → no_controls Name 1 c.name a e ≡ b → is_accepted (pick b (Refused NoControl) Done) ≡ false → change_below (recall_node (c ∷ [])) n p ≡ p
        go true h q = skipped (lacked h)
        go false h q = let z : ◌≡◌ {A = Bool} true false = q in cc

    -- a name that it has
    stepped : step (set_command a c) c.name p
        ≡ only_if (both (not_negative Name 1) (has_asked Name c.name 1 x.kind)) (change_below (recall_node (c ∷ [])) n p)
    unfolding step in_bounds pattern recall_kind
    stepped =
        ap (λ (o : Option PlainNode). and_then o (λ y. only_if (both (not_negative Name 1) (has_asked Name c.name 1 y.kind)) (change_below (recall_node (c ∷ [])) y.number p))) named
        ∙ ap (λ (m : ℕ). only_if (both (not_negative Name 1) (has_asked Name c.name 1 x.kind)) (change_below (recall_node (c ∷ [])) m p)) (number e p k a there)

    only_some : (b : Bool) (y q : Plain) → only_if b y ≡ some q → q ≡ y
    only_some true y q h = ap (λ (o : Option Plain). if_some o (λ z. z) y) (sym h)
    only_some false y q h = cc

    -- the plain tree after the command
    pub setting-fed : (b : Bool) → is_accepted (answer_in (set_command a c) c.name e 0) ≡ b → (q : Plain) → after (set_command a c) c.name b p ≡ some q
        → q ≡ change_below (recall_node (c ∷ [])) n p
    setting-fed true h q s =
        only_some (both (not_negative Name 1) (has_asked Name c.name 1 x.kind)) (change_below (recall_node (c ∷ [])) n p) q (sym stepped ∙ s)
    setting-fed false h q s = ap (λ (o : Option Plain). if_some o (λ z. z) p) (sym s) ∙ sym (refused h)

  -- the plain tree reads the store itself
  pub recall-fed : (name : List ℕ) (i : ℕ) (store : List ℕ) → RecallAccepted name i a store e
      → step_recall name i a store p ≡ some (change_below (recall_node (stored name i store)) n p)
  recall-fed name i store r =
      ap (λ (b : Bool). and_then (pick b (some (entries_of store)) none) (λ (es : List Entry). and_then (version_in name i es) (λ (v : Version). set_by v))) r.read
      ∙ ap (λ (o : Option Version). and_then o (λ (v : Version). set_by v)) r.there
      ∙ ap (λ (o : Option PlainNode). and_then o (λ (y : PlainNode). set_in r.version y)) named
      ∙ ap₂ (λ (b : Bool) (m : ℕ). only_if (not b) (change_below (recall_node r.version.settings) m p)) no_group (number e p k a there)
      ∙ ap (λ (o : Option Version). some (change_below (recall_node (settings_by o)) n p)) (sym r.there)
    where
      set_in : Version → PlainNode → Option Plain
      set_in v y = only_if (not (is_group_node y)) (change_below (recall_node v.settings) y.number p)

      set_by : Version → Option Plain
      set_by v = and_then (named_in a p) (λ (y : PlainNode). set_in v y)
