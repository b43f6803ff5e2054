-- Demand 2 of calls of every kind: a load among what they stand for, then an export.
use Rattle.std.specs.Prelude.{ℕ, Bool, true, false, ◌≡◌, refl}
use Rattle.std.proofs.Common.{sym, ◌∙◌}
use Rattle.std.proofs.Math.Path.{ap, subst}
use mathlib.Core.List.{List, [], ◌∷◌}
use Rattle.words.specs.Choice.{both}
use Rattle.format.specs.Reader.{read_file, version_in}
use Rattle.format.specs.Writer.{file_version, write_file}
use Rattle.model.specs.declared.Command.{Command}
use Rattle.model.specs.declared.Command.TheVariants as command
use Rattle.model.specs.declared.TreeCommand.{TreeCommand}
use Rattle.model.specs.declared.TreeCommand.TheVariants as tree
use Rattle.model.specs.declared.ControlCommand.{ControlCommand}
use Rattle.model.specs.declared.ControlCommand.TheVariants as controls
use Rattle.model.specs.Answers.{Done}
use Rattle.model.specs.Engine.{Engine}
use Rattle.model.specs.Checks.{definitions_of}
use Rattle.model.specs.Effects.{tree_effect, control_effect, effect}
use Rattle.model.specs.Replies.{export_file}
use Rattle.model.specs.Apply.{is_accepted}
use Rattle.model.specs.Chain.{State, engine_in, Call, Applied, Chain, left_by, Fresh}
use Rattle.model.specs.Demands.{meaning_in as definition_named, export, Exports}
use Rattle.demands.specs.ReloadTheorem.{exported_file, exported_same, accepted, meant_same}
use Rattle.demands.specs.Theorems.{demand1}
use Rattle.demands.specs.Loads.{exports, LoadsFresh, load_by, load_answer, load_left}
use Rattle.demands.specs.Session.{Made, Session, left_after, is_of_definitions, DefinitionsStay, Loads, Demand2OfCalls}
use Rattle.demands.specs.SessionTheorem.{chained, same_left, session_formed, formed_at_first}

-- a command that is none of definitions leaves the slots as they are
tree_slots : (c : TreeCommand) (bytes : List ℕ) (e : Engine) → (tree_effect c bytes e).slots ≡ e.slots
tree_slots (tree.NewSynth n action target) bytes e = refl
tree_slots (tree.NewGroup n action target) bytes e = refl
tree_slots (tree.Free node) bytes e = refl
tree_slots (tree.FreeAll group) bytes e = refl
tree_slots (tree.DeepFree group) bytes e = refl
tree_slots (tree.Before node place) bytes e = refl
tree_slots (tree.After node place) bytes e = refl
tree_slots (tree.Head group node) bytes e = refl
tree_slots (tree.Tail group node) bytes e = refl
tree_slots (tree.Run node flag) bytes e = refl

control_slots : (c : ControlCommand) (bytes : List ℕ) (e : Engine) → (control_effect c bytes e).slots ≡ e.slots
control_slots (controls.Set node key value) bytes e = refl
control_slots (controls.Fill node key count value) bytes e = refl
control_slots (controls.Map node key bus) bytes e = refl

effect_slots : (c : Command) (bytes : List ℕ) (e : Engine) → is_of_definitions c ≡ false → (effect c bytes e).slots ≡ e.slots
unfolding effect
effect_slots (command.Definitions c) bytes e h = cc
effect_slots (command.Tree c) bytes e h = tree_slots c bytes e
effect_slots (command.Controls c) bytes e h = control_slots c bytes e
effect_slots (command.Buses c) bytes e h = refl
effect_slots (command.Query q) bytes e h = refl

slots_stay : (cs : List Call) (s : State) → Chain cs s → DefinitionsStay cs → (engine_in (left_by cs s)).slots ≡ (engine_in s).slots
unfolding Chain left_by DefinitionsStay
slots_stay [] s a h = refl
slots_stay (c ∷ cs) s a h = slots_stay cs c.left a.1 h.1 ∙ by (is_accepted c.answer) refl h.0
  where
    by : (b : Bool) → is_accepted c.answer ≡ b → both b (is_of_definitions c.command) ≡ false → (engine_in c.left).slots ≡ (engine_in s).slots
    by true e k = ap (λ (x : Engine). x.slots) ((demand1 c s a.0).effected e) ∙ effect_slots c.command c.bytes (engine_in s) k
    by false e k = ap (λ (x : State). (engine_in x).slots) ((demand1 c s a.0).unchanged e).0

-- calls that load a file into a fresh engine
module _ (s : State) (f : Fresh s) (ms : List Made) (p : Session ms s) (file : List ℕ) (l : Loads file ms s) where
  chain : Chain (l.load ∷ l.later) s
  chain = subst (λ (cs : List Call). Chain cs s) l.first (chained ms s p)

  loads_fresh : LoadsFresh file l.load
  unfolding Chain
  loads_fresh = subst (λ (bytes : List ℕ). LoadsFresh bytes l.load) l.bytes (load_by l.load s f l.receives chain.0)

  slots_left : (engine_in (left_after ms s)).slots ≡ (engine_in l.load.left).slots
  unfolding Chain left_by
  slots_left =
      ap (λ (t : State). (engine_in t).slots) (sym (same_left ms s p) ∙ ap (λ (cs : List Call). left_by cs s) l.first)
      ∙ slots_stay l.later l.load.left chain.1 l.stay

  module _ (h : l.load.answer ≡ Done) where
    export_left : export_file (engine_in (left_after ms s)).slots ≡ write_file (definitions_of (read_file file))
    export_left =
        ap export_file (slots_left ∙ ap (λ (e : Engine). e.slots) (load_left file l.load loads_fresh h))
        ∙ exported_file file loads_fresh.lent_bytes (sym (load_answer file l.load loads_fresh) ∙ h)

    same_file : version_in file ≡ file_version → write_file (definitions_of (read_file file)) ≡ file
    same_file v = exported_same file loads_fresh.lent_bytes (sym (load_answer file l.load loads_fresh) ∙ h) v

    exports_left : (next : Call) → next.command ≡ export → Applied next (left_after ms s) → Exports (write_file (definitions_of (read_file file))) next
    exports_left next is a = subst (λ (x : List ℕ). Exports x next) export_left (exports next (left_after ms s) (session_formed ms s (formed_at_first s f) p) is a)

-- the definition that a name means is one of the slots
named_by_slots : (name : List ℕ) (d e : Engine) → d.slots ≡ e.slots → definition_named name d ≡ definition_named name e
named_by_slots name d e h = rw h

-- Demand 2 of commands, messages, lists and questions in any mixture
pub demand2_of_calls : Demand2OfCalls
demand2_of_calls = record {
  exported = λ s f ms p file l h next is a. exports_left s f ms p file l h next is a;
  same = λ s f ms p file l h v next is a. subst (λ (x : List ℕ). Exports x next) (same_file s f ms p file l h v) (exports_left s f ms p file l h next is a);
  loaded = λ s f ms p c is a.
      let t = left_after ms s in
      let whole = session_formed ms s (formed_at_first s f) p in
      record {
        file = export_file (engine_in t).slots;
        exports = exports c t whole is a;
        loads = λ t' f' ms' p' l.
            let d = loads_fresh t' f' ms' p' (export_file (engine_in t).slots) l in
            let h : l.load.answer ≡ Done = load_answer _ l.load d ∙ accepted t.words t.arena a.lent_arena whole in (
              h,
              λ name.
                  named_by_slots name (engine_in (left_after ms' t')) (engine_in l.load.left) (slots_left t' f' ms' p' (export_file (engine_in t).slots) l)
                  ∙ ap (λ (e : Engine). definition_named name e) (load_left _ l.load d h)
                  ∙ meant_same t.words t.arena a.lent_arena whole name,
            );
      };
}
