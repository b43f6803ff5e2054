-- Saved settings at the engine: paper 02, 8/14. What a save takes from a synth, and the checks of a save, a recall and a drop in the paper's order.
use Rattle.std.specs.Prelude.{ℕ, ◌+◌, ◌<◌, Bool, true, false, not, ◌≡◌, List, [], ◌∷◌, ◌++◌, length, get_or, leb, Ok, Err, Result}
use Rattle.std.proofs.Math.Option.{Option, none, some}
use Rattle.words.specs.Choice.{pick}
use Rattle.words.specs.Bytes.{AreBytes}
use Rattle.refusals.specs.declared.Refusal.{Refusal}
use Rattle.refusals.specs.declared.Refusal.TheVariants.{BadState, WrongKind, VersionsFull, StoreUnformed, NoVersion, StoreFull}
use Rattle.format.specs.Definition.{ParameterName}
use Rattle.format.specs.Names.{name_for}
use Rattle.nodes.specs.declared.Node.{Node}
use Rattle.nodes.specs.Place.{is_group}
use Rattle.values.specs.declared.NodeArgument.{NodeArgument}
use Rattle.values.specs.Controls.{ControlValue}
use Rattle.model.specs.declared.Denied.TheVariants as denied
use Rattle.model.specs.Answers.{Answer}
use Rattle.model.specs.Answers.{Done, Refused}
use Rattle.model.specs.Engine.{Engine, decode, definition_of, controls_of}
use Rattle.model.specs.Meaning.{node}
use Rattle.model.specs.Formed.{formed}
use Rattle.model.specs.Checks.{Check, check, first_of, node_check}
use Rattle.model.specs.Apply.{is_accepted}
use Rattle.store.specs.Store.{Setting, most_versions, store_formed, entries_of}
use Rattle.store.specs.Writing.{laid, saved, dropped, version_in, versions_for, highest_for, no_room_for}

-- what a save answers: the new version, or its refusal
abbrev pub Saved : Type 0
Saved = Result ℕ Refusal

abbrev pub setting_by : Option (List ℕ) → ℕ → List Setting
setting_by none float = []
setting_by (some name) float = record { name = name; float = float } ∷ []

-- "Save takes a synth's own floats", "each with its tag 3s in index order": of the controls from an index on
unfoldable pub settings_from : ℕ → List ParameterName → List ControlValue → List Setting
settings_from i names [] = []
settings_from i names (c ∷ cs) = setting_by (name_for i names) c.own ++ settings_from (i + 1) names cs

-- what a save takes from a synth, and the name that it stands under: that of the synth's own definition
abbrev pub settings_of : Node → Engine → List Setting
settings_of r e = settings_from 0 (definition_of e.slots r).front.names (controls_of e.slots e.controls r)

abbrev pub name_of : Node → Engine → List ℕ
name_of r e = (definition_of e.slots r).front.name

-- "Order: save 1, 31, 17, 18, 30, 33; recall 1, 31, 17, 18, 32; drop 31, 32."
abbrev pub store_check : List ℕ → Check
store_check store = check StoreUnformed (not (store_formed store))

abbrev pub synth_check : NodeArgument → Engine → Check
synth_check a e = check WrongKind (is_group (node a e))

abbrev pub is_none : {A : Type 0} → Option A → Bool
is_none none = true
is_none (some x) = false

abbrev pub version_check : List ℕ → ℕ → List ℕ → Check
version_check name number store = check NoVersion (is_none (version_in name number (entries_of store)))

abbrev pub save_checks : NodeArgument → List ℕ → Engine → List Check
save_checks a store e =
    store_check store
    ∷ (node_check a e
    ∷ (synth_check a e
    ∷ (check VersionsFull (leb most_versions (length (versions_for (name_of (node a e) e) (entries_of store))))
    ∷ (check StoreFull (no_room_for (name_of (node a e) e) (settings_of (node a e) e) (length store) (entries_of store))
    ∷ []))))

abbrev pub recall_checks : List ℕ → ℕ → NodeArgument → List ℕ → Engine → List Check
recall_checks name number a store e = store_check store ∷ (node_check a e ∷ (synth_check a e ∷ (version_check name number store ∷ [])))

abbrev pub drop_checks : List ℕ → ℕ → List ℕ → List Check
drop_checks name number store = store_check store ∷ (version_check name number store ∷ [])

-- "1 comes first", of a save and a recall; a drop asks nothing of the engine
abbrev pub behind_state : Bool → Answer → Answer
behind_state whole a = pick whole a (Refused BadState)

unfoldable pub save_judged : NodeArgument → List ℕ → List ℕ → List ℕ → Answer
save_judged a ws bs store = behind_state (formed ws bs) (first_of (save_checks a store (decode ws bs)) Done)

unfoldable pub recall_answer : List ℕ → ℕ → NodeArgument → List ℕ → List ℕ → List ℕ → Answer
recall_answer name number a store ws bs = behind_state (formed ws bs) (first_of (recall_checks name number a store (decode ws bs)) Done)

unfoldable pub drop_answer : List ℕ → ℕ → List ℕ → Answer
drop_answer name number store = first_of (drop_checks name number store) Done

-- a save "answers the new version": the highest ever given for the name, and one more
abbrev pub saved_by : Answer → ℕ → Saved
saved_by (Ok x) version = Ok version
saved_by (Err (denied.Refused r)) version = Err r
saved_by (Err (denied.RefusedAt r at)) version = Err BadState

-- what is lent as words has 32 bits, and what is lent as bytes is bytes
abbrev pub AreWords : List ℕ → Type 0
AreWords ws = (i : ℕ) → get_or ws i 0 < 4294967296

pub record Lent (ws bs : List ℕ) : Type 0 where
  pub words : AreWords ws
  pub arena : AreBytes bs

-- a save of the node that an argument names, in a lent state and a lent store: its answer, and the store afterwards. What is lent as bytes is bytes
pub record Saves (a : NodeArgument) (ws bs store : List ℕ) (r : Saved) (store' : List ℕ) : Type 0 where
  pub answers : r ≡ saved_by (save_judged a ws bs store) (highest_for (name_of (node a (decode ws bs)) (decode ws bs)) (entries_of store) + 1)
  pub kept : store'
      ≡ pick (is_accepted (save_judged a ws bs store))
      (laid (length store) (saved (name_of (node a (decode ws bs)) (decode ws bs)) (settings_of (node a (decode ws bs)) (decode ws bs)) (entries_of store)))
      store
  pub lent_store : AreBytes store
  pub lent : Lent ws bs

-- a drop of a version
pub record Drops (name : List ℕ) (number : ℕ) (store : List ℕ) (a : Answer) (store' : List ℕ) : Type 0 where
  pub answers : a ≡ drop_answer name number store
  pub kept : store' ≡ pick (is_accepted (drop_answer name number store)) (laid (length store) (dropped name number (entries_of store))) store
  pub lent_store : AreBytes store
