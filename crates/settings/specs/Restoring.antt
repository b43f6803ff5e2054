-- What a save stores, what a recall makes of it, and what saves and drops leave of a store: paper 02, 8/14. "what a save stored a recall sets, bit
-- for bit and unmapped, into a synth of the same definition, all other controls as they were".
use Rattle.std.specs.Prelude.{ℕ, ◌+◌, true, false, ◌≡◌, List, [], ◌∷◌, ◌++◌, length, Ok, Err}
use Rattle.std.proofs.Math.Option.{Option, none, some}
use Rattle.words.specs.Choice.{pick}
use Rattle.format.specs.Definition.{ParameterName, Definition}
use Rattle.format.specs.Names.{name_for}
use Rattle.format.specs.Reader.{same_name, among}
use Rattle.nodes.specs.Place.{is_group}
use Rattle.values.specs.declared.NodeArgument.{NodeArgument}
use Rattle.values.specs.declared.Mapping.TheVariants.{Unmapped}
use Rattle.values.specs.Controls.{ControlValue}
use Rattle.model.specs.Engine.{decode, definition_of, controls_of}
use Rattle.model.specs.Answers.{Done}
use Rattle.model.specs.Meaning.{known, node}
use Rattle.model.specs.Formed.{formed}
use Rattle.model.specs.View.{synth}
use Rattle.lists.specs.OneByOne.{lent_state}
use Rattle.store.specs.Store.{Setting, Entry, store_formed, entries_of}
use Rattle.store.specs.Writing.{version_in}
use Rattle.settings.specs.Settings.{Saved, name_of, settings_of, recall_answer}
use Rattle.settings.specs.Recalling.{stored, setting_lines, all_sent, recall_calls}
use Rattle.settings.specs.PlainRecall.{recall_kind}
use Rattle.settings.specs.Versions.{StoreCall, saves, drops}

-- the synth that an argument names: its definition, its controls, and the name and the settings that a save takes from it
abbrev pub own_definition : NodeArgument → List ℕ → List ℕ → Definition
own_definition a ws bs = definition_of (decode ws bs).slots (node a (decode ws bs))

abbrev pub own_controls : NodeArgument → List ℕ → List ℕ → List ControlValue
own_controls a ws bs = controls_of (decode ws bs).slots (decode ws bs).controls (node a (decode ws bs))

abbrev pub own_name : NodeArgument → List ℕ → List ℕ → List ℕ
own_name a ws bs = name_of (node a (decode ws bs)) (decode ws bs)

abbrev pub own_settings : NodeArgument → List ℕ → List ℕ → List Setting
own_settings a ws bs = settings_of (node a (decode ws bs)) (decode ws bs)

-- a control whose saved one had a name has that one's own float, unmapped; any other stays as it was
abbrev pub restored_by : Option (List ℕ) → ControlValue → ControlValue → ControlValue
restored_by none was now = now
restored_by (some name) was now = record { own = was.own; mapping = Unmapped }

-- .. of the controls from an index on
unfoldable pub restored : ℕ → List ParameterName → List ControlValue → List ControlValue → List ControlValue
restored i names [] ks = ks
restored i names (c ∷ cs) [] = []
restored i names (c ∷ cs) (k ∷ ks) = restored_by (name_for i names) c k ∷ restored (i + 1) names cs ks

-- after a save that answered a version: the store is formed, and that version of the synth's name holds exactly what the save took; a recall of it
-- into any synth of a well-formed state is accepted and stands for those settings; and into a synth of the same definition it restores the controls,
-- whatever they are now
pub record SaveRecalled (a : NodeArgument) (ws bs : List ℕ) (version : ℕ) (store' : List ℕ) : Type 0 where
  pub stays : store_formed store' ≡ true
  pub holds : version_in (own_name a ws bs) version (entries_of store') ≡ some (record { number = version; settings = own_settings a ws bs })
  pub recalls : (b : NodeArgument) (vs cs : List ℕ) → formed vs cs ≡ true → known b (decode vs cs) ≡ true → is_group (node b (decode vs cs)) ≡ false
      → (recall_answer (own_name a ws bs) version b store' vs cs ≡ Done)
      × (recall_calls (own_name a ws bs) version b store' (lent_state vs cs) ≡ all_sent (setting_lines b (own_settings a ws bs)) (lent_state vs cs))
  pub sets : (ks : List ControlValue) → length ks ≡ length (own_definition a ws bs).front.values
      → recall_kind (stored (own_name a ws bs) version store') (synth (own_definition a ws bs) ks)
      ≡ synth (own_definition a ws bs) (restored 0 (own_definition a ws bs).front.names (own_controls a ws bs) ks)

-- "save and drop leave every other name and version as they were": all but one version of a name
abbrev pub LeavesOthers : List ℕ → ℕ → List ℕ → List ℕ → Type 0
LeavesOthers name number store store' =
    (other : List ℕ) (k : ℕ) → (same_name name other ≡ true → number ≡ k → ⊥) → version_in other k (entries_of store') ≡ version_in other k (entries_of store)

-- "names by first save": the names of a store's entries, and those after calls in a row
unfoldable pub entry_names : List Entry → List (List ℕ)
entry_names [] = []
entry_names (e ∷ es) = e.name ∷ entry_names es

abbrev pub with_name : List ℕ → List (List ℕ) → List (List ℕ)
with_name name names = pick (among name names) names (names ++ (name ∷ []))

abbrev pub names_saved : List ℕ → Saved → List (List ℕ) → List (List ℕ)
names_saved own (Ok v) names = with_name own names
names_saved own (Err r) names = names

abbrev pub names_after : StoreCall → List (List ℕ) → List (List ℕ)
names_after (saves a ws bs r store') names = names_saved (own_name a ws bs) r names
names_after (drops name number r store') names = names

unfoldable pub first_saved : List StoreCall → List (List ℕ) → List (List ℕ)
first_saved [] names = names
first_saved (c ∷ cs) names = first_saved cs (names_after c names)
