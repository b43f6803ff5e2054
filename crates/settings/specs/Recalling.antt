-- A recall, as the commands that it stands for: paper 02, 8/14, "sets, in stored order, as `/n_set` does by name in the synth's own definition and
-- skips names it lacks".
use Rattle.std.specs.Prelude.{ℕ, ◌≡◌, List, [], ◌∷◌}
use Rattle.std.proofs.Math.Option.{Option, none, some}
use Rattle.words.specs.Choice.{pick}
use Rattle.words.specs.Bytes.{AreBytes}
use Rattle.values.specs.declared.Key.TheVariants.{Name}
use Rattle.values.specs.declared.Value.TheVariants.{Float}
use Rattle.values.specs.declared.NodeArgument.{NodeArgument}
use Rattle.model.specs.declared.ControlCommand.TheVariants as controls
use Rattle.model.specs.declared.Command.TheVariants as command
use Rattle.model.specs.Answers.{Answer}
use Rattle.model.specs.Apply.{is_accepted}
use Rattle.model.specs.Chain.{State, Call, Chain, left_by}
use Rattle.model.specs.Script.{Line, line}
use Rattle.lists.specs.OneByOne.{sent, after, lent_state}
use Rattle.store.specs.Store.{Setting, Version, entries_of}
use Rattle.store.specs.Writing.{version_in}
use Rattle.settings.specs.Settings.{recall_answer}

-- the settings of a version, none where there is no such version
abbrev pub settings_by : Option Version → List Setting
settings_by none = []
settings_by (some v) = v.settings

abbrev pub stored : List ℕ → ℕ → List ℕ → List Setting
stored name number store = settings_by (version_in name number (entries_of store))

-- a setting set: `/n_set` by name
abbrev pub setting_line : NodeArgument → Setting → Line
setting_line a c = line (command.Controls (controls.Set a Name (Float c.float))) c.name

unfoldable pub setting_lines : NodeArgument → List Setting → List Line
setting_lines a [] = []
setting_lines a (c ∷ cs) = setting_line a c ∷ setting_lines a cs

-- commands one by one, going on past those that are refused
unfoldable pub all_sent : List Line → State → List Call
all_sent [] s = []
all_sent (l ∷ ls) s = sent l s ∷ all_sent ls (after l s)

-- the calls that a recall stands for: none where it is refused. "The state check is made once."
abbrev pub recall_calls : List ℕ → ℕ → NodeArgument → List ℕ → State → List Call
recall_calls name number a store s =
    pick (is_accepted (recall_answer name number a store s.words s.arena)) (all_sent (setting_lines a (stored name number store)) s) []

-- a recall on the lent words, with the arena and the store lent to be read: its answer, and the words that its calls leave, each of them a call as
-- `engine::apply` promises it
pub record Recalls (name : List ℕ) (number : ℕ) (a : NodeArgument) (store ws bs : List ℕ) (r : Answer) (ws' : List ℕ) : Type 0 where
  pub answers : r ≡ recall_answer name number a store ws bs
  pub words : ws' ≡ (left_by (recall_calls name number a store (lent_state ws bs)) (lent_state ws bs)).words
  pub arena : bs ≡ (left_by (recall_calls name number a store (lent_state ws bs)) (lent_state ws bs)).arena
  pub chain : Chain (recall_calls name number a store (lent_state ws bs)) (lent_state ws bs)
  pub lent_arena : AreBytes bs
