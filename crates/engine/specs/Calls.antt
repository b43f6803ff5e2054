-- What calls from another language answer and leave.
use Rattle.std.specs.Prelude.{ℕ, Bool, true, false, ◌≡◌, List, eqb, None, Option, Some}
use Rattle.words.specs.Choice.{either}
use Rattle.values.specs.declared.NodeArgument.{NodeArgument}
use Rattle.model.specs.declared.Command.{Command}
use Rattle.model.specs.Answers.{Answer}
use Rattle.model.specs.Apply.{Does, Freshly}
use Rattle.model.specs.Demands.{refusal_in}
use Rattle.messages.specs.Table.{Given}
use Rattle.messages.specs.Write.{Writes}
use Rattle.messages.specs.Sent.{Sends}
use Rattle.lists.specs.OneByOne.{Outcome, Lists, list_number}
use Rattle.settings.specs.Settings.{Saved, Saves, Drops}
use Rattle.settings.specs.Recalling.{Recalls}
use Rattle.settings.specs.Numbers.{saved_number}
use Rattle.calls.specs.Numbers.{call_number, no_command}
use Rattle.calls.specs.Ops.{recall}

-- a fresh engine, and the answer as a number
pub record Made (ws bs : List ℕ) (r : ℕ) (ws' bs' : List ℕ) : Type 0 where
  pub answer : Answer
  pub number : r ≡ call_number answer
  pub made : Freshly ws bs answer ws' bs'

-- a command: what it does, and its answer as a number
pub record Answered (c : Command) (bytes ws bs out : List ℕ) (r : ℕ) (ws' bs' out' : List ℕ) : Type 0 where
  pub answer : Answer
  pub number : r ≡ call_number answer
  pub does : Does c bytes ws bs out answer ws' bs' out'

-- an `op` that is no command's answers 255 and changes nothing
pub record Unknown (ws bs out : List ℕ) (r : ℕ) (ws' bs' out' : List ℕ) : Type 0 where
  pub number : r ≡ no_command
  pub words : ws' ≡ ws
  pub arena : bs' ≡ bs
  pub reply : out' ≡ out

abbrev pub Called : Option Command → (bytes ws bs out : List ℕ) (r : ℕ) (ws' bs' out' : List ℕ) → Type 0
Called (Some c) bytes ws bs out r ws' bs' out' = Answered c bytes ws bs out r ws' bs' out'
Called None bytes ws bs out r ws' bs' out' = Unknown ws bs out r ws' bs' out'

-- a message: what it does, and its answer as a number
pub record Sent (message ws bs out : List ℕ) (r : ℕ) (ws' bs' out' : List ℕ) : Type 0 where
  pub answer : Answer
  pub number : r ≡ call_number answer
  pub sends : Sends message ws bs out answer ws' bs' out'

-- a list of commands: what it does, and what it ends in as a number
pub record Listed (items bytes ws bs : List ℕ) (r : ℕ) (ws' bs' : List ℕ) : Type 0 where
  pub outcome : Outcome
  pub number : r ≡ list_number outcome
  pub lists : Lists items bytes ws bs outcome ws' bs'

-- a command written as a message, and the answer as a number
pub record AnsweredAs (g : Given) (out : List ℕ) (r : ℕ) (out' : List ℕ) : Type 0 where
  pub answer : Answer
  pub number : r ≡ call_number answer
  pub writes : Writes g out answer out'

-- an `op` that is none, or a value's kind that is none, answers 255, and nothing is written; the writer judges a recall too, which is no command of
-- a call by numbers
abbrev pub is_call : Option Command → Bool
is_call (Some c) = true
is_call None = false

abbrev pub is_written : ℕ → Option Command → Bool
is_written op p = either (eqb op recall) (is_call p)

pub record Unwritten (out : List ℕ) (r : ℕ) (out' : List ℕ) : Type 0 where
  pub number : r ≡ no_command
  pub left : out' ≡ out

abbrev pub Wrote : Bool → (g : Given) (out : List ℕ) (r : ℕ) (out' : List ℕ) → Type 0
Wrote true g out r out' = AnsweredAs g out r out'
Wrote false g out r out' = Unwritten out r out'

-- a save: what it answers as a number, and what it does
pub record Stored (a : NodeArgument) (ws bs store : List ℕ) (r : ℕ) (store' : List ℕ) : Type 0 where
  pub saved : Saved
  pub number : r ≡ saved_number saved
  pub saves : Saves a ws bs store saved store'

-- a recall and a drop: the number of the refusal, 0 where there is none
pub record Recalled (name : List ℕ) (version : ℕ) (a : NodeArgument) (store ws bs : List ℕ) (r : ℕ) (ws' : List ℕ) : Type 0 where
  pub answer : Answer
  pub number : r ≡ refusal_in answer
  pub recalls : Recalls name version a store ws bs answer ws'

pub record Dropped (name : List ℕ) (version : ℕ) (store : List ℕ) (r : ℕ) (store' : List ℕ) : Type 0 where
  pub answer : Answer
  pub number : r ≡ refusal_in answer
  pub drops : Drops name version store answer store'
