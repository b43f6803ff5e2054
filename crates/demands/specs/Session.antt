-- Calls of every kind in a row, commands, messages, lists, questions why, recalls and saves in any mixture, and what the demands say of them: paper
-- 02, 1/14, 5/14, 7/14 and 8/14. A message that is a command stands for that command; one that is refused with 26 or 27 stands for none. A list
-- "stands for the commands it tried, in order, or for none where it is refused with 34". A question why and a save stand for none. A recall stands
-- for its `/n_set`s by name, those that are refused among them, or for none where it is refused.
use Prim.{Unit}
use Rattle.std.specs.Prelude.{ℕ, Bool, true, false, ◌≡◌, List, [], ◌∷◌, ◌++◌, Ok, Err, None, Some, Result}
use Rattle.std.proofs.Math.Option.{Option, some}
use Rattle.words.specs.Choice.{pick, both}
use Rattle.refusals.specs.declared.Refusal.{Refusal}
use Rattle.refusals.specs.declared.Refusal.TheVariants.{BadState}
use Rattle.refusals.specs.Refusals.{number_of}
use Rattle.format.specs.Reader.{read_file, version_in}
use Rattle.format.specs.Writer.{file_version, write_file}
use Rattle.values.specs.declared.NodeArgument.{NodeArgument}
use Rattle.model.specs.declared.Command.{Command}
use Rattle.model.specs.declared.Command.TheVariants as commands
use Rattle.model.specs.Answers.{Answer}
use Rattle.model.specs.Answers.{Done, Refused}
use Rattle.model.specs.Checks.{definitions_of}
use Rattle.model.specs.Formed.{formed}
use Rattle.model.specs.Apply.{is_accepted, Does}
use Rattle.model.specs.Chain.{State, engine_in, Call, Applied, left_by, Fresh}
use Rattle.model.specs.Plain.{Plain, at_first, and_then}
use Rattle.model.specs.Demands.{meaning_in as definition_named, refusal_in, Ends, receive, export, Exports, replay, Demand3}
use Rattle.calls.specs.Numbers.{no_command}
use Rattle.messages.specs.Receive.{Meaning, means, meaning}
use Rattle.messages.specs.Sent.{Sends}
use Rattle.lists.specs.declared.Verdict.TheVariants.{Fit}
use Rattle.lists.specs.Lent.{verdict}
use Rattle.lists.specs.OneByOne.{Outcome, outcome_of, Lists}
use Rattle.lists.specs.OneByOne as lists
use Rattle.why.specs.declared.Reason.{Reason}
use Rattle.why.specs.Held.{why_told}
use Rattle.settings.specs.Settings.{Saved, recall_answer, Saves}
use Rattle.settings.specs.Recalling.{recall_calls, Recalls}
use Rattle.settings.specs.PlainRecall.{step_recall}

-- what a call of one command is given beside the state and the reply buffer
pub data Given : Type 0 where
  command : Command → List ℕ → Given
  message : List ℕ → Given

-- such a call as it was made: what it was given, the reply buffer that was lent; its answer, and the state and the buffer that it left
pub record One : Type 0 where
  pub given : Given
  pub out : List ℕ
  pub answer : Answer
  pub left : State
  pub reply : List ℕ

-- a call of a list as it was made: its items and its bytes; what it ended in, and the state that it left
pub record Listed : Type 0 where
  pub items : List ℕ
  pub bytes : List ℕ
  pub outcome : Outcome
  pub left : State

-- a question why as it was asked: its number; what was told, and the state that it left
pub record Asked : Type 0 where
  pub number : ℕ
  pub told : Result Reason Refusal
  pub left : State

-- a recall as it was made: the definition's name, the version, the node and the store's bytes; its answer, and the state that it left
pub record Recalled : Type 0 where
  pub name : List ℕ
  pub number : ℕ
  pub node : NodeArgument
  pub store : List ℕ
  pub answer : Answer
  pub left : State

-- a save as it was made: the node and the store; what it answered, and the store and the state that it left
pub record Stored : Type 0 where
  pub node : NodeArgument
  pub store : List ℕ
  pub saved : Saved
  pub kept : List ℕ
  pub left : State

pub data Made : Type 0 where
  one : One → Made
  list : Listed → Made
  why : Asked → Made
  recall : Recalled → Made
  save : Stored → Made

abbrev pub left_of : Made → State
left_of (one m) = m.left
left_of (list m) = m.left
left_of (why m) = m.left
left_of (recall m) = m.left
left_of (save m) = m.left

-- what `why::why` promises of a question in a state, which is lent to be read alone
pub record Tells (m : Asked) (s : State) : Type 0 where
  pub tells : m.told ≡ why_told m.number s.words s.arena
  pub left : m.left ≡ s

-- what `settings::recall` promises of a recall in a state, whose arena is lent to be read alone
pub record RecallsIn (m : Recalled) (s : State) : Type 0 where
  pub recalls : Recalls m.name m.number m.node m.store s.words s.arena m.answer m.left.words
  pub arena : m.left.arena ≡ s.arena

-- what `settings::save` promises of a save in a state, which is lent to be read alone
pub record SavesIn (m : Stored) (s : State) : Type 0 where
  pub saves : Saves m.node s.words s.arena m.store m.saved m.kept
  pub left : m.left ≡ s

-- what `engine::apply`, `engine::message` and `lists::list` promise of a call in a state
abbrev pub PromisedOf : Given → (ws bs out : List ℕ) (a : Answer) (ws' bs' out' : List ℕ) → Type 0
PromisedOf (command c bytes) ws bs out a ws' bs' out' = Does c bytes ws bs out a ws' bs' out'
PromisedOf (message bytes) ws bs out a ws' bs' out' = Sends bytes ws bs out a ws' bs' out'

abbrev pub PromisedOne : One → State → Type 0
PromisedOne m s = PromisedOf m.given s.words s.arena m.out m.answer m.left.words m.left.arena m.reply

abbrev pub Promised : Made → State → Type 0
Promised (one m) s = PromisedOne m s
Promised (list m) s = Lists m.items m.bytes s.words s.arena m.outcome m.left.words m.left.arena
Promised (why m) s = Tells m s
Promised (recall m) s = RecallsIn m s
Promised (save m) s = SavesIn m s

-- calls, each in the state that the one before left
unfoldable pub Session : List Made → State → Type 0
Session [] s = Unit {0}
Session (m ∷ ms) s = Promised m s × Session ms (left_of m)

unfoldable pub left_after : List Made → State → State
left_after [] s = s
left_after (m ∷ ms) s = left_after ms (left_of m)

-- what a call of one command stands for
abbrev pub meaning_in : Given → Meaning
meaning_in (command c bytes) = means c bytes
meaning_in (message bytes) = meaning bytes

-- the call of a command
abbrev pub call_of : One → Command → List ℕ → Call
call_of m c bytes = record { command = c; bytes = bytes; out = m.out; answer = m.answer; left = m.left; reply = m.reply }

abbrev pub calls_by : One → Meaning → List Call
calls_by m (Err r) = []
calls_by m (Ok (c, bytes)) = call_of m c bytes ∷ []

-- the calls of commands that a call in a state stands for
abbrev pub calls_of : Made → State → List Call
calls_of (one m) s = calls_by m (meaning_in m.given)
calls_of (list m) s = lists.calls_of m.items m.bytes s
calls_of (why m) s = []
calls_of (recall m) s = recall_calls m.name m.number m.node m.store s
calls_of (save m) s = []

unfoldable pub commands_of : List Made → State → List Call
commands_of [] s = []
commands_of (m ∷ ms) s = calls_of m s ++ commands_of ms (left_of m)

-- a message that is no command: its refusal, behind refusal 1, and nothing changed
pub record EndsWith (r : Refusal) (m : One) (s : State) : Type 0 where
  pub table : m.answer ≡ pick (formed s.words s.arena) (Refused r) (Refused BadState)
  pub unchanged : (m.left ≡ s) × (m.reply ≡ m.out)

abbrev pub EndsBy : Meaning → One → State → Type 0
EndsBy (Err r) m s = EndsWith r m s
EndsBy (Ok (c, bytes)) m s = Ends (call_of m c bytes) s

-- each of the calls in a row ends as Demand 1 asks of a command
unfoldable pub AllEnd : List Call → State → Type 0
AllEnd [] s = Unit {0}
AllEnd (c ∷ cs) s = Ends c s × AllEnd cs c.left

-- a list: "Demand 1's "changes nothing" is asked here of each single command, and of the whole list for 1 and 34"; and of what is no list
pub record ListEnds (m : Listed) (s : State) : Type 0 where
  pub table : m.outcome ≡ outcome_of m.items m.bytes s
  pub each : AllEnd (lists.calls_of m.items m.bytes s) s
  pub left : left_by (lists.calls_of m.items m.bytes s) s ≡ m.left
  pub refused1 : formed s.words s.arena ≡ false → m.left ≡ s
  pub refused34 : (verdict m.items m.bytes ≡ Fit → ⊥) → m.left ≡ s

-- a recall: its answer by the table; each `/n_set` ends as Demand 1 asks of a command; a refusal changes nothing
pub record RecallEnds (m : Recalled) (s : State) : Type 0 where
  pub table : m.answer ≡ recall_answer m.name m.number m.node m.store s.words s.arena
  pub each : AllEnd (recall_calls m.name m.number m.node m.store s) s
  pub left : left_by (recall_calls m.name m.number m.node m.store s) s ≡ m.left
  pub unchanged : is_accepted m.answer ≡ false → m.left ≡ s

abbrev pub EndsOf : Made → State → Type 0
EndsOf (one m) s = EndsBy (meaning_in m.given) m s
EndsOf (list m) s = ListEnds m s
EndsOf (why m) s = Tells m s
EndsOf (recall m) s = RecallEnds m s
EndsOf (save m) s = SavesIn m s

-- Demand 1, of every call: the command's own end, 26 or 27, that of a list or a recall, what a question is told or a save answers
abbrev pub Demand1OfCalls : Type 0
Demand1OfCalls = (m : Made) (s : State) → Promised m s → EndsOf m s

-- the number of the refusal that a call gives, 0 where it gives none
abbrev pub refusal_at_end : Outcome → ℕ
refusal_at_end None = no_command
refusal_at_end (Some (a, n)) = refusal_in a

abbrev pub refusal_told : Result Reason Refusal → ℕ
refusal_told (Err r) = number_of r
refusal_told (Ok r) = 0

abbrev pub refusal_saved : Saved → ℕ
refusal_saved (Ok v) = 0
refusal_saved (Err r) = number_of r

abbrev pub refusal_of : Made → ℕ
refusal_of (one m) = refusal_in m.answer
refusal_of (list m) = refusal_at_end m.outcome
refusal_of (why m) = refusal_told m.told
refusal_of (recall m) = refusal_in m.answer
refusal_of (save m) = refusal_saved m.saved

-- in a session: never refusal 1; a message that is no command is refused by its own number, a list that holds a query by 34
pub record CallHolds (m : Made) (s : State) : Type 0 where
  pub sound : refusal_of m ≡ 1 → ⊥
  pub ends : EndsOf m s

unfoldable pub AllHold : List Made → State → Type 0
AllHold [] s = Unit {0}
AllHold (m ∷ ms) s = CallHolds m s × AllHold ms (left_of m)

abbrev pub is_of_definitions : Command → Bool
is_of_definitions (commands.Definitions c) = true
is_of_definitions (commands.Tree c) = false
is_of_definitions (commands.Controls c) = false
is_of_definitions (commands.Buses c) = false
is_of_definitions (commands.Query q) = false

-- none of these calls is an accepted `/d_recv` or `/d_free`
unfoldable pub DefinitionsStay : List Call → Type 0
DefinitionsStay [] = Unit {0}
DefinitionsStay (c ∷ cs) = (both (is_accepted c.answer) (is_of_definitions c.command) ≡ false) × DefinitionsStay cs

-- calls that load a file, by a command, by a message or inside a list: the first command that they stand for is that load, and the ones behind it
-- leave the definitions as they are
pub record Loads (file : List ℕ) (ms : List Made) (s : State) : Type 0 where
  pub load : Call
  pub later : List Call
  pub first : commands_of ms s ≡ load ∷ later
  pub receives : load.command ≡ receive
  pub bytes : load.bytes ≡ file
  pub stay : DefinitionsStay later

-- a call that exports a file, which a fresh engine then accepts by calls of any kind; after them each name means the definition that it means here
pub record ReloadsByCalls (c : Call) (s : State) : Type 0 where
  pub file : List ℕ
  pub exports : Exports file c
  pub loads : (t : State) → Fresh t → (ms : List Made) → Session ms t → (l : Loads file ms t)
      → (l.load.answer ≡ Done) × ((name : List ℕ) → definition_named name (engine_in (left_after ms t)) ≡ definition_named name (engine_in s))

-- Demand 2, of calls of every kind: what they loaded into a fresh engine is exported, in version 2, and a version 2 file byte for byte; and what is
-- exported behind any calls, loaded by calls of any
-- kind into a fresh engine, gives the same definitions. An export is a call of a command: it has no address, and no list takes it
pub record Demand2OfCalls : Type 0 where
  pub exported : (s : State) → Fresh s → (ms : List Made) → Session ms s → (file : List ℕ) (l : Loads file ms s) → l.load.answer ≡ Done
      → (next : Call) → next.command ≡ export → Applied next (left_after ms s) → Exports (write_file (definitions_of (read_file file))) next
  pub same : (s : State) → Fresh s → (ms : List Made) → Session ms s → (file : List ℕ) (l : Loads file ms s) → l.load.answer ≡ Done → version_in file ≡ file_version
      → (next : Call) → next.command ≡ export → Applied next (left_after ms s) → Exports file next
  pub loaded : (s : State) → Fresh s → (ms : List Made) → Session ms s → (c : Call) → c.command ≡ export → Applied c (left_after ms s) → ReloadsByCalls c (left_after ms s)

-- the plain tree after a call, fed what the call was given and whether it was accepted: with a recall "the store's bytes", which it reads itself;
-- else the commands that the call stands for
abbrev pub fed_by : Made → State → Plain → Option Plain
fed_by (one m) s p = replay (calls_of (one m) s) p
fed_by (list m) s p = replay (calls_of (list m) s) p
fed_by (why m) s p = some p
fed_by (recall m) s p = pick (is_accepted m.answer) (step_recall m.name m.number m.node m.store p) (some p)
fed_by (save m) s p = some p

unfoldable pub fed : List Made → State → Plain → Option Plain
fed [] s p = some p
fed (m ∷ ms) s p = and_then (fed_by m s p) (λ q. fed ms (left_of m) q)

-- Demand 3, of calls of every kind in a row in a fresh state: that of the commands that they stand for, which leave the same state; and the plain
-- tree that is fed the calls themselves, a recall with its store, is the same. It is claimed of all:
-- `(s : State) → Fresh s → (ms : List Made) → Session ms s → Demand3OfCalls ms s`
pub record Demand3OfCalls (ms : List Made) (s : State) : Type 0 where
  pub each : AllHold ms s
  pub commands : Demand3 (commands_of ms s) s
  pub left : left_by (commands_of ms s) s ≡ left_after ms s
  pub feeds : fed ms s at_first ≡ some (commands).plain
