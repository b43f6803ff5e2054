-- The three demands, each as a statement over the definitions that the contracts cite.
use Prim.{Unit}
use Rattle.std.specs.Prelude.{ℕ, ◌≤◌, ◌<◌, true, false, ◌≡◌, List, [], ◌∷◌, ◌++◌, length, drop, ltb, eqb, Ok, Err}
use Rattle.std.proofs.Math.Option.{Option, none, some}
use Rattle.words.specs.Choice.{pick}
use Rattle.faults.specs.Faults.{fault_number}
use Rattle.refusals.specs.declared.Refusal.TheVariants.{NoRoom}
use Rattle.refusals.specs.Refusals.{number_of}
use Rattle.format.specs.Read.{got, repeat}
use Rattle.format.specs.Definition.{Definition}
use Rattle.format.specs.Reader.{Header, definition_by, read_header, read_file, version_in}
use Rattle.format.specs.Writer.{file_version, write_file}
use Rattle.nodes.specs.declared.Node.{Node}
use Rattle.nodes.specs.Place.{is_group, lives}
use Rattle.nodes.specs.Edit.{is_below}
use Rattle.nodes.specs.Structure.{parent_of, children_of, parent, children, listed}
use Rattle.nodes.specs.Formed.{apart}
use Rattle.model.specs.declared.DefinitionCommand.TheVariants as definitions
use Rattle.model.specs.declared.TreeCommand.{TreeCommand}
use Rattle.model.specs.declared.TreeCommand.TheVariants as tree
use Rattle.model.specs.declared.Query.{Query}
use Rattle.model.specs.declared.Query.TheVariants as query
use Rattle.model.specs.declared.Command.{Command}
use Rattle.model.specs.declared.Command.TheVariants as command
use Rattle.model.specs.declared.Denied.TheVariants as denied
use Rattle.model.specs.Answers.{Answer}
use Rattle.model.specs.Answers.{Done, Replied, Refused}
use Rattle.model.specs.Checks.{definitions_of}
use Rattle.model.specs.Engine.{Slot, Engine, slot_at, definition_in, resident_of, residents}
use Rattle.model.specs.Formed.{formed}
use Rattle.model.specs.View.{Kind, group, synth, Row, view}
use Rattle.model.specs.Meaning.{node_named}
use Rattle.model.specs.Effects.{number_for, effect}
use Rattle.model.specs.Replies.{reply}
use Rattle.model.specs.Apply.{query_answer, answer_in, answer, is_accepted, written, reply_of}
use Rattle.model.specs.Chain.{State, engine_in, Call, Applied, Chain, left_by, Fresh}
use Rattle.model.specs.Plain.{Plain, if_some, and_then, at_first, meaning, number_in, after, plain_rows, plain_order}
use Rattle.model.specs.PlainReplies.{plain_reply, is_export}
use Rattle.model.specs.Frame.{displaced, touched, numbers_left, entries_left}

-- the definition that a name means in the engine: its resident's
abbrev pub definition_at_slot : List Slot → ℕ → Option Definition
definition_at_slot slots k = pick (ltb k (length slots)) (some (definition_in (slot_at slots k))) none

abbrev pub meaning_in : List ℕ → Engine → Option Definition
meaning_in name e = definition_at_slot e.slots (resident_of name e.slots)

-- the number of the refusal that an answer gives, 0 where it gives none
abbrev pub refusal_in : Answer → ℕ
refusal_in (Ok x) = 0
refusal_in (Err (denied.Refused r)) = number_of r
refusal_in (Err (denied.RefusedAt r at)) = fault_number r

-- of a call in a state: any bytes and any command, in any lent state, end in the effect asked for or in one numbered refusal, by the table's order
-- of checks. A refusal
-- changes nothing in the state or the reply buffer. A command that is accepted was given in a well-formed state, and leaves one.
pub record Ends (c : Call) (s : State) : Type 0 where
  pub table : c.answer ≡ answer c.command c.bytes s.words s.arena c.out
  pub effected : is_accepted c.answer ≡ true → engine_in c.left ≡ effect c.command c.bytes (engine_in s)
  pub replied : is_accepted c.answer ≡ true → c.reply ≡ written c.answer (reply_of c.command c.bytes (engine_in s)) c.out
  pub kept : is_accepted c.answer ≡ true → formed c.left.words c.left.arena ≡ true
  pub unchanged : is_accepted c.answer ≡ false → (c.left ≡ s) × (c.reply ≡ c.out)

-- Demand 1, of every call: `Applied` is what `engine::apply` promises of every input
abbrev pub Demand1 : Type 0
Demand1 = (c : Call) (s : State) → Applied c s → Ends c s

abbrev pub receive : Command
receive = command.Definitions definitions.Receive

abbrev pub export : Command
export = command.Query query.Export

-- a call that exports a file: accepted with the file's length exactly if the buffer has room; the buffer is then the file, and past it as it was
pub record Exports (file : List ℕ) (c : Call) : Type 0 where
  pub room : length file ≤ length c.out → (c.answer ≡ Replied (length file)) × (c.reply ≡ file ++ drop (length file) c.out)
  pub no_room : length c.out < length file → (c.answer ≡ Refused NoRoom) × (c.reply ≡ c.out)

-- a call that exports a file, which a fresh engine then accepts by a call; after that each name means the definition that it means here
pub record Reloads (c : Call) (s : State) : Type 0 where
  pub file : List ℕ
  pub exports : Exports file c
  pub loads : (t : State) → Fresh t → (load : Call) → load.command ≡ receive → load.bytes ≡ file → Applied load t
      → (load.answer ≡ Done) × ((name : List ℕ) → meaning_in name (engine_in load.left) ≡ meaning_in name (engine_in s))

-- two loads into one state: the same number of refusal or none, and the same state afterwards
pub record SameLoads (a b : Call) : Type 0 where
  pub number : refusal_in a.answer ≡ refusal_in b.answer
  pub left : a.left ≡ b.left

-- a file whose definitions can be read one after the other, up to a place, though it may be refused for its limit, its names or the bytes that are
-- left over
pub record Written (file : List ℕ) (ds : List Definition) (end : ℕ) : Type 0 where
  pub head : Header
  pub first : ℕ
  pub begins : read_header file ≡ got head first
  pub read : repeat (definition_by head.width file) head.count first ≡ got ds end
  pub inside : end ≤ length file

-- its twin in version 2: the writing of its definitions, and the bytes that are left over
abbrev pub twin : List ℕ → List Definition → ℕ → List ℕ
twin file ds end = write_file ds ++ drop end file

-- Demand 2: what a fresh engine accepts is exported, in version 2, and "byte equality is asked of version 2 files only; a version 1 file must load
-- as its widened twin
-- does" (paper 02, 4/14); an export, from every well-formed state, loaded into a fresh engine gives the same definitions
pub record Demand2 : Type 0 where
  pub exported : (s : State) → Fresh s → (load next : Call) → load.command ≡ receive → next.command ≡ export → Chain (load ∷ (next ∷ [])) s
      → load.answer ≡ Done → Exports (write_file (definitions_of (read_file load.bytes))) next
  pub same : (s : State) → Fresh s → (load next : Call) → load.command ≡ receive → next.command ≡ export → Chain (load ∷ (next ∷ [])) s
      → load.answer ≡ Done → version_in load.bytes ≡ file_version → Exports load.bytes next
  pub twins : (s : State) (load other : Call) → load.command ≡ receive → other.command ≡ receive → Applied load s → Applied other s
      → (ds : List Definition) (end : ℕ) → Written load.bytes ds end → other.bytes ≡ twin load.bytes ds end → SameLoads load other
  pub loaded : (s : State) → formed s.words s.arena ≡ true → (c : Call) → c.command ≡ export → Applied c s → Reloads c s

-- the plain tree after a call, fed its command and whether it was accepted; none where it is at a loss
abbrev pub after_call : Call → Plain → Option Plain
after_call c p = after c.command c.bytes (is_accepted c.answer) p

-- .. and after calls in a row: none where it was at a loss at one of them
unfoldable pub replay : List Call → Plain → Option Plain
replay [] p = some p
replay (c ∷ cs) p = and_then (after_call c p) (λ q. replay cs q)

-- the definition that the name of an accepted `/s_new` meant, if it made the synth n; else what was known before
abbrev pub made_by : TreeCommand → List ℕ → Engine → ℕ → Option Definition → Option Definition
made_by (tree.NewSynth number action target) bytes e n known = pick (eqb (number_for number e.next) n) (meaning_in bytes e) known
made_by (tree.NewGroup number action target) bytes e n known = known
made_by (tree.Free a) bytes e n known = known
made_by (tree.FreeAll g) bytes e n known = known
made_by (tree.DeepFree g) bytes e n known = known
made_by (tree.Before a b) bytes e n known = known
made_by (tree.After a b) bytes e n known = known
made_by (tree.Head g a) bytes e n known = known
made_by (tree.Tail g a) bytes e n known = known
made_by (tree.Run a flag) bytes e n known = known

abbrev pub made_in : Command → List ℕ → Engine → ℕ → Option Definition → Option Definition
made_in (command.Definitions c) bytes e n known = known
made_in (command.Tree c) bytes e n known = made_by c bytes e n known
made_in (command.Controls c) bytes e n known = known
made_in (command.Buses c) bytes e n known = known
made_in (command.Query q) bytes e n known = known

-- what the name meant when the last synth n was made
unfoldable pub made : List Call → State → ℕ → Option Definition → Option Definition
made [] s n known = known
made (c ∷ cs) s n known = made cs c.left n (pick (is_accepted c.answer) (made_in c.command c.bytes (engine_in s) n known) known)

-- the definition of the synth n in the tree
abbrev pub definition_of_kind : Kind → Option Definition
definition_of_kind group = none
definition_of_kind (synth d cs) = some d

unfoldable pub definition_of_synth : ℕ → List Row → Option Definition
definition_of_synth n [] = none
definition_of_synth n (r ∷ l) = pick (eqb r.node.number n) (definition_of_kind r.node.kind) (definition_of_synth n l)

-- of a tree: numbers are distinct, every node descends from the root by one parent
pub record TreeHolds (t : List Node) : Type 0 where
  pub distinct : apart t ≡ true
  pub descends : (n : ℕ) → lives n t ≡ true → is_below n 0 t ≡ true
  pub parent_group : (n : ℕ) → lives n t ≡ true → (n ≡ 0 → ⊥)
      → (lives (parent_of n t) t ≡ true) × ((is_group (node_named (parent_of n t) t) ≡ true) × (listed n (children_of (parent_of n t) t) ≡ true))
  pub one_parent : (n g : ℕ) → lives n t ≡ true → listed n (children_of g t) ≡ true → g ≡ parent_of n t

-- the latest synth or none: its number in the state, or 0
abbrev pub latest_synth : ℕ → Option ℕ
latest_synth latest = pick (eqb latest 0) none (some latest)

-- of the state after a sequence and the plain tree that was fed the same: everything equals paper 01's plain tree, the kept running order equals
-- the one worked
-- out afresh. "All that the plain tree holds is compared: definitions, each synth's and each name's, as read, not by slot; controls by own float
-- and mapping; every float by its bits."
-- "One reply for all queries breaks it by the replay model": each reply but export's is the plain tree's own.
pub record Same (e : Engine) (p : Plain) : Type 0 where
  pub nodes : view e ≡ plain_rows 0 p.tree
  pub parents : (n : ℕ) → parent_of n e.nodes ≡ parent number_in n p.tree
  -- "each group's children from head to tail"
  pub head_to_tail : (n : ℕ) → children_of n e.nodes ≡ children number_in n p.tree
  pub names : (name : List ℕ) → meaning_in name e ≡ meaning name p.names
  pub name_count : length (residents e.slots) ≡ length p.names
  pub next : e.next ≡ p.next
  pub latest : latest_synth e.latest ≡ p.latest
  pub buses : e.buses ≡ p.buses
  pub order : e.order ≡ plain_order p
  pub replies : (q : Query) (bytes : List ℕ) (room : ℕ) → is_export q ≡ false → is_accepted (query_answer q bytes e room) ≡ true → plain_reply q bytes p ≡ some (reply q bytes e)

-- the reply to a command: a query's of what the plain tree holds, export's of the residents in slot order
abbrev pub reply_in : Command → List ℕ → Engine → Plain → List ℕ
reply_in (command.Definitions c) bytes e p = []
reply_in (command.Tree c) bytes e p = []
reply_in (command.Controls c) bytes e p = []
reply_in (command.Buses c) bytes e p = []
reply_in (command.Query q) bytes e p = pick (is_export q) (reply q bytes e) (if_some (plain_reply q bytes p) (λ l. l) [])

-- of one call in a state, with the plain tree fed what came before: never refusal 1, each answer as the table says, the reply buffer with the plain
-- tree's reply; what a
-- command doesn't touch stays as it was: nodes that it neither adds, moves nor frees keep their order among themselves; a node outside the subtrees
-- that it adds, moves,
-- sets, maps, turns on or off, or frees keeps its kind, parent, definition, run flag and controls
pub record StepHolds (c : Call) (s : State) (p : Plain) : Type 0 where
  pub sound : refusal_in c.answer ≡ 1 → ⊥
  pub table : c.answer ≡ answer_in c.command c.bytes (engine_in s) (length c.out)
  pub replied : c.reply ≡ written c.answer (reply_in c.command c.bytes (engine_in s) p) c.out
  pub ordered : numbers_left (displaced (is_accepted c.answer) c.command (engine_in s)) (view (engine_in s))
      ≡ numbers_left (displaced (is_accepted c.answer) c.command (engine_in s)) (view (engine_in c.left))
  pub untouched : entries_left (touched (is_accepted c.answer) c.command (engine_in s)) (engine_in s).nodes (view (engine_in s))
      ≡ entries_left (touched (is_accepted c.answer) c.command (engine_in s)) (engine_in c.left).nodes (view (engine_in c.left))

-- .. and of calls in a row: the plain tree is at a loss at none of them
abbrev pub NotAtLoss : Option Plain → (Plain → Type 0) → Type 0
NotAtLoss none Holds = ⊥
NotAtLoss (some p) Holds = Holds p

unfoldable pub EachHolds : List Call → State → Plain → Type 0
EachHolds [] s p = Unit {0}
EachHolds (c ∷ cs) s p = StepHolds c s p × NotAtLoss (after_call c p) (λ q. EachHolds cs c.left q)

-- Demand 3, of calls in a row in a fresh state; it is claimed of all: `(s : State) → Fresh s → (cs : List Call) → Chain cs s → Demand3 cs s`
pub record Demand3 (cs : List Call) (s : State) : Type 0 where
  pub each : EachHolds cs s at_first
  -- the plain tree, which was never at a loss, and what the engine holds
  pub plain : Plain
  pub replayed : replay cs at_first ≡ some plain
  pub same : Same (engine_in (left_by cs s)) plain
  pub tree : TreeHolds (engine_in (left_by cs s)).nodes
  -- each synth has the definition its name meant when it was made
  pub synths : (n : ℕ) (d : Definition) → definition_of_synth n (view (engine_in (left_by cs s))) ≡ some d → made cs s n none ≡ some d
