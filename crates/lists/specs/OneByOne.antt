-- What a list does, for every input: paper 02, 5/14, "It equals sending them one by one and stops at the first refusal, giving its number and how
-- many were accepted before it; those
-- stay done."
use Rattle.std.specs.Prelude.{ℕ, suc, ◌+◌, ◌*◌, ◌%◌, Bool, ◌≡◌, List, [], ◌∷◌, Ok, Err, None, Some, Option}
use Rattle.words.specs.Choice.{pick}
use Rattle.words.specs.Bytes.{AreBytes}
use Rattle.refusals.specs.declared.Refusal.TheVariants.{BadState, ListUnfit}
use Rattle.model.specs.declared.Denied.TheVariants as denied
use Rattle.model.specs.Answers.{Answer}
use Rattle.model.specs.Answers.{Done, Refused}
use Rattle.model.specs.Engine.{decode}
use Rattle.model.specs.Formed.{formed}
use Rattle.model.specs.After.{words_after, arena_after}
use Rattle.model.specs.Apply.{answer, is_accepted, written, reply_of}
use Rattle.model.specs.Chain.{State, Call, Chain, left_by}
use Rattle.model.specs.Demands.{refusal_in}
use Rattle.model.specs.Script.{Line}
use Rattle.calls.specs.Numbers.{no_command}
use Rattle.lists.specs.declared.Verdict.{Verdict}
use Rattle.lists.specs.declared.Verdict.TheVariants as verdict
use Rattle.lists.specs.Lent as lent

-- what a list ends in: an answer, and how many commands were accepted before it; none where it is no list
abbrev pub Outcome : Type 0
Outcome = Option (Answer × ℕ)

abbrev pub ended : Answer → ℕ → Outcome
ended a n = Some (a, n)

-- what `engine::apply` answers and leaves where a command is sent with no room for a reply
abbrev pub answer_to : Line → State → Answer
answer_to l s = answer l.command l.bytes s.words s.arena []

abbrev pub takes : Line → State → Bool
takes l s = is_accepted (answer_to l s)

abbrev pub after : Line → State → State
after l s = record {
  words = pick (takes l s) (words_after l.command l.bytes s.words s.arena) s.words;
  arena = pick (takes l s) (arena_after l.command l.bytes s.words s.arena) s.arena;
}

abbrev pub sent : Line → State → Call
sent l s = record {
  command = l.command;
  bytes = l.bytes;
  out = [];
  answer = answer_to l s;
  left = after l s;
  reply = written (answer_to l s) (reply_of l.command l.bytes (decode s.words s.arena)) [];
}

-- the calls of commands one by one, up to the first that is refused
unfoldable pub tried : List Line → State → List Call
tried [] s = []
tried (l ∷ ls) s = sent l s ∷ pick (takes l s) (tried ls (after l s)) []

-- the answer of the one that was refused: Done where none was
unfoldable pub last_answer : List Call → Answer
last_answer [] = Done
last_answer (c ∷ cs) = pick (is_accepted c.answer) (last_answer cs) c.answer

-- how many were accepted before it
unfoldable pub accepted_in : List Call → ℕ
accepted_in [] = 0
accepted_in (c ∷ cs) = pick (is_accepted c.answer) (suc (accepted_in cs)) 0

-- the calls that a list stands for: "the commands it tried, in order, or .. none where it is refused with 34"; and none where it is refused with 1,
-- since "State check 1 is made once, at
-- the start"
abbrev pub calls_by : Verdict → List Line → State → List Call
calls_by verdict.NoList ls s = []
calls_by verdict.Unfit ls s = []
calls_by verdict.Fit ls s = pick (formed s.words s.arena) (tried ls s) []

-- what it ends in: "refused whole with 34, after 1"
abbrev pub outcome_by : Verdict → List Line → State → Outcome
outcome_by verdict.NoList ls s = None
outcome_by verdict.Unfit ls s = ended (pick (formed s.words s.arena) (Refused ListUnfit) (Refused BadState)) 0
outcome_by verdict.Fit ls s = pick (formed s.words s.arena) (ended (last_answer (tried ls s)) (accepted_in (tried ls s))) (ended (Refused BadState) 0)

abbrev pub calls_of : List ℕ → List ℕ → State → List Call
calls_of us bytes s = calls_by (lent.verdict us bytes) (lent.lines_of us bytes) s

abbrev pub outcome_of : List ℕ → List ℕ → State → Outcome
outcome_of us bytes s = outcome_by (lent.verdict us bytes) (lent.lines_of us bytes) s

abbrev pub lent_state : List ℕ → List ℕ → State
lent_state ws bs = record { words = ws; arena = bs }

-- a call of a list on the lent words and arena: what it ends in, and the words and the arena that its calls one by one leave, each of them a call
-- as `engine::apply` promises it. What is
-- lent as bytes is bytes
pub record Lists (us bytes ws bs : List ℕ) (r : Outcome) (ws' bs' : List ℕ) : Type 0 where
  pub ends : r ≡ outcome_of us bytes (lent_state ws bs)
  pub words : ws' ≡ (left_by (calls_of us bytes (lent_state ws bs)) (lent_state ws bs)).words
  pub arena : bs' ≡ (left_by (calls_of us bytes (lent_state ws bs)) (lent_state ws bs)).arena
  pub chain : Chain (calls_of us bytes (lent_state ws bs)) (lent_state ws bs)
  pub lent_bytes : AreBytes bytes
  pub lent_arena : AreBytes bs

-- room in the 64 bits for the count, 2^16, and for a place, 2^39
abbrev pub count_room : ℕ
count_room = 65536

abbrev pub place_room : ℕ
place_room = 549755813888

abbrev pub place_in : Answer → ℕ
place_in (Ok x) = 0
place_in (Err (denied.Refused r)) = 0
place_in (Err (denied.RefusedAt r at)) = at

-- as one number: the refusal's (0 where all are accepted), plus 256 times how many were accepted before it, plus 2^24 times the place (refusals 2
-- to 11); 255 where it is no list
abbrev pub list_number : Outcome → ℕ
list_number None = no_command
list_number (Some (a, n)) = refusal_in a + 256 * (n % count_room) + 16777216 * (place_in a % place_room)
