-- What every call answers and leaves, for every input: the one function that commands go through.
use Rattle.std.specs.Prelude.{ℕ, ◌*◌, ◌+◌, Bool, ◌≡◌, List, [], ◌∷◌, ◌++◌, length, drop, eqb, Ok, Err, is_ok}
use Rattle.words.specs.Choice.{pick, both}
use Rattle.words.specs.Bytes.{AreBytes}
use Rattle.faults.specs.Faults.{fault_number}
use Rattle.refusals.specs.Refusals.{number_of}
use Rattle.refusals.specs.declared.Refusal.TheVariants.{BadState}
use Rattle.model.specs.declared.Query.{Query}
use Rattle.model.specs.declared.Command.{Command}
use Rattle.model.specs.declared.Command.TheVariants as command
use Rattle.model.specs.declared.Accepted.TheVariants as accepted
use Rattle.model.specs.declared.Denied.TheVariants as denied
use Rattle.model.specs.Answers.{Answer}
use Rattle.model.specs.Answers.{Done, Replied, Refused}
use Rattle.model.specs.Layout.{words_length, arena_length}
use Rattle.model.specs.Engine.{Engine, decode}
use Rattle.model.specs.Formed.{formed}
use Rattle.model.specs.Checks.{first_of, definition_checks, tree_checks, control_checks, bus_checks, query_checks, room_check}
use Rattle.model.specs.Replies.{reply}
use Rattle.model.specs.After.{words_after, arena_after, fresh_state, fresh_arena}

-- a query's answer: its checks, then that the reply has room
unfoldable pub query_answer : Query → List ℕ → Engine → ℕ → Answer
query_answer q bytes e room = first_of (query_checks q bytes e) (first_of (room_check (reply q bytes e) room ∷ []) (Replied (length (reply q bytes e))))

-- the answer where the state is well formed, by the refusal table
unfoldable pub answer_in : Command → List ℕ → Engine → ℕ → Answer
answer_in (command.Definitions c) bytes e room = first_of (definition_checks c bytes e) Done
answer_in (command.Tree c) bytes e room = first_of (tree_checks c bytes e) Done
answer_in (command.Controls c) bytes e room = first_of (control_checks c bytes e) Done
answer_in (command.Buses c) bytes e room = first_of (bus_checks c e) Done
answer_in (command.Query q) bytes e room = query_answer q bytes e room

-- "1 comes first."
unfoldable pub answer : Command → List ℕ → List ℕ → List ℕ → List ℕ → Answer
answer c bytes ws arena out = pick (formed ws arena) (answer_in c bytes (decode ws arena) (length out)) (Refused BadState)

abbrev pub is_accepted : Answer → Bool
is_accepted a = is_ok a

-- "Bytes past a reply stay"
abbrev pub written : Answer → List ℕ → List ℕ → List ℕ
written (Ok accepted.Done) bytes out = out
written (Ok (accepted.Replied n)) bytes out = bytes ++ drop n out
written (Err d) bytes out = out

abbrev pub reply_of : Command → List ℕ → Engine → List ℕ
reply_of (command.Definitions c) bytes e = []
reply_of (command.Tree c) bytes e = []
reply_of (command.Controls c) bytes e = []
reply_of (command.Buses c) bytes e = []
reply_of (command.Query q) bytes e = reply q bytes e

-- a call of a command with its bytes on the lent words, arena and reply buffer: it answers a and leaves the words, the arena and the buffer so;
-- "change no lent byte" where refused.
-- What is lent as bytes is bytes
pub record Does (c : Command) (bytes ws bs out : List ℕ) (a : Answer) (ws' bs' out' : List ℕ) : Type 0 where
  pub answers : a ≡ answer c bytes ws bs out
  pub words : ws' ≡ pick (is_accepted (answer c bytes ws bs out)) (words_after c bytes ws bs) ws
  pub arena : bs' ≡ pick (is_accepted (answer c bytes ws bs out)) (arena_after c bytes ws bs) bs
  pub reply : out' ≡ written (answer c bytes ws bs out) (reply_of c bytes (decode ws bs)) out
  pub lent_bytes : AreBytes bytes
  pub lent_arena : AreBytes bs

-- "Making a fresh engine tests the sizes only."
abbrev pub sized : List ℕ → List ℕ → Bool
sized ws arena = both (eqb (length ws) words_length) (eqb (length arena) arena_length)

unfoldable pub fresh_answer : List ℕ → List ℕ → Answer
fresh_answer ws arena = pick (sized ws arena) Done (Refused BadState)

unfoldable pub fresh_words : List ℕ → List ℕ → List ℕ
fresh_words ws arena = pick (sized ws arena) fresh_state ws

unfoldable pub fresh_arenas : List ℕ → List ℕ → List ℕ
fresh_arenas ws arena = pick (sized ws arena) fresh_arena arena

-- a fresh engine made in the lent words and in the lent arena: it answers a and leaves the words and the arena so
pub record Freshly (ws bs : List ℕ) (a : Answer) (ws' bs' : List ℕ) : Type 0 where
  pub answers : a ≡ fresh_answer ws bs
  pub words : ws' ≡ fresh_words ws bs
  pub arena : bs' ≡ fresh_arenas ws bs

-- an answer as one number: the refusal's number (0 accepted) plus 256 times the place (refusals 2 to 11) or the length written
abbrev pub answer_number : Answer → ℕ
answer_number (Ok accepted.Done) = 0
answer_number (Ok (accepted.Replied n)) = 256 * n
answer_number (Err (denied.Refused r)) = number_of r
answer_number (Err (denied.RefusedAt r at)) = fault_number r + 256 * at
