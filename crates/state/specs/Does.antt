-- What the functions behind the state check do, by what they may touch; and that it is what `Does` asks of `apply`.
use Rattle.std.specs.Prelude.{ℕ, Bool, true, false, ◌≡◌, refl, List, [], length, Ok, Err}
use Rattle.std.proofs.Common.{sym, ap, ◌∙◌}
use Rattle.words.specs.Choice.{pick}
use Rattle.words.specs.Bytes.{AreBytes}
use Rattle.refusals.specs.declared.Refusal.{Refusal}
use Rattle.refusals.specs.declared.Refusal.TheVariants.{BadState}
use Rattle.model.specs.declared.DefinitionCommand.{DefinitionCommand}
use Rattle.model.specs.declared.TreeCommand.{TreeCommand}
use Rattle.model.specs.declared.ControlCommand.{ControlCommand}
use Rattle.model.specs.declared.BusCommand.{BusCommand}
use Rattle.model.specs.declared.Query.{Query}
use Rattle.model.specs.declared.Command.{Command}
use Rattle.model.specs.declared.Command.TheVariants as command
use Rattle.model.specs.declared.Accepted.TheVariants as accepted
use Rattle.model.specs.declared.Denied.TheVariants as denied
use Rattle.model.specs.Answers.{Answer}
use Rattle.model.specs.Answers.{Done, Replied, Refused, RefusedAt}
use Rattle.model.specs.Engine.{Engine, decode}
use Rattle.model.specs.Formed.{formed}
use Rattle.model.specs.Checks.{first_of}
use Rattle.model.specs.Replies.{reply}
use Rattle.model.specs.After.{words_after, arena_after}
use Rattle.model.specs.Apply.{query_answer, answer_in, answer, is_accepted, written, reply_of, Does}
use Rattle.state.specs.Refusing.{is_refusal, checks_of, by_checks}

-- a command that is no query: its answer by the table, and the words and the arena after it, as they were where it is refused
pub record Step (c : Command) (bytes ws bs : List ℕ) (a : Answer) (ws' bs' : List ℕ) : Type 0 where
  pub answers : a ≡ answer_in c bytes (decode ws bs) 0
  pub words : ws' ≡ pick (is_accepted a) (words_after c bytes ws bs) ws
  pub arena : bs' ≡ pick (is_accepted a) (arena_after c bytes ws bs) bs

-- the same of a command that leaves the arena alone
pub record WordsStep (c : Command) (bytes ws bs : List ℕ) (a : Answer) (ws' : List ℕ) : Type 0 where
  pub answers : a ≡ answer_in c bytes (decode ws bs) 0
  pub words : ws' ≡ pick (is_accepted a) (words_after c bytes ws bs) ws

-- a query: its answer, and the reply buffer after it
pub record Reply (q : Query) (bytes ws bs out : List ℕ) (a : Answer) (out' : List ℕ) : Type 0 where
  pub answers : a ≡ query_answer q bytes (decode ws bs) (length out)
  pub reply : out' ≡ written a (reply q bytes (decode ws bs)) out

-- a refusal by the table leaves the words; an acceptance leaves what the definition says
module _ (c : Command) (bytes ws bs : List ℕ) where
  pub step_refused : (r : Refusal) → answer_in c bytes (decode ws bs) 0 ≡ Refused r → WordsStep c bytes ws bs (Refused r) ws
  step_refused r e = record { answers = sym e; words = refl }

  pub step_done : (out : List ℕ) → answer_in c bytes (decode ws bs) 0 ≡ Done → out ≡ words_after c bytes ws bs → WordsStep c bytes ws bs Done out
  step_done out e o = record { answers = sym e; words = o }

-- the state check failed
pub does_bad : (c : Command) (bytes ws bs out : List ℕ) → AreBytes bytes → AreBytes bs → formed ws bs ≡ false → Does c bytes ws bs out (Refused BadState) ws bs out
unfolding answer
does_bad c bytes ws bs out lent kept h = record { answers = rw h; words = rw h; arena = rw h; reply = rw h; lent_bytes = lent; lent_arena = kept }

answered : (c : Command) (bytes ws bs out : List ℕ) → formed ws bs ≡ true → answer c bytes ws bs out ≡ answer_in c bytes (decode ws bs) (length out)
unfolding answer
answered c bytes ws bs out h = rw h

-- a step behind the check is what `Does` asks
does_by : (c : Command) (bytes ws bs out : List ℕ) (a : Answer) (ws' bs' out' : List ℕ) → AreBytes bytes → AreBytes bs → formed ws bs ≡ true
    → a ≡ answer_in c bytes (decode ws bs) (length out)
    → ws' ≡ pick (is_accepted a) (words_after c bytes ws bs) ws
    → bs' ≡ pick (is_accepted a) (arena_after c bytes ws bs) bs
    → out' ≡ written a (reply_of c bytes (decode ws bs)) out
    → Does c bytes ws bs out a ws' bs' out'
does_by c bytes ws bs out a ws' bs' out' lent kept h e w b o =
    let fact : a ≡ answer c bytes ws bs out = e ∙ sym (answered c bytes ws bs out h) in
    record {
      answers = fact;
      words = w ∙ ap (λ (x : Answer). pick (is_accepted x) (words_after c bytes ws bs) ws) fact;
      arena = b ∙ ap (λ (x : Answer). pick (is_accepted x) (arena_after c bytes ws bs) bs) fact;
      reply = o ∙ ap (λ (x : Answer). written x (reply_of c bytes (decode ws bs)) out) fact;
      lent_bytes = lent;
      lent_arena = kept;
    }

-- a choice between the same
either_way : (b : Bool) (l : List ℕ) → l ≡ pick b l l
either_way true l = refl
either_way false l = refl

-- a command that is no query writes nothing to the reply buffer
silent : (c : Command) (bytes : List ℕ) (e : Engine) (out : List ℕ) → written (first_of (checks_of c bytes e) Done) [] out ≡ out
silent c bytes e out = by_checks (λ a. written a [] out ≡ out) refused c bytes e Done (λ p. refl)
  where
    refused : (a : Answer) → is_refusal a ≡ true → written a [] out ≡ out
    refused (Ok accepted.Done) h = refl
    refused (Ok (accepted.Replied n)) h = cc
    refused (Err (denied.Refused r)) h = refl
    refused (Err (denied.RefusedAt r at)) h = refl

-- each kind of step is what `Does` asks
module _ (bytes ws bs out : List ℕ) (a : Answer) (lent : AreBytes bytes) (kept : AreBytes bs) where
  pub definitions_do : (c : DefinitionCommand) (ws' bs' : List ℕ) → formed ws bs ≡ true → Step (command.Definitions c) bytes ws bs a ws' bs'
      → Does (command.Definitions c) bytes ws bs out a ws' bs' out
  unfolding answer_in
  definitions_do c ws' bs' h s =
      does_by (command.Definitions c) bytes ws bs out a ws' bs' out lent kept h s.answers s.words s.arena
      (rw s.answers (sym (silent (command.Definitions c) bytes (decode ws bs) out)))

  pub tree_does : (c : TreeCommand) (ws' : List ℕ) → formed ws bs ≡ true → WordsStep (command.Tree c) bytes ws bs a ws' → Does (command.Tree c) bytes ws bs out a ws' bs out
  unfolding answer_in arena_after
  tree_does c ws' h s =
      does_by (command.Tree c) bytes ws bs out a ws' bs out lent kept h s.answers s.words (either_way (is_accepted a) bs)
      (rw s.answers (sym (silent (command.Tree c) bytes (decode ws bs) out)))

  pub controls_do : (c : ControlCommand) (ws' : List ℕ) → formed ws bs ≡ true → WordsStep (command.Controls c) bytes ws bs a ws'
      → Does (command.Controls c) bytes ws bs out a ws' bs out
  unfolding answer_in arena_after
  controls_do c ws' h s =
      does_by (command.Controls c) bytes ws bs out a ws' bs out lent kept h s.answers s.words (either_way (is_accepted a) bs)
      (rw s.answers (sym (silent (command.Controls c) bytes (decode ws bs) out)))

  pub buses_do : (c : BusCommand) (ws' : List ℕ) → formed ws bs ≡ true → WordsStep (command.Buses c) bytes ws bs a ws' → Does (command.Buses c) bytes ws bs out a ws' bs out
  unfolding answer_in arena_after
  buses_do c ws' h s =
      does_by (command.Buses c) bytes ws bs out a ws' bs out lent kept h s.answers s.words (either_way (is_accepted a) bs)
      (rw s.answers (sym (silent (command.Buses c) bytes (decode ws bs) out)))

  pub query_does : (q : Query) (out' : List ℕ) → formed ws bs ≡ true → Reply q bytes ws bs out a out' → Does (command.Query q) bytes ws bs out a ws bs out'
  unfolding answer_in words_after arena_after
  query_does q out' h s =
      does_by (command.Query q) bytes ws bs out a ws bs out' lent kept h s.answers (either_way (is_accepted a) ws) (either_way (is_accepted a) bs) s.reply
