-- What a call with a message answers and leaves, for every input: "Both come before all others but 1."
use Rattle.std.specs.Prelude.{ℕ, ◌≡◌, List, Ok, Err}
use Rattle.words.specs.Choice.{pick}
use Rattle.words.specs.Bytes.{AreBytes}
use Rattle.refusals.specs.declared.Refusal.{Refusal}
use Rattle.refusals.specs.declared.Refusal.TheVariants.{BadState}
use Rattle.model.specs.Answers.{Answer}
use Rattle.model.specs.Answers.{Refused}
use Rattle.model.specs.Formed.{formed}
use Rattle.model.specs.Apply.{Does}
use Rattle.messages.specs.Receive.{Meaning, meaning}

-- a message that is no command: 1 where the state is not well formed, else its own refusal; no lent byte changes
pub record Refuses (r : Refusal) (ws bs out : List ℕ) (a : Answer) (ws' bs' out' : List ℕ) : Type 0 where
  pub answers : a ≡ pick (formed ws bs) (Refused r) (Refused BadState)
  pub words : ws' ≡ ws
  pub arena : bs' ≡ bs
  pub reply : out' ≡ out

-- what is done by a meaning: a command does what `engine::apply` promises of it
abbrev pub Serves : Meaning → (ws bs out : List ℕ) (a : Answer) (ws' bs' out' : List ℕ) → Type 0
Serves (Err r) ws bs out a ws' bs' out' = Refuses r ws bs out a ws' bs' out'
Serves (Ok (c, bytes)) ws bs out a ws' bs' out' = Does c bytes ws bs out a ws' bs' out'

-- a call of a message on the lent words, arena and reply buffer
pub record Sends (message ws bs out : List ℕ) (a : Answer) (ws' bs' out' : List ℕ) : Type 0 where
  pub serves : Serves (meaning message) ws bs out a ws' bs' out'
  pub lent_message : AreBytes message
  pub lent_arena : AreBytes bs
