-- A query answered: by one of its checks, or by its reply where that has room.
use Rattle.std.specs.Prelude.{ℕ, ◌≡◌, refl, List, length}
use Rattle.std.proofs.Common.{sym, ap, ◌∙◌}
use Rattle.refusals.specs.declared.Refusal.{Refusal}
use Rattle.model.specs.declared.Query.{Query}
use Rattle.model.specs.Answers.{Answer}
use Rattle.model.specs.Answers.{Refused}
use Rattle.model.specs.Engine.{Engine, decode}
use Rattle.model.specs.Checks.{first_of, query_checks}
use Rattle.model.specs.Replies.{reply}
use Rattle.model.specs.Apply.{query_answer, written}
use Rattle.state.specs.Does.{Reply}
use Rattle.replies.specs.Sent.{sent, Sends}

-- the checks and then the room
pub answer-by : (q : Query) (bytes : List ℕ) (e : Engine) (room : ℕ) → query_answer q bytes e room ≡ first_of (query_checks q bytes e) (sent (reply q bytes e) room)
unfolding query_answer sent
answer-by q bytes e room = refl

module _ (q : Query) (bytes ws bs out : List ℕ) where
  -- a check fired
  pub reply-refused : (r : Refusal) → ((a : Answer) → first_of (query_checks q bytes (decode ws bs)) a ≡ Refused r) → Reply q bytes ws bs out (Refused r) out
  reply-refused r fires = record {
    answers = sym (answer-by q bytes (decode ws bs) (length out) ∙ fires (sent (reply q bytes (decode ws bs)) (length out)));
    reply = refl;
  }

  -- none did, and a message was sent that is the reply
  pub reply-sent : (message : List ℕ) (a : Answer) (out' : List ℕ) → ((b : Answer) → first_of (query_checks q bytes (decode ws bs)) b ≡ b) → message ≡ reply q bytes (decode ws bs)
      → Sends message out a out' → Reply q bytes ws bs out a out'
  reply-sent message a out' passes same s = record {
    answers =
        s.answers
        ∙ ap (λ (m : List ℕ). sent m (length out)) same
        ∙ sym (answer-by q bytes (decode ws bs) (length out) ∙ passes (sent (reply q bytes (decode ws bs)) (length out)));
    reply = s.reply ∙ ap (λ (m : List ℕ). written a m out) same;
  }
