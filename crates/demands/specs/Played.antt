-- The tables of examples are of calls: calls in a row from a fresh engine, with a script's room for each reply, answer as the script is played, and
-- a query behind them writes the script's reply.
use Prim.{Unit}
use Rattle.std.specs.Prelude.{ℕ, Bool, true, false, ◌≡◌, refl, List, [], ◌∷◌, length}
use Rattle.std.proofs.Common.{sym, ap, ap₂, ◌∙◌, subst}
use Rattle.words.specs.Choice.{pick}
use Rattle.model.specs.Answers.{Answer}
use Rattle.model.specs.Engine.{Engine}
use Rattle.model.specs.Formed.{formed}
use Rattle.model.specs.Effects.{effect}
use Rattle.model.specs.Apply.{answer_in, answer, is_accepted, written, reply_of, answer_number}
use Rattle.model.specs.Chain.{State, engine_in, Call, Applied, Chain, left_by, Fresh}
use Rattle.model.specs.Fresh.{fresh_engine}
use Rattle.model.specs.Script.{Line, line, room, after_line, played, answers_of, replied}
use Rattle.demands.specs.Ends.{reply_left}
use Rattle.demands.specs.FreshState.{fresh-state, fresh_formed}
use Rattle.demands.specs.Theorems.{demand1}

abbrev line_of : Call → Line
line_of c = line c.command c.bytes

unfoldable pub lines_of : List Call → List Line
lines_of [] = []
lines_of (c ∷ cs) = line_of c ∷ lines_of cs

-- the answers that were given, each as one number
unfoldable pub answers_given : List Call → List ℕ
answers_given [] = []
answers_given (c ∷ cs) = answer_number c.answer ∷ answers_given cs

-- each reply buffer has a script's room
unfoldable pub AllRoom : List Call → Type 0
AllRoom [] = Unit {0}
AllRoom (c ∷ cs) = (length c.out ≡ room) × AllRoom cs

pub record Plays (cs : List Call) (s : State) (e : Engine) : Type 0 where
  pub answers : answers_given cs ≡ answers_of e (lines_of cs)
  pub left : engine_in (left_by cs s) ≡ played (lines_of cs) e
  -- of one more call: where it answers with a length the buffer has the script's reply, and past it what it had; else what it had
  pub replies : (c : Call) → Applied c (left_by cs s) → c.reply ≡ written c.answer (replied e (lines_of cs) (line_of c)) c.out

-- one call
module _ (c : Call) (s : State) (whole : formed s.words s.arena ≡ true) (a : Applied c s) (roomy : length c.out ≡ room) where
  fact : c.answer ≡ answer_in c.command c.bytes (engine_in s) room
  unfolding answer
  fact = a.answers ∙ rw (whole, roomy)

  next-formed : formed c.left.words c.left.arena ≡ true
  next-formed = go (is_accepted c.answer) refl
    where
      go : (b : Bool) → is_accepted c.answer ≡ b → formed c.left.words c.left.arena ≡ true
      go true h = (demand1 c s a).kept h
      go false h = ap (λ (x : State). formed x.words x.arena) ((demand1 c s a).unchanged h).0 ∙ whole

  next_engine : engine_in c.left ≡ after_line (line_of c) (engine_in s)
  next_engine = go (is_accepted c.answer) refl ∙ ap (λ (x : Answer). pick (is_accepted x) (effect c.command c.bytes (engine_in s)) (engine_in s)) fact
    where
      go : (b : Bool) → is_accepted c.answer ≡ b → engine_in c.left ≡ pick (is_accepted c.answer) (effect c.command c.bytes (engine_in s)) (engine_in s)
      go true h = (demand1 c s a).effected h ∙ sym (ap (λ (b : Bool). pick b (effect c.command c.bytes (engine_in s)) (engine_in s)) h)
      go false h = ap engine_in ((demand1 c s a).unchanged h).0 ∙ sym (ap (λ (b : Bool). pick b (effect c.command c.bytes (engine_in s)) (engine_in s)) h)

-- the reply of a call in a state that holds what was played
replies_by : (cs : List Call) (s : State) (e : Engine) → engine_in (left_by cs s) ≡ played (lines_of cs) e → (c : Call) → Applied c (left_by cs s)
    → c.reply ≡ written c.answer (replied e (lines_of cs) (line_of c)) c.out
replies_by cs s e left c a = reply_left c (left_by cs s) a ∙ ap (λ (x : Engine). written c.answer (reply_of c.command c.bytes x) c.out) left

plays : (cs : List Call) (s : State) → formed s.words s.arena ≡ true → Chain cs s → AllRoom cs → Plays cs s (engine_in s)
unfolding Chain AllRoom left_by lines_of answers_given answers_of played
plays [] s h a r = record { answers = refl; left = refl; replies = replies_by [] s (engine_in s) refl }
plays (c ∷ cs) s h a r =
    let more = plays cs c.left (next-formed c s h a.0 r.0) a.1 r.1 in
    let next = next_engine c s h a.0 r.0 in
    let left = more.left ∙ ap (λ (e : Engine). played (lines_of cs) e) next in
    record {
      answers = ap₂ (λ (n : ℕ) (l : List ℕ). n ∷ l) (ap answer_number (fact c s h a.0 r.0)) (more.answers ∙ ap (λ (e : Engine). answers_of e (lines_of cs)) next);
      left = left;
      replies = replies_by (c ∷ cs) s (engine_in s) left;
    }

pub played_by_calls : (s : State) → Fresh s → (cs : List Call) → Chain cs s → AllRoom cs → Plays cs s fresh_engine
played_by_calls s f cs a r =
    let same = fresh-state s f in
    subst (λ (x : State). Plays cs s (engine_in x)) same (plays cs s (ap (λ (x : State). formed x.words x.arena) same ∙ fresh_formed) a r)
