-- Calls in a row, as the functions promise them: a fresh engine by `start::fresh`, then each call by `engine::apply`, on the words and the arena
-- that the one before left.
use Prim.{Unit}
use Rattle.std.specs.Prelude.{ℕ, List, [], ◌∷◌}
use Rattle.model.specs.declared.Command.{Command}
use Rattle.model.specs.Answers.{Answer}
use Rattle.model.specs.Answers.{Done}
use Rattle.model.specs.Engine.{Engine, decode}
use Rattle.model.specs.Apply.{Does, Freshly}

-- what lies between two calls
pub record State : Type 0 where
  pub words : List ℕ
  pub arena : List ℕ

abbrev pub engine_in : State → Engine
engine_in s = decode s.words s.arena

-- a call as it was made: a command, its bytes and the reply buffer that was lent; its answer, and the state and the buffer that it left
pub record Call : Type 0 where
  pub command : Command
  pub bytes : List ℕ
  pub out : List ℕ
  pub answer : Answer
  pub left : State
  pub reply : List ℕ

-- what `engine::apply` promises of a call in a state
abbrev pub Applied : Call → State → Type 0
Applied c s = Does c.command c.bytes s.words s.arena c.out c.answer c.left.words c.left.arena c.reply

-- calls, each in the state that the one before left
unfoldable pub Chain : List Call → State → Type 0
Chain [] s = Unit {0}
Chain (c ∷ cs) s = Applied c s × Chain cs c.left

-- the state that they leave
unfoldable pub left_by : List Call → State → State
left_by [] s = s
left_by (c ∷ cs) s = left_by cs c.left

-- a state that `start::fresh` left, and did not refuse
pub record Fresh (s : State) : Type 0 where
  pub words : List ℕ
  pub arena : List ℕ
  pub made : Freshly words arena Done s.words s.arena
