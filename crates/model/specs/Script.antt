-- A list of commands played on an engine, for the tables of examples: each answered by the refusal table, and its effect where it is accepted.
use Rattle.std.specs.Prelude.{ℕ, Bool, true, false, List, [], ◌∷◌, length}
use Rattle.words.specs.Choice.{pick}
use Rattle.faults.specs.Faults.{fault_number}
use Rattle.format.specs.Read.{Read, got, bad}
use Rattle.format.specs.Definition.{Definition}
use Rattle.format.specs.Reader.{same_name}
use Rattle.model.specs.declared.Command.{Command}
use Rattle.model.specs.Engine.{Engine}
use Rattle.model.specs.Effects.{effect}
use Rattle.model.specs.Apply.{answer_in, is_accepted, answer_number, reply_of}

-- a command with its bytes
pub record Line : Type 0 where
  pub command : Command
  pub bytes : List ℕ

abbrev pub line : Command → List ℕ → Line
line c bytes = record { command = c; bytes = bytes }

-- the reply buffer of a script has room for 100,000 bytes
abbrev pub room : ℕ
room = 100000

abbrev pub accepts : Line → Engine → Bool
accepts l e = is_accepted (answer_in l.command l.bytes e room)

abbrev pub after_line : Line → Engine → Engine
after_line l e = pick (accepts l e) (effect l.command l.bytes e) e

unfoldable pub played : List Line → Engine → Engine
played [] e = e
played (l ∷ ls) e = played ls (after_line l e)

-- the answers of all lines, each as one number
unfoldable pub answers_of : Engine → List Line → List ℕ
answers_of e [] = []
answers_of e (l ∷ ls) = answer_number (answer_in l.command l.bytes e room) ∷ answers_of (after_line l e) ls

-- the reply to a query behind a script, and the running order
abbrev pub replied : Engine → List Line → Line → List ℕ
replied e ls l = reply_of l.command l.bytes (played ls e)

abbrev pub order_after : Engine → List Line → List ℕ
order_after e ls = (played ls e).order

-- what is said of a file: 0 and the number of definitions, or the refusal's number and its place
abbrev pub verdict : Read (List Definition) → List ℕ
verdict (got ds end) = 0 ∷ length ds ∷ []
verdict (bad r at) = fault_number r ∷ at ∷ []

-- one row of a table: what the definitions say, and what the paper says
pub record Example : Type 0 where
  pub found : List ℕ
  pub wanted : List ℕ

abbrev pub example : List ℕ → List ℕ → Example
example a b = record { found = a; wanted = b }

-- every row agrees
unfoldable pub agrees : List Example → Bool
agrees [] = true
agrees (x ∷ xs) = pick (same_name x.found x.wanted) (agrees xs) false
