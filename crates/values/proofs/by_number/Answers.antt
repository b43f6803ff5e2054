-- `values::by_number` meets its contract: the argument is built of the number.
use mathlib.Core.Path.{refl}
use Rattle.values.proofs.by_number.Goals as goal

pub returns : goal.returns
returns c = refl
