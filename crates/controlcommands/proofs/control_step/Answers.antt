-- `controlcommands::control_step` meets its contract: `/n_set` is `/n_fill` with a count of one.
use Rattle.controlcommands.specs.Steps.{set_filled}
use Rattle.controlcommands.proofs.control_step.Goals as goal

pub returns-in-Set : goal.returns-in-Set
returns-in-Set c = rw c.in-Set.is (set_filled _ _ _ _ _ _ _ _ c.fill_controls.ensures)
