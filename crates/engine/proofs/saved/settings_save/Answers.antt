-- `engine::saved::settings_save` meets its contract.
use Rattle.engine.specs.CallsLaws.{stored}
use Rattle.engine.proofs.saved.settings_save.Goals as goal

pub returns : goal.returns
returns c =
    stored _ c.by_number.result c.by_number.ensures _ _ _ c.save.result _ _ c.saved_number.ensures c.save.ensures
