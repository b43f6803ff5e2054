-- `engine::saved::settings_recall` meets its contract.
use Rattle.engine.specs.CallsLaws.{recalled}
use Rattle.engine.proofs.saved.settings_recall.Goals as goal

pub returns : goal.returns
returns c =
    recalled _ _ _ c.by_number.result c.by_number.ensures _ _ _ _ _ _ c.told.ensures c.recall.ensures
