-- `engine::exports::engine_list` meets its contract.
use Rattle.engine.proofs.exports.engine_list.Goals as goal

pub returns : goal.returns
returns c =
    record { outcome = c.list.result; number = c.list_number.ensures; lists = c.list.ensures }
