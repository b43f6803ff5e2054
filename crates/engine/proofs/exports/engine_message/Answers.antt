-- `engine::exports::engine_message` meets its contract.
use Rattle.engine.proofs.exports.engine_message.Goals as goal

pub returns : goal.returns
returns c =
    record { answer = c.message.result; number = c.call_number.ensures; sends = c.message.ensures }
