use Rattle.format.specs.Fields.{name_bytes}
use Rattle.messageread.proofs.cursor.Cursor.text.Goals as goal

pub returns : goal.returns
returns c =
    let ended = c.in_ok-end.ensures in
    rw ended.size (c.padded.ensures name_bytes ended.good)
