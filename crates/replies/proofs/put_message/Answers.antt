use Rattle.std.proofs.Common.{sym, ◌∙◌, arith}
use Rattle.osc.specs.Lengths.{padded_size}
use Rattle.replies.specs.Words.{word_bytes_size, three_pieces}
use Rattle.replies.proofs.put_message.Goals as goal

pub returns : goal.returns
returns c =
    let a = c.args in
    three_pieces _ _ _ _ _ _ _ _ _
    (c.padded_length-start.ensures ∙ sym (padded_size a.address.now))
    (omega (arith, c.padded_length.ensures, padded_size a.tags.now))
    (omega (arith, word_bytes_size a.words.now))
    c.put_padded.ensures c.put_padded-2.ensures c.put_words.ensures
