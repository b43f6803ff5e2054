use Rattle.std.proofs.Common.{arith}
use Rattle.replies.specs.Sent.{word_message_size, sends_none, sends_all}
use Rattle.replies.proofs.send_words.Goals as goal

pub returns-then-out-size : goal.returns-then-out-size
returns-then-out-size c =
    let a = c.args in
    sends_none _ _ (omega (arith, word_message_size a.address.now a.tags.now a.words.now))

pub returns : goal.returns
returns c =
    let a = c.args in
    let size = word_message_size a.address.now a.tags.now a.words.now in
    sends_all _ _ _ _ (omega (arith, size)) (omega (arith, size)) c.put_message.ensures
