use Rattle.std.proofs.Common.{◌+◌, [], ◌∷◌, refl, arith}
use Rattle.words.specs.Bytes.{bytes32}
use Rattle.osc.specs.Message.{padded}
use Rattle.osc.specs.Lengths.{padded_size}
use Rattle.replies.specs.Words.{word_bytes, three_pieces}
use Rattle.replies.specs.Sent.{set_address, named_tags, word_message, named_message, named_size, sends_none, sends_all}
use Rattle.replies.proofs.send_named.Goals as goal

pub returns-then-out-end : goal.returns-then-out-end
returns-then-out-end c =
    let a = c.args in
    sends_none (named_message a.number a.name.now a.value) a.out.now (omega (arith, named_size a.number a.name.now a.value))

pub put_padded-requires : goal.put_padded-requires
put_padded-requires c = omega (arith, padded_size c.args.name.now)

pub returns : goal.returns
unfolding word_bytes
returns c =
    let a = c.args in
    let end = 20 + c.padded_length-end.result in
    let size = named_size a.number a.name.now a.value in
    sends_all (named_message a.number a.name.now a.value) a.out.now (end + 4) c.put_int.new.out (omega (arith, size)) (omega (arith, size))
    (three_pieces (word_message set_address named_tags (a.number ∷ [])) (padded a.name.now) (bytes32 a.value) a.out.now c.put_message.new.out c.put_padded.new.out c.put_int.new.out
    20 end refl (omega (arith, padded_size a.name.now)) (omega arith)
    c.put_message.ensures c.put_padded.ensures c.put_int.ensures)
