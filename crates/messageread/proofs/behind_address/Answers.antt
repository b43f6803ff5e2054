use Rattle.std.proofs.Common.{◌≡◌, Some, arith}
use Rattle.messageread.specs.Answers.{bytes_of}
use Rattle.messageread.specs.FinishLaws.{tags_stand}
use Rattle.messageread.proofs.behind_address.Goals as goal

pub returns : goal.returns
returns c =
    let a = c.args in
    let s = a.message.now in
    let tags = c.in_ok-tags.tags in
    let place = c.in_ok-tags.arguments in
    let found : c.headed.result ≡ Some (tags, place) = grind arith in
    tags_stand s (bytes_of s a.address) a.next.at tags place (rw found at c.headed.ensures) c.part-tags.result.now c.part-tags.ensures c.find-op.result (rw c.part.ensures at c.find-op.ensures) c.walk.result c.walk.ensures c.finish.result c.finish.ensures
