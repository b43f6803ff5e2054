use Rattle.std.proofs.Common.{rules, ◌≡◌, arith}
use Rattle.std.proofs.Math.Bool.{false}
use Rattle.store.specs.Store.{closes}
use Rattle.store.specs.FirstFieldLaws.{first_whole}
use Rattle.store.proofs.formed.first_field.Goals as goal

pub returns : goal.returns
returns c =
    let s = c.args.rest.now in
    let more : closes s ≡ false = search rules in
    first_whole s more c.size_at-size.result c.size_at-size.ensures (omega arith)
