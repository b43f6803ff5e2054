-- `store::walk::contents_end` meets its contract: a walk over all fields.
use mathlib.Core.Path.{ap}
use native.Mathlib.Omega.{arith}
use lib.ListN.{length, length-append}
use Rattle.store.specs.Store.{entries_of}
use Rattle.store.specs.Writing.{fields_for, writing}
use Rattle.store.specs.ReadingLaws.{store_stands}
use Rattle.store.specs.WalkLaws.{store_ahead, contents_end}
use Rattle.store.proofs.walk.contents_end.Goals as goal

pub past_tags-requires : goal.past_tags-requires
past_tags-requires c =
    let s = c.args.store.now in
    (omega arith, record { fields = fields_for (entries_of s); ahead = store_ahead s (store_stands s (λ i. omega (arith, c.type_inv.store i)) c.requires) })

pub returns : goal.returns
returns c =
    let s = c.args.store.now in
    let stands = store_stands s (λ i. omega (arith, c.type_inv.store i)) c.requires in
    let place = contents_end s stands c.past_tags.result c.past_tags.ensures in
    record { place = place; inside = omega (arith, ap length stands.split, length-append (writing (entries_of s)) stands.rest) }
