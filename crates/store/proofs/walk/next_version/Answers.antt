-- `store::walk::next_version` meets its contract: a walk over its settings.
use native.Mathlib.Omega.{arith}
use Rattle.store.specs.VersionWalkLaws.{version_opens}
use Rattle.store.proofs.walk.next_version.Goals as goal

pub past_tags-requires : goal.past_tags-requires
past_tags-requires c =
    let o = version_opens c.args.store.now c.args.at c.requires.0 c.requires.1 in
    (omega arith, record { fields = _; ahead = o.behind })
