-- `settings::recalling::set_at` meets its contract.
use Rattle.state.specs.Known.{known}
use Rattle.settings.specs.Recalled.{set_done}
use Rattle.settings.proofs.recalling.set_at.Goals as goal

pub control_step-requires : goal.control_step-requires
control_step-requires c =
    known c.args.words.now c.args.arena.now c.requires.1.1

pub returns : goal.returns
returns c =
    let a = c.args in
    let lent = c.type_inv.store in
    let kept = c.type_inv.arena in
    set_done a.node a.store.now a.words.now a.arena.now a.at a.size c.word_at.result _ _ (λ i. (lent i).fits) (λ i. (kept i).fits) c.requires.1.1 c.word_at.ensures c.control_step.ensures
