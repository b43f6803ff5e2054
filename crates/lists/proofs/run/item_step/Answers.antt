-- `lists::run::item_step` meets its contract.
use Rattle.std.proofs.Common.{◌≡◌, ℕ, ◌+◌, ◌-◌, ◌≤◌, length, sym, ap₂, arith, rules}
use Rattle.words.specs.Parts.{region}
use Rattle.lists.specs.Lent.{item_in}
use Rattle.lists.specs.Laid.{acts_laid, acts-parsed}
use Rattle.lists.specs.Running.{goes_by}
use Rattle.lists.proofs.run.item_step.Goals as goal

pub overflow_add-end : goal.overflow_add-end
overflow_add-end c =
    let start = c.part_start-start.ensures in
    let size = c.part_size.ensures in
    let within = acts_laid (length c.args.bytes.now) (item_in c.args.item.now) c.requires.1.0 in
    omega arith

pub slice_bounds-step-end : goal.slice_bounds-step-end
slice_bounds-step-end c =
    let start = c.part_start-start.ensures in
    let size = c.part_size.ensures in
    let within = acts_laid (length c.args.bytes.now) (item_in c.args.item.now) c.requires.1.0 in
    let end : c.part_start-start.result + c.part_size.result ≤ length c.args.bytes.now = omega arith in
    search rules

pub step-requires : goal.step-requires
step-requires c = c.requires.1.1

pub returns-in-Some : goal.returns-in-Some
returns-in-Some c =
    let a = c.args in
    let i = item_in a.item.now in
    let start = c.part_start-start.ensures in
    let size = c.part_size.ensures in
    let long : c.part_start-start.result + c.part_size.result - c.part_start-start.result ≡ i.size = omega arith in
    goes_by i a.bytes.now a.words.now a.arena.now c.in-Some.command _ c.step.result _ _ _
    (sym c.in-Some.ensures)
    (ap₂ (λ (n k : ℕ). region n k a.bytes.now) start long)
    c.step.ensures

pub returns-in-None : goal.returns-in-None
returns-in-None c =
    absurd (acts-parsed (length c.args.bytes.now) (item_in c.args.item.now) c.requires.1.0 (sym c.in-None.ensures))
