-- `store::drop::cut_run` meets its contract: a gap closed, the rest zeroed.
use Prim.Native.Nat.{ℕ, ◌+◌, ◌-◌}
use mathlib.Core.Path.{ap, ◌∙◌}
use Rattle.store.specs.Edit.{zeroed_from, run_cut}
use Rattle.store.proofs.drop.cut_run.Goals as goal

pub returns : goal.returns
returns c =
    let a = c.args in
    c.zero_from.ensures
    ∙ ap (zeroed_from (a.from + (c.contents_end-contents.result - a.to))) c.copy_within.ensures.after
    ∙ ap (λ (n : ℕ). run_cut a.from a.to n a.store.now) c.contents_end-contents.ensures.place
