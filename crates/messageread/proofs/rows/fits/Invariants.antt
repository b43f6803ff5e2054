use Rattle.std.proofs.Common.{◌≡◌, drop}
use Rattle.messages.specs.Table.{fit_all}
use Rattle.messages.specs.Rows.{slots_of}
use Rattle.messageread.proofs.rows.fits.Given as goal

abbrev pub invariant-loop-k : goal.invariant-loop-k
invariant-loop-k l = fit_all (drop l.k (slots_of l.op)) (drop l.k l.tags) ≡ fit_all (slots_of l.op) l.tags
