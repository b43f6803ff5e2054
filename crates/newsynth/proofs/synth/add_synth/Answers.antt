-- `newsynth::synth::add_synth` meets its contract: the checks' refusal, or the new synth.
use Rattle.std.proofs.lemmas.Result.{err_from_is_err_and}
use Rattle.newsynth.specs.Synth.{synth_refused}
use Rattle.newsynth.proofs.synth.add_synth.Goals as goal

pub returns-in_err-slot : goal.returns-in_err-slot
returns-in_err-slot c =
    let a = c.args in
    let p = err_from_is_err_and c.from_residual.result c.from_residual.ensures.1 in
    rw (p.1, p.2) (synth_refused a.number a.action a.target a.bytes.now a.words.now a.arena.now _ c.in_err-slot.ensures)

pub put_synth-requires : goal.put_synth-requires
put_synth-requires c =
    record { target = c.args.target; bytes = c.args.bytes.now; ground = record { known = c.requires; clear = c.in_ok-slot.ensures } }

pub returns : goal.returns
returns c = c.put_synth.ensures c.args.target c.args.bytes.now (record { known = c.requires; clear = c.in_ok-slot.ensures })
