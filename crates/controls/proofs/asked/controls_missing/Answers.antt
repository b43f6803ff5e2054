use mathlib.Core.Path.{sym, ◌∙◌}
use Rattle.model.specs.Engine.{decode}
use Rattle.model.specs.Layout.{record_in}
use Rattle.controls.specs.Asked.{controls_missing, controls_past, missing_not}
use Rattle.controls.proofs.asked.controls_missing.Goals as goal

pub returns-in_default-matches : goal.returns-in_default-matches
returns-in_default-matches c =
    let a = c.args in
    let slots = (decode a.words.now a.arena.now).slots in
    let r = record_in a.words.now a.place in
    missing_not (controls_missing a.key a.count a.name.now slots r) (controls_past a.key a.count a.name.now slots r) c.in-Err.refusal (sym c.in-Err.is ∙ c.controls_asked.ensures) c.in_default-matches.not-NoControl
