use mathlib.Core.Path.{◌∙◌}
use native.Mathlib.Omega.{arith}
use Rattle.settings.specs.OwnFieldsLaws.{parameters_many, filling_starts, filling-room, filling_turn, filling_ends}
use Rattle.settings.proofs.taken.write_settings.Goals as goal

pub loop-i-init : goal.loop-i-init
loop-i-init c =
    let many = c.wide-count.ensures ∙ parameters_many _ c.requires.0 _ c.parameters.ensures in
    filling_starts _ _ c.requires.0 c.requires.1 _ many _ _ c.requires.3

pub write_setting-at-requires : goal.write_setting-at-requires
write_setting-at-requires c =
    let many = c.wide-count.ensures ∙ parameters_many _ c.requires.0 _ c.parameters.ensures in
    (c.requires.0.short, filling-room _ _ c.requires.0 c.requires.1 _ many _ _ _ _ c.loop-i.invariant (omega arith))

pub loop-i-preserved : goal.loop-i-preserved
loop-i-preserved c =
    let many = c.wide-count.ensures ∙ parameters_many _ c.requires.0 _ c.parameters.ensures in
    let e = c.write_setting-at.ensures in
    rw (e.0, e.1) (filling_turn _ _ c.requires.0 c.requires.1 _ many _ _ _ _ c.loop-i.invariant (omega arith))

pub returns : goal.returns
returns c =
    let many = c.wide-count.ensures ∙ parameters_many _ c.requires.0 _ c.parameters.ensures in
    filling_ends _ _ c.requires.0 c.requires.1 _ many _ _ _ _ c.loop-i.invariant (omega arith)
