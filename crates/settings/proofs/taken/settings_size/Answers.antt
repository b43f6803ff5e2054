use mathlib.Core.Path.{◌∙◌}
use native.Mathlib.Omega.{arith}
use lib.ListN.{get_or}
use Rattle.settings.specs.OwnFieldsLaws.{parameters_many, control_short, sizing_starts, sizing_turn, sizing_ends}
use Rattle.settings.proofs.taken.settings_size.Goals as goal

pub loop-i-init : goal.loop-i-init
loop-i-init c =
    let many = c.wide-count.ensures ∙ parameters_many _ c.requires.0 _ c.parameters.ensures in
    sizing_starts _ _ c.requires.0 c.requires.1 _ many

pub overflow_add-size : goal.overflow_add-size
overflow_add-size c =
    let d = c.args.definition.now in
    let now = c.loop-i.invariant in
    let short = control_short d (get_or c.args.labels.now c.loop-i.i 0) 0 c.requires.0.short in
    omega (arith, now.few, now.small, c.setting_size-size.ensures 0)

pub loop-i-preserved : goal.loop-i-preserved
loop-i-preserved c =
    let many = c.wide-count.ensures ∙ parameters_many _ c.requires.0 _ c.parameters.ensures in
    sizing_turn _ _ c.requires.0 c.requires.1 _ many _ _ c.loop-i.invariant (omega arith) _ c.setting_size-size.ensures

pub returns : goal.returns
returns c =
    let many = c.wide-count.ensures ∙ parameters_many _ c.requires.0 _ c.parameters.ensures in
    sizing_ends _ _ c.requires.0 c.requires.1 _ many _ _ c.loop-i.invariant (omega arith)
