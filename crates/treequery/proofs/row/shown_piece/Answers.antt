use mathlib.Core.Path.{◌∙◌}
use Rattle.values.specs.Controls.{seen}
use Rattle.values.specs.ControlLaws.{seen_mapping}
use Rattle.treequery.specs.Shown.{shown-own, shown_bus}
use Rattle.treequery.proofs.row.shown_piece.Goals as goal

pub returns-in-Unmapped : goal.returns-in-Unmapped
returns-in-Unmapped c =
    let control = c.args.control in
    shown-own (seen control) c.own_word.result (seen_mapping control ∙ c.in-Unmapped.is) c.own_word.ensures

pub returns-in-Bus : goal.returns-in-Bus
returns-in-Bus c =
    let control = c.args.control in
    shown_bus (seen control) c.in-Bus.bus (seen_mapping control ∙ c.in-Bus.is)
