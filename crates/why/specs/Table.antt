-- The reason for a number, of the table's own tree.
use Rattle.std.specs.Prelude.{ℕ, List, eqb}
use Rattle.words.specs.Choice.{pick}
use Rattle.nodes.specs.declared.Node.{Node}
use Rattle.nodes.specs.Place.{is_group}
use Rattle.nodes.specs.Order.{is_on}
use Rattle.treerefinement.specs.Flatten.{key}
use Rattle.treerefinement.specs.Build.{build}
use Rattle.model.specs.Plain.{minus_one}
use Rattle.why.specs.declared.Reason.{Reason}
use Rattle.why.specs.declared.Reason.TheVariants.{NoNode}
use Rattle.why.specs.Reasons.{reason}

abbrev pub table_reason : ℕ → ℕ → List Node → Reason
table_reason number latest t =
    pick (eqb number minus_one) (pick (eqb latest 0) NoNode (reason key is_group is_on latest (build t))) (reason key is_group is_on number (build t))
