-- The same of the table: what is seen on the way along the rows before a node's own.
use Rattle.std.specs.Prelude.{ℕ, ◌+◌, ◌*◌, List, [], ◌∷◌, length, leb, eqb}
use Rattle.words.specs.Choice.{pick}
use Rattle.nodes.specs.declared.Node.{Node}
use Rattle.nodes.specs.Table.{width, node_from, rows}
use Rattle.nodes.specs.Place.{is_group, place}
use Rattle.nodes.specs.Order.{is_on, order_from}
use Rattle.model.specs.Layout.{count_in, latest_in, nodes_in}
use Rattle.model.specs.Plain.{minus_one}
use Rattle.why.specs.declared.Reason.{Reason}
use Rattle.why.specs.declared.Reason.TheVariants.{NoNode, Group, Off, AncestorOff, Running}

-- how deep a record may be with every node above it on, and the number of the last record that had: one record later
abbrev pub see : ℕ × ℕ → Node → ℕ × ℕ
see s r = pick (leb r.depth s.0) (pick (is_on r) (r.depth + 1) r.depth, r.number) s

-- and past rows
unfoldable pub sight : ℕ × ℕ → List Node → ℕ × ℕ
sight s [] = s
sight s (r ∷ l) = sight (see s r) l

-- the first so many rows in the words us, from the root on
abbrev pub sight_to : List ℕ → ℕ → ℕ × ℕ
sight_to us at = sight (0, 0) (rows at us)

-- the reason of the row at a place among so many: a row too deep for what was seen before it is below the last that was not, and that one is off
abbrev pub row_reason : List ℕ → ℕ → ℕ → Reason
row_reason us count at =
    pick (leb count at) NoNode
    (pick (is_group (node_from us (width * at))) Group
    (pick (is_on (node_from us (width * at)))
    (pick (leb (node_from us (width * at)).depth (sight_to us at).0) (Running (length (order_from 0 (rows at us)) + 1)) (AncestorOff (sight_to us at).1))
    Off))

-- the place of the node that a number asks for, or the count
abbrev pub asked_place : ℕ → List ℕ → ℕ
asked_place number ws = pick (eqb number minus_one) (pick (eqb (latest_in ws) 0) (count_in ws) (place (latest_in ws) (nodes_in ws))) (place number (nodes_in ws))
