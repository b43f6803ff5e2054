-- The node that an argument means is the record at its place.
use Rattle.std.specs.Prelude.{ℕ, ◌+◌, ◌≡◌, refl, List, ◌∷◌, drop}
use Rattle.std.proofs.Common.{sym, ap, ◌∙◌}
use Rattle.words.specs.Parts.{region}
use Rattle.nodes.specs.declared.Node.{Node}
use Rattle.nodes.specs.TableLaws.{row-from}
use Rattle.nodes.specs.Place.{place}
use Rattle.nodes.specs.PlaceLaws.{search_at}
use Rattle.values.specs.declared.NodeArgument.{NodeArgument}
use Rattle.model.specs.Layout.{nodes_place, nodes_words, count_in, nodes_in, record_in}
use Rattle.model.specs.Engine.{decode}
use Rattle.model.specs.Meaning.{node_named, node}
use Rattle.names.specs.Judged.{meant_in, NodeFound}

-- the record that a search stops at
named_record : (n : ℕ) (t : List Node) (r : Node) (rest : List Node) → drop (place n t) t ≡ r ∷ rest → node_named n t ≡ r
unfolding node_named
named_record n = search_at (λ l. node_named n l) (λ r l. r) n (λ r l. refl)

pub node_here : (a : NodeArgument) (ws : List ℕ) (at : ℕ) → NodeFound a ws at → (bs : List ℕ) → node a (decode ws bs) ≡ record_in ws at
unfolding decode
node_here a ws at f bs =
    named_record (meant_in a ws) (nodes_in ws) (record_in ws at) (drop (at + 1) (nodes_in ws))
    (ap (λ (k : ℕ). drop k (nodes_in ws)) (sym f.here) ∙ row-from (count_in ws) (region nodes_place nodes_words ws) at f.live)
