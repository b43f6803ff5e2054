-- What a node argument comes to, by the one check that judges it: the place of the node that it means, or its refusal.
use Rattle.std.specs.Prelude.{ℕ, ◌<◌, true, false, not, ◌≡◌, refl, List, Ok, Err, Result, Option, Some, None, IfSome, unwrap_or}
use Rattle.std.specs.Option.{ok_or}
use Rattle.std.proofs.Common.{ap, arith}
use Rattle.refusals.specs.declared.Refusal.{Refusal}
use Rattle.refusals.specs.declared.Refusal.TheVariants.{NoNode}
use Rattle.nodes.specs.Place.{place}
use Rattle.values.specs.declared.NodeArgument.{NodeArgument}
use Rattle.values.specs.Targets.{target_of}
use Rattle.model.specs.Answers.{Refused}
use Rattle.model.specs.Layout.{count_in, latest_in, nodes_in}
use Rattle.model.specs.Engine.{decode}
use Rattle.model.specs.Meaning.{meant_by, meant}
use Rattle.model.specs.Checks.{node_check}
use Rattle.names.specs.Named.{Named, named_known, named_unknown}

-- the number that an argument means, by the words
abbrev pub meant_in : NodeArgument → List ℕ → ℕ
meant_in a ws = meant_by (target_of a.number) (latest_in ws)

-- the node that an argument means stands at a place of the table, and its check does not fire
pub record NodeFound (a : NodeArgument) (ws : List ℕ) (at : ℕ) : Type 0 where
  pub live : at < count_in ws
  pub here : at ≡ place (meant_in a ws) (nodes_in ws)
  pub passes : (bs : List ℕ) → (node_check a (decode ws bs)).fires ≡ false

-- its check fires, with a refusal for its answer
pub record NodeRefused (a : NodeArgument) (ws : List ℕ) (r : Refusal) : Type 0 where
  pub fires : (bs : List ℕ) → (node_check a (decode ws bs)).fires ≡ true
  pub answer : (bs : List ℕ) → (node_check a (decode ws bs)).answer ≡ Refused r

-- the one or the other
abbrev pub Judged : NodeArgument → List ℕ → Result ℕ Refusal → Type 0
Judged a ws (Ok at) = NodeFound a ws at
Judged a ws (Err r) = NodeRefused a ws r

-- by the place of the number that it means, if it has one
pub judged : (a : NodeArgument) (ws : List ℕ) (o : Option ℕ) → Named a ws (unwrap_or o (count_in ws)) → IfSome o (λ at. at < count_in ws) → Judged a ws (ok_or o NoNode)
judged a ws (Some at) n below = record { live = below; here = n.here below; passes = λ bs. ap not (named_known a ws bs at n below) }
judged a ws None n below = record { fires = λ bs. ap not (named_unknown a ws bs (count_in ws) n (omega arith)); answer = λ bs. refl }

-- where the node stands, as the engine means it
pub found_place : (a : NodeArgument) (ws bs : List ℕ) (at : ℕ) → NodeFound a ws at → at ≡ place (meant a (decode ws bs)) (nodes_in ws)
unfolding decode
found_place a ws bs at n = n.here
