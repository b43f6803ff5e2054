-- What `why` tells, of any words and any arena: refusal 1 where they are no well-formed state, and otherwise the reason in the plain tree that the
-- state holds.
use Rattle.std.specs.Prelude.{ℕ, List, Result, Ok, Err}
use Rattle.words.specs.Choice.{pick}
use Rattle.refusals.specs.declared.Refusal.{Refusal}
use Rattle.refusals.specs.declared.Refusal.TheVariants.{BadState}
use Rattle.nodes.specs.Forest.{Forest, map_forest}
use Rattle.treerefinement.specs.Build.{build}
use Rattle.model.specs.Engine.{Engine, decode}
use Rattle.model.specs.View.{PlainNode, view_of}
use Rattle.model.specs.Formed.{formed}
use Rattle.model.specs.Demands.{latest_synth}
use Rattle.why.specs.declared.Reason.{Reason}
use Rattle.why.specs.Reasons.{reason_for}

-- the tree of the nodes in depth-first order with depths, each node as the plain tree knows it
abbrev pub held_tree : Engine → Forest PlainNode
held_tree e = map_forest (view_of e.slots e.controls) (build e.nodes)

abbrev pub held_why : ℕ → Engine → Reason
held_why number e = reason_for number (latest_synth e.latest) (held_tree e)

-- "1 comes first."
abbrev pub why_told : ℕ → List ℕ → List ℕ → Result Reason Refusal
why_told number ws arena = pick (formed ws arena) (Ok (held_why number (decode ws arena))) (Err BadState)
