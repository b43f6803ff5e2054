-- Why a node is silent, as facts about the plain tree: paper 02, 7/14. "An operator points at a number and asks. Answer the first of these that is
-- true: no such node; it is a group; off by its
-- own flag; its own flag is on and the ancestor nearest the root that is off is this one; or running, and its place in the running order, from 1."
use Rattle.std.specs.Prelude.{ℕ, suc, Bool, List, [], ◌∷◌, eqb}
use Rattle.std.proofs.Math.Option.{Option, none, some}
use Rattle.words.specs.Choice.{pick}
use Rattle.nodes.specs.Forest.{Forest, node, has}
use Rattle.nodes.specs.Forest as forest
use Rattle.nodes.specs.Order.{order_tree}
use Rattle.model.specs.View.{PlainNode}
use Rattle.model.specs.Plain.{Plain, if_some, minus_one, number_in, is_group_node, is_on_node}
use Rattle.why.specs.declared.Reason.{Reason}
use Rattle.why.specs.declared.Reason.TheVariants.{NoNode, Group, Off, AncestorOff, Running}

-- a node is found by its number, its key
module _ {A : Type 0} (key : A → ℕ) where
  -- the node of a number
  unfoldable pub node_of : ℕ → Forest A → Option A
  node_of n forest.none = none
  node_of n (node x b a) = pick (eqb (key x) n) (some x) (pick (has key n b) (node_of n b) (node_of n a))

  -- its ancestors, from the root down
  unfoldable pub ancestors : ℕ → Forest A → List A
  ancestors n forest.none = []
  ancestors n (node x b a) = pick (eqb (key x) n) [] (pick (has key n b) (x ∷ ancestors n b) (ancestors n a))

  -- "the ancestor nearest the root that is off": the first of them, from the root down, by its number
  unfoldable pub first_off : (A → Bool) → List A → Option ℕ
  first_off on [] = none
  first_off on (x ∷ l) = pick (on x) (first_off on l) (some (key x))

-- "its place in the running order, from 1"
unfoldable pub place_from1 : ℕ → List ℕ → ℕ
place_from1 n [] = 1
place_from1 n (m ∷ l) = pick (eqb m n) 1 (suc (place_from1 n l))

-- of a synth that is on: the off ancestor, if there is one, or else the place
abbrev pub reason_on : Option ℕ → ℕ → Reason
reason_on (some m) place = AncestorOff m
reason_on none place = Running place

module _ {A : Type 0} (key : A → ℕ) (group on : A → Bool) where
  -- "Answer the first of these that is true"
  abbrev pub first_true : Option A → Option ℕ → ℕ → Reason
  first_true none above place = NoNode
  first_true (some x) above place = pick (group x) Group (pick (on x) (reason_on above place) Off)

  -- the running order is worked out afresh from the tree
  abbrev pub reason : ℕ → Forest A → Reason
  reason n f = first_true (node_of key n f) (first_off key on (ancestors key n f)) (place_from1 n (order_tree key group on f))

abbrev pub plain_reason : ℕ → Forest PlainNode → Reason
plain_reason n f = reason number_in is_group_node is_on_node n f

-- "a reason must be given for every number, -1 and below included. -1 means what it means in a command" (01: "the latest synth made by `/s_new`
-- while that very synth lives", and none otherwise);
-- "a live number below -1 gets its own node's reason, since this question is no command."
abbrev pub reason_for : ℕ → Option ℕ → Forest PlainNode → Reason
reason_for number latest f = pick (eqb number minus_one) (if_some latest (λ n. plain_reason n f) NoNode) (plain_reason number f)

-- the answer of the plain tree
abbrev pub plain_why : ℕ → Plain → Reason
plain_why number p = reason_for number p.latest p.tree
