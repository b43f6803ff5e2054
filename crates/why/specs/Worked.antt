-- Worked examples, by computation: the reasons in a plain tree with groups off at several depths.
use Rattle.std.specs.Prelude.{ℕ, ◌≡◌, refl, List, [], ◌∷◌}
use Rattle.std.proofs.Math.Option.{none, some}
use Rattle.nodes.specs.Forest.{node, has}
use Rattle.nodes.specs.Forest as forest
use Rattle.nodes.specs.Order.{order_tree}
use Rattle.model.specs.Engine.{no_definition}
use Rattle.model.specs.View.{group, synth, PlainNode}
use Rattle.values.specs.Targets.{argument}
use Rattle.model.specs.Plain.{Plain, if_some, minus_one, meant_in, plain_order}
use Rattle.why.specs.declared.Reason.{Reason}
use Rattle.why.specs.declared.Reason.TheVariants.{NoNode, Group, Off, AncestorOff, Running}
use Rattle.why.specs.Reasons.{node_of, ancestors, first_off, place_from1, plain_reason, plain_why}

-- a group and a synth with a number and a run flag
abbrev grouped : ℕ → ℕ → PlainNode
grouped n flag = record { number = n; run = flag; kind = group }

abbrev voiced : ℕ → ℕ → PlainNode
voiced n flag = record { number = n; run = flag; kind = synth no_definition [] }

-- the root's flag; in the root synth 1000, group 1, which is off, with synth 1001 and group 2, which is off too, with 1002 and 1003, whose own flag
-- is off; then group 3 with 1004, which is off,
-- 1005, and group 4, which is off, with group 5 with -8; then 1006. The latest is -8.
abbrev sample : ℕ → Plain
sample flag = record {
  tree = node (grouped 0 flag)
      (node (voiced 1000 1) forest.none
      (node (grouped 1 0) (node (voiced 1001 1) forest.none (node (grouped 2 0) (node (voiced 1002 1) forest.none (node (voiced 1003 0) forest.none forest.none)) forest.none))
      (node (grouped 3 1) (node (voiced 1004 0) forest.none (node (voiced 1005 1) forest.none (node (grouped 4 0) (node (grouped 5 1) (node (voiced 4294967288 1) forest.none forest.none) forest.none) forest.none)))
      (node (voiced 1006 1) forest.none forest.none))))
      forest.none;
  names = [];
  next = 4294967287;
  latest = some 4294967288;
  buses = [];
}

-- the same after the latest synth was freed
abbrev without : Plain
without = record { tree = (sample 1).tree; names = []; next = 4294967287; latest = none; buses = [] }

unfoldable asked : List ℕ → Plain → List Reason
asked [] p = []
asked (n ∷ l) p = plain_why n p ∷ asked l p

-- the running order is 1000, 1005, 1006
sample_order : plain_order (sample 1) ≡ 1000 ∷ 1005 ∷ 1006 ∷ []
unfolding order_tree
sample_order = refl

-- places are counted from 1
places : asked (1000 ∷ 1005 ∷ 1006 ∷ []) (sample 1) ≡ Running 1 ∷ Running 2 ∷ Running 3 ∷ []
unfolding asked node_of ancestors first_off has order_tree place_from1
places = refl

-- groups, on or off, the root among them
groups : asked (0 ∷ 1 ∷ 2 ∷ 3 ∷ []) (sample 1) ≡ Group ∷ Group ∷ Group ∷ Group ∷ []
unfolding asked node_of ancestors first_off has order_tree place_from1
groups = refl

-- 1002 lies in group 2 in group 1, both off: group 1 is nearer the root. The own flag of 1003 comes before that.
silent : asked (1001 ∷ 1002 ∷ 1003 ∷ 1004 ∷ []) (sample 1) ≡ AncestorOff 1 ∷ AncestorOff 1 ∷ Off ∷ Off ∷ []
unfolding asked node_of ancestors first_off has order_tree place_from1
silent = refl

-- -1 means the latest, -8, which has its own reason too: group 4, two above it, is off
latest : asked (4294967295 ∷ 4294967288 ∷ []) (sample 1) ≡ AncestorOff 4 ∷ AncestorOff 4 ∷ []
unfolding asked node_of ancestors first_off has order_tree place_from1
latest = refl

-- where there is no latest, -1 is no node, though -8 lives
no_latest : asked (4294967295 ∷ 4294967288 ∷ []) without ≡ NoNode ∷ AncestorOff 4 ∷ []
unfolding asked node_of ancestors first_off has order_tree place_from1
no_latest = refl

-- numbers of no node: a dead one, -2, -9, and the ends of 32 bits
dead : asked (999 ∷ 4294967294 ∷ 4294967287 ∷ 2147483647 ∷ 2147483648 ∷ []) (sample 1) ≡ NoNode ∷ NoNode ∷ NoNode ∷ NoNode ∷ NoNode ∷ []
unfolding asked node_of ancestors first_off has order_tree place_from1
dead = refl

-- with the root off it is the root that is named, of every synth that is on; groups and flags come before it
root_off : asked (0 ∷ 1 ∷ 1000 ∷ 1002 ∷ 1003 ∷ 4294967288 ∷ []) (sample 0) ≡ Group ∷ Group ∷ AncestorOff 0 ∷ AncestorOff 0 ∷ Off ∷ AncestorOff 0 ∷ []
unfolding asked node_of ancestors first_off has order_tree place_from1
root_off = refl

-- "-1 means what it means in a command": the node that a command's argument -1 means, where it means one
as_in_a_command : (p : Plain) → plain_why minus_one p ≡ if_some (meant_in (argument minus_one) p) (λ n. plain_reason n p.tree) NoNode
as_in_a_command p = refl
