-- Demand 3: numbers are distinct, and every node descends from the root by one parent, of every well-formed state.
use Rattle.std.specs.Prelude.{ℕ, true, ◌≡◌, List}
use Rattle.std.proofs.Common.{sym, ◌∙◌}
use Rattle.nodes.specs.Structure.{parent_of}
use Rattle.treerefinement.specs.Family.{descends, parent-group, one_parent_of}
use Rattle.model.specs.Engine.{decode}
use Rattle.model.specs.Formed.{formed}
use Rattle.model.specs.Demands.{TreeHolds}
use Rattle.state.specs.Known.{known}
use Rattle.preservation.specs.Groups.{group-named}
use Rattle.preservation.specs.TreeKept.{known_sound}

pub tree_holds : (ws bs : List ℕ) → formed ws bs ≡ true → TreeHolds (decode ws bs).nodes
tree_holds ws bs h =
    let t = (decode ws bs).nodes in
    let s = (known_sound ws bs (known ws bs h)).tree in
    record {
      distinct = s.distinct;
      descends = λ n e. descends t s.root s.distinct n e;
      parent_group = λ n e k.
          let w = parent-group t s.root s.distinct n e k in
          (w.0, (sym (group-named (parent_of n t) t) ∙ w.1, w.2));
      one_parent = λ n g e k. one_parent_of t s.root s.distinct n g k;
    }
