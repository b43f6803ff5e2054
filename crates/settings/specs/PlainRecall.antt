-- A recall, of the plain tree: paper 02, 8/14, "the plain tree is fed the store's bytes with it and sets the same controls". It reads the store itself.
use Rattle.std.specs.Prelude.{ℕ, not, List, [], ◌∷◌}
use Rattle.std.proofs.Math.Option.{Option}
use Rattle.values.specs.declared.Key.TheVariants.{Name}
use Rattle.values.specs.declared.NodeArgument.{NodeArgument}
use Rattle.model.specs.View.{Kind, PlainNode}
use Rattle.model.specs.Plain.{Plain, and_then, only_if, is_group_node, named_in, change_kind, change_below, stored}
use Rattle.store.specs.Store.{Setting, reading}
use Rattle.store.specs.Writing.{version_in}

-- "sets, in stored order, as `/n_set` does by name in the synth's own definition and skips names it lacks"
unfoldable pub recall_kind : List Setting → Kind → Kind
recall_kind [] kind = kind
recall_kind (c ∷ more) kind = recall_kind more (change_kind (stored c.float) Name c.name 1 kind)

abbrev pub recall_node : List Setting → PlainNode → PlainNode
recall_node settings x = record { number = x.number; run = x.run; kind = recall_kind settings x.kind }

-- a recall of a version of a name into a node, which must be a synth; none where the store can't be read, or has no such version
abbrev pub step_recall : List ℕ → ℕ → NodeArgument → List ℕ → Plain → Option Plain
step_recall name number a store p =
    and_then (reading store)
    (λ es. and_then (version_in name number es)
    (λ v. and_then (named_in a p)
    (λ x. only_if (not (is_group_node x)) (change_below (recall_node v.settings) x.number p))))
