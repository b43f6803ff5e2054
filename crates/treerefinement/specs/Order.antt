-- The running order of the table is the running order of the plain tree.
use Rattle.std.specs.Prelude.{ℕ, ◌+◌, ◌≤◌, ◌<◌, Bool, true, false, ◌≡◌, refl, List, [], ◌∷◌, ◌++◌}
use Rattle.std.proofs.Common.{sym, ap, ◌∙◌, append_assoc, append-nil, arith, le-leb}
use Rattle.std.proofs.lemmas.Bool.{lt-leb}
use Rattle.words.specs.Choice.{pick}
use Rattle.nodes.specs.declared.Node.{Node}
use Rattle.nodes.specs.Place.{is_group}
use Rattle.nodes.specs.Forest.{Forest, none, node, flatten}
use Rattle.nodes.specs.Order.{is_on, order_from, order, order_tree}
use Rattle.treerefinement.specs.Flatten.{key, Shallow, shallow_nil, shallow_suc, shallow_flatten, deep_past}

abbrev order_of : Forest Node → List ℕ
order_of f = order_tree key is_group is_on f

-- what is deeper than the limit is passed over
order_past : (limit e : ℕ) (f : Forest Node) (rest : List Node) → limit < e → order_from limit (flatten e f ++ rest) ≡ order_from limit rest
unfolding order_from
order_past limit = deep_past (λ l. order_from limit l) limit (λ r l h. rw (lt-leb r.depth limit h))

-- any limit is as good that what follows does not pass
order_limit : (limit other d : ℕ) (rest : List Node) → Shallow d rest → d ≤ limit → d ≤ other → order_from limit rest ≡ order_from other rest
unfolding order_from Shallow
order_limit limit other d [] s h k = refl
order_limit limit other d (r ∷ l) s h k = rw (le-leb r.depth limit (omega arith), le-leb r.depth other (omega arith))

order_flatten : (d : ℕ) (f : Forest Node) (rest : List Node) → Shallow d rest → order_from d (flatten d f ++ rest) ≡ order_of f ++ order_from d rest
unfolding flatten order_from order_tree
order_flatten d none rest s = refl
order_flatten d (node x b a) rest s =
    rw (le-leb d d (omega arith))
    (here (is_on x) (is_group x)
    (ap (λ (l : List Node). order_from (d + 1) l) regroup
    ∙ order_flatten (d + 1) b (flatten d a ++ rest) (shallow_suc d (flatten d a ++ rest) shallow)
    ∙ ap (λ (l : List ℕ). order_of b ++ l) (order_limit (d + 1) d d (flatten d a ++ rest) shallow (omega arith) (omega arith) ∙ order_flatten d a rest s))
    (ap (λ (l : List Node). order_from d l) regroup ∙ order_past d (d + 1) b (flatten d a ++ rest) (omega arith) ∙ order_flatten d a rest s))
  where
    tail : List Node
    tail = (flatten (d + 1) b ++ flatten d a) ++ rest

    regroup : tail ≡ flatten (d + 1) b ++ (flatten d a ++ rest)
    regroup = append_assoc (flatten (d + 1) b) (flatten d a) rest

    shallow : Shallow d (flatten d a ++ rest)
    shallow = shallow_flatten d a rest s

    here : (on group : Bool) → order_from (d + 1) tail ≡ order_of b ++ (order_of a ++ order_from d rest) → order_from d tail ≡ order_of a ++ order_from d rest
        → pick on (pick group (order_from (d + 1) tail) (x.number ∷ order_from (d + 1) tail)) (order_from d tail)
        ≡ (pick on (pick group (order_of b) (x.number ∷ order_of b)) [] ++ order_of a) ++ order_from d rest
    here true true i j = i ∙ sym (append_assoc (order_of b) (order_of a) (order_from d rest))
    here true false i j = ap (λ (l : List ℕ). x.number ∷ l) (i ∙ sym (append_assoc (order_of b) (order_of a) (order_from d rest)))
    here false group i j = j

pub order-tree : (f : Forest Node) → order (flatten 0 f) ≡ order_tree key is_group is_on f
unfolding order_from
order-tree f = ap (λ (l : List Node). order_from 0 l) (sym (append-nil (flatten 0 f))) ∙ order_flatten 0 f [] shallow_nil ∙ append-nil (order_tree key is_group is_on f)
