-- What is kept along a sequence: the state is well formed, and its nodes, laid out as a tree and seen as the plain tree sees them, are the plain
-- tree.
use Rattle.std.specs.Prelude.{ℕ, ◌+◌, ◌≤◌, Bool, true, false, not, ◌≡◌, refl, List, [], ◌∷◌, ◌++◌, length, ltb, eqb}
use Rattle.std.proofs.Common.{sym, ap, ap₂, ◌∙◌, arith, ltb-true, ltb-false}
use Rattle.std.proofs.Math.Option.{Option, none, some}
use Rattle.std.proofs.lemmas.Bool.{not-true}
use Rattle.words.specs.Choice.{pick}
use Rattle.words.specs.ChoiceLaws.{both_true}
use Rattle.nodes.specs.declared.Node.{Node}
use Rattle.nodes.specs.Place.{is_group, lives}
use Rattle.nodes.specs.Forest.{Forest, none as no_tree, node, flatten, map_forest}
use Rattle.nodes.specs.Order.{order}
use Rattle.treerefinement.specs.Leaves.{Leaves}
use Rattle.values.specs.declared.NodeArgument.{NodeArgument}
use Rattle.values.specs.declared.Target.{Target}
use Rattle.values.specs.declared.Target.TheVariants.{Latest, Reserved}
use Rattle.values.specs.Targets.{named, target_of}
use Rattle.values.specs.TargetsLaws.{signed_high, target_number, target_reserved}
use Rattle.model.specs.Engine.{Slot, Engine, definition_of, controls_of, residents}
use Rattle.model.specs.View.{group, synth, PlainNode, Row, is_group_kind, kind_in, view_of, view_rows}
use Rattle.model.specs.Meaning.{meant_by, known_by, meant, known}
use Rattle.model.specs.Plain.{Plain, minus_one, meaning, meant_in, plain_rows}
use Rattle.model.specs.Demands.{meaning_in, latest_synth}
use Rattle.refinement.specs.Names.{Once}

-- a tree of records, seen with these slots and controls
abbrev pub seen_tree : List Slot → List ℕ → Forest Node → Forest PlainNode
seen_tree slots controls f = map_forest (view_of slots controls) f

pub record Kept (e : Engine) (p : Plain) : Type 0 where
  pub forest : Forest Node
  pub laid : e.nodes ≡ flatten 0 forest
  pub leaves : Leaves forest
  pub tree : p.tree ≡ seen_tree e.slots e.controls forest
  pub names : (name : List ℕ) → meaning_in name e ≡ meaning name p.names
  pub name_count : length (residents e.slots) ≡ length p.names
  pub once : Once p.names
  pub next : e.next ≡ p.next
  pub latest : latest_synth e.latest ≡ p.latest
  pub buses : e.buses ≡ p.buses
  pub ordered : e.order ≡ order e.nodes

-- the plain tree after a step: it is not at a loss, and the engine after it is kept with it
pub record Replayed (e : Engine) (o : Option Plain) : Type 0 where
  pub plain : Plain
  pub stepped : o ≡ some plain
  pub kept : Kept e plain

view-append : (slots : List Slot) (controls : List ℕ) (a b : List Node) → view_rows slots controls (a ++ b) ≡ view_rows slots controls a ++ view_rows slots controls b
unfolding view_rows
view-append slots controls [] b = refl
view-append slots controls (r ∷ a) b = ap (λ (l : List Row). record { depth = r.depth; node = view_of slots controls r } ∷ l) (view-append slots controls a b)

-- the rows of a tree of records, seen, are the rows of the tree that is seen
pub view_tree : (slots : List Slot) (controls : List ℕ) (d : ℕ) (f : Forest Node) → view_rows slots controls (flatten d f) ≡ plain_rows d (seen_tree slots controls f)
unfolding view_rows flatten plain_rows map_forest
view_tree slots controls d no_tree = refl
view_tree slots controls d (node x b a) =
    ap (λ (l : List Row). record { depth = d; node = view_of slots controls x } ∷ l)
    (view-append slots controls (flatten (d + 1) b) (flatten d a)
    ∙ ap₂ (λ (l m : List Row). l ++ m) (view_tree slots controls (d + 1) b) (view_tree slots controls d a))

pub group_kind : (slots : List Slot) (controls : List ℕ) (x : Node) → is_group_kind (kind_in slots controls x) ≡ is_group x
group_kind slots controls x = go (is_group x)
  where
    go : (b : Bool) → is_group_kind (pick b group (synth (definition_of slots x) (controls_of slots controls x))) ≡ b
    go true = refl
    go false = refl

-- a node argument that the engine knows means the same
pub same_meant : (a : NodeArgument) (e : Engine) (p : Plain) → Kept e p → known a e ≡ true → meant_in a p ≡ some (meant a e)
unfolding target_of
same_meant a e p k h = go (ltb n 2147483648) refl (ltb n minus_one) refl h
  where
    n : ℕ
    n = a.number

    no : (t : Target) → t ≡ Reserved → known_by t e.latest e.nodes ≡ true → ⊥
    no t q u = let z : ◌≡◌ {A = Bool} false true = ap (λ (x : Target). known_by x e.latest e.nodes) (sym q) ∙ u in clash z
      where
        clash : ◌≡◌ {A = Bool} false true → ⊥
        clash z = let y : ◌≡◌ {A = ℕ} 0 1 = cc in omega arith

    latest : (t : Target) → t ≡ Latest → known_by t e.latest e.nodes ≡ true → p.latest ≡ some (meant_by t e.latest)
    latest t q u =
        let w = both_true (not (eqb e.latest 0)) (lives e.latest e.nodes) (ap (λ (x : Target). known_by x e.latest e.nodes) (sym q) ∙ u) in
        sym k.latest
        ∙ ap (λ (b : Bool). pick b none (some e.latest)) (not-true (eqb e.latest 0) w.0)
        ∙ ap (λ (x : Target). some (meant_by x e.latest)) (sym q)

    go : (i : Bool) → ltb n 2147483648 ≡ i → (j : Bool) → ltb n minus_one ≡ j → known a e ≡ true → pick i (some n) (pick j none p.latest) ≡ some (meant a e)
    go true u j v y = ap (λ (t : Target). some (meant_by t e.latest)) (sym (target_number n (ltb-true n 2147483648 u)))
    go false u true v y = absurd (no (target_of n) (target_reserved n (ltb-false n 2147483648 u) (ltb-true n minus_one v)) y)
    go false u false v y =
        let past : minus_one ≤ n = ltb-false n minus_one v in
        latest (target_of n) (ap named (signed_high n 0 (ltb-false n 2147483648 u) (omega arith))) y
