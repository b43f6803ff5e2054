-- Why a node is silent, of calls: paper 02, 7/14. "The reason given must be the true one": a question after any calls in a row from a fresh engine
-- is told the plain tree's reason, of the tree
-- that was fed the same commands.
use Rattle.std.specs.Prelude.{ℕ, ◌≤◌, true, not, ◌≡◌, refl, List, ◌∷◌, ◌++◌, Ok}
use Rattle.std.proofs.Common.{sym, ap, ap₂, ◌∙◌, subst}
use Rattle.std.proofs.Math.Option.{Option, some}
use Rattle.words.specs.Choice.{both}
use Rattle.nodes.specs.declared.Node.{Node}
use Rattle.nodes.specs.Forest.{Forest, map_forest}
use Rattle.nodes.specs.Formed.{apart}
use Rattle.treerefinement.specs.Flatten.{key}
use Rattle.nodes.specs.Structure.{listed}
use Rattle.treerefinement.specs.Build.{build}
use Rattle.model.specs.Engine.{Engine}
use Rattle.model.specs.View.{PlainNode, view_of}
use Rattle.model.specs.Plain.{Plain, if_some, at_first, number_in, is_group_node, is_on_node, plain_order}
use Rattle.model.specs.Chain.{State, engine_in, Call, Chain, left_by, Fresh}
use Rattle.model.specs.Demands.{replay}
use Rattle.refinement.specs.Kept.{Kept}
use Rattle.refinement.specs.Same.{kept_same}
use Rattle.why.specs.declared.Reason.TheVariants.{Running}
use Rattle.why.specs.Reasons.{node_of, plain_reason, reason_for, plain_why}
use Rattle.why.specs.Held.{held_tree, held_why, why_told}
use Rattle.why.specs.Runs.{times}
use Rattle.why.specs.Settle.{times_once}
use Rattle.why.specs.Mapped.{map-times}
use Rattle.why.specs.Exactly.{StandsAt}
use Rattle.why.specs.Facts.{is_off, is_synth, Facts, facts}
use Rattle.why.specs.Rebuilt.{rebuilt}
use Rattle.demands.specs.SequenceTheorem.{going_on}
use Rattle.demands.specs.Theorems.{demand3}
use Rattle.demands.specs.Session.{Asked, Made, why, Session, left_after, commands_of}
use Rattle.demands.specs.SessionTheorem.{session_parts, chained, same_left, demand3_of_calls}

-- the tree that a state holds is the plain tree
pub held-tree : (e : Engine) (p : Plain) → Kept e p → held_tree e ≡ p.tree
held-tree e p k =
    ap (λ (t : List Node). map_forest (view_of e.slots e.controls) (build t)) k.laid
    ∙ rebuilt (view_of e.slots e.controls) (λ d x. refl) k.forest
    ∙ sym k.tree

-- so the reason is the plain tree's
held-why : (e : Engine) (p : Plain) → Kept e p → (number : ℕ) → held_why number e ≡ plain_why number p
held-why e p k number = ap₂ (λ (latest : Option ℕ) (f : Forest PlainNode). reason_for number latest f) k.latest (held-tree e p k)

-- each number is of one node
once : (e : Engine) (p : Plain) → Kept e p → apart e.nodes ≡ true → (m : ℕ) → times number_in m p.tree ≤ 1
once e p k h m =
    rw (k.tree, map-times (view_of e.slots e.controls) key number_in (λ x. refl) m k.forest) (times_once m k.forest (ap apart (sym k.laid) ∙ h))

-- of a state and the plain tree that was fed the same: what is told of every number is the plain tree's reason; of every node's own number exactly
-- one reason holds, and it is that
pub record Answers (s : State) (p : Plain) : Type 0 where
  pub told : (number : ℕ) → why_told number s.words s.arena ≡ Ok (plain_why number p)
  pub facts : (n : ℕ) → Facts number_in is_group_node is_on_node n p.tree
  -- running at k exactly if the number stands at the place k of the kept order
  pub running : (n k : ℕ) → plain_reason n p.tree ≡ Running k → StandsAt k n (engine_in s).order
  pub standing : (n k : ℕ) → StandsAt k n (engine_in s).order → plain_reason n p.tree ≡ Running k
  -- off exactly if it is of a live synth that is not in the kept order
  pub silent : (n : ℕ) → is_off (plain_reason n p.tree) ≡ both (is_synth number_in is_group_node is_on_node (node_of number_in n p.tree)) (not (listed n (engine_in s).order))

-- of commands in a row, and the plain tree that is fed them
pub why_of_commands : (s : State) → Fresh s → (cs : List Call) → Chain cs s → (p : Plain) → replay cs at_first ≡ some p → Answers (left_by cs s) p
why_of_commands s f cs a p h =
    let end = going_on s f cs a in
    let e = engine_in (left_by cs s) in
    let is : end.plain ≡ p = ap (λ (o : Option Plain). if_some o (λ q. q) p) (sym end.replayed ∙ h) in
    let same : Kept e p = subst (λ (q : Plain). Kept e q) is end.going.same in
    let order : e.order ≡ plain_order p = (kept_same e p same).order in
    let all : (n : ℕ) → Facts number_in is_group_node is_on_node n p.tree =
    facts number_in is_group_node is_on_node p.tree (once e p same (demand3 s f cs a).tree.distinct) in
    record {
      told = λ number. rw end.going.whole (ap Ok (held-why e p same number));
      facts = all;
      running = λ n k h. subst (λ (l : List ℕ). StandsAt k n l) (sym order) ((all n).running k h);
      standing = λ n k h. (all n).standing k (subst (λ (l : List ℕ). StandsAt k n l) order h);
      silent = λ n. (all n).silent ∙ ap (λ (l : List ℕ). both (is_synth number_in is_group_node is_on_node (node_of number_in n p.tree)) (not (listed n l))) (sym order);
    }

-- of calls of every kind in any mixture: the plain tree is fed the commands that they stand for
pub why_of_sessions : (s : State) → Fresh s → (ms : List Made) → Session ms s → (p : Plain) → replay (commands_of ms s) at_first ≡ some p → Answers (left_after ms s) p
why_of_sessions s f ms c p h = subst (λ (x : State). Answers x p) (same_left ms s c) (why_of_commands s f (commands_of ms s) (chained ms s c) p h)

-- of a question that was asked in a state, and the plain tree that was fed the same, which was never at a loss: it was told that tree's reason, and
-- the state is as it was
pub record ToldTrue (m : Asked) (s : State) (replayed : Option Plain) : Type 0 where
  pub plain : Plain
  pub fed : replayed ≡ some plain
  pub told : m.told ≡ Ok (plain_why m.number plain)
  pub left : m.left ≡ s
  pub answers : Answers s plain

-- of every question of a session, by the calls before it
pub why_of_calls : (s : State) → Fresh s → (ms : List Made) (m : Asked) (more : List Made) → Session (ms ++ (why m ∷ more)) s → ToldTrue m (left_after ms s) (replay (commands_of ms s) at_first)
unfolding Session
why_of_calls s f ms m more c =
    let parts = session_parts ms (why m ∷ more) s c in
    let end = (demand3_of_calls s f ms parts.0).commands in
    let answers = why_of_sessions s f ms parts.0 end.plain end.replayed in
    let told = parts.1.0 in
    record { plain = end.plain; fed = end.replayed; told = told.tells ∙ answers.told m.number; left = told.left; answers = answers }
