-- The checks of moves: the places of both nodes, or the first refusal.
use Rattle.std.specs.Prelude.{ℕ, Bool, false, not, ◌≡◌, List, ◌∷◌, eqb, Result, Ok, Err}
use Rattle.std.proofs.Common.{◌∙◌, arith}
use Rattle.words.specs.Choice.{pick}
use Rattle.refusals.specs.declared.Refusal.{Refusal}
use Rattle.refusals.specs.declared.Refusal.TheVariants.{WrongKind, InsideItself}
use Rattle.nodes.specs.Place.{is_group}
use Rattle.nodes.specs.Edit.{is_below}
use Rattle.values.specs.declared.NodeArgument.{NodeArgument}
use Rattle.model.specs.Answers.{Answer}
use Rattle.model.specs.Answers.{Done, Refused}
use Rattle.model.specs.Layout.{count_in, nodes_in, record_in, node_words}
use Rattle.model.specs.Engine.{Engine, decode}
use Rattle.model.specs.Checks.{Check, first_of, node_check, inside, beside_checks, into_checks}
use Rattle.tree.specs.Shallow.{moving}
use Rattle.tree.specs.Ends.{in_run, Moving}
use Rattle.tree.specs.Below.{is_below-at}
use Rattle.tree.specs.Sizes.{TwoPlaces}
use Rattle.names.specs.Judged.{meant_in, NodeFound, NodeRefused}
use Rattle.treecommands.specs.Ready.{Ready, words_long}
use Rattle.treecommands.specs.Finding.{root_there, group-there}

-- two arguments judged in their order: the places of both nodes, or the answer, whatever checks come behind
abbrev pub PairJudged : NodeArgument → NodeArgument → List ℕ → Result (ℕ × ℕ) Refusal → Type 0
PairJudged x y ws (Ok at) = NodeFound x ws at.0 × NodeFound y ws at.1
PairJudged x y ws (Err r) = (bs : List ℕ) (behind : List Check) → first_of (node_check x (decode ws bs) ∷ (node_check y (decode ws bs) ∷ behind)) Done ≡ Refused r

module _ (x y : NodeArgument) (ws : List ℕ) (r : Refusal) where
  pub first_refused : NodeRefused x ws r → PairJudged x y ws (Err r)
  unfolding first_of
  first_refused n bs behind = rw (n.fires bs) (n.answer bs)

  pub second_refused : (i : ℕ) → NodeFound x ws i → NodeRefused y ws r → PairJudged x y ws (Err r)
  unfolding first_of
  second_refused i f n bs behind = rw (f.passes bs, n.fires bs) (n.answer bs)

-- the answer by the checks, whatever the arena
abbrev pub Answers : (Engine → List Check) → List ℕ → Refusal → Type 0
Answers checks ws r = (bs : List ℕ) → first_of (checks (decode ws bs)) Done ≡ Refused r

-- no check fires, and both nodes stand at their places, the second not in the run of the first
pub record Clear (checks : Engine → List Check) (moved to : NodeArgument) (ws : List ℕ) (a b : ℕ) : Type 0 where
  pub passed : (bs : List ℕ) → first_of (checks (decode ws bs)) Done ≡ Done
  pub first : NodeFound moved ws a
  pub second : NodeFound to ws b
  pub apart : is_below (meant_in to ws) (meant_in moved ws) (nodes_in ws) ≡ false
  pub moving : Moving (node_words ws) (count_in ws) a b

abbrev pub PairFound : (Engine → List Check) → NodeArgument → NodeArgument → List ℕ → Result (ℕ × ℕ) Refusal → Type 0
PairFound checks moved to ws (Ok at) = Clear checks moved to ws at.0 at.1
PairFound checks moved to ws (Err r) = Answers checks ws r

-- the checks behind those of the arguments: both kinds, and the place inside the moved node
abbrev pub kind_answer : Bool → Bool → Bool → Answer
kind_answer first second below = pick first (Refused WrongKind) (pick second (Refused WrongKind) (pick below (Refused InsideItself) Done))

-- both nodes found: what their places tell
module _ (moved to : NodeArgument) (ws : List ℕ) (k : Ready ws) (a b : ℕ) (f : NodeFound moved ws a) (g : NodeFound to ws b) where
  inside_there : (bs : List ℕ) → inside to moved (decode ws bs) ≡ in_run (count_in ws) (node_words ws) b a
  unfolding decode
  inside_there bs = is_below-at (count_in ws) (node_words ws) (meant_in to ws) (meant_in moved ws) b a g.here f.here g.live f.live k.tree.distinct

  pub beside_row : (bs : List ℕ) → first_of (beside_checks moved to (decode ws bs)) Done ≡ kind_answer (eqb a 0) (eqb b 0) (in_run (count_in ws) (node_words ws) b a)
  unfolding first_of
  beside_row bs = rw (f.passes bs, g.passes bs, root_there moved ws k a f bs, root_there to ws k b g bs, inside_there bs)

  pub into_row : (bs : List ℕ) → first_of (into_checks to moved (decode ws bs)) Done ≡ kind_answer (not (is_group (record_in ws b))) (eqb a 0) (in_run (count_in ws) (node_words ws) b a)
  unfolding first_of
  into_row bs = rw (g.passes bs, f.passes bs, group-there to ws k b g bs, root_there moved ws k a f bs, inside_there bs)

  pub two_places : (count : ℕ) → count ≡ count_in ws → TwoPlaces (node_words ws) count b a
  two_places count same = record {
    room = rw (words_long ws k.size) (omega (arith, k.few));
    few = omega (arith, k.few);
    live = omega (arith, g.live);
    other = omega (arith, f.live);
  }

  pub clear : (checks : Engine → List Check) → in_run (count_in ws) (node_words ws) b a ≡ false → ((bs : List ℕ) → first_of (checks (decode ws bs)) Done ≡ Done) → Clear checks moved to ws a b
  unfolding decode
  clear checks q p = record {
    passed = p;
    first = f;
    second = g;
    apart = inside_there k.arena ∙ q;
    moving = moving (count_in ws) (node_words ws) k.tree.root (rw (words_long ws k.size) (omega (arith, k.few))) k.few a b f.live g.live q;
  }
