-- A fresh engine is well formed, and it is the plain tree at first.
use Prim.{tt}
use Rattle.std.specs.Prelude.{ℕ, Bool, true, false, ◌≡◌, refl, List, [], ◌∷◌, length, eqb}
use Rattle.std.proofs.Common.{ap, ap₂, ◌∙◌, arith, eq-eqb}
use Rattle.std.proofs.Math.Option.{Option, none, some}
use Rattle.words.specs.Choice.{pick, both}
use Rattle.format.specs.Definition.{Definition}
use Rattle.format.specs.Reader.{same_name}
use Rattle.nodes.specs.Table.{rows, encode, numbers}
use Rattle.nodes.specs.Place.{lives}
use Rattle.nodes.specs.Forest.{single, flatten, map_forest}
use Rattle.nodes.specs.Order.{order_from}
use Rattle.nodes.specs.Formed.{steps, rooted, apart, all_formed, row_taken, rows_apart, synth_lives}
use Rattle.nodes.specs.Formed as nodes
use Rattle.index.specs.Index.{rises, indexed}
use Rattle.treerefinement.specs.Leaves.{leaves_single}
use Rattle.model.specs.Layout.{words_length, arena_length, index_in}
use Rattle.model.specs.Engine.{slots_from, decode, held, residents}
use Rattle.model.specs.Formed.{formed, flags_formed, slots_formed, names_apart, name_resident, controls_formed}
use Rattle.model.specs.After.{root, fresh_state, fresh_arena}
use Rattle.refusals.specs.declared.Refusal.TheVariants.{BadState}
use Rattle.model.specs.Answers.{Done, Refused}
use Rattle.model.specs.Apply.{sized, fresh_answer, fresh_words, fresh_arenas}
use Rattle.model.specs.Chain.{State, Fresh}
use Rattle.model.specs.Fresh.{fresh_buses, fresh_index}
use Rattle.model.specs.Plain.{at_first, meaning}
use Rattle.model.specs.View.{view_rows, view}
use Rattle.model.specs.Demands.{definition_of_synth}
use Rattle.refinement.specs.Names.{Once, means, meaning_means}
use Rattle.refinement.specs.Kept.{Kept}
use Rattle.state.specs.Fresh.{fresh-length, arena-length}

fresh-indexed : indexed (index_in fresh_state) (root ∷ []) ≡ true
unfolding numbers rises
fresh-indexed = ap (λ (ix : List ℕ). indexed ix (root ∷ [])) fresh_index

all : (a b c d e f : Bool) → a ≡ true → b ≡ true → c ≡ true → d ≡ true → e ≡ true → f ≡ true → both a (both b (both c (both d (both e f)))) ≡ true
all a b c d e f p0 p1 p2 p3 p4 p5 = rw (p0, p1, p2, p3, p4) p5

pub fresh_formed : formed fresh_state fresh_arena ≡ true
unfolding formed decode rows encode lives order_from steps rooted apart all_formed row_taken rows_apart synth_lives nodes.nodes_formed flags_formed slots_from slots_formed held names_apart name_resident controls_formed same_name
fresh_formed =
    all _ _ _ _ (indexed (index_in fresh_state) (root ∷ [])) _ (eq-eqb (length fresh_state) words_length fresh-length) (eq-eqb (length fresh_arena) arena_length arena-length) refl refl fresh-indexed refl

fresh_means : (name : List ℕ) → means name (decode fresh_state fresh_arena).slots ≡ meaning name []
unfolding decode encode slots_from means meaning
fresh_means name = refl

pub fresh_kept : Kept (decode fresh_state fresh_arena) at_first
unfolding decode rows encode flatten map_forest slots_from residents order_from Once
fresh_kept = record {
  forest = single root;
  laid = refl;
  leaves = leaves_single root;
  tree = refl;
  names = λ name. meaning_means name (decode fresh_state fresh_arena).slots ∙ fresh_means name;
  name_count = refl;
  once = tt;
  next = refl;
  latest = refl;
  buses = fresh_buses;
  ordered = refl;
}

-- what `start::fresh` leaves where it is not refused
pub fresh-state : (s : State) → Fresh s → s ≡ record { words = fresh_state; arena = fresh_arena }
unfolding fresh_answer fresh_words fresh_arenas
fresh-state s f = go (sized f.words f.arena) f.made.answers f.made.words f.made.arena
  where
    go : (b : Bool) → Done ≡ pick b Done (Refused BadState) → s.words ≡ pick b fresh_state f.words → s.arena ≡ pick b fresh_arena f.arena
        → s ≡ record { words = fresh_state; arena = fresh_arena }
    go true h w a = ap₂ (λ (ws bs : List ℕ). record { words = ws; arena = bs }) w a
    go false h w a = let z : ◌≡◌ {A = ℕ} 0 1 = cc in absurd (omega arith)

-- no synth sounds
pub fresh_synths : (n : ℕ) (d : Definition) → definition_of_synth n (view (decode fresh_state fresh_arena)) ≡ some d → none ≡ some d
unfolding decode rows encode view_rows definition_of_synth
fresh_synths n d h = go (eqb 0 n) h
  where
    go : (b : Bool) → pick {A = Option Definition} b none none ≡ some d → none ≡ some d
    go true k = k
    go false k = k
