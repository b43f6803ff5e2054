-- The ends of runs: a record of a run is no less deep than the run's first, and runs nest.
use Prim.Native.Nat.{ℕ, suc, ◌+◌, ◌*◌, ◌-◌, ◌≤◌, ◌<◌}
use Rattle.std.specs.Prelude.{Bool, true, false, ◌≡◌, refl, length, ltb, leb}
use Rattle.std.proofs.Math.Path.{ap}
use Rattle.std.proofs.Common.{◌∙◌, arith, drop-drop, ltb-true, ltb-false, le-leb, leb-true, leb-false, lt-ltb}
use mathlib.Core.List.{List, ◌∷◌}
use Rattle.std.proofs.Math.ListN.{drop}
use Rattle.words.specs.Choice.{pick, both}
use Rattle.nodes.specs.declared.Node.{Node}
use Rattle.nodes.specs.Table.{width, node_from, rows}
use Rattle.nodes.specs.TableLaws.{row-from}
use Rattle.nodes.specs.Place.{deeper}
use Rattle.nodes.specs.PlaceLaws.{nested, end_most}
use Rattle.nodes.specs.Sizes.{depth_at, end_at}
use Rattle.tree.specs.declared.action.Position.{Position}
use Rattle.tree.specs.declared.action.Position.TheVariants.{Head, Tail, Before, After}
use Rattle.tree.specs.declared.add.Place.{Place}
use Rattle.tree.specs.Add.{place_by}
use Rattle.tree.specs.MoveRun.{place_without}
use Rattle.tree.specs.Places.{deeper-drop, deeper_all}

-- a place is in the run of the node at another
abbrev pub in_run : ℕ → List ℕ → ℕ → ℕ → Bool
in_run count us at of = both (leb of at) (ltb at (end_at count us of))

-- both nodes of a move, of which b is not in the run of a; depths as a table of at most 256 records has them
pub record Moving (us : List ℕ) (count a b : ℕ) : Type 0 where
  pub room : width * count ≤ length us
  pub few : count ≤ 256
  pub live : a < count
  pub target : b < count
  pub outside : a ≤ b → end_at count us a ≤ b
  pub shallow : (i : ℕ) → i < count → depth_at us i ≤ 256

-- a node and a place that is not inside its run
pub record MoveTo (us : List ℕ) (count a : ℕ) (place : Place) : Type 0 where
  pub room : width * count ≤ length us
  pub few : count ≤ 256
  pub live : a < count
  pub fits : place.at ≤ count
  pub outside : a < place.at → end_at count us a ≤ place.at
  pub deep : place.depth ≤ 257
  pub shallow : (i : ℕ) → i < count → depth_at us i ≤ 256

pub outside_run : (c : ℕ) (us : List ℕ) (a b : ℕ) → in_run c us b a ≡ false → a ≤ b → end_at c us a ≤ b
outside_run c us a b h le = ltb-false b (end_at c us a) (rw (le-leb a b le) at h)

pub place_without-fits : (from to p c : ℕ) → from ≤ to → to ≤ c → p ≤ c → (from < p → to ≤ p) → place_without from to p + (to - from) ≤ c
place_without-fits from to p c order end fits outside = go (leb p from) refl
  where
    go : (b : Bool) → leb p from ≡ b → pick b p (p - (to - from)) + (to - from) ≤ c
    go true q = let h = leb-true p from q in omega arith
    go false q = let h = outside (leb-false p from q) in omega arith

module _ (c : ℕ) (us : List ℕ) (a : ℕ) (live : a < c) where
  -- the record at a place behind a, as the list that follows a has it
  behind : (i : ℕ) → a < i → i < c → drop (i - (a + 1)) (drop (a + 1) (rows c us)) ≡ node_from us (width * i) ∷ drop (i + 1) (rows c us)
  behind i h g =
      let on : a + 1 + (i - (a + 1)) ≡ i = omega arith in
      drop-drop (i - (a + 1)) (a + 1) (rows c us) ∙ ap (λ (k : ℕ). drop k (rows c us)) on ∙ row-from c us i g

  -- every other record of the run is deeper
  pub run_deeper : (i : ℕ) → a < i → i < end_at c us a → depth_at us a < depth_at us i
  run_deeper i h g =
      let inside : i < c = omega (arith, end_most c us (depth_at us a) (a + 1) (omega arith)) in
      deeper_all (depth_at us a) (i - (a + 1)) (drop (a + 1) (rows c us)) (node_from us (width * i)) (drop (i + 1) (rows c us)) (omega arith) (behind i h inside)

  pub run_least : (i : ℕ) → a ≤ i → i < end_at c us a → depth_at us a ≤ depth_at us i
  run_least i h g = go (ltb a i) refl
    where
      go : (b : Bool) → ltb a i ≡ b → depth_at us a ≤ depth_at us i
      go true q = omega (arith, run_deeper i (ltb-true a i q) g)
      go false q = let same : depth_at us a ≡ depth_at us i = ap (λ (k : ℕ). depth_at us k) (omega (arith, ltb-false a i q)) in omega arith

  -- a run that starts in a run ends in it
  pub ends_nest : (i : ℕ) → a < i → i < end_at c us a → end_at c us i ≤ end_at c us a
  unfolding deeper
  ends_nest i h g =
      let d = depth_at us a in
      let l = drop (a + 1) (rows c us) in
      let k = i - (a + 1) in
      let inside : i < c = omega (arith, end_most c us d (a + 1) (omega arith)) in
      let below : d < depth_at us i = run_deeper i h g in
      let on : deeper d l ≡ k + suc (deeper d (drop (i + 1) (rows c us))) =
      deeper-drop d k l (omega arith) ∙ ap (λ (m : List Node). k + deeper d m) (behind i h inside) ∙ ap (λ (b : Bool). k + pick b (suc (deeper d (drop (i + 1) (rows c us)))) 0) (lt-ltb d (depth_at us i) below) in
      omega (arith, nested d (depth_at us i) (drop (i + 1) (rows c us)) (omega arith))

-- the end of a run is not inside another that the run's node is outside of
pub end_outside : (c : ℕ) (us : List ℕ) (a b : ℕ) → b < c → (a ≤ b → end_at c us a ≤ b) → a < end_at c us b → end_at c us a ≤ end_at c us b
end_outside c us a b live outside h = go (ltb b a) refl
  where
    go : (q : Bool) → ltb b a ≡ q → end_at c us a ≤ end_at c us b
    go true q = ends_nest c us b live a (ltb-true b a q) h
    go false q = omega (arith, outside (ltb-false b a q))

-- a move's node and the place that it goes to: one that is not inside its run, or the end of the other's run
module _ (us : List ℕ) (c a b : ℕ) (both : Moving us c a b) where
  move_to : (place : Place) → place.at ≤ c → (a < place.at → end_at c us a ≤ place.at) → place.depth ≤ depth_at us b + 1 → MoveTo us c a place
  move_to place fits outside deep = record {
    room = both.room;
    few = both.few;
    live = both.live;
    fits = fits;
    outside = outside;
    deep = omega (arith, both.shallow b both.target);
    shallow = both.shallow;
  }

  end_fits : end_at c us b ≤ c
  end_fits = end_most c us (depth_at us b) (b + 1) (omega (arith, both.target))

  end_past : a < end_at c us b → end_at c us a ≤ end_at c us b
  end_past h = end_outside c us a b both.target both.outside h

  pub move_place : (p : Position) → MoveTo us c a (place_by p c us b)
  move_place Head = move_to (place_by Head c us b) (omega (arith, both.target)) (λ h. omega (arith, both.outside (omega arith))) (omega arith)
  move_place Tail = move_to (place_by Tail c us b) end_fits end_past (omega arith)
  move_place Before = move_to (place_by Before c us b) (omega (arith, both.target)) (λ h. both.outside (omega arith)) (omega arith)
  move_place After = move_to (place_by After c us b) end_fits end_past (omega arith)
