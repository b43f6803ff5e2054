-- Where an add action puts a record: its place and its depth there.
use Rattle.std.specs.Prelude.{ℕ, ◌+◌, ◌*◌, ◌≤◌, ◌<◌, ◌≡◌, refl, List, [], ◌∷◌, length}
use Rattle.std.proofs.Common.{arith, zero-add}
use Rattle.nodes.specs.declared.Node.{Node}
use Rattle.nodes.specs.Table.{width, rows}
use Rattle.nodes.specs.PlaceLaws.{end_most}
use Rattle.nodes.specs.Sizes.{depth_at, end_at}
use Rattle.nodes.specs.Edit.{level, lift, edit_at}
use Rattle.nodes.specs.Split.{add_head-at, add_tail-at, add_before-at, add_after-at}
use Rattle.tree.specs.declared.action.Position.{Position}
use Rattle.tree.specs.declared.action.Position.TheVariants.{Head, Tail, Before, After}
use Rattle.tree.specs.declared.action.Action.{Action}
use Rattle.tree.specs.declared.action.Action.TheVariants.{Put, Replace}
use Rattle.tree.specs.declared.add.Place.{Place}
use Rattle.tree.specs.Action.{put_here}
use Rattle.tree.specs.Moves.{put_in}

-- the place of a target, whose depth can be one more
pub record Target (us : List ℕ) (count at : ℕ) : Type 0 where
  pub room : width * count ≤ length us
  pub few : count ≤ 256
  pub live : at < count
  pub shallow : depth_at us at < 4294967295

-- the words that an action takes: one that replaces has freed a record
abbrev pub grows : Action → ℕ
grows (Put p) = width
grows Replace = 0

-- the same, with room for them
pub record Room (us : List ℕ) (count : ℕ) (action : Action) (at : ℕ) : Type 0 where
  pub room : width * count + grows action ≤ length us
  pub few : count ≤ 256
  pub live : at < count
  pub shallow : depth_at us at < 4294967295

-- the place at a position by the record at a place
abbrev pub place_by : Position → ℕ → List ℕ → ℕ → Place
place_by Head count us at = record { at = at + 1; depth = depth_at us at + 1 }
place_by Tail count us at = record { at = end_at count us at; depth = depth_at us at + 1 }
place_by Before count us at = record { at = at; depth = depth_at us at }
place_by After count us at = record { at = end_at count us at; depth = depth_at us at }

-- it lies in the table
pub place_most : (c : ℕ) (us : List ℕ) (at : ℕ) → at < c → (p : Position) → (place_by p c us at).at ≤ c
place_most c us at live Head = omega arith
place_most c us at live Tail = end_most c us (depth_at us at) (at + 1) (omega arith)
place_most c us at live Before = omega arith
place_most c us at live After = end_most c us (depth_at us at) (at + 1) (omega arith)

-- records put in at a position are put in at its place and depth
pub put_at : (c : ℕ) (us : List ℕ) (at : ℕ) → at < c → (p : Position) (xs : List Node)
    → edit_at at (put_here p xs) (rows c us) ≡ put_in (place_by p c us at).at (lift (place_by p c us at).depth xs) (rows c us)
put_at c us at live Head xs = add_head-at c us at live xs
put_at c us at live Tail xs = add_tail-at c us at live (depth_at us at) (end_at c us at) refl refl xs
put_at c us at live Before xs = add_before-at c us at live xs
put_at c us at live After xs = add_after-at c us at live (depth_at us at) (end_at c us at) refl refl xs

-- one record, given at depth 0
pub lift_one : (d : ℕ) (r : Node) → lift d (level 0 r ∷ []) ≡ level d r ∷ []
unfolding lift
lift_one d r = rw zero-add
