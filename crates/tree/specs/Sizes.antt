-- What the functions on the node region ask of it, and what those that change it leave.
use Rattle.std.specs.Prelude.{ℕ, ◌*◌, ◌≤◌, ◌<◌, ◌≡◌, List, length}
use Rattle.std.proofs.Common.{ap, ◌∙◌}
use Rattle.nodes.specs.declared.Node.{Node}
use Rattle.nodes.specs.Table.{width, fill}
use Rattle.nodes.specs.Place.{place}
use Rattle.nodes.specs.Edit.{edit_rows, edit_at}
use Rattle.nodes.specs.Split.{edit_first}

-- a region that holds so many records, and a place in the table
pub record Placed (us : List ℕ) (count at : ℕ) : Type 0 where
  pub room : width * count ≤ length us
  pub few : count ≤ 256
  pub live : at < count

-- the same with two places
pub record TwoPlaces (us : List ℕ) (count a b : ℕ) : Type 0 where
  pub room : width * count ≤ length us
  pub few : count ≤ 256
  pub live : a < count
  pub other : b < count

-- the region after holds the table t, past which it is as before, and the count is the table's
pub record Leaves (us : List ℕ) (t : List Node) (after : List ℕ) (count : ℕ) : Type 0 where
  pub words : after ≡ fill us t
  pub size : count ≡ length t

-- a change at a place that is a number's first is the change at the node with the number
pub leaves_first : (H : Node → List Node → List Node) (us : List ℕ) (t : List Node) (after : List ℕ) (count at : ℕ) → Leaves us (edit_at at H t) after count
    → (n : ℕ) → at ≡ place n t → Leaves us (edit_rows n H t) after count
leaves_first H us t after count at h n here =
    let same = edit_first n at H t here in
    record { words = h.words ∙ ap (λ (l : List Node). fill us l) same; size = h.size ∙ ap (λ (l : List Node). length l) same }
