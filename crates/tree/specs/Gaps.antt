-- What an add action puts a record in for: the records from a place up to an end, and the depth that it has there.
use Rattle.std.specs.Prelude.{ℕ, ◌+◌, ◌-◌, ◌*◌, ◌≤◌, ◌<◌, ◌≡◌, refl, List, [], ◌∷◌, ◌++◌, length, take, drop}
use Rattle.std.proofs.Common.{ap, ap₂, ◌∙◌, arith, length-append, length-take, length-drop, drop_at, length-take-le, take-take}
use Rattle.std.proofs.lemmas.List.{take-append-le}
use Rattle.nodes.specs.declared.Node.{Node}
use Rattle.words.specs.Parts.{over}
use Rattle.nodes.specs.Table.{width, rows, words_of, fill}
use Rattle.nodes.specs.TableLaws.{fill-length, rows-length}
use Rattle.nodes.specs.PlaceLaws.{end_most}
use Rattle.nodes.specs.Sizes.{depth_at, end_at}
use Rattle.nodes.specs.Edit.{level, edit_at}
use Rattle.nodes.specs.Split.{add_over-at}
use Rattle.tree.specs.declared.action.Action.{Action}
use Rattle.tree.specs.declared.action.Action.TheVariants.{Put, Replace}
use Rattle.tree.specs.declared.add.Gap.{Gap}
use Rattle.tree.specs.Action.{add_here}
use Rattle.tree.specs.Add.{Room, place_by, place_most, put_at, lift_one}
use Rattle.tree.specs.Moves.{put_in}
use Rattle.tree.specs.Sizes.{Leaves}
use Rattle.tree.specs.Words.{put_words, leaves_rows, leaves_then}

-- the gap of each action by the record at a place: one that replaces takes the record's run out
abbrev pub gap_by : Action → ℕ → List ℕ → ℕ → Gap
gap_by (Put p) count us at = record { at = (place_by p count us at).at; end = (place_by p count us at).at; depth = (place_by p count us at).depth }
gap_by Replace count us at = record { at = at; end = end_at count us at; depth = depth_at us at }

-- the table with a record in the gap
abbrev pub in_gap : Gap → Node → List Node → List Node
in_gap g r t = take g.at t ++ level g.depth r ∷ drop g.end t

-- a gap in a table, with room for the record where none is taken out
pub record Gapped (us : List ℕ) (count : ℕ) (g : Gap) : Type 0 where
  pub room : width * count ≤ length us
  pub order : g.at ≤ g.end
  pub inside : g.end ≤ count
  pub more : g.end ≤ g.at → width * count + width ≤ length us

pub gap_fits : (us : List ℕ) (c : ℕ) (action : Action) (at : ℕ) → Room us c action at → Gapped us c (gap_by action c us at)
gap_fits us c (Put p) at r = record { room = omega (arith, r.room); order = omega arith; inside = place_most c us at r.live p; more = λ h. r.room }
gap_fits us c Replace at r = record {
  room = omega (arith, r.room);
  order = omega arith;
  inside = end_most c us (depth_at us at) (at + 1) (omega (arith, r.live));
  more = λ h. absurd (omega arith);
}

gap_at : (us : List ℕ) (c : ℕ) (action : Action) (at : ℕ) → at < c → (r : Node) → edit_at at (add_here action (level 0 r ∷ [])) (rows c us) ≡ in_gap (gap_by action c us at) r (rows c us)
gap_at us c (Put p) at live r =
    put_at c us at live p (level 0 r ∷ []) ∙ ap (λ (l : List Node). put_in (place_by p c us at).at l (rows c us)) (lift_one (place_by p c us at).depth r)
gap_at us c Replace at live r =
    add_over-at c us at live (depth_at us at) (end_at c us at) refl refl (level 0 r ∷ [])
    ∙ ap (λ (l : List Node). take at (rows c us) ++ (l ++ drop (end_at c us at) (rows c us))) (lift_one (depth_at us at) r)

-- a record put into an action's gap is put in by the action
pub gap_leaves : (us : List ℕ) (c : ℕ) (action : Action) (at : ℕ) → at < c → (g : Gap) → g ≡ gap_by action c us at → (r : Node) (after : List ℕ) (n : ℕ) → Leaves us (in_gap g r (rows c us)) after n
    → Leaves us (edit_at at (add_here action (level 0 r ∷ [])) (rows c us)) after n
gap_leaves us c action at live g is r after n h = rw (gap_at us c action at live r, ← is) h

-- a run but for its first record taken out, and another record written over that
module _ (us : List ℕ) (n at e : ℕ) (r : Node) (some : at < e) (inside : e ≤ n) (room : width * n ≤ length us) (mid : List ℕ) (k : ℕ)
    (left : Leaves us (take (at + 1) (rows n us) ++ drop e (rows n us)) mid k) where
  abbrev t : List Node
  t = rows n us

  abbrev s : List Node
  s = take (at + 1) t ++ drop e t

  abbrev l : List Node
  l = take at t ++ r ∷ drop e t

  front : length (take (at + 1) t) ≡ at + 1
  front = length-take-le (at + 1) t (rw rows-length (omega arith))

  few : length s ≡ at + 1 + (n - e)
  few = simp (length-append, length-take, length-drop, rows-length) (omega arith)

  pub left_room : width * at + width ≤ length mid
  left_room = rw (left.words, fill-length us s (omega (arith, few))) (omega arith)

  pub replace_leaves : (after : List ℕ) → after ≡ over (width * at) (words_of r) mid → Leaves us l after k
  replace_leaves after o =
      let long : width * k ≤ length mid = rw (left.words, fill-length us s (omega (arith, few))) (omega (arith, left.size, few)) in
      let kept : take at (rows k mid) ++ r ∷ drop (at + 1) (rows k mid) ≡ l =
      ap (λ (m : List Node). take at m ++ r ∷ drop (at + 1) m) (leaves_rows us s mid k left)
      ∙ ap₂ (λ (x y : List Node). x ++ r ∷ y) (take-append-le at (take (at + 1) t) (drop e t) (omega (arith, front)) ∙ take-take at (at + 1) t (omega arith)) (drop_at (take (at + 1) t) (drop e t) (at + 1) front) in
      let same : length s ≡ length l = simp (length-append, length-take, length-drop, rows-length) (omega arith) in
      leaves_then us s l mid after k k left
      (record { words = o ∙ put_words mid k at r (omega (arith, left.size, few)) long ∙ ap (λ (m : List Node). fill mid m) kept; size = left.size ∙ same }) (omega (arith, same))
