-- The walk that marks the nodes it visits, and the running order by its marks.
use Rattle.std.specs.Prelude.{ℕ, suc, ◌+◌, ◌*◌, ◌-◌, ◌≤◌, ◌<◌, Bool, ◌≡◌, refl, List, [], ◌∷◌, ◌++◌, leb, length, drop, get_or, set, replicate}
use Rattle.std.proofs.Math.Bool.{true, false}
use Rattle.std.proofs.Common.{sym, ap, ◌∙◌, append_assoc, append-nil, arith, length-append}
use borrow.Author.Tests.{le-leb, lt-leb, eq-eqb, ne_eqb}
use Rattle.std.proofs.lemmas.List.{set_at}
use Rattle.words.specs.Choice.{pick}
use Rattle.nodes.specs.declared.Node.{Node}
use Rattle.nodes.specs.Table.{width, node_from, rows}
use Rattle.nodes.specs.TableLaws.{row-from}
use Rattle.nodes.specs.Place.{is_group}
use Rattle.nodes.specs.Order.{is_on, order_from}

-- whether a walk visits each record, where a record at most as deep as the limit has its parent visited:
-- a node is visited where its parent was and it is on
unfoldable pub visits : ℕ → List Node → List Bool
visits limit [] = []
visits limit (r ∷ l) = pick (leb r.depth limit) (pick (is_on r) (true ∷ visits (r.depth + 1) l) (false ∷ visits r.depth l)) (false ∷ visits limit l)

-- "[false; 256] marks of visited nodes"
abbrev pub most_marks : ℕ
most_marks = 256

abbrev pub marks : List Node → List Bool
marks t = visits 0 t ++ replicate (most_marks - length t) false

-- the numbers of the synths that are marked
unfoldable pub marked_synths : List Bool → List Node → List ℕ
marked_synths ms [] = []
marked_synths ms (r ∷ l) = pick (get_or ms 0 false) (pick (is_group r) (marked_synths (drop 1 ms) l) (r.number ∷ marked_synths (drop 1 ms) l)) (marked_synths (drop 1 ms) l)

-- the marks give the running order, whatever stands behind them
pub marked_order : (limit : ℕ) (t : List Node) (more : List Bool) → marked_synths (visits limit t ++ more) t ≡ order_from limit t
unfolding visits marked_synths order_from
marked_order limit [] more = refl
marked_order limit (r ∷ l) more = go (leb r.depth limit) (is_on r) (is_group r) (marked_order limit l more) (marked_order r.depth l more) (marked_order (r.depth + 1) l more)
  where
    here : Bool → Bool → List Bool
    here u o = pick u (pick o (true ∷ visits (r.depth + 1) l) (false ∷ visits r.depth l)) (false ∷ visits limit l) ++ more

    go : (u o g : Bool) → marked_synths (visits limit l ++ more) l ≡ order_from limit l → marked_synths (visits r.depth l ++ more) l ≡ order_from r.depth l
        → marked_synths (visits (r.depth + 1) l ++ more) l ≡ order_from (r.depth + 1) l
        → pick (get_or (here u o) 0 false) (pick g (marked_synths (drop 1 (here u o)) l) (r.number ∷ marked_synths (drop 1 (here u o)) l)) (marked_synths (drop 1 (here u o)) l)
        ≡ pick u (pick o (pick g (order_from (r.depth + 1) l) (r.number ∷ order_from (r.depth + 1) l)) (order_from r.depth l)) (order_from limit l)
    go true true true a b d = d
    go true true false a b d = ap (λ (k : List ℕ). r.number ∷ k) d
    go true false g a b d = b
    go false o g a b d = a

-- the walk so far: the marks set, those that the rest gives, and none behind them
pub record Walked (t rest : List Node) (limit i : ℕ) (visited : List Bool) : Type 0 where
  pub done : List Bool
  pub joined : done ++ visits limit rest ≡ visits 0 t
  pub many : length done ≡ i
  pub kept : visited ≡ done ++ replicate (most_marks - i) false

pub walked_none : (t : List Node) → Walked t t 0 0 (replicate most_marks false)
walked_none t = record { done = []; joined = refl; many = refl; kept = refl }

pub walked_all : (t : List Node) (limit i : ℕ) (visited : List Bool) (rest : List Node) → rest ≡ [] → length t ≡ i → Walked t rest limit i visited → visited ≡ marks t
unfolding visits
walked_all t limit i visited rest e size w =
    w.kept
    ∙ ap (λ (l : List Bool). l ++ replicate (most_marks - i) false) (sym (append-nil w.done) ∙ ap (λ (l : List Node). w.done ++ visits limit l) (sym e) ∙ w.joined)
    ∙ ap (λ (k : ℕ). visits 0 t ++ replicate (most_marks - k) false) (sym size)

-- one record's part in the walk
module _ (count : ℕ) (us : List ℕ) (i limit : ℕ) (visited : List Bool) (h : i < count) (few : count ≤ most_marks) (w : Walked (rows count us) (drop i (rows count us)) limit i visited) where
  abbrev this : Node
  this = node_from us (width * i)

  given : w.done ++ visits limit (this ∷ drop (i + 1) (rows count us)) ≡ visits 0 (rows count us)
  given = ap (λ (l : List Node). w.done ++ visits limit l) (sym (row-from count us i h)) ∙ w.joined

  -- one mark more behind those that are done
  longer : (b : Bool) (more : List Bool) → w.done ++ b ∷ more ≡ visits 0 (rows count us) → (w.done ++ b ∷ []) ++ more ≡ visits 0 (rows count us)
  longer b more e = append_assoc w.done (b ∷ []) more ∙ e

  many : (b : Bool) → length (w.done ++ b ∷ []) ≡ i + 1
  many b = length-append w.done (b ∷ []) ∙ ap (λ (k : ℕ). k + 1) w.many

  next : most_marks - i ≡ suc (most_marks - (i + 1))
  next = omega arith

  unset : visited ≡ (w.done ++ false ∷ []) ++ replicate (most_marks - (i + 1)) false
  unset =
      w.kept
      ∙ ap (λ (k : ℕ). w.done ++ replicate k false) next
      ∙ sym (append_assoc w.done (false ∷ []) (replicate (most_marks - (i + 1)) false))

  marked : set visited i true ≡ (w.done ++ true ∷ []) ++ replicate (most_marks - (i + 1)) false
  marked =
      ap (λ (l : List Bool). set l i true) (w.kept ∙ ap (λ (k : ℕ). w.done ++ replicate k false) next)
      ∙ set_at w.done false (replicate (most_marks - (i + 1)) false) true i w.many
      ∙ sym (append_assoc w.done (true ∷ []) (replicate (most_marks - (i + 1)) false))

  -- its parent is not visited
  pub walked_under : limit < this.depth → Walked (rows count us) (drop (i + 1) (rows count us)) limit (i + 1) visited
  unfolding visits
  walked_under under =
      record { done = w.done ++ false ∷ []; joined = longer false _ (rw (lt-leb this.depth limit under) at given); many = many false; kept = unset }

  -- it is off
  pub walked_off : this.depth ≤ limit → (this.run ≡ 1 → ⊥) → Walked (rows count us) (drop (i + 1) (rows count us)) this.depth (i + 1) visited
  unfolding visits
  walked_off under off =
      record { done = w.done ++ false ∷ []; joined = longer false _ (rw (le-leb this.depth limit under, ne_eqb this.run 1 off) at given); many = many false; kept = unset }

  -- it is visited
  pub walked_on : this.depth ≤ limit → this.run ≡ 1 → Walked (rows count us) (drop (i + 1) (rows count us)) (this.depth + 1) (i + 1) (set visited i true)
  unfolding visits
  walked_on under on =
      record { done = w.done ++ true ∷ []; joined = longer true _ (rw (le-leb this.depth limit under, eq-eqb this.run 1 on) at given); many = many true; kept = marked }

pub walked_same : (t rest : List Node) {limit i : ℕ} {visited : List Bool} (limit' : ℕ) (visited' : List Bool) → Walked t rest limit i visited → visited' ≡ visited → limit' ≡ limit → Walked t rest limit' i visited'
walked_same t rest limit' visited' w a b = rw (a, b) w
