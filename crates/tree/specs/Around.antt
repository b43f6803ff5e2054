-- Who stands around a node, by its place: the searches of nodes' Structure along the words.
use Rattle.std.specs.Prelude.{ℕ, suc, ◌+◌, ◌*◌, ◌-◌, ◌≤◌, ◌<◌, Bool, true, false, ◌≡◌, take, get_or, ltb, eqb}
use Rattle.std.proofs.Math.Path.{refl, ap}
use Rattle.std.proofs.Common.{sym, ap₂, ◌∙◌, drop-drop, lt-ltb, le-ltb, eq-eqb, ne_eqb}
use mathlib.Core.List.{List, [], ◌∷◌, ◌++◌}
use native.Mathlib.Omega.{arith}
use Rattle.std.proofs.Math.ListN.{drop}
use Rattle.words.specs.Choice.{pick}
use Rattle.nodes.specs.declared.Node.{Node}
use Rattle.nodes.specs.Table.{width, node_from, rows}
use Rattle.nodes.specs.TableLaws.{rows_take, rows_end, row-from}
use Rattle.nodes.specs.Place.{place, deeper}
use Rattle.nodes.specs.PlaceLaws.{search_at}
use Rattle.nodes.specs.Edit.{sink, drop_deeper}
use Rattle.nodes.specs.Split.{drop_deeper-at, run_of_at}
use Rattle.nodes.specs.Structure.{no_node, at_depth, children_of, depth_of, last_above, parent_of, last_beside, previous_of, first_beside, next_of}
use Rattle.nodes.specs.Sizes.{depth_at, end_at}
use Rattle.tree.specs.Depths.{rows_snoc}

-- a number carried along some records
unfoldable pub along : (ℕ → Node → ℕ) → ℕ → List Node → ℕ
along f p [] = p
along f p (r ∷ l) = along f (f p r) l

along_snoc : (f : ℕ → Node → ℕ) (p : ℕ) (l : List Node) (r : Node) → along f p (l ++ (r ∷ [])) ≡ f (along f p l) r
unfolding along
along_snoc f p [] r = refl
along_snoc f p (x ∷ l) r = along_snoc f (f p x) l r

pub along_start : (f : ℕ → Node → ℕ) (p : ℕ) (us : List ℕ) → along f p (rows 0 us) ≡ p
unfolding along rows
along_start f p us = refl

-- one record back
pub along_back : (f : ℕ → Node → ℕ) (p i : ℕ) (us : List ℕ) → 0 < i → along f p (rows i us) ≡ f (along f p (rows (i - 1) us)) (node_from us (width * (i - 1)))
along_back f p i us h =
    let e : i ≡ i - 1 + 1 = omega arith in
    ap (λ (k : ℕ). along f p (rows k us)) e ∙ ap (λ (l : List Node). along f p l) (rows_snoc (i - 1) us) ∙ along_snoc f p (rows (i - 1) us) (node_from us (width * (i - 1)))

-- what a record less deep than d makes of the number, and what one at the depth d does
abbrev pub above : ℕ → ℕ → Node → ℕ
above d p r = pick (ltb r.depth d) r.number p

abbrev pub beside_or : ℕ → ℕ → ℕ → Node → ℕ
beside_or none d p r = pick (ltb r.depth d) none (pick (eqb r.depth d) r.number p)

abbrev pub beside : ℕ → ℕ → Node → ℕ
beside d p r = beside_or no_node d p r

-- the number of the first record, where it is at the depth d
unfoldable pub first_beside_or : ℕ → ℕ → List Node → ℕ
first_beside_or none d [] = none
first_beside_or none d (r ∷ l) = pick (eqb r.depth d) r.number none

first_beside_told : (d : ℕ) (l : List Node) → first_beside_or no_node d l ≡ first_beside d l
unfolding first_beside_or first_beside
first_beside_told d [] = refl
first_beside_told d (r ∷ l) = refl

-- a walk up to the record of n carries its number along the records before it
walk_along : (f : ℕ → Node → ℕ) (n : ℕ) (walk : ℕ → List Node → ℕ) → ((p : ℕ) → walk p [] ≡ p) → ((p : ℕ) (r : Node) (l : List Node) → walk p (r ∷ l) ≡ pick (eqb r.number n) p (walk (f p r) l))
    → (p : ℕ) (t : List Node) → walk p t ≡ along f p (take (place n t) t)
unfolding along place
walk_along f n walk end turn p [] = end p
walk_along f n walk end turn p (r ∷ l) = turn p r l ∙ go (walk_along f n walk end turn (f p r) l) (eqb r.number n)
  where
    go : walk (f p r) l ≡ along f (f p r) (take (place n l) l) → (b : Bool) → pick b p (walk (f p r) l) ≡ along f p (take (pick b 0 (suc (place n l))) (r ∷ l))
    go ih true = refl
    go ih false = ih

last_above-along : (p d n : ℕ) (t : List Node) → last_above p d n t ≡ along (above d) p (take (place n t) t)
unfolding last_above
last_above-along p d n t = walk_along (above d) n (λ q l. last_above q d n l) (λ q. refl) (λ q r l. refl) p t

last_beside-along : (p d n : ℕ) (t : List Node) → last_beside p d n t ≡ along (beside d) p (take (place n t) t)
unfolding last_beside
last_beside-along p d n t = walk_along (beside d) n (λ q l. last_beside q d n l) (λ q. refl) (λ q r l. refl) p t

depth_of_split : (n : ℕ) (t : List Node) (r : Node) (rest : List Node) → drop (place n t) t ≡ r ∷ rest → depth_of n t ≡ r.depth
unfolding depth_of
depth_of_split n = search_at (λ l. depth_of n l) (λ r l. r.depth) n (λ r l. refl)

next_of_split : (n : ℕ) (t : List Node) (r : Node) (rest : List Node) → drop (place n t) t ≡ r ∷ rest → next_of n t ≡ first_beside r.depth (drop_deeper r.depth rest)
unfolding next_of
next_of_split n = search_at (λ l. next_of n l) (λ r l. first_beside r.depth (drop_deeper r.depth l)) n (λ r l. refl)

-- the numbers of the children among the records that follow a node at the depth d
unfoldable pub child_numbers : ℕ → List Node → List ℕ
child_numbers d [] = []
child_numbers d (r ∷ l) = pick (ltb d r.depth) (pick (eqb (r.depth - d) 1) (r.number ∷ child_numbers d l) (child_numbers d l)) []

child_numbers_run : (d : ℕ) (l : List Node) → at_depth 1 (sink d (take (deeper d l) l)) ≡ child_numbers d l
unfolding at_depth sink deeper child_numbers
child_numbers_run d [] = refl
child_numbers_run d (r ∷ l) = go (child_numbers_run d l) (ltb d r.depth)
  where
    go : at_depth 1 (sink d (take (deeper d l) l)) ≡ child_numbers d l → (b : Bool)
        → at_depth 1 (sink d (take (pick b (suc (deeper d l)) 0) (r ∷ l))) ≡ pick b (pick (eqb (r.depth - d) 1) (r.number ∷ child_numbers d l) (child_numbers d l)) []
    go ih true = ap (λ (m : List ℕ). pick (eqb (r.depth - d) 1) (r.number ∷ m) m) ih
    go ih false = refl

module _ (n : ℕ) (us : List ℕ) (d i : ℕ) (inside : i < n) where
  child_numbers_turn : child_numbers d (drop i (rows n us)) ≡ pick (ltb d (depth_at us i)) (pick (eqb (depth_at us i - d) 1) (get_or us (width * i) 0 ∷ child_numbers d (drop (i + 1) (rows n us))) (child_numbers d (drop (i + 1) (rows n us)))) []
  unfolding child_numbers
  child_numbers_turn = ap (λ (l : List Node). child_numbers d l) (row-from n us i inside)

  -- a record that is no deeper, a child, and what is below a child
  pub child_numbers_stop : depth_at us i ≤ d → child_numbers d (drop i (rows n us)) ≡ []
  child_numbers_stop h = rw (le-ltb d (depth_at us i) h) at child_numbers_turn

  pub child_numbers_child : d < depth_at us i → depth_at us i - d ≡ 1 → child_numbers d (drop i (rows n us)) ≡ get_or us (width * i) 0 ∷ child_numbers d (drop (i + 1) (rows n us))
  child_numbers_child h e = rw (lt-ltb d (depth_at us i) h, eq-eqb (depth_at us i - d) 1 e) at child_numbers_turn

  pub child_numbers_skip : d < depth_at us i → (depth_at us i - d ≡ 1 → ⊥) → child_numbers d (drop i (rows n us)) ≡ child_numbers d (drop (i + 1) (rows n us))
  child_numbers_skip h e = rw (lt-ltb d (depth_at us i) h, ne_eqb (depth_at us i - d) 1 e) at child_numbers_turn

pub child_numbers_end : (n : ℕ) (us : List ℕ) (d i : ℕ) → n ≤ i → child_numbers d (drop i (rows n us)) ≡ []
unfolding child_numbers
child_numbers_end n us d i h = ap (λ (l : List Node). child_numbers d l) (rows_end n us i h)

-- of the record at a place: the last one before it that is less deep; the last one before it at its depth, with none less deep between them;
-- what follows its run, where it is at its depth; and its children. Each but the children by what stands for none, which may be any number
abbrev pub parent_or : ℕ → List ℕ → ℕ → ℕ
parent_or none us at = along (above (depth_at us at)) none (rows at us)

abbrev pub parent_at : List ℕ → ℕ → ℕ
parent_at us at = parent_or no_node us at

abbrev pub previous_or : ℕ → List ℕ → ℕ → ℕ
previous_or none us at = along (beside_or none (depth_at us at)) none (rows at us)

abbrev pub previous_at : List ℕ → ℕ → ℕ
previous_at us at = previous_or no_node us at

abbrev pub next_or : ℕ → ℕ → List ℕ → ℕ → ℕ
next_or none count us at = first_beside_or none (depth_at us at) (drop (end_at count us at) (rows count us))

abbrev pub next_at : ℕ → List ℕ → ℕ → ℕ
next_at count us at = first_beside (depth_at us at) (drop (end_at count us at) (rows count us))

pub next_told : (count : ℕ) (us : List ℕ) (at : ℕ) → next_or no_node count us at ≡ next_at count us at
next_told count us at = first_beside_told (depth_at us at) (drop (end_at count us at) (rows count us))

abbrev pub children_at : ℕ → List ℕ → ℕ → List ℕ
children_at count us at = child_numbers (depth_at us at) (drop (at + 1) (rows count us))

-- where the place is a number's first, those of the node with the number
module _ (c : ℕ) (us : List ℕ) (n at : ℕ) (here : at ≡ place n (rows c us)) (live : at < c) where
  found : drop (place n (rows c us)) (rows c us) ≡ node_from us (width * at) ∷ drop (at + 1) (rows c us)
  found = ap (λ (j : ℕ). drop j (rows c us)) (sym here) ∙ row-from c us at live

  depth_of_at : depth_of n (rows c us) ≡ depth_at us at
  depth_of_at = depth_of_split n (rows c us) (node_from us (width * at)) (drop (at + 1) (rows c us)) found

  front : take (place n (rows c us)) (rows c us) ≡ rows at us
  front = ap (λ (j : ℕ). take j (rows c us)) (sym here) ∙ rows_take at c us (omega arith)

  pub parent_of_at : parent_of n (rows c us) ≡ parent_at us at
  parent_of_at = last_above-along no_node (depth_of n (rows c us)) n (rows c us) ∙ ap₂ (λ (d : ℕ) (l : List Node). along (above d) no_node l) depth_of_at front

  pub previous_of-at : previous_of n (rows c us) ≡ previous_at us at
  previous_of-at = last_beside-along no_node (depth_of n (rows c us)) n (rows c us) ∙ ap₂ (λ (d : ℕ) (l : List Node). along (beside d) no_node l) depth_of_at front

  pub next_of-at : next_of n (rows c us) ≡ next_at c us at
  next_of-at =
      next_of_split n (rows c us) (node_from us (width * at)) (drop (at + 1) (rows c us)) found
      ∙ ap (λ (l : List Node). first_beside (depth_at us at) l) (drop_deeper-at (depth_at us at) (drop (at + 1) (rows c us)) ∙ drop-drop (deeper (depth_at us at) (drop (at + 1) (rows c us))) (at + 1) (rows c us))

  pub children_of-at : children_of n (rows c us) ≡ children_at c us at
  unfolding at_depth sink
  children_of-at =
      let d = depth_at us at in
      let l = drop (at + 1) (rows c us) in
      let itself : d - d ≡ 0 = omega arith in
      ap (λ (m : List Node). at_depth 1 m) (run_of_at c us n at here live d (end_at c us at) refl refl)
      ∙ ap (λ (k : ℕ). pick (eqb k 1) (get_or us (width * at) 0 ∷ at_depth 1 (sink d (take (deeper d l) l))) (at_depth 1 (sink d (take (deeper d l) l)))) itself
      ∙ child_numbers_run d l

-- what follows a run, where there is something, and where there is nothing
pub beside_or_turn : (none n : ℕ) (us : List ℕ) (d i : ℕ) → i < n → first_beside_or none d (drop i (rows n us)) ≡ pick (eqb (depth_at us i) d) (get_or us (width * i) 0) none
unfolding first_beside_or
beside_or_turn none n us d i h = ap (λ (l : List Node). first_beside_or none d l) (row-from n us i h)

pub beside_or_end : (none n : ℕ) (us : List ℕ) (d i : ℕ) → n ≤ i → first_beside_or none d (drop i (rows n us)) ≡ none
unfolding first_beside_or
beside_or_end none n us d i h = ap (λ (l : List Node). first_beside_or none d l) (rows_end n us i h)

pub beside_turn : (n : ℕ) (us : List ℕ) (d i : ℕ) → i < n → first_beside d (drop i (rows n us)) ≡ pick (eqb (depth_at us i) d) (get_or us (width * i) 0) no_node
beside_turn n us d i h = sym (first_beside_told d (drop i (rows n us))) ∙ beside_or_turn no_node n us d i h

pub beside_end : (n : ℕ) (us : List ℕ) (d i : ℕ) → n ≤ i → first_beside d (drop i (rows n us)) ≡ no_node
beside_end n us d i h = sym (first_beside_told d (drop i (rows n us))) ∙ beside_or_end no_node n us d i h
