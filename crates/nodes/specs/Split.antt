-- Edits by places: what each edit is, in terms of the record's place and of the end of its run, and that it is the edit at the node whose place it
-- is.
use Rattle.std.specs.Prelude.{ℕ, zero, suc, ◌+◌, ◌*◌, ◌<◌, Bool, true, false, ◌≡◌, refl, take, drop, get_or, ltb, eqb}
use Rattle.std.proofs.Common.{sym, ap, ap₂, ◌∙◌, drop-drop, take-add}
use mathlib.Core.List.{List, [], ◌∷◌, ◌++◌, append_assoc, nil≢cons, head-eq_of_cons-eq, tail-eq_of_cons-eq}
use Rattle.words.specs.Choice.{pick}
use Rattle.words.specs.ChoiceLaws.{either_false}
use Rattle.nodes.specs.declared.Node.{Node}
use Rattle.nodes.specs.Table.{width, node_from, rows}
use Rattle.nodes.specs.TableLaws.{row-from}
use Rattle.nodes.specs.Place.{lives, place, deeper}
use Rattle.nodes.specs.Edit.{with_run, lift, sink, take_deeper, drop_deeper, only_groups, run_of, edit_rows, edit_at, free_here, free_all_here, deep_free_here, set_run_here, head_here, tail_here, before_here, after_here, over_here}

pub lives-sink : (n k : ℕ) (l : List Node) → lives n (sink k l) ≡ lives n l
unfolding lives sink
lives-sink n k [] = refl
lives-sink n k (r ∷ l) = ap (λ (b : Bool). pick (eqb r.number n) true b) (lives-sink n k l)

pub take_deeper-at : (d : ℕ) (l : List Node) → take_deeper d l ≡ take (deeper d l) l
unfolding take_deeper deeper
take_deeper-at d [] = refl
take_deeper-at d (r ∷ l) = go (take_deeper-at d l) (ltb d r.depth)
  where
    go : take_deeper d l ≡ take (deeper d l) l → (b : Bool) → pick b (r ∷ take_deeper d l) [] ≡ take (pick b (suc (deeper d l)) 0) (r ∷ l)
    go ih true = ap (λ (m : List Node). r ∷ m) ih
    go ih false = refl

pub drop_deeper-at : (d : ℕ) (l : List Node) → drop_deeper d l ≡ drop (deeper d l) l
unfolding drop_deeper deeper
drop_deeper-at d [] = refl
drop_deeper-at d (r ∷ l) = go (drop_deeper-at d l) (ltb d r.depth)
  where
    go : drop_deeper d l ≡ drop (deeper d l) l → (b : Bool) → pick b (drop_deeper d l) (r ∷ l) ≡ drop (pick b (suc (deeper d l)) 0) (r ∷ l)
    go ih true = ih
    go ih false = refl

-- an edit at a node that does not live changes nothing
pub edit_none : (n : ℕ) (H : Node → List Node → List Node) (t : List Node) → lives n t ≡ false → edit_rows n H t ≡ t
unfolding edit_rows lives
edit_none n H [] h = refl
edit_none n H (r ∷ l) h =
    let w = either_false (eqb r.number n) (lives n l) h in
    ap₂ (λ (b : Bool) (m : List Node). pick b (H r l) (r ∷ m)) w.0 (edit_none n H l w.1)

edit_place : (n : ℕ) (H : Node → List Node → List Node) (t : List Node) → edit_at (place n t) H t ≡ edit_rows n H t
unfolding edit_rows edit_at place
edit_place n H [] = refl
edit_place n H (r ∷ l) = go (edit_place n H l) (eqb r.number n)
  where
    go : edit_at (place n l) H l ≡ edit_rows n H l → (b : Bool) → edit_at (pick b 0 (suc (place n l))) H (r ∷ l) ≡ pick b (H r l) (r ∷ edit_rows n H l)
    go ih true = refl
    go ih false = ap (λ (m : List Node). r ∷ m) ih

-- a place that is a number's first: the edit there is the edit at the node with the number
pub edit_first : (n at : ℕ) (H : Node → List Node → List Node) (t : List Node) → at ≡ place n t → edit_at at H t ≡ edit_rows n H t
edit_first n at H t here = ap (λ (j : ℕ). edit_at j H t) here ∙ edit_place n H t

edit_split : (at : ℕ) (H : Node → List Node → List Node) (t : List Node) (r : Node) (rest : List Node) → drop at t ≡ r ∷ rest → edit_at at H t ≡ take at t ++ H r rest
unfolding edit_at
edit_split zero H [] r rest h = absurd (nil≢cons h)
edit_split zero H (x ∷ l) r rest h = ap₂ (λ (y : Node) (m : List Node). H y m) (head-eq_of_cons-eq h) (tail-eq_of_cons-eq h)
edit_split (suc at) H [] r rest h = absurd (nil≢cons h)
edit_split (suc at) H (x ∷ l) r rest h = ap (λ (m : List Node). x ∷ m) (edit_split at H l r rest h)

run_split : (n : ℕ) (t : List Node) (r : Node) (rest : List Node) → drop (place n t) t ≡ r ∷ rest → run_of n t ≡ sink r.depth (r ∷ take_deeper r.depth rest)
unfolding run_of place
run_split n [] r rest h = absurd (nil≢cons h)
run_split n (x ∷ l) r rest h = go (run_split n l r rest) (eqb x.number n) h
  where
    go : (drop (place n l) l ≡ r ∷ rest → run_of n l ≡ sink r.depth (r ∷ take_deeper r.depth rest)) → (b : Bool)
        → drop (pick b 0 (suc (place n l))) (x ∷ l) ≡ r ∷ rest
        → pick b (sink x.depth (x ∷ take_deeper x.depth l)) (run_of n l) ≡ sink r.depth (r ∷ take_deeper r.depth rest)
    go ih true e = ap₂ (λ (y : Node) (m : List Node). sink y.depth (y ∷ take_deeper y.depth m)) (head-eq_of_cons-eq e) (tail-eq_of_cons-eq e)
    go ih false e = ih e

-- a record and a part of what follows it
front : (t : List Node) (at k : ℕ) (r : Node) → drop at t ≡ r ∷ drop (at + 1) t → take (at + 1 + k) t ≡ take at t ++ r ∷ take k (drop (at + 1) t)
front t at k r h =
    take-add (at + 1) k t
    ∙ ap (λ (l : List Node). l ++ take k (drop (at + 1) t)) (take-add at 1 t ∙ ap (λ (l : List Node). take at t ++ take 1 l) h)
    ∙ append_assoc (take at t) (r ∷ []) (take k (drop (at + 1) t))

-- the record at a place of the first c records of us, with d its depth and e the end of its run
module _ (c : ℕ) (us : List ℕ) (at : ℕ) (live : at < c) where
  edit-at : (H : Node → List Node → List Node) → edit_at at H (rows c us) ≡ take at (rows c us) ++ H (node_from us (width * at)) (drop (at + 1) (rows c us))
  edit-at H = edit_split at H (rows c us) (node_from us (width * at)) (drop (at + 1) (rows c us)) (row-from c us at live)

  pub set_run-at : (flag : ℕ) → edit_at at (set_run_here flag) (rows c us) ≡ take at (rows c us) ++ with_run flag (node_from us (width * at)) ∷ drop (at + 1) (rows c us)
  set_run-at flag = edit-at (set_run_here flag)

  pub add_head-at : (xs : List Node) → edit_at at (head_here xs) (rows c us) ≡ take (at + 1) (rows c us) ++ (lift (get_or us (width * at + 1) 0 + 1) xs ++ drop (at + 1) (rows c us))
  add_head-at xs =
      let t = rows c us in
      let r = node_from us (width * at) in
      let ys = lift (r.depth + 1) xs ++ drop (at + 1) t in
      edit-at (head_here xs)
      ∙ sym (append_assoc (take at t) (r ∷ []) ys)
      ∙ ap (λ (l : List Node). l ++ ys) (sym (take-add at 1 t ∙ ap (λ (l : List Node). take at t ++ take 1 l) (row-from c us at live)))

  pub add_before-at : (xs : List Node) → edit_at at (before_here xs) (rows c us) ≡ take at (rows c us) ++ (lift (get_or us (width * at + 1) 0) xs ++ drop at (rows c us))
  add_before-at xs =
      edit-at (before_here xs)
      ∙ ap (λ (l : List Node). take at (rows c us) ++ (lift (get_or us (width * at + 1) 0) xs ++ l)) (sym (row-from c us at live))

  module _ (d e : ℕ) (deep : d ≡ get_or us (width * at + 1) 0) (end : e ≡ at + 1 + deeper d (drop (at + 1) (rows c us))) where
    -- what follows the run, and the table up to its end
    past : drop_deeper (get_or us (width * at + 1) 0) (drop (at + 1) (rows c us)) ≡ drop e (rows c us)
    past =
        let t = rows c us in
        ap (λ (j : ℕ). drop_deeper j (drop (at + 1) t)) (sym deep)
        ∙ drop_deeper-at d (drop (at + 1) t)
        ∙ drop-drop (deeper d (drop (at + 1) t)) (at + 1) t
        ∙ ap (λ (j : ℕ). drop j t) (sym end)

    upto : take at (rows c us) ++ node_from us (width * at) ∷ take_deeper (get_or us (width * at + 1) 0) (drop (at + 1) (rows c us)) ≡ take e (rows c us)
    upto =
        let t = rows c us in
        let r = node_from us (width * at) in
        ap (λ (l : List Node). take at t ++ r ∷ l) (ap (λ (j : ℕ). take_deeper j (drop (at + 1) t)) (sym deep) ∙ take_deeper-at d (drop (at + 1) t))
        ∙ sym (front t at (deeper d (drop (at + 1) t)) r (row-from c us at live))
        ∙ ap (λ (j : ℕ). take j t) (sym end)

    pub cut_at : edit_at at free_here (rows c us) ≡ take at (rows c us) ++ drop e (rows c us)
    cut_at = edit-at free_here ∙ ap (λ (l : List Node). take at (rows c us) ++ l) past

    pub cut_below-at : edit_at at free_all_here (rows c us) ≡ take (at + 1) (rows c us) ++ drop e (rows c us)
    cut_below-at =
        let t = rows c us in
        let r = node_from us (width * at) in
        edit-at free_all_here
        ∙ ap (λ (l : List Node). take at t ++ r ∷ l) past
        ∙ sym (append_assoc (take at t) (r ∷ []) (drop e t))
        ∙ ap (λ (l : List Node). l ++ drop e t) (sym (take-add at 1 t ∙ ap (λ (l : List Node). take at t ++ take 1 l) (row-from c us at live)))

    pub deep_free-at : edit_at at deep_free_here (rows c us) ≡ take (at + 1) (rows c us) ++ (only_groups (take (deeper d (drop (at + 1) (rows c us))) (drop (at + 1) (rows c us))) ++ drop e (rows c us))
    deep_free-at =
        let t = rows c us in
        let r = node_from us (width * at) in
        let gs = only_groups (take (deeper d (drop (at + 1) t)) (drop (at + 1) t)) in
        edit-at deep_free_here
        ∙ ap₂ (λ (a b : List Node). take at t ++ r ∷ (only_groups a ++ b)) (ap (λ (j : ℕ). take_deeper j (drop (at + 1) t)) (sym deep) ∙ take_deeper-at d (drop (at + 1) t)) past
        ∙ sym (append_assoc (take at t) (r ∷ []) (gs ++ drop e t))
        ∙ ap (λ (l : List Node). l ++ (gs ++ drop e t)) (sym (take-add at 1 t ∙ ap (λ (l : List Node). take at t ++ take 1 l) (row-from c us at live)))

    -- records ys put in behind the run
    behind : (ys : List Node) → take at (rows c us) ++ node_from us (width * at) ∷ (take_deeper (get_or us (width * at + 1) 0) (drop (at + 1) (rows c us)) ++ (ys ++ drop_deeper (get_or us (width * at + 1) 0) (drop (at + 1) (rows c us))))
        ≡ take e (rows c us) ++ (ys ++ drop e (rows c us))
    behind ys =
        let t = rows c us in
        let r = node_from us (width * at) in
        let xs = take_deeper (get_or us (width * at + 1) 0) (drop (at + 1) t) in
        let zs = drop_deeper (get_or us (width * at + 1) 0) (drop (at + 1) t) in
        sym (append_assoc (take at t) (r ∷ xs) (ys ++ zs)) ∙ ap₂ (λ (a b : List Node). a ++ (ys ++ b)) upto past

    pub add_tail-at : (xs : List Node) → edit_at at (tail_here xs) (rows c us) ≡ take e (rows c us) ++ (lift (d + 1) xs ++ drop e (rows c us))
    add_tail-at xs =
        edit-at (tail_here xs)
        ∙ behind (lift (get_or us (width * at + 1) 0 + 1) xs)
        ∙ ap (λ (j : ℕ). take e (rows c us) ++ (lift (j + 1) xs ++ drop e (rows c us))) (sym deep)

    pub add_after-at : (xs : List Node) → edit_at at (after_here xs) (rows c us) ≡ take e (rows c us) ++ (lift d xs ++ drop e (rows c us))
    add_after-at xs =
        edit-at (after_here xs)
        ∙ behind (lift (get_or us (width * at + 1) 0) xs)
        ∙ ap (λ (j : ℕ). take e (rows c us) ++ (lift j xs ++ drop e (rows c us))) (sym deep)

    pub add_over-at : (xs : List Node) → edit_at at (over_here xs) (rows c us) ≡ take at (rows c us) ++ (lift d xs ++ drop e (rows c us))
    add_over-at xs =
        edit-at (over_here xs)
        ∙ ap₂ (λ (j : ℕ) (l : List Node). take at (rows c us) ++ (lift j xs ++ l)) (sym deep) past

-- the run of the node n, found at the place at
pub run_of_at : (c : ℕ) (us : List ℕ) (n at : ℕ) → at ≡ place n (rows c us) → at < c → (d e : ℕ) → d ≡ get_or us (width * at + 1) 0 → e ≡ at + 1 + deeper d (drop (at + 1) (rows c us))
    → run_of n (rows c us) ≡ sink d (node_from us (width * at) ∷ take (deeper d (drop (at + 1) (rows c us))) (drop (at + 1) (rows c us)))
run_of_at c us n at here live d e deep end =
    let t = rows c us in
    let r = node_from us (width * at) in
    run_split n t r (drop (at + 1) t) (ap (λ (j : ℕ). drop j t) (sym here) ∙ row-from c us at live)
    ∙ ap (λ (j : ℕ). sink j (r ∷ take_deeper j (drop (at + 1) t))) (sym deep)
    ∙ ap (λ (l : List Node). sink d (r ∷ l)) (take_deeper-at d (drop (at + 1) t))
