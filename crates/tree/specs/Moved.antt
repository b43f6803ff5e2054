-- "A move takes A's subtree out and puts it in where told.": a move by the places of both nodes is the move of the nodes with their numbers.
use Prim.Native.Nat.{ℕ, suc, ◌+◌, ◌*◌, ◌-◌, ◌≤◌, ◌<◌}
use Rattle.std.specs.Prelude.{Bool, ◌≡◌, leb}
use Rattle.std.proofs.Math.Bool.{true, false}
use Rattle.std.proofs.Math.Path.{refl, sym, ap, ap₂}
use Rattle.std.proofs.Common.{◌∙◌, length-append, length-take-le, ltb-true, ltb-false, le-leb}
use mathlib.Core.List.{List, ◌∷◌, ◌++◌, head-eq_of_cons-eq}
use native.Mathlib.Omega.{arith}
use Rattle.std.proofs.Math.ListN.{length, take, drop, length-take, length-drop}
use Rattle.std.proofs.Math.Seq.{drop-drop, drop-append-le, drop-append-add}
use Rattle.std.proofs.Math.Dec.{ltb}
use Rattle.std.proofs.lemmas.Bool.{lt-leb}
use Rattle.words.specs.Choice.{pick}
use Rattle.nodes.specs.declared.Node.{Node}
use Rattle.nodes.specs.Table.{width, node_from, rows, fill}
use Rattle.nodes.specs.TableLaws.{rows-length, rows_fill, row-from}
use Rattle.nodes.specs.Place.{place, deeper}
use Rattle.nodes.specs.PlaceLaws.{end_most}
use Rattle.nodes.specs.Edit.{lift, sink, run_of, edit_rows, free_here, cut}
use Rattle.nodes.specs.Split.{edit_first, cut_at, run_of_at}
use Rattle.nodes.specs.Sizes.{depth_at, end_at}
use Rattle.tree.specs.Moves.{without, put_in, drop-take}
use Rattle.tree.specs.declared.action.Position.{Position}
use Rattle.tree.specs.declared.action.Position.TheVariants.{Head, Tail, Before, After}
use Rattle.tree.specs.Action.{put_here}
use Rattle.tree.specs.Add.{place_by, put_at}
use Rattle.tree.specs.MoveRun.{place_without, moved_to}
use Rattle.tree.specs.Places.{place_front, place_behind, place_drop, deeper-without}

-- the nodes m and n, found at the places a and b of the first c records of us, where b is not in the run of a
module _ (c : ℕ) (us : List ℕ) (m n a b : ℕ) (here-a : a ≡ place m (rows c us)) (here-b : b ≡ place n (rows c us)) (live-a : a < c) (live-b : b < c) (outside : a ≤ b → end_at c us a ≤ b) where
  t : List Node
  t = rows c us

  e : ℕ
  e = end_at c us a

  -- the table without the run, in words, and the place of n there
  left : List Node
  left = without a e t

  us' : List ℕ
  us' = fill us left

  c' : ℕ
  c' = length left

  b' : ℕ
  b' = place_without a e b

  size : length t ≡ c
  unfolding t
  size = rows-length c us

  e_most : e ≤ c
  unfolding e
  e_most = end_most c us (depth_at us a) (a + 1) (omega arith)

  e_past : a < e
  unfolding e
  e_past = omega arith

  c'_is : c' ≡ c - (e - a)
  unfolding c' left
  c'_is = simp (length-append, length-take, length-drop) (omega (arith, size, e_most, e_past))

  table : rows c' us' ≡ left
  unfolding c' us'
  table = rows_fill us left

  front-size : length (take a t) ≡ a
  front-size = length-take-le a t (omega (arith, size))

  -- where b stands before the run, and where it stands behind it
  before : b < a → b' ≡ b
  unfolding b'
  before h = rw (le-leb b a (omega arith))

  behind : e ≤ b → b' ≡ b - (e - a)
  unfolding b'
  behind h = rw (lt-leb b a (omega (arith, e_past)))

  -- one of both
  cases : {P : Type 0} → (b < a → P) → (e ≤ b → P) → P
  unfolding e
  cases {P} f g = go (ltb b a) refl
    where
      go : (q : Bool) → ltb b a ≡ q → P
      go true q = f (ltb-true b a q)
      go false q = g (outside (ltb-false b a q))

  place_left : b' ≡ place n left
  unfolding left t
  place_left = cases
      (λ h. before h ∙ here-b ∙ sym (place_front n a t (drop e t) (omega arith) (omega (arith, size))))
      (λ h. omega (arith, behind h, e_past, place_behind n a t (drop e t) (omega (arith, e_past)) (omega (arith, size)), place_drop n e t (omega arith) (omega (arith, size, e_most))))

  live_left : b' < c'
  live_left = cases (λ h. omega (arith, before h, c'_is, e_most, e_past)) (λ h. omega (arith, behind h, c'_is, e_most, e_past))

  -- what follows the record of n there
  rest : List Node
  rest = drop (b' + 1) left

  found_before : b < a → drop b left ≡ node_from us (width * b) ∷ (take (a - (b + 1)) (drop (b + 1) t) ++ drop e t)
  unfolding left t
  found_before h =
      let more : a - b ≡ suc (a - (b + 1)) = omega arith in
      drop-append-le b (take a t) (drop e t) (omega (arith, front-size))
      ∙ ap (λ (l : List Node). l ++ drop e t) (drop-take b a t (omega arith) (omega (arith, size)) ∙ ap₂ (λ (k : ℕ) (l : List Node). take k l) more (row-from c us b live-b))

  found_behind : e ≤ b → drop b' left ≡ node_from us (width * b) ∷ drop (b + 1) t
  unfolding left t
  found_behind h =
      let on : b' ≡ length (take a t) + (b - e) = omega (arith, behind h, front-size, e_past) in
      let back : e + (b - e) ≡ b = omega arith in
      ap (λ (k : ℕ). drop k left) on
      ∙ drop-append-add (take a t) (drop e t) (b - e)
      ∙ drop-drop (b - e) e t
      ∙ ap (λ (k : ℕ). drop k t) back
      ∙ row-from c us b live-b

  found : (r : Node) (l : List Node) → drop b' left ≡ r ∷ l → (node_from us' (width * b') ≡ r) × (rest ≡ l)
  unfolding rest
  found r l h = (
    head-eq_of_cons-eq (sym (row-from c' us' b' live_left) ∙ ap (λ (x : List Node). drop b' x) table ∙ h),
    sym (drop-drop 1 b' left) ∙ ap (λ (x : List Node). drop 1 x) h,
  )

  found_left : (b < a) → drop b' left ≡ node_from us (width * b) ∷ (take (a - (b + 1)) (drop (b + 1) t) ++ drop e t)
  found_left h = ap (λ (k : ℕ). drop k left) (before h) ∙ found_before h

  deep : depth_at us b ≡ depth_at us' b'
  deep = cases
      (λ h. ap (λ (r : Node). r.depth) (sym (found (node_from us (width * b)) (take (a - (b + 1)) (drop (b + 1) t) ++ drop e t) (found_left h)).0))
      (λ h. ap (λ (r : Node). r.depth) (sym (found (node_from us (width * b)) (drop (b + 1) t) (found_behind h)).0))

  end_left : place_without a e (end_at c us b) ≡ b' + 1 + deeper (depth_at us b) rest
  unfolding t e
  end_left = cases
      (λ h.
      let d = depth_at us b in
      let l = drop (b + 1) t in
      let k = a - (b + 1) in
      let r = node_from us (width * a) in
      let ra = drop (a + 1) t in
      let at_a : b + 1 + k ≡ a = omega arith in
      let back : a + 1 + deeper r.depth ra ≡ e = refl in
      let gone : suc (deeper r.depth ra) ≡ e - a = omega arith in
      let first : drop k l ≡ r ∷ ra = drop-drop k (b + 1) t ∙ ap (λ (j : ℕ). drop j t) at_a ∙ row-from c us a live-a in
      let short : k ≤ length l = simp length-drop (omega (arith, size)) in
      ap₂ (λ (j g : ℕ). pick (leb (b + 1 + deeper d l) j) (b + 1 + deeper d l) (b + 1 + deeper d l - g)) (sym at_a) (sym gone)
      ∙ sym (deeper-without d (b + 1) k l r ra short first)
      ∙ ap (λ (z : List Node). b + 1 + deeper d (take k l ++ z)) (drop-drop (deeper r.depth ra) (a + 1) t)
      ∙ ap₂ (λ (j : ℕ) (z : List Node). j + 1 + deeper d z) (sym (before h)) (sym (found (node_from us (width * b)) (take k l ++ drop e t) (found_left h)).1))
      (λ h.
      let d = depth_at us b in
      let same : deeper d rest ≡ deeper d (drop (b + 1) t) = ap (λ (l : List Node). deeper d l) (found (node_from us (width * b)) (drop (b + 1) t) (found_behind h)).1 in
      rw (lt-leb (end_at c us b) a (omega (arith, e_past))) (omega (arith, same, behind h, e_past)))

  -- the run that is put in
  xs : List Node
  xs = sink (depth_at us a) (take (e - a) (drop a t))

  run : run_of m (rows c us) ≡ xs
  unfolding xs t e
  run =
      let ra = drop (a + 1) t in
      let gone : suc (deeper (depth_at us a) ra) ≡ e - a = omega arith in
      run_of_at c us m a here-a live-a (depth_at us a) e refl refl
      ∙ ap (λ (l : List Node). sink (depth_at us a) l) (sym (ap₂ (λ (k : ℕ) (l : List Node). take k l) (sym gone) (row-from c us a live-a)))

  gone : cut m (rows c us) ≡ rows c' us'
  unfolding t e left
  gone = sym (edit_first m a free_here (rows c us) here-a) ∙ cut_at c us a live-a (depth_at us a) e refl refl ∙ sym table

  here_left : b' ≡ place n (rows c' us')
  here_left = place_left ∙ ap (λ (l : List Node). place n l) (sym table)

  end_here : end_at c' us' b' ≡ place_without a e (end_at c us b)
  unfolding rest
  end_here = ap₂ (λ (d : ℕ) (l : List Node). b' + 1 + deeper d (drop (b' + 1) l)) (sym deep) table ∙ sym end_left

  next_left : b' + 1 ≡ place_without a e (b + 1)
  next_left = cases (λ h. rw (le-leb (b + 1) a (omega arith)) (omega (arith, before h))) (λ h. rw (lt-leb (b + 1) a (omega (arith, e_past))) (omega (arith, behind h, e_past)))

  -- a position by n there is the one by n here, without the run
  by_left : (p : Position) → ((place_by p c' us' b').at ≡ place_without a e (place_by p c us b).at) × ((place_by p c' us' b').depth ≡ (place_by p c us b).depth)
  unfolding b'
  by_left Head = (next_left, ap (λ (d : ℕ). d + 1) (sym deep))
  by_left Tail = (end_here, ap (λ (d : ℕ). d + 1) (sym deep))
  by_left Before = (refl, sym deep)
  by_left After = (end_here, sym deep)

  pub move_first : (p : Position) → moved_to c us a (place_by p c us b) ≡ edit_rows n (put_here p (run_of m (rows c us))) (cut m (rows c us))
  unfolding xs t e left
  move_first p =
      sym
      (ap₂ (λ (ys l : List Node). edit_rows n (put_here p ys) l) run gone
      ∙ sym (edit_first n b' (put_here p xs) (rows c' us') here_left)
      ∙ put_at c' us' b' live_left p xs
      ∙ ap₂ (λ (i d : ℕ). put_in i (lift d xs) (rows c' us')) (by_left p).0 (by_left p).1
      ∙ ap (λ (l : List Node). put_in (place_without a e (place_by p c us b).at) (lift (place_by p c us b).depth xs) l) table)
