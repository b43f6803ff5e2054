-- Which edit by places each edit of the table is.
use Rattle.std.specs.Prelude.{ℕ, ◌+◌, ◌*◌, ◌-◌, ◌≤◌, ◌<◌, Bool, true, false, ◌≡◌, length, leb}
use Rattle.std.proofs.Math.Path.{refl, ap}
use Rattle.std.proofs.Common.{sym, ap₂, subst, ◌∙◌, arith, leb-true, leb-false, take-append-drop, take-take, drop-drop, length-take-le}
use mathlib.Core.List.{List, [], ◌∷◌, ◌++◌, append_assoc}
use Rattle.std.proofs.Math.ListN.{take, drop}
use Rattle.std.proofs.lemmas.List.{take-append-le, drop-append-le}
use Rattle.std.proofs.Math.Seq.{take-append-add, drop-append-add}
use Rattle.words.specs.Choice.{pick}
use Rattle.nodes.specs.declared.Node.{Node}
use Rattle.nodes.specs.Table.{width, node_from, rows, numbers}
use Rattle.nodes.specs.TableLaws.{rows-length, row-from}
use Rattle.nodes.specs.Place.{lives, deeper}
use Rattle.nodes.specs.PlaceLaws.{end_most}
use Rattle.nodes.specs.Sizes.{depth_at, end_at}
use Rattle.nodes.specs.Edit.{lift, sink, only_groups, edit_at, free_here, free_all_here, deep_free_here}
use Rattle.nodes.specs.Split.{cut_at, cut_below-at, deep_free-at, add_over-at}
use Rattle.treerefinement.specs.Tally.{tally, tally-append, Grown}
use Rattle.reindex.specs.declared.edit.Edit.{Edit}
use Rattle.reindex.specs.declared.edit.Edit.TheVariants as edit
use Rattle.reindex.specs.Numbers.{numbers_length, numbers_append, numbers_take, numbers_drop}
use Rattle.reindex.specs.Edits.{Replaced, OneNew, Does, replaced_size}
use Rattle.reindex.specs.Kept.{sift, sift_parts}
use Rattle.tree.specs.declared.action.Action.{Action}
use Rattle.tree.specs.declared.action.Action.TheVariants.{Put, Replace}
use Rattle.tree.specs.declared.add.Place.{Place}
use Rattle.tree.specs.Action.{add_here}
use Rattle.tree.specs.Add.{place_by, place_most, put_at}
use Rattle.tree.specs.Gaps.{gap_by}
use Rattle.tree.specs.Moves.{drop-take}
use Rattle.tree.specs.MoveRun.{place_without, moved_to}
use Rattle.tree.specs.Ends.{MoveTo}

-- an add action by the node at a place
abbrev pub edit_by : Action → ℕ → List ℕ → ℕ → Edit
edit_by action count us at = edit.Put (gap_by action count us at).at (gap_by action count us at).end

-- the run from a up to e moved to a place outside of it
abbrev pub move_edit : ℕ → ℕ → ℕ → Edit
move_edit a e place = pick (leb place a) (edit.Swap place a e) (edit.Swap a e place)

-- a change of depths changes no number
numbers_lift : (k : ℕ) (t : List Node) → numbers (lift k t) ≡ numbers t
unfolding numbers lift
numbers_lift k [] = refl
numbers_lift k (r ∷ l) = ap (λ (m : List ℕ). r.number ∷ m) (numbers_lift k l)

numbers_sink : (k : ℕ) (t : List Node) → numbers (sink k t) ≡ numbers t
unfolding numbers sink
numbers_sink k [] = refl
numbers_sink k (r ∷ l) = ap (λ (m : List ℕ). r.number ∷ m) (numbers_sink k l)

numbers_replaced : (from to : ℕ) (ys t : List Node) → numbers (take from t ++ (ys ++ drop to t)) ≡ take from (numbers t) ++ (numbers ys ++ drop to (numbers t))
numbers_replaced from to ys t = simp (numbers_append, numbers_take, numbers_drop)

module _ (c : ℕ) (us : List ℕ) (at : ℕ) (live : at < c) where
  abbrev t : List Node
  t = rows c us

  size : length t ≡ c
  size = rows-length c us

  abbrev e : ℕ
  e = end_at c us at

  end : e ≤ c
  end = end_most c us (depth_at us at) (at + 1) (omega arith)

  taken : (from : ℕ) → from ≤ e → (s : List Node) → s ≡ take from t ++ drop e t → Replaced from e [] t s
  taken from low s is = record { order = low; end = omega (arith, end, size); left = ap numbers is ∙ simp (numbers_append, numbers_take, numbers_drop) }

  -- the nodes from a place up to the end of the run taken out, told by how many are left
  cut_end : (from : ℕ) → from ≤ e → (s : List Node) → s ≡ take from t ++ drop e t → (left : ℕ) → left ≡ length s → from + (c - left) ≡ e
  cut_end from low s is left many = omega (arith, many, replaced_size from e [] t s (taken from low s is), size, end)

  cut_from : (from : ℕ) → from ≤ e → (s : List Node) → s ≡ take from t ++ drop e t → (left : ℕ) → left ≡ length s → Does (edit.Cut from (from + (c - left))) t s
  cut_from from low s is left many = subst (λ (j : ℕ). Replaced from j [] t s) (sym (cut_end from low s is left many)) (taken from low s is)

  fewer : (from : ℕ) → from ≤ e → (s : List Node) → s ≡ take from t ++ drop e t → length s ≤ c
  fewer from low s is = omega (arith, replaced_size from e [] t s (taken from low s is), size, end)

  pub cut_fewer : length (edit_at at free_here t) ≤ c
  cut_fewer = fewer at (omega arith) (edit_at at free_here t) (cut_at c us at live (depth_at us at) e refl refl)

  pub cut_below_fewer : length (edit_at at free_all_here t) ≤ c
  cut_below_fewer = fewer (at + 1) (omega arith) (edit_at at free_all_here t) (cut_below-at c us at live (depth_at us at) e refl refl)

  pub cut_does : (left : ℕ) → left ≡ length (edit_at at free_here t) → Does (edit.Cut at (at + (c - left))) t (edit_at at free_here t)
  cut_does = cut_from at (omega arith) (edit_at at free_here t) (cut_at c us at live (depth_at us at) e refl refl)

  -- where one node alone is taken out, it is the record at the place that is missing
  pub cut_one : (left : ℕ) → left ≡ length (edit_at at free_here t) → at + (c - left) ≡ at + 1 → Grown (node_from us (width * at) ∷ []) t (edit_at at free_here t)
  unfolding tally
  cut_one left many one = record { sum = λ p b. omega (arith, whole p, part p) }
    where
      freed : edit_at at free_here t ≡ take at t ++ drop e t
      freed = cut_at c us at live (depth_at us at) e refl refl

      next : e ≡ at + 1
      next = sym (cut_end at (omega arith) (edit_at at free_here t) freed left many) ∙ one

      part : (p : Node → Bool) → tally p (edit_at at free_here t) ≡ tally p (take at t) + tally p (drop (at + 1) t)
      part p = ap (tally p) (freed ∙ ap (λ (j : ℕ). take at t ++ drop j t) next) ∙ tally-append p (take at t) (drop (at + 1) t)

      whole : (p : Node → Bool) → tally p t ≡ tally p (take at t) + tally p (node_from us (width * at) ∷ drop (at + 1) t)
      whole p =
          ap (tally p) (sym (take-append-drop at t) ∙ ap (λ (l : List Node). take at t ++ l) (row-from c us at live))
          ∙ tally-append p (take at t) (node_from us (width * at) ∷ drop (at + 1) t)

  pub cut_below_does : (left : ℕ) → left ≡ length (edit_at at free_all_here t) → Does (edit.Cut (at + 1) (at + 1 + (c - left))) t (edit_at at free_all_here t)
  cut_below_does = cut_from (at + 1) (omega arith) (edit_at at free_all_here t) (cut_below-at c us at live (depth_at us at) e refl refl)

  -- deep free leaves what the sieve does
  pub deep_sifts : edit_at at deep_free_here t ≡ sift (at + 1) e 0 t
  deep_sifts =
      let k = deeper (depth_at us at) (drop (at + 1) t) in
      deep_free-at c us at live (depth_at us at) e refl refl
      ∙ ap (λ (l : List Node). take (at + 1) t ++ (only_groups (take k (drop (at + 1) t)) ++ l)) (sym (drop-drop k (at + 1) t))
      ∙ sym (sift_parts (at + 1) e k t refl)

  -- one node put in
  one_new : (from to : ℕ) → from ≤ to → to ≤ c → (x : Node) → lives x.number t ≡ false → (d : ℕ) (s : List Node) → s ≡ take from t ++ (lift d (x ∷ []) ++ drop to t) → OneNew from to t s
  unfolding numbers
  one_new from to low high x fresh d s is = record {
    number = x.number;
    replaced = record {
      order = low;
      end = omega (arith, size);
      left = ap numbers is ∙ numbers_replaced from to (lift d (x ∷ [])) t ∙ ap (λ (l : List ℕ). take from (numbers t) ++ (l ++ drop to (numbers t))) (numbers_lift d (x ∷ []));
    };
    fresh = fresh;
  }

  pub add_does : (action : Action) (x : Node) → lives x.number t ≡ false → Does (edit_by action c us at) t (edit_at at (add_here action (x ∷ [])) t)
  add_does (Put p) x fresh =
      one_new (place_by p c us at).at (place_by p c us at).at (omega arith) (place_most c us at live p) x fresh (place_by p c us at).depth (edit_at at (add_here (Put p) (x ∷ [])) t) (put_at c us at live p (x ∷ []))
  add_does Replace x fresh =
      one_new at e (omega arith) end x fresh (depth_at us at) (edit_at at (add_here Replace (x ∷ [])) t) (add_over-at c us at live (depth_at us at) e refl refl (x ∷ []))

-- a run moved
module _ (c : ℕ) (us : List ℕ) (a : ℕ) (place : Place) (m : MoveTo us c a place) where
  abbrev ts : List Node
  ts = rows c us

  abbrev ks : List ℕ
  ks = numbers ts

  abbrev f : ℕ
  f = end_at c us a

  abbrev p : ℕ
  p = place.at

  many : length ks ≡ c
  many = numbers_length ts ∙ rows-length c us

  f_most : f ≤ c
  f_most = end_most c us (depth_at us a) (a + 1) (omega (arith, m.live))

  front : length (take a ks) ≡ a
  front = length-take-le a ks (omega (arith, many, m.live))

  abbrev run : List ℕ
  run = take (f - a) (drop a ks)

  abbrev rest : List ℕ
  rest = take a ks ++ drop f ks

  moved : numbers (moved_to c us a place) ≡ take (place_without a f place.at) rest ++ (run ++ drop (place_without a f place.at) rest)
  moved = simp (numbers_append, numbers_take, numbers_drop, numbers_lift, numbers_sink)

  pub move_does : Does (move_edit a f place.at) ts (moved_to c us a place)
  move_does = go (leb place.at a) refl moved
    where
      go : (b : Bool) → leb p a ≡ b → numbers (moved_to c us a place) ≡ take (pick b p (p - (f - a))) rest ++ (run ++ drop (pick b p (p - (f - a))) rest)
          → Does (pick b (edit.Swap p a f) (edit.Swap a f p)) ts (moved_to c us a place)
      go true e w =
          let low = leb-true p a e in record {
            first = low;
            second = omega arith;
            end = omega (arith, f_most, rows-length c us);
            left =
                w
                ∙ ap₂ (λ (x y : List ℕ). x ++ (run ++ y))
                (take-append-le p (take a ks) (drop f ks) (omega (arith, front)) ∙ take-take p a ks low)
                (drop-append-le p (take a ks) (drop f ks) (omega (arith, front)) ∙ ap (λ (l : List ℕ). l ++ drop f ks) (drop-take p a ks low (omega (arith, many, m.live))));
          }
      go false e w =
          let high = leb-false p a e in
          let past = m.outside high in
          let at : p - (f - a) ≡ length (take a ks) + (p - f) = omega (arith, front) in
          let back : f + (p - f) ≡ p = omega arith in record {
            first = omega arith;
            second = past;
            end = omega (arith, m.fits, rows-length c us);
            left =
                w
                ∙ ap₂ (λ (x y : List ℕ). x ++ (run ++ y))
                (ap (λ (j : ℕ). take j rest) at ∙ take-append-add (take a ks) (drop f ks) (p - f))
                (ap (λ (j : ℕ). drop j rest) at ∙ drop-append-add (take a ks) (drop f ks) (p - f) ∙ drop-drop (p - f) f ks ∙ ap (λ (j : ℕ). drop j ks) back)
                ∙ append_assoc (take a ks) (take (p - f) (drop f ks)) (run ++ drop p ks);
          }
