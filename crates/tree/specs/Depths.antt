-- The depths of a run of records changed.
use Rattle.std.specs.Prelude.{ℕ, ◌+◌, ◌*◌, ◌-◌, ◌≤◌, ◌<◌, ◌≡◌, refl}
use Rattle.std.proofs.Math.Path.{sym, ap, ap₂}
use Rattle.std.proofs.Common.{◌∙◌, take-append-drop, drop-drop}
use mathlib.Core.List.{List, [], ◌∷◌, ◌++◌, append_assoc, append-nil}
use native.Mathlib.Omega.{arith}
use Rattle.std.proofs.Math.ListN.{length, take, drop, get_or, set, length-append, length-drop}
use Rattle.std.proofs.Math.Seq.{get_or-append-add, get_or-drop, set_at, length-take-le}
use Rattle.nodes.specs.declared.Node.{Node}
use Rattle.nodes.specs.Table.{width, rows, node_at, node_from, words_of, encode, depth_field}
use Rattle.nodes.specs.TableLaws.{rows-length, rows_take, rows_end, row-from, node-from, encode-length, encode-append, encode_one}
use Rattle.nodes.specs.Edit.{level, lift, sink}
use Rattle.tree.specs.Words.{whole}

-- records taken from one depth to another
abbrev pub relevel : ℕ → ℕ → List Node → List Node
relevel old new l = lift new (sink old l)

-- a run whose depths can be changed so
pub record Levels (us : List ℕ) (from to old new : ℕ) : Type 0 where
  pub order : from ≤ to
  pub room : width * to ≤ length us
  pub least : (i : ℕ) → from ≤ i → i < to → old ≤ get_or us (width * i + depth_field) 0
  pub most : (i : ℕ) → from ≤ i → i < to → get_or us (width * i + depth_field) 0 + new < 4294967296

pub relevel-length : (old new : ℕ) (l : List Node) → length (relevel old new l) ≡ length l
unfolding lift sink
relevel-length old new [] = refl
relevel-length old new (r ∷ l) = let ih = relevel-length old new l in omega arith

relevel_snoc : (old new : ℕ) (l : List Node) (r : Node) → relevel old new (l ++ (r ∷ [])) ≡ relevel old new l ++ (level (r.depth - old + new) r ∷ [])
unfolding lift sink
relevel_snoc old new [] r = refl
relevel_snoc old new (x ∷ l) r = ap (λ (m : List Node). level (x.depth - old + new) x ∷ m) (relevel_snoc old new l r)

-- one record more
pub rows_snoc : (k : ℕ) (us : List ℕ) → rows (k + 1) us ≡ rows k us ++ (node_from us (width * k) ∷ [])
rows_snoc k us =
    sym (take-append-drop k (rows (k + 1) us))
    ∙ ap₂ (λ (a b : List Node). a ++ b) (rows_take k (k + 1) us (omega arith)) (row-from (k + 1) us k (omega arith) ∙ ap (λ (m : List Node). node_from us (width * k) ∷ m) (rows_end (k + 1) us (k + 1) (omega arith)))

-- the words with the records from one place up to another changed
abbrev pub releveled : ℕ → ℕ → List ℕ → ℕ → ℕ → List ℕ
releveled old new us from to = take (width * from) us ++ encode (relevel old new (rows (to - from) (drop (width * from) us))) ++ drop (width * to) us

module _ (old new : ℕ) (us : List ℕ) (from i : ℕ) (order : from ≤ i) (inside : width * i + width ≤ length us) where
  -- the words before the record at i, changed
  done : List ℕ
  done = take (width * from) us ++ encode (relevel old new (rows (i - from) (drop (width * from) us)))

  done_length : length done ≡ width * i
  unfolding done
  done_length =
      let run = rows (i - from) (drop (width * from) us) in
      simp (length-append, encode-length) (omega (arith, length-take-le (width * from) us (omega arith), relevel-length old new run, rows-length (i - from) (drop (width * from) us)))

  here : Node
  here = node_from us (width * i)

  five : drop (width * i) us ≡ words_of here ++ drop (width * (i + 1)) us
  unfolding here rows encode
  five =
      let us' = drop (width * i) us in
      let next : width * i + width * 1 ≡ width * (i + 1) = omega arith in
      whole 1 us' (simp length-drop (omega arith))
      ∙ ap₂ (λ (r : Node) (l : List ℕ). words_of r ++ l) (node-from us (width * i)) (drop-drop (width * 1) (width * i) us ∙ ap (λ (k : ℕ). drop k us) next)

  same_node : node_from (drop (width * from) us) (width * (i - from)) ≡ here
  unfolding here
  same_node =
      let e : width * from + width * (i - from) ≡ width * i = omega arith in
      sym (node-from (drop (width * from) us) (width * (i - from)))
      ∙ ap (λ (l : List ℕ). node_at l) (drop-drop (width * (i - from)) (width * from) us ∙ ap (λ (k : ℕ). drop k us) e)
      ∙ node-from us (width * i)

  more : done ++ words_of (level (here.depth - old + new) here) ≡ take (width * from) us ++ encode (relevel old new (rows (i + 1 - from) (drop (width * from) us)))
  unfolding done
  more =
      let u = drop (width * from) us in
      let run = rows (i - from) u in
      let r = level (here.depth - old + new) here in
      let next : i - from + 1 ≡ i + 1 - from = omega arith in
      append_assoc (take (width * from) us) (encode (relevel old new run)) (words_of r)
      ∙ ap (λ (l : List ℕ). take (width * from) us ++ l)
      (ap (λ (l : List ℕ). encode (relevel old new run) ++ l) (sym (encode_one r))
      ∙ sym (encode-append (relevel old new run) (r ∷ []))
      ∙ ap encode
      (sym (relevel_snoc old new run here)
      ∙ ap (λ (m : List Node). relevel old new m) (ap (λ (x : Node). run ++ (x ∷ [])) (sym same_node) ∙ sym (rows_snoc (i - from) u) ∙ ap (λ (k : ℕ). rows k u) next)))

  -- the word that is read
  pub depth_read : get_or (releveled old new us from i) (width * i + depth_field) 0 ≡ get_or us (width * i + depth_field) 0
  unfolding done
  depth_read =
      ap (λ (k : ℕ). get_or (done ++ drop (width * i) us) (k + 1) 0) (sym done_length) ∙ get_or-append-add done (drop (width * i) us) 1 0 ∙ get_or-drop (width * i) us 1 0

  -- the word that is written
  pub releveled_turn : set (releveled old new us from i) (width * i + depth_field) (get_or us (width * i + depth_field) 0 - old + new) ≡ releveled old new us from (i + 1)
  unfolding done here
  releveled_turn =
      let v = here.depth - old + new in
      let p = done ++ (here.number ∷ []) in
      let w = here.run ∷ (here.slot ∷ (here.row ∷ drop (width * (i + 1)) us)) in
      let long : length p ≡ width * i + 1 = length-append done (here.number ∷ []) ∙ ap (λ (k : ℕ). k + 1) done_length in
      ap (λ (l : List ℕ). set (done ++ l) (width * i + depth_field) v) five
      ∙ ap (λ (l : List ℕ). set l (width * i + depth_field) v) (sym (append_assoc done (here.number ∷ []) (here.depth ∷ w)))
      ∙ set_at p here.depth w v (width * i + depth_field) long
      ∙ append_assoc done (here.number ∷ []) (v ∷ w)
      ∙ sym (append_assoc done (words_of (level v here)) (drop (width * (i + 1)) us))
      ∙ ap (λ (l : List ℕ). l ++ drop (width * (i + 1)) us) more

pub releveled_start : (old new : ℕ) (us : List ℕ) (from : ℕ) → us ≡ releveled old new us from from
unfolding rows encode lift sink
releveled_start old new us from =
    let none : from - from ≡ 0 = omega arith in
    rw none (sym (ap (λ (l : List ℕ). l ++ drop (width * from) us) (append-nil (take (width * from) us)) ∙ take-append-drop (width * from) us))
