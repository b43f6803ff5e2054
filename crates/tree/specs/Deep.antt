-- A deep free in words: what the sweep leaves, with the records behind the run moved down to it.
use Rattle.std.specs.Prelude.{ℕ, ◌+◌, ◌*◌, ◌≤◌, ◌<◌, ◌≡◌, refl, List, ◌++◌, length, take, drop}
use Rattle.std.proofs.Common.{sym, ap, ap₂, ◌∙◌, append_assoc, arith, length-append, length-take}
use Rattle.nodes.specs.declared.Node.{Node}
use Rattle.nodes.specs.Table.{width, rows, encode, fill}
use Rattle.nodes.specs.TableLaws.{rows-length, rows_take, encode-rows, encode-length, encode-append, rows-encode}
use Rattle.nodes.specs.Sizes.{depth_at, end_at}
use Rattle.nodes.specs.Edit.{only_groups, edit_at, deep_free_here}
use Rattle.nodes.specs.Split.{take_deeper-at, deep_free-at}
use Rattle.tree.specs.Sizes.{Leaves}
use Rattle.tree.specs.Over.{over_past, over_rows}
use Rattle.tree.specs.Sweep.{groups_below, Swept, Ends, swept_ends}

module _ (us ws : List ℕ) (count from d read write : ℕ) (inside : from ≤ count) (room : width * count ≤ length us) (s : Swept us count from from d ws read write) where
  abbrev kept : List Node
  kept = groups_below d (drop from (rows count us))

  ends : Ends us count from ws read write
  ends = swept_ends inside (omega arith) room s

  size : length (take from (rows count us) ++ kept) ≡ write
  size = length-append (take from (rows count us)) kept ∙ (simp (length-take, rows-length) (omega (arith, s.many)))

  fits : width * from + length (encode kept) ≤ length us
  fits = omega (arith, encode-length kept, s.many, ends)

  behind : width * from + length (encode kept) ≤ width * write
  behind = omega (arith, encode-length kept, s.many)

  front : take write (rows count ws) ≡ take from (rows count us) ++ kept
  front =
      let t = rows count us in
      let l = take from t ++ kept in
      let z = drop (width * from + length (encode kept)) us in
      let words : ws ≡ encode l ++ z =
      s.words
      ∙ ap (λ (w : List ℕ). w ++ encode kept ++ z) (sym (encode-rows from us (omega arith)) ∙ ap encode (sym (rows_take from count us inside)))
      ∙ ap (λ (w : List ℕ). w ++ z) (sym (encode-append (take from t) kept)) in
      rows_take write count ws (omega (arith, ends))
      ∙ ap₂ (λ (k : ℕ) (w : List ℕ). rows k w) (sym size) words
      ∙ rows-encode l z

  back : drop read (rows count ws) ≡ drop read (rows count us)
  back =
      ap (λ (w : List ℕ). drop read (rows count w)) s.words
      ∙ over_rows (width * from) (encode kept) us fits count read (omega (arith, behind, ends))

  -- the table that the words hold once the records behind are moved down
  pub left : take write (rows count ws) ++ drop read (rows count ws) ≡ take from (rows count us) ++ (kept ++ drop read (rows count us))
  left = ap₂ (λ (a b : List Node). a ++ b) front back ∙ append_assoc (take from (rows count us)) kept (drop read (rows count us))

  -- and past it the words are as they were
  pub left_fill : (l : List Node) → write ≤ length l → fill ws l ≡ fill us l
  left_fill l h =
      ap (λ (w : List ℕ). encode l ++ w)
      (ap (λ (w : List ℕ). drop (width * length l) w) s.words ∙ over_past (width * from) (encode kept) us fits (width * length l) (omega (arith, behind)))

  left_long : write ≤ length (take from (rows count us) ++ (kept ++ drop read (rows count us)))
  left_long =
      let t = rows count us in
      let whole = length-append (take from t ++ kept) (drop read t) in
      let same = ap (λ (l : List Node). length l) (append_assoc (take from t) kept (drop read t)) in
      omega (arith, size)

  pub left_leaves : (l : List Node) (after : List ℕ) (many : ℕ) → l ≡ take from (rows count us) ++ (kept ++ drop read (rows count us))
      → Leaves ws (take write (rows count ws) ++ drop read (rows count ws)) after many → Leaves us l after many
  left_leaves l after many e h =
      let same : take write (rows count ws) ++ drop read (rows count ws) ≡ l = left ∙ sym e in
      record {
        words = h.words ∙ ap (λ (t : List Node). fill ws t) same ∙ left_fill l (rw e left_long);
        size = h.size ∙ ap (λ (t : List Node). length t) same;
      }

-- the record at a place
pub deep_at : (us : List ℕ) (count at read : ℕ) → at < count → read ≡ end_at count us at
    → edit_at at deep_free_here (rows count us) ≡ take (at + 1) (rows count us) ++ (groups_below (depth_at us at) (drop (at + 1) (rows count us)) ++ drop read (rows count us))
deep_at us count at read live end =
    deep_free-at count us at live (depth_at us at) read refl end
    ∙ ap (λ (l : List Node). take (at + 1) (rows count us) ++ (only_groups l ++ drop read (rows count us))) (sym (take_deeper-at (depth_at us at) (drop (at + 1) (rows count us))))
