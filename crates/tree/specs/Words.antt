-- The words of a table: its front, its back, and other records over a part of it.
use Rattle.std.specs.Prelude.{ℕ, ◌+◌, ◌*◌, ◌-◌, ◌≤◌, ◌<◌, ◌≡◌, List, [], ◌∷◌, ◌++◌, length, take, drop}
use Rattle.std.proofs.Common.{sym, ap, ap₂, ◌∙◌, append_assoc, arith, take-append-drop, length-append, length-take, length-drop, take_at, drop_at, drop-drop, length-take-le}
use Rattle.std.proofs.Math.Seq.{drop-append-add}
use Rattle.nodes.specs.declared.Node.{Node}
use Rattle.words.specs.Parts.{over}
use Rattle.nodes.specs.Table.{width, rows, words_of, encode, fill}
use Rattle.nodes.specs.TableLaws.{rows-length, rows_fill, encode-rows, encode-length, encode-append}
use Rattle.nodes.specs.Edit.{set_run_here, edit_at}
use Rattle.nodes.specs.Split.{set_run-at}
use Rattle.tree.specs.Sizes.{Leaves}

-- a table's words, and what is past them
pub whole : (n : ℕ) (us : List ℕ) → width * n ≤ length us → us ≡ encode (rows n us) ++ drop (width * n) us
whole n us h = sym (ap (λ (l : List ℕ). l ++ drop (width * n) us) (encode-rows n us h) ∙ take-append-drop (width * n) us)

module _ (k : ℕ) (l : List Node) (z : List ℕ) (h : k ≤ length l) where
  parted : encode l ++ z ≡ encode (take k l) ++ (encode (drop k l) ++ z)
  parted =
      ap (λ (m : List Node). encode m ++ z) (sym (take-append-drop k l))
      ∙ ap (λ (e : List ℕ). e ++ z) (encode-append (take k l) (drop k l))
      ∙ append_assoc (encode (take k l)) (encode (drop k l)) z

  size : length (encode (take k l)) ≡ width * k
  size = encode-length (take k l) ∙ ap (λ (j : ℕ). width * j) (length-take-le k l h)

  pub take_words : take (width * k) (encode l ++ z) ≡ encode (take k l)
  take_words = ap (λ (e : List ℕ). take (width * k) e) parted ∙ take_at (encode (take k l)) (encode (drop k l) ++ z) (width * k) size

  pub drop_words : drop (width * k) (encode l ++ z) ≡ encode (drop k l) ++ z
  drop_words = ap (λ (e : List ℕ). drop (width * k) e) parted ∙ drop_at (encode (take k l)) (encode (drop k l) ++ z) (width * k) size

-- records written over as many of a table
pub over_words : (us : List ℕ) (n at : ℕ) (xs : List Node) → at + length xs ≤ n → width * n ≤ length us
    → over (width * at) (encode xs) us ≡ fill us (take at (rows n us) ++ (xs ++ drop (at + length xs) (rows n us)))
over_words us n at xs h long =
    let t = rows n us in
    let z = drop (width * n) us in
    let e = at + length xs in
    let l = take at t ++ (xs ++ drop e t) in
    let inner : e ≤ length t = rw rows-length h in
    let size : length l ≡ n = simp (length-append, length-take, length-drop, rows-length) (omega arith) in
    let back : width * at + length (encode xs) ≡ width * e = omega (arith, encode-length xs) in
    ap₂ (λ (a b : List ℕ). a ++ encode xs ++ b)
    (ap (λ (w : List ℕ). take (width * at) w) (whole n us long) ∙ take_words at t z (omega arith))
    (ap₂ (λ (j : ℕ) (w : List ℕ). drop j w) back (whole n us long) ∙ drop_words e t z inner)
    ∙ append_assoc (encode (take at t)) (encode xs) (encode (drop e t) ++ z)
    ∙ ap (λ (w : List ℕ). encode (take at t) ++ w) (sym (append_assoc (encode xs) (encode (drop e t)) z) ∙ ap (λ (w : List ℕ). w ++ z) (sym (encode-append xs (drop e t))))
    ∙ sym (append_assoc (encode (take at t)) (encode (xs ++ drop e t)) z)
    ∙ ap₂ (λ (w : List ℕ) (j : ℕ). w ++ drop (width * j) us) (sym (encode-append (take at t) (xs ++ drop e t))) (sym size)

-- one record written over another
pub put_words : (us : List ℕ) (n at : ℕ) (r : Node) → at < n → width * n ≤ length us
    → over (width * at) (words_of r) us ≡ fill us (take at (rows n us) ++ r ∷ drop (at + 1) (rows n us))
unfolding encode
put_words us n at r h long = over_words us n at (r ∷ []) (omega arith) long

-- a table filled in over another that is no longer
pub fill-fill : (us : List ℕ) (s l : List Node) → length s ≤ length l → fill (fill us s) l ≡ fill us l
fill-fill us s l h =
    let more : width * length l ≡ length (encode s) + width * (length l - length s) = omega (arith, encode-length s) in
    let ends : width * length s + width * (length l - length s) ≡ width * length l = omega arith in
    ap (λ (w : List ℕ). encode l ++ w)
    (ap (λ (k : ℕ). drop k (fill us s)) more
    ∙ drop-append-add (encode s) (drop (width * length s) us) (width * (length l - length s))
    ∙ drop-drop (width * (length l - length s)) (width * length s) us
    ∙ ap (λ (k : ℕ). drop k us) ends)

-- the table that a change left
pub leaves_rows : (us : List ℕ) (s : List Node) (after : List ℕ) (k : ℕ) → Leaves us s after k → rows k after ≡ s
leaves_rows us s after k h = ap₂ (λ (j : ℕ) (w : List ℕ). rows j w) h.size h.words ∙ rows_fill us s

-- one change after another
pub leaves_then : (us : List ℕ) (s l : List Node) (mid after : List ℕ) (k j : ℕ) → Leaves us s mid k → Leaves mid l after j → length s ≤ length l → Leaves us l after j
leaves_then us s l mid after k j h g more = record {
  words = g.words ∙ ap (λ (w : List ℕ). fill w l) h.words ∙ fill-fill us s l more;
  size = g.size;
}

-- a run flag set: as many records as before
pub run_leaves : (us : List ℕ) (count at flag : ℕ) → at < count → (after : List ℕ) → after ≡ fill us (edit_at at (set_run_here flag) (rows count us)) → Leaves us (edit_at at (set_run_here flag) (rows count us)) after count
run_leaves us count at flag live after e =
    record { words = e; size = sym (ap length (set_run-at count us at live flag) ∙ simp (length-append, length-take, length-drop, rows-length) (omega arith)) }
