-- A run of records taken out, and put in at a place of what is left, at its new depths.
use Rattle.std.specs.Prelude.{ℕ, ◌+◌, ◌*◌, ◌-◌, ◌≤◌, ◌<◌, ◌≡◌, get_or, leb}
use Rattle.std.proofs.Math.Path.{sym, ap, ap₂}
use Rattle.std.proofs.Common.{◌∙◌, arith, length-take-le}
use mathlib.Core.List.{List, ◌++◌, append_assoc}
use Rattle.std.proofs.Math.ListN.{length, take, drop, length-append, length-take, length-drop}
use Rattle.std.proofs.Math.Seq.{take_at, drop_at}
use Rattle.words.specs.Choice.{pick}
use Rattle.nodes.specs.declared.Node.{Node}
use Rattle.nodes.specs.Table.{width, rows, encode, fill, depth_field}
use Rattle.nodes.specs.TableLaws.{rows-length, rows_take, rows_drop, encode-length, encode-append}
use Rattle.nodes.specs.Sizes.{depth_at, end_at}
use Rattle.tree.specs.declared.add.Place.{Place}
use Rattle.tree.specs.Words.{whole, take_words, drop_words}
use Rattle.tree.specs.Moves.{without, put_in, put_in_length}
use Rattle.tree.specs.Depths.{relevel, releveled, relevel-length}

-- a run that can be moved to a place, and its depths changed so
pub record Movable (us : List ℕ) (from to at old new : ℕ) : Type 0 where
  pub order : from ≤ to
  pub few : to ≤ from + 256
  pub room : width * to ≤ length us
  pub inside : width * (at + (to - from)) ≤ length us
  pub least : (i : ℕ) → from ≤ i → i < to → old ≤ get_or us (width * i + depth_field) 0
  pub most : (i : ℕ) → from ≤ i → i < to → get_or us (width * i + depth_field) 0 + new < 4294967296

-- the words after: the run with its depths changed taken out, and put in at a place of what is left
abbrev pub moved_words : ℕ → ℕ → ℕ → ℕ → ℕ → List ℕ → List ℕ
moved_words from to at old new us =
    put_in (width * at) (take (width * to - width * from) (drop (width * from) (releveled old new us from to))) (without (width * from) (width * to) (releveled old new us from to))

-- the table after
abbrev pub moved_run : ℕ → ℕ → ℕ → ℕ → ℕ → List Node → List Node
moved_run from to at old new t = put_in at (relevel old new (take (to - from) (drop from t))) (without from to t)

module _ (us : List ℕ) (c from to at old new : ℕ) (order : from ≤ to) (end : to ≤ c) (inside : at + (to - from) ≤ c) (room : width * c ≤ length us) where
  t : List Node
  t = rows c us

  z : List ℕ
  z = drop (width * c) us

  run : rows (to - from) (drop (width * from) us) ≡ take (to - from) (drop from t)
  unfolding t
  run = sym (ap (λ (l : List Node). take (to - from) l) (rows_drop from c us) ∙ rows_take (to - from) (c - from) (drop (width * from) us) (omega arith))

  ys : List Node
  ys = relevel old new (take (to - from) (drop from t))

  -- the words with the new depths
  after : List ℕ
  after = releveled old new us from to

  pieces : after ≡ take (width * from) us ++ (encode ys ++ drop (width * to) us)
  unfolding after ys
  pieces =
      ap (λ (l : List Node). take (width * from) us ++ encode (relevel old new l) ++ drop (width * to) us) run
      ∙ append_assoc (take (width * from) us) (encode ys) (drop (width * to) us)

  ys_length : length ys ≡ to - from
  unfolding ys t
  ys_length = relevel-length old new (take (to - from) (drop from t)) ∙ simp (length-take, length-drop, rows-length) (omega arith)

  ys_words : length (encode ys) ≡ width * to - width * from
  ys_words = encode-length ys ∙ omega (arith, ys_length)

  front_words : length (take (width * from) us) ≡ width * from
  front_words = length-take-le (width * from) us (omega arith)

  middle : take (width * to - width * from) (drop (width * from) after) ≡ encode ys
  middle =
      ap (λ (l : List ℕ). take (width * to - width * from) l)
      (ap (λ (l : List ℕ). drop (width * from) l) pieces ∙ drop_at (take (width * from) us) (encode ys ++ drop (width * to) us) (width * from) front_words)
      ∙ take_at (encode ys) (drop (width * to) us) (width * to - width * from) ys_words

  rest : without (width * from) (width * to) after ≡ encode (without from to t) ++ z
  unfolding t z
  rest =
      let both : length (take (width * from) us ++ encode ys) ≡ width * to = length-append (take (width * from) us) (encode ys) ∙ omega (arith, front_words, ys_words) in
      ap₂ (λ (a b : List ℕ). a ++ b)
      (ap (λ (l : List ℕ). take (width * from) l) pieces
      ∙ take_at (take (width * from) us) (encode ys ++ drop (width * to) us) (width * from) front_words
      ∙ ap (λ (l : List ℕ). take (width * from) l) (whole c us room)
      ∙ take_words from t z (rw rows-length (omega arith)))
      (ap (λ (l : List ℕ). drop (width * to) l) (pieces ∙ sym (append_assoc (take (width * from) us) (encode ys) (drop (width * to) us)))
      ∙ drop_at (take (width * from) us ++ encode ys) (drop (width * to) us) (width * to) both
      ∙ ap (λ (l : List ℕ). drop (width * to) l) (whole c us room)
      ∙ drop_words to t z (rw rows-length end))
      ∙ sym (append_assoc (encode (take from t)) (encode (drop to t)) z)
      ∙ ap (λ (l : List ℕ). l ++ z) (sym (encode-append (take from t) (drop to t)))

  pub move_run_words : moved_words from to at old new us ≡ fill us (moved_run from to at old new (rows c us))
  unfolding after ys t z
  move_run_words =
      let w = without from to t in
      let left : length w ≡ c - (to - from) = simp (length-append, length-take, length-drop, rows-length) (omega arith) in
      let l = put_in at ys w in
      let back = ys ++ drop at w in
      let size : length l ≡ c = put_in_length at ys w (omega arith) ∙ omega (arith, ys_length) in
      ap₂ (λ (m : List ℕ) (v : List ℕ). take (width * at) v ++ (m ++ drop (width * at) v)) middle rest
      ∙ ap₂ (λ (a b : List ℕ). a ++ (encode ys ++ b)) (take_words at w z (omega arith)) (drop_words at w z (omega arith))
      ∙ ap (λ (m : List ℕ). encode (take at w) ++ m) (sym (append_assoc (encode ys) (encode (drop at w)) z) ∙ ap (λ (m : List ℕ). m ++ z) (sym (encode-append ys (drop at w))))
      ∙ sym (append_assoc (encode (take at w)) (encode back) z)
      ∙ ap₂ (λ (m : List ℕ) (k : ℕ). m ++ drop (width * k) us) (sym (encode-append (take at w) back)) (sym size)

-- a place of the table as it is without the records from one place up to another
abbrev pub place_without : ℕ → ℕ → ℕ → ℕ
place_without from to p = pick (leb p from) p (p - (to - from))

-- the table with the run of the record at the place a moved to another place
abbrev pub moved_to : ℕ → List ℕ → ℕ → Place → List Node
moved_to count us a p = moved_run a (end_at count us a) (place_without a (end_at count us a) p.at) (depth_at us a) p.depth (rows count us)
