-- Marks of the rows seen: 256 truth values, and what a pass with them tells of the rows.
use Rattle.std.specs.Prelude.{ℕ, zero, suc, ◌+◌, ◌*◌, ◌<◌, ◌≤◌, Bool, true, false, ◌≡◌, refl, List, [], ◌∷◌, length, drop, get_or, set, replicate, ltb, eqb}
use Rattle.std.proofs.Common.{sym, ap, ◌∙◌, arith, length-set, get_or-set_same, get_or-set_other}
use Rattle.std.proofs.lemmas.List.{length-replicate}
use borrow.Author.Tests.{lt-ltb, le-ltb, ltb-true, eq-eqb, ne_eqb, eqb-true, eqb-false}
use Rattle.words.specs.Choice.{pick, both, either}
use Rattle.nodes.specs.declared.Node.{Node}
use Rattle.nodes.specs.Table.{width, node_from, rows}
use Rattle.nodes.specs.TableLaws.{rows_end, row-from}
use Rattle.nodes.specs.Place.{is_group}
use Rattle.nodes.specs.Formed.{most_rows, row_formed, row_taken, rows_apart}

-- every synth's row is one of 256
unfoldable pub rows_formed : List Node → Bool
rows_formed [] = true
rows_formed (r ∷ l) = both (row_formed r) (rows_formed l)

-- and no two synths have one
abbrev pub rows_hold : List Node → Bool
rows_hold t = both (rows_formed t) (rows_apart t)

-- a pass with marks: a synth's row is one of 256 and not marked, and is marked from then on
unfoldable pub pass : List Bool → List Node → Bool
pass seen [] = true
pass seen (r ∷ l) = pick (is_group r) (pass seen l) (both (ltb r.row most_rows) (both (pick (get_or seen r.row false) false true) (pass (set seen r.row true) l)))

-- no synth has a row that is marked
unfoldable unseen : List Bool → List Node → Bool
unseen seen [] = true
unseen seen (r ∷ l) = both (pick (is_group r) true (pick (get_or seen r.row false) false true)) (unseen seen l)

none_seen : (n k : ℕ) → get_or (replicate n false) k false ≡ false
none_seen zero k = refl
none_seen (suc n) zero = refl
none_seen (suc n) (suc k) = none_seen n k

unseen_none : (n : ℕ) (l : List Node) → unseen (replicate n false) l ≡ true
unfolding unseen
unseen_none n [] = refl
unseen_none n (r ∷ l) = go (unseen_none n l) (is_group r) (get_or (replicate n false) r.row false) (none_seen n r.row)
  where
    go : unseen (replicate n false) l ≡ true → (g s : Bool) → s ≡ false → both (pick g true (pick s false true)) (unseen (replicate n false) l) ≡ true
    go ih true s e = ih
    go ih false true e = cc
    go ih false false e = ih

-- a mark more
unseen-set : (seen : List Bool) (k : ℕ) (l : List Node) → k < length seen → unseen (set seen k true) l ≡ both (pick (row_taken k l) false true) (unseen seen l)
unfolding unseen row_taken
unseen-set seen k [] h = refl
unseen-set seen k (r ∷ l) h = go (unseen-set seen k l h) (is_group r) (eqb r.row k) refl
  where
    swap : (a b c : Bool) → both a (both b c) ≡ both b (both a c)
    swap true b c = refl
    swap false true c = refl
    swap false false c = refl

    go : unseen (set seen k true) l ≡ both (pick (row_taken k l) false true) (unseen seen l) → (g b : Bool) → eqb r.row k ≡ b
        → both (pick g true (pick (get_or (set seen k true) r.row false) false true)) (unseen (set seen k true) l)
        ≡ both (pick (either (pick g false b) (row_taken k l)) false true) (both (pick g true (pick (get_or seen r.row false) false true)) (unseen seen l))
    go ih true b e = ih
    go ih false true e =
        let same : r.row ≡ k = eqb-true r.row k e in
        rw (same, get_or-set_same seen k true false h)
    go ih false false e =
        rw (get_or-set_other seen k r.row true false (eqb-false r.row k e), ih) (swap (pick (get_or seen r.row false) false true) (pick (row_taken k l) false true) (unseen seen l))

pass_all : (seen : List Bool) (l : List Node) → most_rows ≤ length seen → pass seen l ≡ both (rows_formed l) (both (rows_apart l) (unseen seen l))
unfolding pass rows_formed rows_apart unseen
pass_all seen [] h = refl
pass_all seen (r ∷ l) h = go (is_group r) (ltb r.row most_rows) refl (pass_all seen l h) (pass_all (set seen r.row true) l (rw length-set h))
  where
    mix : (x y z w u : Bool) → both x (both y (both z (both w u))) ≡ both y (both (both w z) (both x u))
    mix true true true true u = refl
    mix true true true false u = refl
    mix true true false true u = refl
    mix true true false false u = refl
    mix true false z w u = refl
    mix false true true true u = refl
    mix false true true false u = refl
    mix false true false true u = refl
    mix false true false false u = refl
    mix false false z w u = refl

    go : (g b : Bool) → ltb r.row most_rows ≡ b → pass seen l ≡ both (rows_formed l) (both (rows_apart l) (unseen seen l))
        → pass (set seen r.row true) l ≡ both (rows_formed l) (both (rows_apart l) (unseen (set seen r.row true) l))
        → pick g (pass seen l) (both b (both (pick (get_or seen r.row false) false true) (pass (set seen r.row true) l)))
        ≡ both (both (pick g true b) (rows_formed l)) (both (both (pick g true (pick (row_taken r.row l) false true)) (rows_apart l)) (both (pick g true (pick (get_or seen r.row false) false true)) (unseen seen l)))
    go true b e ih set-ih = ih
    go false false e ih set-ih = refl
    go false true e ih set-ih =
        let k : r.row < most_rows = ltb-true r.row most_rows e in
        rw (set-ih, unseen-set seen r.row l (omega arith))
        (mix (pick (get_or seen r.row false) false true) (rows_formed l) (rows_apart l) (pick (row_taken r.row l) false true) (unseen seen l))

both_true_right : (b : Bool) → both b true ≡ b
both_true_right true = refl
both_true_right false = refl

-- a pass from no marks tells whether the rows hold
pub pass_none : (n : ℕ) (l : List Node) → most_rows ≤ n → pass (replicate n false) l ≡ rows_hold l
pass_none n l h =
    pass_all (replicate n false) l (rw length-replicate h)
    ∙ ap (λ (b : Bool). both (rows_formed l) (both (rows_apart l) b)) (unseen_none n l)
    ∙ ap (λ (b : Bool). both (rows_formed l) b) (both_true_right (rows_apart l))

-- one record's part in the pass
module _ (count : ℕ) (us : List ℕ) (i : ℕ) (seen : List Bool) (whole : Bool) (h : i < count) (s : pass seen (drop i (rows count us)) ≡ whole) where
  abbrev this : Node
  this = node_from us (width * i)

  given : pass seen (this ∷ drop (i + 1) (rows count us)) ≡ whole
  given = ap (λ (l : List Node). pass seen l) (sym (row-from count us i h)) ∙ s

  pub pass_group : this.slot ≡ 32 → pass seen (drop (i + 1) (rows count us)) ≡ whole
  unfolding pass
  pass_group group = rw (eq-eqb this.slot 32 group) at given

  module _ (synth : this.slot ≡ 32 → ⊥) where
    -- a row that is none of 256
    pub pass_past : most_rows ≤ this.row → false ≡ whole
    unfolding pass
    pass_past past = rw (ne_eqb this.slot 32 synth, le-ltb this.row most_rows past) at given

    -- a row that another has
    pub pass_taken : this.row < most_rows → get_or seen this.row false ≡ true → false ≡ whole
    unfolding pass
    pass_taken near marked = rw (ne_eqb this.slot 32 synth, lt-ltb this.row most_rows near, marked) at given

    -- a row, which is marked
    pub pass_mark : this.row < most_rows → get_or seen this.row false ≡ false → pass (set seen this.row true) (drop (i + 1) (rows count us)) ≡ whole
    unfolding pass
    pass_mark near unmarked = rw (ne_eqb this.slot 32 synth, lt-ltb this.row most_rows near, unmarked) at given

pub pass_end : (count : ℕ) (us : List ℕ) (i : ℕ) (seen : List Bool) (whole : Bool) → count ≤ i → pass seen (drop i (rows count us)) ≡ whole → true ≡ whole
unfolding pass
pass_end count us i seen whole h s = ap (λ (l : List Node). pass seen l) (sym (rows_end count us i h)) ∙ s

-- the marks along the table
pub ruleset along_marks = (pass_none, pass_group, pass_past, pass_taken, pass_mark, pass_end)
