-- Among fewer than 256 nodes a row of controls is free; and the running order is shorter than the table.
use Rattle.std.specs.Prelude.{ℕ, zero, suc, ◌+◌, ◌≤◌, ◌<◌, Bool, true, false, ◌≡◌, refl, List, [], ◌∷◌, length, ltb, leb, eqb}
use Rattle.std.proofs.Common.{sym, ◌∙◌, arith, lt-ltb, ltb-true, ltb-false, le-leb, eq-eqb, ne_eqb}
use Rattle.std.proofs.lemmas.Bool.{lt-leb}
use Rattle.words.specs.Choice.{pick, both}
use Rattle.words.specs.ChoiceLaws.{both_true}
use Rattle.nodes.specs.declared.Node.{Node}
use Rattle.nodes.specs.Place.{is_group}
use Rattle.nodes.specs.Order.{is_on, order_from, order}
use Rattle.nodes.specs.Formed.{most_nodes, most_rows, rooted, row_taken, free_row_from, free_row, in_row}
use Rattle.treerefinement.specs.Tally.{one, tally}
use Rattle.treerefinement.specs.Keep.{row_taken_some}
use Rattle.nodes.specs.OrderLaws.{order_most}

pub tally_most : (p : Node → Bool) (t : List Node) → tally p t ≤ length t
unfolding tally
tally_most p [] = omega arith
tally_most p (r ∷ l) = go (tally_most p l) (p r)
  where
    go : tally p l ≤ length l → (b : Bool) → one b + tally p l ≤ suc (length l)
    go ih true = omega arith
    go ih false = omega arith

-- a synth has one of the n rows from k on
abbrev in_rows : ℕ → ℕ → Node → Bool
in_rows k n r = pick (is_group r) false (both (leb k r.row) (ltb r.row (k + n)))

rows_first : (k n : ℕ) (r : Node) → one (in_rows k (suc n) r) ≡ one (in_row k r) + one (in_rows (k + 1) n r)
rows_first k n r = go (is_group r) (ltb r.row k) refl (ltb k r.row) refl
  where
    go : (g a : Bool) → ltb r.row k ≡ a → (b : Bool) → ltb k r.row ≡ b
        → one (pick g false (both (leb k r.row) (ltb r.row (k + suc n)))) ≡ one (pick g false (eqb r.row k)) + one (pick g false (both (leb (k + 1) r.row) (ltb r.row (k + 1 + n))))
    go true a e b f = refl
    go false true e b f =
        let h : r.row < k = ltb-true r.row k e in
        rw (lt-leb k r.row h, ne_eqb r.row k (λ q. omega arith), lt-leb (k + 1) r.row (omega arith))
    go false false e true f =
        let h : k < r.row = ltb-true k r.row f in
        let same : k + suc n ≡ k + 1 + n = omega arith in
        rw (le-leb k r.row (omega arith), ne_eqb r.row k (λ q. omega arith), le-leb (k + 1) r.row (omega arith), same) (omega arith)
    go false false e false f =
        let h : k ≤ r.row = ltb-false r.row k e in
        let g : r.row ≤ k = ltb-false k r.row f in
        rw (le-leb k r.row h, lt-ltb r.row (k + suc n) (omega arith), eq-eqb r.row k (omega arith), lt-leb (k + 1) r.row (omega arith))

tally_first : (k n : ℕ) (t : List Node) → tally (in_rows k (suc n)) t ≡ tally (in_row k) t + tally (in_rows (k + 1) n) t
unfolding tally
tally_first k n [] = refl
tally_first k n (r ∷ l) = omega (arith, tally_first k n l, rows_first k n r)

-- n rows are not all taken by fewer than n
free-among : (n k : ℕ) (t : List Node) → tally (in_rows k n) t < n → (free_row_from n k t < k + n) × (row_taken (free_row_from n k t) t ≡ false)
unfolding free_row_from
free-among zero k t h = absurd (omega arith)
free-among (suc n) k t h = go (row_taken k t) refl (free-among n (k + 1) t)
  where
    go : (b : Bool) → row_taken k t ≡ b → (tally (in_rows (k + 1) n) t < n → (free_row_from n (k + 1) t < k + 1 + n) × (row_taken (free_row_from n (k + 1) t) t ≡ false))
        → (pick b (free_row_from n (k + 1) t) k < k + suc n) × (row_taken (pick b (free_row_from n (k + 1) t) k) t ≡ false)
    go true e ih =
        let taken : 0 < tally (in_row k) t = ltb-true 0 (tally (in_row k) t) (sym (row_taken_some k t) ∙ e) in
        let w = ih (omega (arith, tally_first k n t)) in
        (omega (arith, w.0), w.1)
    go false e ih = (omega arith, e)

pub free-row : (t : List Node) → length t < most_nodes → (free_row t < most_rows) × (row_taken (free_row t) t ≡ false)
free-row t h = free-among most_rows 0 t (omega (arith, tally_most (in_rows 0 most_rows) t))

-- the running order holds no more than the table, and not the root
pub order-short : (t : List Node) → rooted t ≡ true → length (order t) < length t
unfolding rooted order_from
order-short [] h = absurd (let z : ◌≡◌ {A = ℕ} 0 1 = cc in omega arith)
order-short (r ∷ l) h =
    let u = both_true (eqb r.number 0) _ h in
    let v = both_true (eqb r.depth 0) _ u.1 in
    let w = both_true (is_group r) _ v.1 in
    rw w.0 (go (leb r.depth 0) (is_on r) (order_most (r.depth + 1) l) (order_most r.depth l) (order_most 0 l))
  where
    go : (a b : Bool) → length (order_from (r.depth + 1) l) ≤ length l → length (order_from r.depth l) ≤ length l → length (order_from 0 l) ≤ length l
        → length (pick a (pick b (order_from (r.depth + 1) l) (order_from r.depth l)) (order_from 0 l)) < suc (length l)
    go true true u v w = omega arith
    go true false u v w = omega arith
    go false b u v w = omega arith
