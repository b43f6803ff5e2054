-- Laws of `Table`.
use Rattle.std.specs.Prelude.{ℕ, zero, suc, ◌+◌, ◌*◌, ◌-◌, ◌≤◌, ◌<◌, ◌≡◌, refl, List, [], ◌∷◌, ◌++◌, length, take, drop}
use Rattle.std.proofs.Common.{sym, ap, ap₂, ◌∙◌, append_assoc, arith, add-zero, length-append, length-take, length-drop, drop_of_length-le, drop-drop, get_or-drop, drop_at, length-take-le, take-take}
use Rattle.std.proofs.Math.Nat.{sub-zero}
use Rattle.std.proofs.lemmas.List.{take-append-le}
use Rattle.std.proofs.Math.Seq.{paste}
use Rattle.nodes.specs.declared.Node.{Node}
use Rattle.words.specs.Parts.{over}
use Rattle.nodes.specs.Table.{width, node_from, node_at, rows, words_of, encode, fill}

pub rows-length : (n : ℕ) (us : List ℕ) → length (rows n us) ≡ n
unfolding rows
rows-length zero us = refl
rows-length (suc n) us = ap suc (rows-length n (drop width us))

pub rows_drop : (e n : ℕ) (us : List ℕ) → drop e (rows n us) ≡ rows (n - e) (drop (width * e) us)
unfolding rows
rows_drop zero n us = rw sub-zero
rows_drop (suc e) zero us =
    let none : 0 - suc e ≡ 0 = omega arith in
    rw none
rows_drop (suc e) (suc n) us =
    let fewer : suc n - suc e ≡ n - e = omega arith in
    let more : width * suc e ≡ width + width * e = omega arith in
    rw (fewer, more) (rows_drop e n (drop width us) ∙ ap (λ (l : List ℕ). rows (n - e) l) (drop-drop (width * e) width us))

pub rows_take : (e n : ℕ) (us : List ℕ) → e ≤ n → take e (rows n us) ≡ rows e us
unfolding rows
rows_take zero n us h = refl
rows_take (suc e) zero us h = absurd (omega arith)
rows_take (suc e) (suc n) us h = ap (λ (l : List Node). node_at us ∷ l) (rows_take e n (drop width us) (omega arith))

-- past the count there is nothing
pub rows_end : (n : ℕ) (us : List ℕ) (i : ℕ) → n ≤ i → drop i (rows n us) ≡ []
rows_end n us i h = drop_of_length-le (rows n us) {i = i} (rw rows-length h)

-- the record at a place, and the rest
pub row_at : (n : ℕ) (us : List ℕ) (i : ℕ) → i < n → drop i (rows n us) ≡ node_at (drop (width * i) us) ∷ drop (i + 1) (rows n us)
unfolding rows
row_at n us i h =
    let more : n - i ≡ suc (n - (i + 1)) = omega arith in
    let next : width * i + width ≡ width * (i + 1) = omega arith in
    rows_drop i n us
    ∙ ap (λ (k : ℕ). rows k (drop (width * i) us)) more
    ∙ ap (λ (l : List Node). node_at (drop (width * i) us) ∷ l)
    (ap (λ (l : List ℕ). rows (n - (i + 1)) l) (drop-drop width (width * i) us ∙ ap (λ (k : ℕ). drop k us) next) ∙ sym (rows_drop (i + 1) n us))

pub node-from : (us : List ℕ) (k : ℕ) → node_at (drop k us) ≡ node_from us k
node-from us k = simp (get_or-drop, add-zero)

-- the same by the words themselves
pub row-from : (n : ℕ) (us : List ℕ) (i : ℕ) → i < n → drop i (rows n us) ≡ node_from us (width * i) ∷ drop (i + 1) (rows n us)
row-from n us i h = row_at n us i h ∙ ap (λ (r : Node). r ∷ drop (i + 1) (rows n us)) (node-from us (width * i))

-- a run's first record, and the rest
first : (us : List ℕ) → width ≤ length us → us ≡ words_of (node_at us) ++ drop width us
first [] h = absurd (omega arith)
first (a ∷ []) h = absurd (omega arith)
first (a ∷ (b ∷ [])) h = absurd (omega arith)
first (a ∷ (b ∷ (c ∷ []))) h = absurd (omega arith)
first (a ∷ (b ∷ (c ∷ (d ∷ [])))) h = absurd (omega arith)
first (a ∷ (b ∷ (c ∷ (d ∷ (e ∷ us))))) h = refl

pub encode-rows : (k : ℕ) (us : List ℕ) → width * k ≤ length us → encode (rows k us) ≡ take (width * k) us
unfolding rows encode
encode-rows zero us h = refl
encode-rows (suc k) us h =
    let more : width * suc k ≡ suc (suc (suc (suc (suc (width * k))))) = omega arith in
    let long : width * k ≤ length (drop width us) = simp length-drop (omega arith) in
    ap (λ (l : List ℕ). words_of (node_at us) ++ l) (encode-rows k (drop width us) long)
    ∙ sym (ap (λ (l : List ℕ). take (width * suc k) l) (first us (omega arith)) ∙ ap (λ (j : ℕ). take j (words_of (node_at us) ++ drop width us)) more)

pub encode-length : (l : List Node) → length (encode l) ≡ width * length l
unfolding encode
encode-length [] = refl
encode-length (r ∷ l) = let ih = encode-length l in omega arith

pub encode-append : (a b : List Node) → encode (a ++ b) ≡ encode a ++ encode b
unfolding encode
encode-append [] b = refl
encode-append (r ∷ a) b = ap (λ (l : List ℕ). words_of r ++ l) (encode-append a b)

pub encode_one : (r : Node) → encode (r ∷ []) ≡ words_of r
unfolding encode
encode_one r = refl

pub rows-encode : (l : List Node) (us : List ℕ) → rows (length l) (encode l ++ us) ≡ l
unfolding rows encode
rows-encode [] us = refl
rows-encode (r ∷ l) us = ap (λ (t : List Node). r ∷ t) (rows-encode l us)

pub fill-length : (us : List ℕ) (l : List Node) → width * length l ≤ length us → length (fill us l) ≡ length us
fill-length us l h = simp (length-append, encode-length, length-drop) (omega arith)

-- what was filled in is there
pub rows_fill : (us : List ℕ) (l : List Node) → rows (length l) (fill us l) ≡ l
rows_fill us l = rows-encode l (drop (width * length l) us)

-- the words of a front and of a back of the table
front : (us : List ℕ) (n at : ℕ) → at ≤ n → width * n ≤ length us → take (width * at) us ≡ encode (take at (rows n us))
front us n at h long = sym (encode-rows at us (omega arith)) ∙ ap encode (sym (rows_take at n us h))

back : (us : List ℕ) (n e m : ℕ) → e ≤ n → width * n ≤ length us → m ≡ width * (n - e) → take m (drop (width * e) us) ≡ encode (drop e (rows n us))
back us n e m h long hm =
    let inner : width * (n - e) ≤ length (drop (width * e) us) = simp length-drop (omega arith) in
    ap (λ (k : ℕ). take k (drop (width * e) us)) hm ∙ sym (encode-rows (n - e) (drop (width * e) us) inner) ∙ ap encode (sym (rows_drop e n us))

-- a gap opened, and a run as long written into it
pub gap_over : (d : List ℕ) (at m : ℕ) (vs : List ℕ) (g : ℕ) → length vs ≡ g → at + g + m ≤ length d
    → over at vs (paste d (at + g) (drop at d) m) ≡ take at d ++ (vs ++ (take m (drop at d) ++ drop (at + g + m) d))
gap_over d at m vs g e h =
    let z = take m (drop at d) ++ drop (at + g + m) d in
    let p = paste d (at + g) (drop at d) m in
    let regroup : p ≡ take (at + g) d ++ z = append_assoc (take (at + g) d) (take m (drop at d)) (drop (at + g + m) d) in
    let kept : take at p ≡ take at d =
    ap (λ (l : List ℕ). take at l) regroup
    ∙ take-append-le at (take (at + g) d) z (rw (length-take-le (at + g) d (omega arith)) (omega arith))
    ∙ take-take at (at + g) d (omega arith) in
    let rest : drop (at + length vs) p ≡ z =
    ap₂ (λ (k : ℕ) (l : List ℕ). drop (at + k) l) e regroup
    ∙ drop_at (take (at + g) d) z (at + g) (length-take-le (at + g) d (omega arith)) in
    ap₂ (λ (a b : List ℕ). a ++ vs ++ b) kept rest ∙ append_assoc (take at d) vs z

-- the words of records put in: a gap opened, and their words written into it
pub insert_run_words : (us : List ℕ) (n at m : ℕ) (xs : List Node) → at ≤ n → width * n + width * length xs ≤ length us → m ≡ width * (n - at)
    → over (width * at) (encode xs) (paste us (width * at + width * length xs) (drop (width * at) us) m) ≡ fill us (take at (rows n us) ++ (xs ++ drop at (rows n us)))
insert_run_words us n at m xs h long hm =
    let t = rows n us in
    let g = width * length xs in
    let l = take at t ++ (xs ++ drop at t) in
    let size : length l ≡ n + length xs = simp (length-append, length-take, length-drop, rows-length) (omega arith) in
    let ends : width * at + g + m ≡ width * length l = rw size (omega arith) in
    let words : encode l ≡ encode (take at t) ++ (encode xs ++ encode (drop at t)) =
    encode-append (take at t) (xs ++ drop at t) ∙ ap (λ (e : List ℕ). encode (take at t) ++ e) (encode-append xs (drop at t)) in
    gap_over us (width * at) m (encode xs) g (encode-length xs) (omega arith)
    ∙ ap₂ (λ (a b : List ℕ). a ++ (encode xs ++ (b ++ drop (width * at + g + m) us))) (front us n at h (omega arith)) (back us n at m h (omega arith) hm)
    ∙ ap (λ (k : ℕ). encode (take at t) ++ (encode xs ++ (encode (drop at t) ++ drop k us))) ends
    ∙ ap (λ (e : List ℕ). encode (take at t) ++ e) (sym (append_assoc (encode xs) (encode (drop at t)) (drop (width * length l) us)))
    ∙ sym (append_assoc (encode (take at t)) (encode xs ++ encode (drop at t)) (drop (width * length l) us))
    ∙ ap (λ (e : List ℕ). e ++ drop (width * length l) us) (sym words)

-- the words of one record put in
pub insert_words : (us : List ℕ) (n at m : ℕ) (r : Node) → at ≤ n → width * n + width ≤ length us → m ≡ width * (n - at)
    → over (width * at) (words_of r) (paste us (width * at + width) (drop (width * at) us) m) ≡ fill us (take at (rows n us) ++ r ∷ drop at (rows n us))
unfolding encode
insert_words us n at m r h long hm = insert_run_words us n at m (r ∷ []) h long hm

-- the words of a run taken out, from the place at up to the place e
pub remove_words : (us : List ℕ) (n at e m : ℕ) → at ≤ e → e ≤ n → width * n ≤ length us → m ≡ width * (n - e)
    → paste us (width * at) (drop (width * e) us) m ≡ fill us (take at (rows n us) ++ drop e (rows n us))
remove_words us n at e m ha he long hm =
    let t = rows n us in
    let l = take at t ++ drop e t in
    let size : length l ≡ n - (e - at) = simp (length-append, length-take, length-drop, rows-length) (omega arith) in
    let ends : width * at + m ≡ width * length l = rw size (omega arith) in
    ap₂ (λ (a b : List ℕ). a ++ b ++ drop (width * at + m) us) (front us n at (omega arith) long) (back us n e m he long hm)
    ∙ ap₂ (λ (w : List ℕ) (k : ℕ). w ++ drop k us) (sym (encode-append (take at t) (drop e t))) ends
