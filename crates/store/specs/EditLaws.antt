-- Laws of `Edit`, on bytes as they stand one behind the other.
use Rattle.std.specs.Prelude.{ℕ, ◌+◌, ◌-◌, ◌≤◌, ◌≡◌, refl, List, ◌++◌, length, take, drop, replicate}
use Rattle.std.proofs.Common.{sym, ap, ap₂, ◌∙◌, append_assoc, arith, length-append, length-drop, take-append-drop, take_at, drop_at, drop-drop, length-take-le}
use Rattle.std.proofs.Math.Seq.{paste, take-append-add}
use Rattle.std.proofs.lemmas.List.Edits.{take-paste, length-paste}
use Rattle.words.specs.Parts.{put, over}
use Rattle.osc.specs.Over.{over_over}
use Rattle.store.specs.Edit.{number_field, zeroed_from, version_put, entry_put, run_cut}

-- bytes behind two runs
drop-two : (a h x : List ℕ) (n : ℕ) → length a + length h ≡ n → drop n (a ++ (h ++ x)) ≡ x
drop-two a h x n e =
    ap (drop n) (sym (append_assoc a h x)) ∙ drop_at (a ++ h) x n (length-append a h ∙ e)

-- bytes in the place of as many
pub over_seam : (a h h' x : List ℕ) (at : ℕ) → length a ≡ at → length h ≡ length h' → over at h' (a ++ (h ++ x)) ≡ a ++ (h' ++ x)
over_seam a h h' x at e same =
    ap₂ (λ (p q : List ℕ). p ++ h' ++ q) (take_at a (h ++ x) at e) (drop-two a h x (at + length h') (omega arith)) ∙ append_assoc a h' x

pub put_seam : (a h h' x : List ℕ) (at k : ℕ) → length a ≡ at → length h ≡ k → put at k h' (a ++ (h ++ x)) ≡ a ++ (h' ++ x)
put_seam a h h' x at k e same =
    ap₂ (λ (p q : List ℕ). p ++ (h' ++ q)) (take_at a (h ++ x) at e)
    (ap (drop k) (drop_at a (h ++ x) at e) ∙ drop_at h x k same)

-- bytes zeroed behind a run
pub zeroed_seam : (a x : List ℕ) (at : ℕ) → length a ≡ at → zeroed_from at (a ++ x) ≡ a ++ replicate (length x) 0
zeroed_seam a x at e =
    let rest : length (a ++ x) - at ≡ length x = rw length-append (omega arith) in
    ap₂ (λ (p : List ℕ) (k : ℕ). p ++ replicate k 0) (take_at a x at e) rest

-- a run moved up: what it left is still there, and what it lies over is gone
pub moved_up : (a b r : List ℕ) (end k : ℕ) → length a ≡ end → k ≤ length r
    → paste (a ++ (b ++ r)) (end + k) (drop end (a ++ (b ++ r))) (length b) ≡ a ++ (take k (b ++ r) ++ (b ++ drop k r))
moved_up a b r end k e room =
    let front : take (end + k) (a ++ (b ++ r)) ≡ a ++ take k (b ++ r) =
    ap (λ (n : ℕ). take (n + k) (a ++ (b ++ r))) (sym e) ∙ take-append-add a (b ++ r) k in
    let moved : take (length b) (drop end (a ++ (b ++ r))) ≡ b = ap (take (length b)) (drop_at a (b ++ r) end e) ∙ take_at b r (length b) refl in
    let order : end + k + length b ≡ end + length b + k = omega arith in
    let back : drop (end + k + length b) (a ++ (b ++ r)) ≡ drop k r =
    ap (λ (n : ℕ). drop n (a ++ (b ++ r))) order
    ∙ sym (drop-drop k (end + length b) (a ++ (b ++ r)))
    ∙ ap (drop k) (drop-two a b r (end + length b) (omega arith)) in
    ap₂ (λ (p q : List ℕ). p ++ q ++ drop (end + k + length b) (a ++ (b ++ r))) front moved
    ∙ ap (λ (p : List ℕ). (a ++ take k (b ++ r)) ++ b ++ p) back
    ∙ append_assoc (a ++ take k (b ++ r)) b (drop k r)
    ∙ append_assoc a (take k (b ++ r)) (b ++ drop k r)

-- a run taken out
pub cut_seam : (a g b r : List ℕ) (from to contents : ℕ) → length a ≡ from → from + length g ≡ to → to + length b ≡ contents
    → run_cut from to contents (a ++ (g ++ (b ++ r))) ≡ (a ++ b) ++ replicate (length g + length r) 0
cut_seam a g b r from to contents e f h =
    let s = a ++ (g ++ (b ++ r)) in
    let many : contents - to ≡ length b = omega arith in
    let all : length s ≡ length a + (length g + (length b + length r)) = simp length-append in
    let long : length (drop to s) ≡ length b + length r = ap length (drop-two a g (b ++ r) to (omega arith)) ∙ length-append b r in
    let here : take from s ++ take (contents - to) (drop to s) ≡ a ++ b =
    ap₂ (λ (p q : List ℕ). p ++ q) (take_at a (g ++ (b ++ r)) from e)
    (ap₂ (λ (k : ℕ) (l : List ℕ). take k l) many (drop-two a g (b ++ r) to (omega arith)) ∙ take_at b r (length b) refl) in
    let same : length (paste s from (drop to s) (contents - to)) ≡ length s =
    length-paste s from (drop to s) (contents - to) (omega arith) (omega arith) in
    let rest : length (paste s from (drop to s) (contents - to)) - (from + (contents - to)) ≡ length g + length r = omega arith in
    ap₂ (λ (p : List ℕ) (k : ℕ). p ++ replicate k 0)
    (take-paste s from (drop to s) (contents - to) (omega arith) (omega arith) ∙ here) rest

-- two fields written and the rest zeroed, with the settings put into the bytes that were left for them
filled : (a h v x y b r high new cs : List ℕ) (head end contents size : ℕ) → length a ≡ head → length h ≡ number_field → length high ≡ number_field
    → length x ≡ number_field → length new ≡ number_field → length y ≡ size → head + (number_field + length v) ≡ end → end + length b ≡ contents
    → put (end + number_field) size cs
    (zeroed_from (contents + (number_field + size)) (over end new (over head high (a ++ (h ++ (v ++ ((x ++ y) ++ (b ++ r))))))))
    ≡ (a ++ (high ++ (v ++ (new ++ (cs ++ b))))) ++ replicate (length r) 0
filled a h v x y b r high new cs head end contents size la lh lhigh lx lnew ly f g =
    let one : over head high (a ++ (h ++ (v ++ ((x ++ y) ++ (b ++ r))))) ≡ (a ++ (high ++ v)) ++ (x ++ (y ++ (b ++ r))) =
    over_seam a h high (v ++ ((x ++ y) ++ (b ++ r))) head la (lh ∙ sym lhigh) ∙ simp append_assoc in
    let front : length (a ++ (high ++ v)) ≡ end = simp length-append (omega arith) in
    let two : over end new ((a ++ (high ++ v)) ++ (x ++ (y ++ (b ++ r)))) ≡ (a ++ (high ++ (v ++ (new ++ (y ++ b))))) ++ r =
    over_seam (a ++ (high ++ v)) x new (y ++ (b ++ r)) end front (lx ∙ sym lnew) ∙ simp append_assoc in
    let all : length (a ++ (high ++ (v ++ (new ++ (y ++ b))))) ≡ contents + (number_field + size) = simp length-append (omega arith) in
    let three : zeroed_from (contents + (number_field + size)) ((a ++ (high ++ (v ++ (new ++ (y ++ b))))) ++ r)
    ≡ (a ++ (high ++ (v ++ new))) ++ (y ++ (b ++ replicate (length r) 0)) =
    zeroed_seam (a ++ (high ++ (v ++ (new ++ (y ++ b))))) r (contents + (number_field + size)) all ∙ simp append_assoc in
    let place : length (a ++ (high ++ (v ++ new))) ≡ end + number_field = simp length-append (omega arith) in
    ap (λ (l : List ℕ). put (end + number_field) size cs (zeroed_from (contents + (number_field + size)) l)) (ap (over end new) one ∙ two)
    ∙ ap (put (end + number_field) size cs) three
    ∙ put_seam (a ++ (high ++ (v ++ new))) y cs (b ++ replicate (length r) 0) (end + number_field) size place ly
    ∙ simp append_assoc

-- a version put in, and its settings
pub version-put : (a h v b r high new cs : List ℕ) (head end contents size : ℕ) → length a ≡ head → length h ≡ number_field
    → length high ≡ number_field → length new ≡ number_field → head + (number_field + length v) ≡ end → end + length b ≡ contents
    → number_field + size ≤ length r
    → put (end + number_field) size cs (version_put head end contents size high new (a ++ (h ++ (v ++ (b ++ r)))))
    ≡ (a ++ (high ++ (v ++ (new ++ (cs ++ b))))) ++ replicate (length r - (number_field + size)) 0
version-put a h v b r high new cs head end contents size la lh lhigh lnew f g room =
    let k = number_field + size in
    let gap = take k (b ++ r) in
    let x = take number_field gap in
    let y = drop number_field gap in
    let front : length (a ++ (h ++ v)) ≡ end = simp length-append (omega arith) in
    let many : contents - end ≡ length b = omega arith in
    let whole : a ++ (h ++ (v ++ (b ++ r))) ≡ (a ++ (h ++ v)) ++ (b ++ r) = simp append_assoc in
    let opened : paste (a ++ (h ++ (v ++ (b ++ r)))) (end + k) (drop end (a ++ (h ++ (v ++ (b ++ r))))) (contents - end)
    ≡ a ++ (h ++ (v ++ ((x ++ y) ++ (b ++ drop k r)))) =
    ap₂ (λ (l : List ℕ) (n : ℕ). paste l (end + k) (drop end l) n) whole many
    ∙ moved_up (a ++ (h ++ v)) b r end k front room
    ∙ ap (λ (l : List ℕ). (a ++ (h ++ v)) ++ (l ++ (b ++ drop k r))) (sym (take-append-drop number_field gap))
    ∙ simp append_assoc in
    let long : length gap ≡ k = length-take-le k (b ++ r) (rw length-append (omega arith)) in
    let lx : length x ≡ number_field = length-take-le number_field gap (omega arith) in
    let ly : length y ≡ size = length-drop number_field gap ∙ rw long (omega arith) in
    ap (λ (l : List ℕ). put (end + number_field) size cs (zeroed_from (contents + k) (over end new (over head high l)))) opened
    ∙ filled a h v x y b (drop k r) high new cs head end contents size la lh lhigh lx lnew ly f g
    ∙ ap (λ (n : ℕ). (a ++ (high ++ (v ++ (new ++ (cs ++ b))))) ++ replicate n 0) (length-drop k r)

-- an entry put at the end, and the settings of its first version
pub entry-put : (w r name high new cs : List ℕ) (at size : ℕ) → length w ≡ at → length high ≡ number_field → length new ≡ number_field
    → length name + (number_field + (number_field + size)) ≤ length r
    → put (at + (length name + (number_field + number_field))) size cs (entry_put at size name high new (w ++ r))
    ≡ (w ++ (name ++ (high ++ (new ++ cs)))) ++ replicate (length r - (length name + (number_field + (number_field + size)))) 0
entry-put w r name high new cs at size lw lhigh lnew room =
    let k = length name + (number_field + (number_field + size)) in
    let all = name ++ (high ++ new) in
    let long : length all ≡ length name + (number_field + number_field) = simp length-append (omega arith) in
    let total : length (w ++ r) ≡ length w + length r = length-append w r in
    let x = take (length all) r in
    let y = take size (drop (length all) r) in
    let z = drop size (drop (length all) r) in
    let rest : length (drop (length all) r) ≡ length r - length all = length-drop (length all) r in
    let lx : length x ≡ length all = length-take-le (length all) r (omega arith) in
    let ly : length y ≡ size = length-take-le size (drop (length all) r) (omega arith) in
    let lz : length z ≡ length r - k = length-drop size (drop (length all) r) ∙ omega arith in
    let apart : w ++ r ≡ w ++ (x ++ (y ++ z)) =
    ap (λ (l : List ℕ). w ++ l)
    (sym (take-append-drop (length all) r) ∙ ap (λ (l : List ℕ). x ++ l) (sym (take-append-drop size (drop (length all) r)))) in
    let one : over (at + (length name + number_field)) new (over (at + length name) high (over at name (w ++ r))) ≡ over at all (w ++ r) =
    ap (over (at + (length name + number_field)) new) (over_over at (at + length name) name high (w ++ r) refl (omega arith))
    ∙ over_over at (at + (length name + number_field)) (name ++ high) new (w ++ r) (simp length-append (omega arith)) (omega arith)
    ∙ ap (λ (l : List ℕ). over at l (w ++ r)) (append_assoc name high new) in
    let two : over at all (w ++ r) ≡ (w ++ (all ++ y)) ++ z =
    ap (over at all) apart ∙ over_seam w x all (y ++ z) at lw lx ∙ simp append_assoc in
    let place : length (w ++ (all ++ y)) ≡ at + k = omega (arith, length-append w (all ++ y), length-append all y) in
    let three : zeroed_from (at + k) ((w ++ (all ++ y)) ++ z) ≡ (w ++ all) ++ (y ++ replicate (length z) 0) =
    zeroed_seam (w ++ (all ++ y)) z (at + k) place ∙ simp append_assoc in
    let here : length (w ++ all) ≡ at + (length name + (number_field + number_field)) = omega (arith, length-append w all) in
    ap (λ (l : List ℕ). put (at + (length name + (number_field + number_field))) size cs (zeroed_from (at + k) l)) (one ∙ two)
    ∙ ap (put (at + (length name + (number_field + number_field))) size cs) three
    ∙ put_seam (w ++ all) y cs (replicate (length z) 0) (at + (length name + (number_field + number_field))) size here ly
    ∙ ap (λ (n : ℕ). (w ++ all) ++ (cs ++ replicate n 0)) lz
    ∙ simp append_assoc
