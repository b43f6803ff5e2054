-- What a function leaves that writes a piece, and the laws of pieces one behind the other.
use Rattle.std.specs.Prelude.{ℕ, ◌+◌, ◌-◌, ◌≤◌, ◌<◌, ◌≡◌, refl, List, [], ◌++◌, length, take}
use Rattle.std.proofs.Common.{sym, ap, ap₂, ◌∙◌, append-nil, arith, add-zero, length-append, take-append-drop}
use Rattle.std.proofs.Math.Nat.{sub-zero}
use Rattle.words.specs.Parts.{over}
use Rattle.osc.specs.Over.{over_over, over_length}
use Rattle.widening.specs.declared.places.Places.{Places}
use Rattle.widening.specs.Walk.{Onward, past_all, wide_all, past_up, past_turn, wide_turn, past_none, wide_none}

-- a piece of s that ends at a place lies in it, and the bytes that it becomes have room
pub record Room (s out : List ℕ) (p : Places) (wide : List ℕ) (past : ℕ) : Type 0 where
  pub inside : past ≤ length s
  pub fits : p.to + length wide ≤ length out

-- the bytes were written, and both places stand behind the piece
pub record Moved (wide : List ℕ) (past : ℕ) (p : Places) (before after : List ℕ) (q : Places) : Type 0 where
  pub bytes : after ≡ over p.to wide before
  pub from : q.from ≡ past
  pub to : q.to ≡ p.to + length wide

-- no bytes
pub over_none : (at : ℕ) (us : List ℕ) → us ≡ over at [] us
over_none at us = sym (rw (add-zero at, append-nil (take at us)) (take-append-drop at us))

pub moved_length : {wide : List ℕ} {past : ℕ} {p q : Places} {before after : List ℕ} → Moved wide past p before after q → p.to + length wide ≤ length before → length after ≡ length before
moved_length {wide} {past} {p} {q} {before} m h = ap length m.bytes ∙ over_length p.to wide before h

-- one piece behind another, which begins where the first one ends
pub moved_then : {v : List ℕ} {mid : ℕ} {p q r : Places} {l m n : List ℕ} (wide : ℕ → List ℕ) (past : ℕ → ℕ)
    → Moved v mid p l m q → Moved (wide q.from) (past q.from) q m n r → p.to + length (v ++ wide mid) ≤ length l → Moved (v ++ wide mid) (past mid) p l n r
moved_then {v} {mid} {p} {q} {r} {l} {m} {n} wide past a b h =
    let sum = length-append v (wide mid) in
    record {
      bytes = b.bytes ∙ ap₂ (λ (x y : List ℕ). over q.to x y) (ap wide a.from) a.bytes ∙ over_over p.to q.to v (wide mid) l a.to (omega (arith, a.to));
      from = b.from ∙ ap past a.from;
      to = omega (arith, a.to, b.to, ap (λ (k : ℕ). length (wide k)) a.from);
    }

-- the room of the first of two pieces, and of the one behind
pub room_first : {s l : List ℕ} {p : Places} (v w : List ℕ) {mid end : ℕ} → Room s l p (v ++ w) end → mid ≤ end → Room s l p v mid
room_first v w r h = let sum = length-append v w in record { inside = omega (arith, r.inside); fits = omega (arith, r.fits) }

pub room_rest : {s l m : List ℕ} {p q : Places} {v : List ℕ} {mid : ℕ} (rest : ℕ → List ℕ) {end : ℕ} → Room s l p (v ++ rest mid) end → Moved v mid p l m q → Room s m q (rest q.from) end
room_rest {s} {l} {m} {p} {q} {v} {mid} rest r a =
    let sum = length-append v (rest mid) in
    let same = moved_length a (omega (arith, r.fits)) in
    let size = ap (λ (k : ℕ). length (rest k)) a.from in
    record { inside = r.inside; fits = omega (arith, r.fits, a.to) }

-- the same, to the place that the rest ends at
pub room-last : {s l m : List ℕ} {p q : Places} {v : List ℕ} {mid : ℕ} (rest : ℕ → List ℕ) (past : ℕ → ℕ) → Room s l p (v ++ rest mid) (past mid) → Moved v mid p l m q
    → Room s m q (rest q.from) (past q.from)
room-last rest past r a = let w = room_rest rest r a in record { inside = omega (arith, r.inside, ap past a.from); fits = w.fits }

-- The loops along pieces: what is left to write, from the present places on, leaves what the whole does from the first.
pub record Walking (wide : ℕ → List ℕ) (past : ℕ → ℕ) (n : ℕ) (p : Places) (before : List ℕ) (i : ℕ) (q : Places) (after : List ℕ) : Type 0 where
  pub most : i ≤ n
  pub end : past_all past (n - i) q.from ≡ past_all past n p.from
  pub size : q.to + length (wide_all wide past (n - i) q.from) ≡ p.to + length (wide_all wide past n p.from)
  pub bytes : over q.to (wide_all wide past (n - i) q.from) after ≡ over p.to (wide_all wide past n p.from) before
  pub same : length after ≡ length before

pub walking_first : (wide : ℕ → List ℕ) (past : ℕ → ℕ) (n : ℕ) (p : Places) (before : List ℕ) → Walking wide past n p before 0 p before
walking_first wide past n p before = record { most = omega arith; end = rw sub-zero; size = rw sub-zero; bytes = rw sub-zero; same = refl }

module _ {wide : ℕ → List ℕ} {past : ℕ → ℕ} {n : ℕ} {p : Places} {before : List ℕ} {i : ℕ} {q : Places} {after : List ℕ} (w : Walking wide past n p before i q after) where
  pub walking_room : {s : List ℕ} → Onward past → i < n → Room s before p (wide_all wide past n p.from) (past_all past n p.from) → Room s after q (wide q.from) (past q.from)
  walking_room up l r =
      let sum = ap length (wide_turn wide past n i q.from l) ∙ length-append (wide q.from) (wide_all wide past (n - (i + 1)) (past q.from)) in
      record {
        inside = omega (arith, past_turn wide past n i q.from l, w.end, r.inside, past_up past up (n - (i + 1)) (past q.from));
        fits = omega (arith, sum, w.size, w.same, r.fits);
      }

  pub walking_next : {q' : Places} {after' : List ℕ} → i < n → p.to + length (wide_all wide past n p.from) ≤ length before → Moved (wide q.from) (past q.from) q after after' q' → Walking wide past n p before (i + 1) q' after'
  walking_next {q'} {after'} l r m =
      let rest = wide_all wide past (n - (i + 1)) (past q.from) in
      let turn = wide_turn wide past n i q.from l in
      let sum = ap length turn ∙ length-append (wide q.from) rest in
      let same = moved_length m (omega (arith, sum, w.size, w.same)) in
      rw m.from
      (record {
        most = omega arith;
        end = sym (past_turn wide past n i q.from l) ∙ w.end;
        size = omega (arith, sum, w.size, m.to);
        bytes =
            ap (λ (x : List ℕ). over q'.to rest x) m.bytes
            ∙ over_over q.to q'.to (wide q.from) rest after m.to (omega (arith, sum, w.size, w.same, m.to))
            ∙ sym (ap (λ (x : List ℕ). over q.to x after) turn)
            ∙ w.bytes;
        same = same ∙ w.same;
      })

  pub walking_last : n ≤ i → Moved (wide_all wide past n p.from) (past_all past n p.from) p before after q
  walking_last l =
      let none = wide_none wide past n i q.from l in
      record {
        bytes = over_none q.to after ∙ sym (ap (λ (x : List ℕ). over q.to x after) none) ∙ w.bytes;
        from = sym (past_none wide past n i q.from l) ∙ w.end;
        to = omega (arith, ap length none, w.size);
      }
