-- What a reading takes is the writing of what it gives; a refusal is one that has a place, and its place lies in the file. The laws of combinations.
use Prim.Native.Nat.{ℕ, zero, suc, ◌+◌, ◌-◌, ◌≤◌}
use Rattle.std.specs.Prelude.{◌≡◌, refl, Bool, true, false, length, take, drop}
use Rattle.std.proofs.Common.{sym, ap, ap₂, ◌∙◌, le_refl, arith, drop-drop, take-add}
use mathlib.Core.List.{List, [], ◌∷◌, ◌++◌}
use Rattle.words.specs.Bytes.{AreBytes}
use Rattle.words.specs.Choice.{pick}
use Rattle.words.specs.Parts.{region}
use Rattle.words.specs.PartsLaws.{region-length}
use Rattle.faults.specs.declared.Fault.{Fault}
use Rattle.format.specs.Read.{Read, got, bad, and_then, checked, repeat}
use Rattle.format.specs.Writer.{write_all}
use Rattle.format.specs.Bounds.{every}

-- the part of s from one place to another; where s holds bytes, it is w, and Q holds
pub record Part (s : List ℕ) (at next : ℕ) (w : List ℕ) (Q : Type 0) : Type 0 where
  pub forward : at ≤ next
  pub inside : next ≤ length s
  pub fact : AreBytes s → (w ≡ region at (next - at) s) × Q

pub empty_part : (s : List ℕ) (at : ℕ) (Q : Type 0) → at ≤ length s → Q → Part s at at [] Q
empty_part s at Q h q = record {
  forward = le_refl at;
  inside = h;
  fact = λ b. let none : at - at ≡ 0 = omega arith in (rw none, q);
}

pub part_length : {s : List ℕ} {at next : ℕ} {w : List ℕ} {Q : Type 0} → Part s at next w Q → AreBytes s → length w ≡ next - at
part_length {s} {at} {next} {w} c b = let f = c.forward in let i = c.inside in ap length (c.fact b).0 ∙ region-length at (next - at) s (omega arith)

-- two parts side by side
pub join : {s : List ℕ} {at mid next : ℕ} {w v : List ℕ} {P Q : Type 0} → Part s at mid w P → Part s mid next v Q → Part s at next (w ++ v) (P × Q)
join {s} {at} {mid} {next} {w} {v} c d =
    let f = c.forward in
    let g = d.forward in
    record {
      forward = omega arith;
      inside = d.inside;
      fact = λ b.
          let sum : next - at ≡ (mid - at) + (next - mid) = omega arith in
          let seam : at + (mid - at) ≡ mid = omega arith in (
            ap₂ (λ (x y : List ℕ). x ++ y) (c.fact b).0 ((d.fact b).0 ∙ ap (λ (n : ℕ). take (next - mid) (drop n s)) (sym seam) ∙ ap (λ (l : List ℕ). take (next - mid) l) (sym (drop-drop (mid - at) at s)))
                ∙ sym (take-add (mid - at) (next - mid) (drop at s))
                ∙ ap (λ (n : ℕ). take n (drop at s)) (sym sum),
            ((c.fact b).1, (d.fact b).1),
          );
    }

-- the same part, said in another way
pub restate : {s : List ℕ} {at next : ℕ} {w v : List ℕ} {P Q : Type 0} → Part s at next w P → (P → (v ≡ w) × Q) → Part s at next v Q
restate c f = record {
  forward = c.forward;
  inside = c.inside;
  fact = λ b. let q = f (c.fact b).1 in (q.0 ∙ (c.fact b).0, q.1);
}

-- a reading from a place on: what it takes is the writing of what it gives, of which Q holds, or the place of its fault is in the file
pub data Sound {A : Type 0} (s : List ℕ) (at : ℕ) (write : A → List ℕ) (Q : A → Type 0) : Read A → Type 0 where
  taken : (x : A) (next : ℕ) → Part s at next (write x) (Q x) → Sound s at write Q (got x next)
  refused : (r : Fault) (p : ℕ) → p ≤ length s → Sound s at write Q (bad r p)

abbrev pub Forth : {A : Type 0} → (List ℕ → ℕ → Read A) → (A → List ℕ) → (A → Type 0) → Type 0
Forth read write Q = (s : List ℕ) (at : ℕ) → at ≤ length s → Sound s at write Q (read s at)

module _ {A B : Type 0} {s : List ℕ} {at mid : ℕ} {write : A → List ℕ} {Q : A → Type 0} {write' : B → List ℕ} {Q' : B → Type 0} where
  -- a reading after another
  pub then_sound : {r : Read A} (more : A → ℕ → Read B) → Sound s mid write Q r
      → ((x : A) (next : ℕ) → Part s mid next (write x) (Q x) → Sound s at write' Q' (more x next))
      → Sound s at write' Q' (and_then r more)
  then_sound more (taken x next c) f = f x next c
  then_sound more (refused r p h) f = refused r p h

module _ {A : Type 0} where
  -- what a reading that gave a value has taken; and where one that was refused stopped
  pub part_of : {s : List ℕ} {at : ℕ} {write : A → List ℕ} {Q : A → Type 0} {r : Read A} → Sound s at write Q r → {x : A} {next : ℕ} → r ≡ got x next
      → Part s at next (write x) (Q x)
  part_of {s} {at} {write} {Q} (taken y n c) {x} {next} e =
      let same : y ≡ x = cc in
      let end : n ≡ next = cc in
      rw (same, end) at c
  part_of (refused r p h) e = let z : ◌≡◌ {A = ℕ} 0 1 = cc in absurd (omega arith)

  pub place_of : {s : List ℕ} {at : ℕ} {write : A → List ℕ} {Q : A → Type 0} {r : Read A} → Sound s at write Q r → {f : Fault} {p : ℕ} → r ≡ bad f p → p ≤ length s
  place_of (taken y n c) e = let z : ◌≡◌ {A = ℕ} 0 1 = cc in omega arith
  place_of (refused r q h) {f} {p} e = let same : q ≡ p = cc in rw same at h

  -- the same reading, said in another way, perhaps with what was taken before it
  pub extend : {s : List ℕ} {at mid : ℕ} {write : A → List ℕ} {write' : A → List ℕ} {P : A → Type 0} {Q : A → Type 0} {r : Read A} → Sound s mid write P r
      → ((x : A) (next : ℕ) → Part s mid next (write x) (P x) → Part s at next (write' x) (Q x))
      → Sound s at write' Q r
  extend (taken x next c) f = taken x next (f x next c)
  extend (refused r p h) f = refused r p h

  pub weaken : {s : List ℕ} {at : ℕ} {write : A → List ℕ} {P : A → Type 0} {Q : A → Type 0} {r : Read A} → Sound s at write P r → ((x : A) → P x → Q x) → Sound s at write Q r
  weaken g f = extend g (λ x next c. restate c (λ q. (refl, f x q)))

  pub checked_sound : {s : List ℕ} {at : ℕ} {write : A → List ℕ} {Q : A → Type 0} {r : Read A} (fault : Fault) (test : A → Bool) → at ≤ length s → Sound s at write Q r
      → Sound s at write (λ x. Q x × (test x ≡ true)) (checked fault test at r)
  checked_sound {s} {at} {write} {Q} fault test h (refused r p k) = refused r p k
  checked_sound {s} {at} {write} {Q} fault test h (taken x next c) = by (test x) refl
    where
      by : (b : Bool) → test x ≡ b → Sound s at write (λ y. Q y × (test y ≡ true)) (pick b (got x next) (bad fault at))
      by true e = taken x next (restate c (λ q. (refl, (q, e))))
      by false e = refused fault at h

  pub repeat_sound : (read : List ℕ → ℕ → Read A) (write : A → List ℕ) (test : A → Bool) → Forth read write (λ x. test x ≡ true) → (n : ℕ)
      → Forth (λ s at. repeat (read s) n at) (write_all write) (λ xs. (length xs ≡ n) × (every test xs ≡ true))
  unfolding repeat write_all every
  repeat_sound read write test f zero s at h = taken [] at (empty_part s at _ h (refl, refl))
  repeat_sound read write test f (suc n) s at h =
      then_sound _ (f s at h) (λ x next c.
      then_sound _ (repeat_sound read write test f n s next c.inside) (λ xs end d.
      taken (x ∷ xs) end (restate (join c d) (λ q. (refl, (ap suc q.1.0, rw q.0 q.1.1))))))
