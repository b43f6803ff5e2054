-- Laws of readings of which only a part of the value is fact.
use Prim.{Unit, tt}
use Prim.Native.Nat.{ℕ, zero, suc, ◌+◌, ◌*◌, ◌-◌, ◌≤◌, ◌<◌}
use Rattle.std.specs.Prelude.{◌≡◌, refl, List, length}
use Rattle.std.proofs.Common.{sym, ap, ◌∙◌}
use native.Mathlib.Omega.{arith}
use Rattle.std.proofs.Math.Nat.{mul-suc}
use Rattle.faults.specs.declared.Fault.{Fault}
use Rattle.format.specs.Read.{Read, got, bad, and_then, repeat, ending, map_read}
use Rattle.format.specs.Fields.{whole}
use Rattle.format.specs.FieldLaws.{whole_got}
use Rattle.format.specs.RepeatLaws.{went_on, ending_turn, repeat-length}

module _ {A B : Type 0} where
  -- what was fact was read
  pub record Mapped (f : A → B) (r : Read A) (y : B) (end : ℕ) : Type 0 where
    pub value : A
    pub read : r ≡ got value end
    pub same : f value ≡ y

  pub mapped_got : (f : A → B) (r : Read A) {y : B} {end : ℕ} → map_read f r ≡ got y end → Mapped f r y end
  mapped_got f (got x n) h = record { value = x; read = cc; same = cc }
  mapped_got f (bad q at) h = absurd (let z : ◌≡◌ {A = ℕ} 0 1 = cc in omega arith)

module _ {A B : Type 0} where
  -- a first part that was read, and one that was not
  pub then_got : {r : Read A} {x : A} {next : ℕ} (more : A → ℕ → Read B) → r ≡ got x next → and_then r more ≡ more x next
  then_got more e = ap (λ (q : Read A). and_then q more) e

  pub then_bad : {r : Read A} {q : Fault} {at : ℕ} (more : A → ℕ → Read B) → r ≡ bad q at → and_then r more ≡ bad q at
  then_bad more e = ap (λ (q : Read A). and_then q more) e

  -- the rest takes only the place
  pub then_ending : (r : Read A) (f : A → ℕ → Read B) (g : ℕ → Read B) → ((x : A) (n : ℕ) → f x n ≡ g n) → and_then r f ≡ and_then (ending r) (λ u n. g n)
  then_ending (got x n) f g h = h x n
  then_ending (bad q at) f g h = refl

  -- what is fact of the whole is fact of the rest
  pub ending_then : (r : Read A) (f : A → ℕ → Read B) (g : A → ℕ → Read (Unit {0})) → ((x : A) (n : ℕ) → ending (f x n) ≡ g x n) → ending (and_then r f) ≡ and_then r g
  ending_then (got x n) f g h = h x n
  ending_then (bad q at) f g h = refl

  pub fact_then : {C : Type 0} (t : B → C) (r : Read A) (f : A → ℕ → Read B) (g : A → ℕ → Read C)
      → ((x : A) (n : ℕ) → map_read t (f x n) ≡ g x n) → map_read t (and_then r f) ≡ and_then r g
  fact_then t (got x n) f g h = h x n
  fact_then t (bad q at) f g h = refl

  -- the rest takes only the place, and something about the value that is known of all that is read
  pub fact-ending : {C : Type 0} (t : B → C) (r : Read A) (f : A → ℕ → Read B) (g : ℕ → Read C)
      → ((x : A) (n : ℕ) → r ≡ got x n → map_read t (f x n) ≡ g n) → map_read t (and_then r f) ≡ and_then (ending r) (λ u n. g n)
  fact-ending t (got x n) f g h = h x n refl
  fact-ending t (bad q at) f g h = refl

  -- the rest takes only what is fact of the first
  pub ending-fact : {C : Type 0} (t : A → C) (r : Read A) (f : A → ℕ → Read B) (g : C → ℕ → Read (Unit {0}))
      → ((x : A) (n : ℕ) → ending (f x n) ≡ g (t x) n) → ending (and_then r f) ≡ and_then (map_read t r) g
  ending-fact t (got x n) f g h = h x n
  ending-fact t (bad q at) f g h = refl

  pub ending_keeps : (r : Read A) (f : A → B) → ending (and_then r (λ x n. got (f x) n)) ≡ ending r
  ending_keeps (got x n) f = refl
  ending_keeps (bad q at) f = refl

module _ {A : Type 0} where
  pub ending_got : (r : Read A) {u : Unit {0}} {end : ℕ} → ending r ≡ got u end → Mapped (λ (x : A). tt {0}) r tt end
  ending_got (got x n) h = record { value = x; read = cc; same = refl }
  ending_got (bad q at) h = absurd (let z : ◌≡◌ {A = ℕ} 0 1 = cc in omega arith)

  -- a field of so many bytes that was read
  pub field_got : (size : ℕ) (s : List ℕ) (at : ℕ) (v : A) {x : A} {n : ℕ} → whole size s at v ≡ got x n → (v ≡ x) × (n ≡ at + size) × (n ≤ length s)
  field_got size s at v h = let w = whole_got size s at v h in (w.1.0, sym w.1.1, omega arith)

  -- readings of one size each, all of which end within a bound
  abbrev pub FixedSize : (ℕ → Read A) → ℕ → ℕ → Type 0
  FixedSize read size most = (at : ℕ) (x : A) (next : ℕ) → read at ≡ got x next → (next ≡ at + size) × (next ≤ most)

  pub record Repeated (size most n at : ℕ) (xs : List A) (end : ℕ) : Type 0 where
    pub many : length xs ≡ n
    pub past : end ≡ at + size * n
    pub within : at ≤ most → end ≤ most

  pub repeat_got : (read : ℕ → Read A) (size most : ℕ) → FixedSize read size most → (n at : ℕ) {xs : List A} {end : ℕ} → repeat read n at ≡ got xs end → Repeated size most n at xs end
  unfolding repeat
  repeat_got read size most z zero at {xs} {end} h =
      let f : end ≡ at = cc in
      record { many = repeat-length read zero at h; past = omega arith; within = λ w. omega arith }
  repeat_got read size most z (suc n) at {xs} {end} h =
      went_on (read at) _ h (λ y m e rest.
      went_on (repeat read n m) _ rest (λ ys k f last.
      let b : end ≡ k = cc in
      let one = z at y m e in
      let more = repeat_got read size most z n m f in
      record {
        many = repeat-length read (suc n) at h;
        past = omega (arith, mul-suc size n);
        within = λ w. omega (arith, more.within one.1);
      }))

  turn : (read : ℕ → Read A) (n i at : ℕ) → i < n → ending (repeat read (n - i) at) ≡ and_then (ending (read at)) (λ u next. ending (repeat read (n - (i + 1)) next))
  turn read n i at h = ending_turn read n i at h ∙ then_ending (read at) _ (λ next. ending (repeat read (n - (i + 1)) next)) (λ x next. refl)

  -- the turns of a loop that reads n values one by one: the one that reads number i, and the end
  pub repeat_next : (read : ℕ → Read A) (n i at : ℕ) {u : Unit {0}} {next : ℕ} → i < n → ending (read at) ≡ got u next
      → ending (repeat read (n - i) at) ≡ ending (repeat read (n - (i + 1)) next)
  repeat_next read n i at h e = turn read n i at h ∙ then_got (λ u next. ending (repeat read (n - (i + 1)) next)) e

  pub repeat_bad : (read : ℕ → Read A) (n i at : ℕ) {q : Fault} {place : ℕ} → i < n → ending (read at) ≡ bad q place
      → ending (repeat read (n - i) at) ≡ bad q place
  repeat_bad read n i at h e = turn read n i at h ∙ then_bad (λ u next. ending (repeat read (n - (i + 1)) next)) e
