-- Readings of a message: what one takes is the writing of what it gives. The laws of their combinations.
use Rattle.std.specs.Prelude.{ℕ, ◌≡◌, refl, Bool, true, false, List, get_or, eqb}
use Rattle.std.proofs.Common.{arith, eqb-true}
use Rattle.words.specs.Choice.{pick}
use Rattle.roundtrip.specs.Sound.{Part, restate}
use Rattle.messages.specs.Form.{Parse, parsed, faulty, and_then, map_parse, headed}

-- a reading from a place on: what it takes is the writing of what it gives, of which Q holds
pub data Sound {A : Type 0} (s : List ℕ) (at : ℕ) (write : A → List ℕ) (Q : A → Type 0) : Parse A → Type 0 where
  taken : (x : A) (next : ℕ) → Part s at next (write x) (Q x) → Sound s at write Q (parsed x next)
  refused : Sound s at write Q faulty

module _ {A B : Type 0} {s : List ℕ} {at mid : ℕ} {write : A → List ℕ} {Q : A → Type 0} {write' : B → List ℕ} {Q' : B → Type 0} where
  -- a reading after another
  pub then_sound : {r : Parse A} (more : A → ℕ → Parse B) → Sound s mid write Q r
      → ((x : A) (next : ℕ) → Part s mid next (write x) (Q x) → Sound s at write' Q' (more x next))
      → Sound s at write' Q' (and_then r more)
  then_sound more (taken x next c) f = f x next c
  then_sound more refused f = refused

  -- a reading that is kept in another form, perhaps with what was taken before it
  pub map_sound : {r : Parse A} (keep : A → B) → Sound s mid write Q r
      → ((x : A) (next : ℕ) → Part s mid next (write x) (Q x) → Part s at next (write' (keep x)) (Q' (keep x)))
      → Sound s at write' Q' (map_parse keep r)
  map_sound keep (taken x next c) f = taken (keep x) next (f x next c)
  map_sound keep refused f = refused

module _ {A : Type 0} {s : List ℕ} {at mid : ℕ} {write write' : A → List ℕ} {P Q : A → Type 0} where
  -- the same reading, said in another way, perhaps with what was taken before it
  pub extend : {r : Parse A} → Sound s mid write P r → ((x : A) (next : ℕ) → Part s mid next (write x) (P x) → Part s at next (write' x) (Q x)) → Sound s at write' Q r
  extend (taken x next c) f = taken x next (f x next c)
  extend refused f = refused

-- what a reading that gave a value has taken
pub part_of : {A : Type 0} {s : List ℕ} {at : ℕ} {write : A → List ℕ} {Q : A → Type 0} {r : Parse A} → Sound s at write Q r → {x : A} {next : ℕ} → r ≡ parsed x next
    → Part s at next (write x) (Q x)
part_of (taken y n c) {x} {next} e =
    let same : y ≡ x = cc in
    let end : n ≡ next = cc in
    rw (same, end) at c
part_of refused e = let z : ◌≡◌ {A = ℕ} 0 1 = cc in absurd (omega arith)

-- a string that begins with a byte
pub headed_sound : {s : List ℕ} {at : ℕ} {write : List ℕ → List ℕ} {Q : List ℕ → Type 0} {r : Parse (List ℕ)} (byte : ℕ) → Sound s at write Q r
    → Sound s at write (λ l. Q l × (get_or l 0 0 ≡ byte)) (headed byte r)
headed_sound byte refused = refused
headed_sound {s} {at} {write} {Q} byte (taken l next c) = by (eqb (get_or l 0 0) byte) refl
  where
    by : (b : Bool) → eqb (get_or l 0 0) byte ≡ b → Sound s at write (λ l. Q l × (get_or l 0 0 ≡ byte)) (pick b (parsed l next) faulty)
    by true e = taken l next (restate c (λ q. (refl, (q, eqb-true (get_or l 0 0) byte e))))
    by false e = refused
