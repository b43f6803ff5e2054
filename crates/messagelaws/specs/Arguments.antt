-- The arguments of a message.
use Prim.{Unit}
use Rattle.std.specs.Prelude.{ℕ, ◌≤◌, ◌<◌, ◌≡◌, refl, Bool, true, false, List, [], ◌∷◌, length, eqb}
use Rattle.std.proofs.Common.{ap₂, eqb-true}
use Rattle.words.specs.Choice.{pick}
use Rattle.format.specs.Fields.{name_bytes, highest32}
use Rattle.osc.specs.Message.{Argument, int, float, text, blob, tag_of, argument_bytes, tags, arguments}
use Rattle.roundtrip.specs.Sound.{empty_part, restate, join}
use Rattle.messages.specs.Form.{faulty, map_parse, number_at, string_at, blob_at, argument_at, arguments_at}
use Rattle.messagelaws.specs.Codec.{Reads, then_reads, last_reads, map_reads, none_reads}
use Rattle.messagelaws.specs.Sound.{Sound, taken, refused, then_sound, map_sound}
use Rattle.messagelaws.specs.Numbers.{number_reads, number_sound}
use Rattle.messagelaws.specs.Strings.{string_reads, string_sound}
use Rattle.messagelaws.specs.Blobs.{blob_reads, blob_sound}

-- arguments that have a form: numbers of 32 bits, strings of bytes 1 to 127, blobs whose length is not negative
abbrev pub Well : Argument → Type 0
Well (int n) = n < 4294967296
Well (float p) = p < 4294967296
Well (text s) = name_bytes s ≡ true
Well (blob s) = length s ≤ highest32

unfoldable pub AllWell : List Argument → Type 0
AllWell [] = Unit {0}
AllWell (x ∷ xs) = Well x × AllWell xs

argument_reads : (x : Argument) → Well x → Reads (argument_at (tag_of x)) x (argument_bytes x)
argument_reads (int n) h = map_reads int (number_reads n h)
argument_reads (float p) h = map_reads float (number_reads p h)
argument_reads (text s) h = map_reads text (string_reads s h)
argument_reads (blob s) h = map_reads blob (blob_reads s h)

pub arguments_read : (xs : List Argument) → AllWell xs → Reads (arguments_at (tags xs)) xs (arguments xs)
unfolding AllWell arguments_at tags arguments
arguments_read [] h = none_reads []
arguments_read (x ∷ xs) h = then_reads _ (argument_reads x h.0) (last_reads _ (arguments_read xs h.1))

argument_sound : (tag : ℕ) (s : List ℕ) (at : ℕ) → at ≤ length s → Sound s at argument_bytes (λ x. (tag_of x ≡ tag) × Well x) (argument_at tag s at)
argument_sound tag s at h = by (eqb tag 105) refl (eqb tag 102) refl (eqb tag 115) refl (eqb tag 98) refl
  where
    by : (i : Bool) → eqb tag 105 ≡ i → (f : Bool) → eqb tag 102 ≡ f → (t : Bool) → eqb tag 115 ≡ t → (b : Bool) → eqb tag 98 ≡ b
        → Sound s at argument_bytes (λ x. (tag_of x ≡ tag) × Well x)
        (pick i (map_parse int (number_at s at))
        (pick f (map_parse float (number_at s at))
        (pick t (map_parse text (string_at s at))
        (pick b (map_parse blob (blob_at s at)) faulty))))
    by true e f e1 t e2 b e3 = map_sound int (number_sound s at h) (λ x next c. restate c (λ q. (refl, (rw (eqb-true tag 105 e), q))))
    by false e true e1 t e2 b e3 = map_sound float (number_sound s at h) (λ x next c. restate c (λ q. (refl, (rw (eqb-true tag 102 e1), q))))
    by false e false e1 true e2 b e3 = map_sound text (string_sound s at h) (λ x next c. restate c (λ q. (refl, (rw (eqb-true tag 115 e2), q))))
    by false e false e1 false e2 true e3 = map_sound blob (blob_sound s at h) (λ x next c. restate c (λ q. (refl, (rw (eqb-true tag 98 e3), q))))
    by false e false e1 false e2 false e3 = refused

pub arguments_sound : (ts : List ℕ) (s : List ℕ) (at : ℕ) → at ≤ length s → Sound s at arguments (λ xs. (tags xs ≡ ts) × AllWell xs) (arguments_at ts s at)
unfolding AllWell arguments_at tags arguments
arguments_sound [] s at h = taken [] at (empty_part s at _ h (refl, tt))
arguments_sound (t ∷ ts) s at h =
    then_sound _ (argument_sound t s at h) (λ x next c.
    then_sound _ (arguments_sound ts s next c.inside) (λ xs end d.
    taken (x ∷ xs) end (restate (join c d) (λ ((e, w), (f, ws)). (refl, (ap₂ (λ (a : ℕ) (l : List ℕ). a ∷ l) e f, (w, ws)))))))
