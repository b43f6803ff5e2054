-- Blobs of a message.
use Rattle.std.specs.Prelude.{ℕ, ◌-◌, ◌%◌, ◌≤◌, ◌<◌, ◌≡◌, refl, Bool, true, false, List, length, leb}
use Rattle.std.proofs.Common.{arith, le-leb, leb-true}
use Rattle.words.specs.Choice.{pick}
use Rattle.words.specs.Bytes.{bytes32}
use Rattle.format.specs.Fields.{highest32}
use Rattle.osc.specs.Message.{padded_blob}
use Rattle.roundtrip.specs.Sound.{Part, restate, join}
use Rattle.messages.specs.Form.{faulty, padded_at, blob_at}
use Rattle.messagelaws.specs.Codec.{Reads, then_reads}
use Rattle.messagelaws.specs.Sound.{Sound, refused, then_sound, extend}
use Rattle.messagelaws.specs.Padding.{padded_reads, padded_sound}
use Rattle.messagelaws.specs.Numbers.{number_reads, number_sound}

pub blob_reads : (x : List ℕ) → length x ≤ highest32 → Reads blob_at x (padded_blob x)
blob_reads x h =
    then_reads (λ n s next. pick (leb n highest32) (padded_at n ((4 - n % 4) % 4) (λ bytes. true) s next) faulty) (number_reads (length x) (omega arith)) (record {
      found = λ s at k. rw (le-leb (length x) highest32 h) ((padded_reads ((4 - length x % 4) % 4) (λ bytes. true) x refl).found s at k);
    })

pub blob_sound : (s : List ℕ) (at : ℕ) → at ≤ length s → Sound s at padded_blob (λ x. length x ≤ highest32) (blob_at s at)
blob_sound s at h = then_sound _ (number_sound s at h) (λ n next c. by n next c (leb n highest32) refl)
  where
    by : (n next : ℕ) → Part s at next (bytes32 n) (n < 4294967296) → (b : Bool) → leb n highest32 ≡ b
        → Sound s at padded_blob (λ x. length x ≤ highest32) (pick b (padded_at n ((4 - n % 4) % 4) (λ bytes. true) s next) faulty)
    by n next c true e =
        let few : n ≤ highest32 = leb-true n highest32 e in
        extend (padded_sound ((4 - n % 4) % 4) (λ bytes. true) n s next c.inside) (λ x end d.
        restate (join c d) (λ (q, (size, _)). (rw size, rw size few)))
    by n next c false e = refused
