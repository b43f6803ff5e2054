-- The form of a message: what is written is read back, and what is read is a writing of the whole.
use Prim.Native.Nat.{ℕ, ◌+◌, ◌-◌}
use Rattle.std.specs.Prelude.{◌≡◌, refl, Bool, true, false, drop, get_or, eqb}
use Rattle.std.proofs.Common.{ap, ◌∙◌, arith}
use mathlib.Core.List.{List, [], ◌∷◌, ◌++◌}
use Rattle.std.proofs.Math.Nat.{sub-zero}
use Rattle.std.proofs.Math.ListN.{length, length-append}
use Rattle.std.proofs.Math.Seq.{take-length}
use borrow.Author.Tests.{eqb-true, eq-eqb}
use Rattle.words.specs.Bytes.{AreBytes}
use Rattle.words.specs.Choice.{pick}
use Rattle.format.specs.Fields.{name_bytes}
use Rattle.osc.specs.Message.{Argument, int, float, text, blob, padded, tags, arguments, message}
use Rattle.roundtrip.specs.Stands.{Stands, stands_all, stands_left, stands_right}
use Rattle.roundtrip.specs.Sound.{Part, join, part_length}
use Rattle.messages.specs.Form.{Message, parsed, faulty, string_at, arguments_at, read_message}
use Rattle.messagelaws.specs.Sound.{Sound, taken, refused, then_sound, headed_sound, part_of}
use Rattle.messagelaws.specs.Strings.{string_reads, string_sound}
use Rattle.messagelaws.specs.Arguments.{AllWell, arguments_read, arguments_sound}

-- an address and arguments that have a form
pub record Formed (address : List ℕ) (args : List Argument) : Type 0 where
  pub slash : get_or address 0 0 ≡ 47
  pub plain : name_bytes address ≡ true
  pub well : AllWell args

-- tags are letters
tags_plain : (args : List Argument) → name_bytes (tags args) ≡ true
unfolding name_bytes tags
tags_plain [] = refl
tags_plain (int n ∷ args) = tags_plain args
tags_plain (float p ∷ args) = tags_plain args
tags_plain (text s ∷ args) = tags_plain args
tags_plain (blob s ∷ args) = tags_plain args

comma_plain : (args : List Argument) → name_bytes (44 ∷ tags args) ≡ true
unfolding name_bytes
comma_plain args = tags_plain args

module _ (s address : List ℕ) (args : List Argument) (h : Stands s 0 (message address args)) (whole : length (message address args) ≡ length s) (f : Formed address args) where
  reads_whole : read_message s ≡ parsed (record { address = address; arguments = args }) (length s)
  unfolding read_message
  reads_whole =
      let tagged : List ℕ = padded (44 ∷ tags args) in
      let p1 : ℕ = 0 + length (padded address) in
      let p2 : ℕ = p1 + length tagged in
      let h1 : Stands s p1 (tagged ++ arguments args) = stands_right s 0 (padded address) (tagged ++ arguments args) h in
      let r1 : string_at s 0 ≡ parsed address p1 = (string_reads address f.plain).found s 0 (stands_left s 0 (padded address) (tagged ++ arguments args) h) in
      let r2 : string_at s p1 ≡ parsed (44 ∷ tags args) p2 = (string_reads (44 ∷ tags args) (comma_plain args)).found s p1 (stands_left s p1 tagged (arguments args) h1) in
      let r3 : arguments_at (tags args) s p2 ≡ parsed args (p2 + length (arguments args)) = (arguments_read args f.well).found s p2 (stands_right s p1 tagged (arguments args) h1) in
      let end : p2 + length (arguments args) ≡ length s = omega (arith, length-append (padded address) (tagged ++ arguments args), length-append tagged (arguments args)) in
      rw (r1, f.slash, r2, r3, end, eq-eqb (length s) (length s) refl)

pub message_back : (address : List ℕ) (args : List Argument) → Formed address args
    → read_message (message address args) ≡ parsed (record { address = address; arguments = args }) (length (message address args))
message_back address args f = reads_whole (message address args) address args (stands_all (message address args)) refl f

abbrev Whole : List ℕ → Message → Type 0
Whole s m = Formed m.address m.arguments × (length (message m.address m.arguments) ≡ length s)

-- tags behind their comma
behind : (l : List ℕ) → get_or l 0 0 ≡ 44 → 44 ∷ drop 1 l ≡ l
behind [] e = let z : ◌≡◌ {A = ℕ} 0 1 = omega arith in absurd (omega arith)
behind (b ∷ l) e = rw (← e)

message_sound : (s : List ℕ) → Sound s 0 (λ m. message m.address m.arguments) (Whole s) (read_message s)
unfolding read_message
message_sound s =
    then_sound _ (headed_sound 47 (string_sound s 0 (omega arith))) (λ address p1 c1.
    then_sound _ (headed_sound 44 (string_sound s p1 c1.inside)) (λ l p2 c2.
    then_sound _ (arguments_sound (drop 1 l) s p2 c2.inside) (λ args end c3. by address l args end (join c1 (join c2 c3)) (eqb end (length s)) refl)))
  where
    by : (address l : List ℕ) (args : List Argument) (end : ℕ)
        → Part s 0 end (padded address ++ (padded l ++ arguments args))
        (((name_bytes address ≡ true) × (get_or address 0 0 ≡ 47)) × (((name_bytes l ≡ true) × (get_or l 0 0 ≡ 44)) × ((tags args ≡ drop 1 l) × AllWell args)))
        → (b : Bool) → eqb end (length s) ≡ b
        → Sound s 0 (λ m. message m.address m.arguments) (Whole s) (pick b (parsed (record { address = address; arguments = args }) end) faulty)
    by address l args end c true e =
        taken (record { address = address; arguments = args }) end (record {
          forward = c.forward;
          inside = c.inside;
          fact = λ b.
              let (w, ((plain, slash), ((_, comma), (same, well)))) = c.fact b in
              let tagged : 44 ∷ tags args ≡ l = ap (λ (k : List ℕ). 44 ∷ k) same ∙ behind l comma in
              let bytes : message address args ≡ padded address ++ (padded l ++ arguments args) = ap (λ (k : List ℕ). padded address ++ (padded k ++ arguments args)) tagged in
              let size : length (padded address ++ (padded l ++ arguments args)) ≡ end - 0 = part_length c b in
              let whole : end ≡ length s = eqb-true end (length s) e in
              (bytes ∙ w, (record { slash = slash; plain = plain; well = well }, ap length bytes ∙ omega arith));
        })
    by address l args end c false e = refused

-- a message that is read is the writing of what it is read as, and has a form
pub record Written (s : List ℕ) (m : Message) : Type 0 where
  pub bytes : message m.address m.arguments ≡ s
  pub formed : Formed m.address m.arguments

pub message_forth : (s : List ℕ) → AreBytes s → (m : Message) (end : ℕ) → read_message s ≡ parsed m end → Written s m
message_forth s b m end e =
    let c = part_of (message_sound s) e in
    let w = c.fact b in
    let size : length (message m.address m.arguments) ≡ end - 0 = part_length c b in
    let same : length (message m.address m.arguments) ≡ length s = w.1.1 in
    let whole : end ≡ length s = omega arith in
    record { bytes = w.0 ∙ rw (sub-zero, whole) (take-length s); formed = w.1.0 }
