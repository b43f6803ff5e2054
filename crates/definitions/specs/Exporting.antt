-- Export: the residents' definitions as read, written one after the other, are their slots' bytes.
use Rattle.std.specs.Prelude.{ℕ, suc, ◌+◌, ◌-◌, ◌/◌, ◌%◌, ◌≤◌, ◌<◌, Bool, true, false, ◌≡◌, length, take, drop, get_or, ltb}
use Rattle.std.proofs.Math.Path.{refl, ap}
use Rattle.std.proofs.Common.{sym, ap₂, ◌∙◌, arith, length-take, length-append, take-append-drop, get_or-take, get_or-drop, take_at, drop-drop, length-take-le, ltb-true, ltb-false}
use mathlib.Core.List.{List, [], ◌∷◌, ◌++◌, append_assoc, append-nil}
use Rattle.std.proofs.Math.ListN.{get_or-eq_default}
use Rattle.std.proofs.Math.Seq.{take-length}
use Rattle.words.specs.Bytes.{AreBytes}
use Rattle.words.specs.Choice.{pick}
use Rattle.words.specs.Parts.{region, put}
use Rattle.words.specs.PartsLaws.{put_length, past_put}
use Rattle.format.specs.declared.Width.TheVariants.{Long}
use Rattle.format.specs.Read.{Read}
use Rattle.format.specs.Definition.{Definition}
use Rattle.format.specs.Reader.{size_limit}
use Rattle.format.specs.Writer.{write_all, write_definition, write_file}
use Rattle.model.specs.Layout.{slot_count, start_of}
use Rattle.model.specs.Engine.{Slot, residents, definition_in, no_definition, value_or}
use Rattle.model.specs.Replies.{definitions_in, export_file}
use Rattle.roundtrip.specs.Forth.{definition_forth}
use Rattle.slots.specs.Slots.{slots_on, slot_on, bytes_on, resident_on, slot-at, slots_end, count_from, count_few}
use Rattle.definitions.specs.Slots.{SlotsFit, Whole, Formed}
use Rattle.definitions.specs.Retiring.{whole-size}

-- parts of bytes are bytes
pub bytes_take : (n : ℕ) (s : List ℕ) → AreBytes s → AreBytes (take n s)
bytes_take n s b i = by (ltb i n) refl
  where
    by : (t : Bool) → ltb i n ≡ t → get_or (take n s) i 0 < 256
    by true e = rw (get_or-take n s i 0 (ltb-true i n e)) (b i)
    by false e =
        let short : length (take n s) ≤ i = omega (arith, length-take n s, ltb-false i n e) in
        rw (get_or-eq_default (take n s) 0 {n = i} short) (omega arith)

pub bytes_drop : (n : ℕ) (s : List ℕ) → AreBytes s → AreBytes (drop n s)
bytes_drop n s b i = rw (get_or-drop n s i 0) (b (n + i))

pub bytes-on : (table arena : List ℕ) (k : ℕ) → AreBytes arena → AreBytes (bytes_on table arena k)
bytes-on table arena k b =
    bytes_take (get_or table k 0) (region (start_of k) size_limit arena) (bytes_take size_limit (drop (start_of k) arena) (bytes_drop (start_of k) arena b))

-- a resident's bytes are the writing of its definition as read
pub whole_written : (table arena : List ℕ) (k : ℕ) → AreBytes arena → SlotsFit table arena → k < slot_count → Whole table arena k
    → write_definition (definition_in (slot_on table arena k)) ≡ bytes_on table arena k
whole_written table arena k b z h w =
    let bytes = bytes_on table arena k in
    let size : length bytes ≡ get_or table k 0 = whole-size table arena k z h w in
    let whole : get_or table k 0 - 0 ≡ length bytes = omega arith in
    ap (λ (r : Read Definition). write_definition (value_or no_definition r)) w.read
    ∙ (definition_forth Long bytes (bytes-on table arena k b) 0 w.definition (get_or table k 0) w.read).bytes
    ∙ ap (λ (n : ℕ). take n bytes) whole
    ∙ take-length bytes

-- the definitions of the residents from the slot k on, written
abbrev pub body_from : List ℕ → List ℕ → ℕ → List ℕ
body_from table arena k = write_all write_definition (definitions_in (residents (drop k (slots_on table arena))))

module _ (table arena : List ℕ) where
  -- the bytes: one step, and the end
  pub body_turn : AreBytes arena → Formed table arena → (k : ℕ) → k < slot_count
      → body_from table arena k ≡ pick (resident_on table k) (bytes_on table arena k ++ body_from table arena (k + 1)) (body_from table arena (k + 1))
  unfolding residents definitions_in write_all
  body_turn b f k h =
      ap (λ (l : List Slot). write_all write_definition (definitions_in (residents l))) (slot-at table arena k h) ∙ by (resident_on table k) refl
    where
      rest : List Slot
      rest = residents (drop (k + 1) (slots_on table arena))

      by : (r : Bool) → resident_on table k ≡ r
          → write_all write_definition (definitions_in (pick r (slot_on table arena k ∷ rest) rest)) ≡ pick r (bytes_on table arena k ++ body_from table arena (k + 1)) (body_from table arena (k + 1))
      by true e = ap (λ (w : List ℕ). w ++ body_from table arena (k + 1)) (whole_written table arena k b f.sized h (f.resident k h e))
      by false e = refl

  pub body_end : (k : ℕ) → slot_count ≤ k → body_from table arena k ≡ []
  unfolding residents definitions_in write_all
  body_end k h = ap (λ (l : List Slot). write_all write_definition (definitions_in (residents l))) (slots_end table arena k h)

-- the length of the bytes: one step
pub size_turn : (table arena : List ℕ) → AreBytes arena → Formed table arena → (k : ℕ) → k < slot_count
    → length (body_from table arena k) ≡ pick (resident_on table k) (get_or table k 0) 0 + length (body_from table arena (k + 1))
size_turn table arena b f k h = ap length (body_turn table arena b f k h) ∙ by (resident_on table k) refl
  where
    rest : List ℕ
    rest = body_from table arena (k + 1)

    by : (r : Bool) → resident_on table k ≡ r → length (pick r (bytes_on table arena k ++ rest) rest) ≡ pick r (get_or table k 0) 0 + length rest
    by true e = length-append (bytes_on table arena k) rest ∙ ap (λ (n : ℕ). n + length rest) (whole-size table arena k f.sized h (f.resident k h e))
    by false e = omega arith

definitions_length : (slots : List Slot) → length (definitions_in slots) ≡ length slots
unfolding definitions_in
definitions_length [] = refl
definitions_length (s ∷ more) = ap suc (definitions_length more)

-- the head of a file of so many definitions
abbrev pub head_of : ℕ → List ℕ
head_of n = 83 ∷ (67 ∷ (103 ∷ (102 ∷ (0 ∷ (0 ∷ (0 ∷ (2 ∷ (0 ∷ (n ∷ [])))))))))

pub export_parts : (table arena : List ℕ) → export_file (slots_on table arena) ≡ head_of (count_from table arena 0) ++ body_from table arena 0
unfolding write_file
export_parts table arena =
    let n = count_from table arena 0 in
    let few = count_few table arena in
    let many : length (definitions_in (residents (slots_on table arena))) ≡ n = definitions_length (residents (slots_on table arena)) in
    let high : n / 256 % 256 ≡ 0 = omega arith in
    let low : n % 256 ≡ n = omega arith in
    rw (many, high, low)

-- the length of the whole
pub export_size : (table arena : List ℕ) → length (export_file (slots_on table arena)) ≡ 10 + length (body_from table arena 0)
export_size table arena = ap length (export_parts table arena) ∙ length-append (head_of (count_from table arena 0)) (body_from table arena 0)

-- what is written of an export before the slot k is looked at
pub record Exporting (table arena start : List ℕ) (k at : ℕ) (out : List ℕ) : Type 0 where
  pub most : k ≤ slot_count
  pub size : length out ≡ length start
  pub room : length (export_file (slots_on table arena)) ≤ length out
  pub inside : at + length (body_from table arena k) ≡ length (export_file (slots_on table arena))
  pub front : take at out ++ body_from table arena k ≡ export_file (slots_on table arena)
  pub back : drop at out ≡ drop at start

module _ (table arena start : List ℕ) (k at : ℕ) (out : List ℕ) (b : AreBytes arena) (f : Formed table arena)
    (m : Exporting table arena start k at out) (less : k < slot_count) where
  pub exporting_skip : resident_on table k ≡ false → Exporting table arena start (k + 1) at out
  exporting_skip e =
      let same : body_from table arena k ≡ body_from table arena (k + 1) = rw e at (body_turn table arena b f k less) in
      record {
        most = omega arith;
        size = m.size;
        room = m.room;
        inside = rw same at m.inside;
        front = rw same at m.front;
        back = m.back;
      }

  module _ (e : resident_on table k ≡ true) where
    body_here : body_from table arena k ≡ bytes_on table arena k ++ body_from table arena (k + 1)
    body_here = rw e at (body_turn table arena b f k less)

    body_sum : length (body_from table arena k) ≡ get_or table k 0 + length (body_from table arena (k + 1))
    body_sum = rw e at (size_turn table arena b f k less)

    pub exporting_within : at + get_or table k 0 ≤ length (export_file (slots_on table arena))
    exporting_within = let i = m.inside in omega (arith, body_sum)

    pub exporting_room : at + get_or table k 0 ≤ length out
    exporting_room = let r = m.room in omega (arith, exporting_within)

    pub exporting_next : (from : List ℕ) → from ≡ bytes_on table arena k
        → Exporting table arena start (k + 1) (at + get_or table k 0) (put at (length from) from out)
    exporting_next from q =
        let n = get_or table k 0 in
        let size : length from ≡ n = ap length q ∙ whole-size table arena k f.sized less (f.resident k less e) in
        let i = m.inside in
        let z = m.size in
        let fits = exporting_room in
        let first : length (take at out) ≡ at = length-take-le at out (omega arith) in
        let rest = drop (length from) (drop at out) in
        let both-parts : length (take at out ++ from) ≡ at + n = length-append (take at out) from ∙ ap₂ (λ (x y : ℕ). x + y) first size in
        record {
          most = omega arith;
          size = put_length at (length from) from out (omega arith) refl ∙ m.size;
          room = rw (put_length at (length from) from out (omega arith) refl) m.room;
          inside = omega (arith, body_sum);
          front = ap (λ (l : List ℕ). l ++ body_from table arena (k + 1))
              (ap (λ (l : List ℕ). take (at + n) l) (sym (append_assoc (take at out) from rest)) ∙ take_at (take at out ++ from) rest (at + n) both-parts)
              ∙ append_assoc (take at out) from (body_from table arena (k + 1))
              ∙ ap (λ (l : List ℕ). take at out ++ l) (ap (λ (l : List ℕ). l ++ body_from table arena (k + 1)) q ∙ sym body_here)
              ∙ m.front;
          back = past_put at (length from) (at + n) from out (omega arith) refl (omega arith)
              ∙ sym (drop-drop n at out)
              ∙ ap (λ (l : List ℕ). drop n l) m.back
              ∙ drop-drop n at start;
        }

pub exporting_done : (table arena start : List ℕ) (k at : ℕ) (out : List ℕ) → Exporting table arena start k at out → slot_count ≤ k
    → out ≡ export_file (slots_on table arena) ++ drop (length (export_file (slots_on table arena))) start
exporting_done table arena start k at out m h =
    let none : body_from table arena k ≡ [] = body_end table arena k h in
    let whole : take at out ≡ export_file (slots_on table arena) = sym (append-nil (take at out)) ∙ ap (λ (l : List ℕ). take at out ++ l) (sym none) ∙ m.front in
    let i = m.inside in
    let end : at ≡ length (export_file (slots_on table arena)) = omega (arith, ap length none) in
    sym (take-append-drop at out) ∙ ap₂ (λ (x y : List ℕ). x ++ y) whole (m.back ∙ ap (λ (n : ℕ). drop n start) end)

pub exporting_first : (table arena start out : List ℕ) → length (export_file (slots_on table arena)) ≤ length start → out ≡ put 0 10 (head_of (count_from table arena 0)) start
    → Exporting table arena out 0 10 out
exporting_first table arena start out room e = record {
  most = omega arith;
  size = refl;
  room = rw (ap length e ∙ put_length 0 10 (head_of (count_from table arena 0)) start (omega (arith, export_size table arena)) refl) room;
  inside = sym (export_size table arena);
  front = rw e (sym (export_parts table arena));
  back = refl;
}

-- the head and then the definitions
pub exporting_whole : (table arena start mid out : List ℕ) (k at : ℕ) → length (export_file (slots_on table arena)) ≤ length start → mid ≡ put 0 10 (head_of (count_from table arena 0)) start
    → Exporting table arena mid k at out → slot_count ≤ k
    → out ≡ export_file (slots_on table arena) ++ drop (length (export_file (slots_on table arena))) start
exporting_whole table arena start mid out k at room e m h =
    let n = length (export_file (slots_on table arena)) in
    exporting_done table arena mid k at out m h
    ∙ ap (λ (l : List ℕ). export_file (slots_on table arena) ++ l) (ap (λ (l : List ℕ). drop n l) e ∙ past_put 0 10 n (head_of (count_from table arena 0)) start (omega arith) refl (omega (arith, export_size table arena)))
