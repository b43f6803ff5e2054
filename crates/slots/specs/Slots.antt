-- The slots in the table of 64 words (32 lengths, then 32 resident flags), in the words, and in the arena.
use Rattle.std.specs.Prelude.{ℕ, zero, suc, ◌+◌, ◌-◌, ◌≤◌, ◌<◌, min, Bool, true, false, ◌≡◌, refl, take, drop, get_or, eqb, cond, count_by, ◌==◌}
use Rattle.std.proofs.Common.{sym, ◌∙◌, arith, zero-add, add-zero, drop_of_length-le, get_or-take, get_or-drop, drop-drop, take-take, length-take}
use Rattle.std.proofs.Math.Path.{ap}
use mathlib.Core.List.{List, [], ◌∷◌}
use Rattle.std.proofs.Math.Nat.{sub-zero}
use Rattle.std.proofs.Math.ListN.{length}
use Rattle.std.proofs.Math.Seq.{take-nil}
use Rattle.std.proofs.lemmas.List.Sums.{sum_by-cons}
use Rattle.words.specs.Choice.{pick}
use Rattle.words.specs.Parts.{region}
use Rattle.model.specs.Layout.{slot_count, lengths_place, lengths_in, flags_in, slot_in}
use Rattle.model.specs.Engine.{Slot, slots_from, slot_at, decode, residents}

-- a part of a front
pub drop-take : {A : Type 0} (n m : ℕ) (l : List A) → drop n (take (n + m) l) ≡ take m (drop n l)
drop-take zero m l = rw zero-add
drop-take {A} (suc n) m [] = rw (take-nil {A = A} (suc n + m), take-nil {A = A} m)
drop-take (suc n) m (x ∷ l) =
    let more : suc n + m ≡ suc (n + m) = omega arith in
    rw more (drop-take n m l)

-- the words of the table
abbrev pub table_words : ℕ
table_words = 64

abbrev pub lengths_on : List ℕ → List ℕ
lengths_on table = take slot_count table

abbrev pub flags_on : List ℕ → List ℕ
flags_on table = region slot_count slot_count table

abbrev pub slots_on : List ℕ → List ℕ → List Slot
slots_on table arena = slots_from 0 slot_count (lengths_on table) (flags_on table) arena

-- the slot k
abbrev pub bytes_on : List ℕ → List ℕ → ℕ → List ℕ
bytes_on table arena k = slot_in arena k (get_or table k 0)

-- its bytes, by the words
abbrev pub slot_bytes : List ℕ → List ℕ → ℕ → List ℕ
slot_bytes ws arena k = slot_in arena k (get_or ws (lengths_place + k) 0)

abbrev pub resident_on : List ℕ → ℕ → Bool
resident_on table k = eqb (get_or table (slot_count + k) 0) 1

abbrev pub slot_on : List ℕ → List ℕ → ℕ → Slot
slot_on table arena k = record { bytes = bytes_on table arena k; resident = resident_on table k }

pub slots_length : (k n : ℕ) (lengths flags arena : List ℕ) → length (slots_from k n lengths flags arena) ≡ n
unfolding slots_from
slots_length k zero lengths flags arena = refl
slots_length k (suc n) lengths flags arena = ap suc (slots_length (k + 1) n (drop 1 lengths) (drop 1 flags) arena)

slots_drop : (e k n : ℕ) (lengths flags arena : List ℕ) → drop e (slots_from k n lengths flags arena) ≡ slots_from (k + e) (n - e) (drop e lengths) (drop e flags) arena
unfolding slots_from
slots_drop zero k n lengths flags arena = rw (sub-zero, add-zero)
slots_drop (suc e) k zero lengths flags arena =
    let none : 0 - suc e ≡ 0 = omega arith in
    rw none
slots_drop (suc e) k (suc n) lengths flags arena =
    let fewer : suc n - suc e ≡ n - e = omega arith in
    let more : k + 1 + e ≡ k + suc e = omega arith in
    let one : 1 + e ≡ suc e = omega arith in
    rw fewer (slots_drop e (k + 1) n (drop 1 lengths) (drop 1 flags) arena ∙ rw (drop-drop e 1 lengths, drop-drop e 1 flags, one, more))

-- the slot at a place, and the rest
pub slot-at : (table arena : List ℕ) (k : ℕ) → k < slot_count → drop k (slots_on table arena) ≡ slot_on table arena k ∷ drop (k + 1) (slots_on table arena)
unfolding slots_from
slot-at table arena k h =
    let more : slot_count - k ≡ suc (slot_count - (k + 1)) = omega arith in
    let size : get_or (drop k (lengths_on table)) 0 0 ≡ get_or table k 0 = get_or-drop k (lengths_on table) 0 0 ∙ rw add-zero (get_or-take slot_count table k 0 h) in
    let flag : get_or (drop k (flags_on table)) 0 0 ≡ get_or table (slot_count + k) 0 =
    get_or-drop k (flags_on table) 0 0 ∙ rw add-zero (get_or-take slot_count (drop slot_count table) k 0 h ∙ get_or-drop slot_count table k 0) in
    slots_drop k 0 slot_count (lengths_on table) (flags_on table) arena
    ∙ rw (more, size, flag, drop-drop 1 k (lengths_on table), drop-drop 1 k (flags_on table), zero-add)
    (ap (λ (l : List Slot). slot_on table arena k ∷ l)
    (sym (slots_drop (k + 1) 0 slot_count (lengths_on table) (flags_on table) arena ∙ rw zero-add)))

-- past the last there is none
pub slots_end : (table arena : List ℕ) (k : ℕ) → slot_count ≤ k → drop k (slots_on table arena) ≡ []
slots_end table arena k h = drop_of_length-le (slots_on table arena) {i = k} (rw (slots_length 0 slot_count (lengths_on table) (flags_on table) arena) h)

-- the table lent from the words holds the engine's slots
pub lengths_lent : (ws : List ℕ) → lengths_on (region lengths_place table_words ws) ≡ lengths_in ws
lengths_lent ws = take-take slot_count table_words (drop lengths_place ws) (omega arith)

pub flags_lent : (ws : List ℕ) → flags_on (region lengths_place table_words ws) ≡ flags_in ws
flags_lent ws =
    ap (λ (l : List ℕ). take slot_count l) (drop-take slot_count slot_count (drop lengths_place ws))
    ∙ take-take slot_count slot_count (drop slot_count (drop lengths_place ws)) (omega arith)
    ∙ ap (λ (l : List ℕ). take slot_count l) (drop-drop slot_count lengths_place ws)

pub slots_lent : (ws arena : List ℕ) → slots_on (region lengths_place table_words ws) arena ≡ (decode ws arena).slots
unfolding decode
slots_lent ws arena = rw (lengths_lent ws, flags_lent ws)

-- a word of a part
pub part_word : (a m i : ℕ) (ws : List ℕ) → i < m → get_or (region a m ws) i 0 ≡ get_or ws (a + i) 0
part_word a m i ws h = get_or-take m (drop a ws) i 0 h ∙ get_or-drop a ws i 0

-- the bytes of a slot, by the table and by the words
pub bytes_lent : (ws arena : List ℕ) (k : ℕ) → k < table_words → bytes_on (region lengths_place table_words ws) arena k ≡ slot_bytes ws arena k
bytes_lent ws arena k h = ap (slot_in arena k) (part_word lengths_place table_words k ws h)

pub slot-bytes : (ws arena : List ℕ) (k : ℕ) → k < slot_count → (slot_at (decode ws arena).slots k).bytes ≡ slot_bytes ws arena k
slot-bytes ws arena k h =
    let slots = slots_on (region lengths_place table_words ws) arena in
    let none : Slot = record { bytes = []; resident = false } in
    let first : get_or slots k none ≡ get_or (drop k slots) 0 none = sym (get_or-drop k slots 0 none ∙ rw add-zero) in
    ap (λ (l : List Slot). (slot_at l k).bytes) (sym (slots_lent ws arena))
    ∙ ap (λ (s : Slot). s.bytes) (first ∙ ap (λ (l : List Slot). get_or l 0 none) (slot-at (region lengths_place table_words ws) arena k h))
    ∙ bytes_lent ws arena k (omega arith)

pub decoded_many : (ws arena : List ℕ) → length (decode ws arena).slots ≡ slot_count
unfolding decode
decoded_many ws arena = slots_length 0 slot_count (lengths_in ws) (flags_in ws) arena

-- at most so many bytes of so many
pub take_least : (k m : ℕ) (l : List ℕ) → take (min (min m (length l)) k) l ≡ take k (take m l)
take_least k m [] = take-nil (min (min m 0) k) ∙ sym (ap (λ (l : List ℕ). take k l) (take-nil m) ∙ take-nil k)
take_least zero m (x ∷ l) = let none : min (min m (suc (length l))) 0 ≡ 0 = omega arith in rw none
take_least (suc k) zero (x ∷ l) = let none : min (min 0 (suc (length l))) (suc k) ≡ 0 = omega arith in rw none
take_least (suc k) (suc m) (x ∷ l) =
    let more : min (min (suc m) (suc (length l))) (suc k) ≡ suc (min (min m (length l)) k) = omega arith in
    rw more (ap (λ (r : List ℕ). x ∷ r) (take_least k m l))

-- what lies behind a place, and nothing past the end
pub drop_min : (n : ℕ) (l : List ℕ) → drop (min n (length l)) l ≡ drop n l
drop_min zero l = let none : min 0 (length l) ≡ 0 = omega arith in rw none
drop_min (suc n) [] = let none : min (suc n) 0 ≡ 0 = omega arith in rw none
drop_min (suc n) (x ∷ l) =
    let more : min (suc n) (suc (length l)) ≡ suc (min n (length l)) = omega arith in
    rw more (drop_min n l)

-- as many slots are resident as flags are 1
flags_many : (k n : ℕ) (lengths flags arena : List ℕ) → length flags ≤ n → length (residents (slots_from k n lengths flags arena)) ≡ count_by (λ x. x == 1) flags
unfolding slots_from residents
flags_many k zero lengths [] arena h = refl
flags_many k zero lengths (f ∷ flags) arena h = absurd (omega arith)
flags_many k (suc n) lengths [] arena h = flags_many (k + 1) n (drop 1 lengths) [] arena (omega arith)
flags_many k (suc n) lengths (f ∷ flags) arena h =
    by (eqb f 1) _ (flags_many (k + 1) n (drop 1 lengths) flags arena (omega arith)) ∙ sym (sum_by-cons (λ x. cond (x == 1) 1 0) f flags)
  where
    rest : List Slot
    rest = slots_from (k + 1) n (drop 1 lengths) flags arena

    by : (b : Bool) (x : Slot) → length (residents rest) ≡ count_by (λ x. x == 1) flags → length (pick b (x ∷ residents rest) (residents rest)) ≡ cond b 1 0 + count_by (λ x. x == 1) flags
    by true x e = omega arith
    by false x e = omega arith

pub residents_many : (table arena : List ℕ) → length (residents (slots_on table arena)) ≡ count_by (λ x. x == 1) (flags_on table)
residents_many table arena =
    flags_many 0 slot_count (lengths_on table) (flags_on table) arena (omega (arith, length-take slot_count (drop slot_count table)))

-- how many of the slots from k on are resident
abbrev pub count_from : List ℕ → List ℕ → ℕ → ℕ
count_from table arena k = length (residents (drop k (slots_on table arena)))

-- there are at most as many residents as slots
residents_most : (slots : List Slot) → length (residents slots) ≤ length slots
unfolding residents
residents_most [] = omega arith
residents_most (s ∷ more) = by s.resident (residents_most more)
  where
    by : (b : Bool) → length (residents more) ≤ length more → length (pick b (s ∷ residents more) (residents more)) ≤ suc (length more)
    by true h = omega arith
    by false h = omega arith

pub count_few : (table arena : List ℕ) → count_from table arena 0 ≤ slot_count
count_few table arena = omega (arith, residents_most (slots_on table arena), slots_length 0 slot_count (lengths_on table) (flags_on table) arena)
