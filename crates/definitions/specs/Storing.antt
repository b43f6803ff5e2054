-- Slots put into the table.
use Rattle.std.specs.Prelude.{ℕ, zero, suc, ◌+◌, ◌<◌, Bool, true, false, ◌≡◌, refl, List, [], ◌∷◌, ◌++◌, length, drop, get_or, set, eqb}
use Rattle.std.proofs.Common.{sym, ap, ap₂, ◌∙◌, arith, length-append, length-set, get_or-drop}
use Rattle.std.proofs.lemmas.List.{set-append_left}
use Rattle.words.specs.Choice.{pick}
use Rattle.nodes.specs.declared.Node.{Node}
use Rattle.model.specs.Layout.{slot_count}
use Rattle.model.specs.Engine.{Slot, slots_from, slot_at}
use Rattle.model.specs.Effects.{free_from}
use Rattle.model.specs.After.{flags_of, lengths_of}
use Rattle.definitions.specs.Lists.{set-append_add}
use Rattle.slots.specs.Slots.{lengths_on}
use Rattle.slots.specs.Arena.{flags_length, lengths_length}

-- the table of slots: a resident's own length, of another what was there; and the flags
abbrev pub table_of : List Slot → List ℕ → List ℕ
table_of slots table = lengths_of slots (lengths_on table) ++ flags_of slots

pub table-size : (slots : List Slot) (table : List ℕ) → length (table_of slots table) ≡ length slots + length slots
table-size slots table = length-append (lengths_of slots (lengths_on table)) (flags_of slots) ∙ ap₂ (λ (a b : ℕ). a + b) (lengths_length slots (lengths_on table)) (flags_length slots)

-- at a place
pub flags_at : (slots : List Slot) (k : ℕ) → k < length slots → get_or (flags_of slots) k 0 ≡ pick (slot_at slots k).resident 1 0
unfolding flags_of
flags_at [] k h = absurd (omega arith)
flags_at (s ∷ more) zero h = refl
flags_at (s ∷ more) (suc k) h = flags_at more k (omega arith)

pub lengths_at : (slots : List Slot) (sizes : List ℕ) (k : ℕ) → k < length slots
    → get_or (lengths_of slots sizes) k 0 ≡ pick (slot_at slots k).resident (length (slot_at slots k).bytes) (get_or sizes k 0)
unfolding lengths_of
lengths_at [] sizes k h = absurd (omega arith)
lengths_at (s ∷ more) sizes zero h = refl
lengths_at (s ∷ more) sizes (suc k) h =
    lengths_at more (drop 1 sizes) k (omega arith)
    ∙ ap (λ (n : ℕ). pick (slot_at more k).resident (length (slot_at more k).bytes) n) (get_or-drop 1 sizes k 0 ∙ ap (λ (j : ℕ). get_or sizes j 0) one)
  where
    one : 1 + k ≡ suc k
    one = omega arith

-- a slot changed
pub flags_set : (slots : List Slot) (k : ℕ) (x : Slot) → flags_of (set slots k x) ≡ set (flags_of slots) k (pick x.resident 1 0)
unfolding flags_of
flags_set [] k x = refl
flags_set (s ∷ more) zero x = refl
flags_set (s ∷ more) (suc k) x = ap (λ (l : List ℕ). pick s.resident 1 0 ∷ l) (flags_set more k x)

pub lengths_set : (slots : List Slot) (sizes : List ℕ) (k : ℕ) (x : Slot) → x.resident ≡ true → lengths_of (set slots k x) sizes ≡ set (lengths_of slots sizes) k (length x.bytes)
unfolding lengths_of
lengths_set [] sizes k x r = refl
lengths_set (s ∷ more) sizes zero x r = rw r
lengths_set (s ∷ more) sizes (suc k) x r =
    ap (λ (l : List ℕ). pick s.resident (length s.bytes) (get_or sizes 0 0) ∷ l) (lengths_set more (drop 1 sizes) k x r)

-- a resident put into a slot, in the table
pub table_set : (slots : List Slot) (table : List ℕ) (k : ℕ) (x : Slot) → length slots ≡ slot_count → k < slot_count → x.resident ≡ true
    → table_of (set slots k x) table ≡ set (set (table_of slots table) k (length x.bytes)) (slot_count + k) 1
table_set slots table k x many h r =
    let ls = lengths_of slots (lengths_on table) in
    let fs = flags_of slots in
    let size : length ls ≡ slot_count = lengths_length slots (lengths_on table) ∙ many in
    let size' : length (set ls k (length x.bytes)) ≡ slot_count = length-set ls k (length x.bytes) ∙ size in
    rw (lengths_set slots (lengths_on table) k x r, flags_set slots k x, r)
    (sym (rw (set-append_left ls fs k (length x.bytes) (omega arith), sym size') (set-append_add (set ls k (length x.bytes)) fs k 1)))

-- the flags of slots, read back
pub flags_back : (k : ℕ) (slots : List Slot) (lengths arena : List ℕ) → flags_of (slots_from k (length slots) lengths (flags_of slots) arena) ≡ flags_of slots
unfolding slots_from flags_of
flags_back k [] lengths arena = refl
flags_back k (s ∷ more) lengths arena = ap₂ (λ (a : ℕ) (b : List ℕ). a ∷ b) (flag s.resident) (flags_back (k + 1) more (drop 1 lengths) arena)
  where
    flag : (b : Bool) → ◌≡◌ {A = ℕ} (pick (eqb (pick b 1 0) 1) 1 0) (pick b 1 0)
    flag true = refl
    flag false = refl

-- a free slot is found by the flags
pub free_flags : (k : ℕ) (a b : List Slot) (t : List Node) → flags_of a ≡ flags_of b → free_from k a t ≡ free_from k b t
unfolding free_from flags_of
free_flags k [] [] t e = refl
free_flags k [] (y ∷ b) t e = absurd (let z : ◌≡◌ {A = ℕ} 0 1 = ap length e ∙ cc in omega arith)
free_flags k (x ∷ a) [] t e = absurd (let z : ◌≡◌ {A = ℕ} 0 1 = cc in omega arith)
free_flags k (x ∷ a) (y ∷ b) t e =
    let first : ◌≡◌ {A = ℕ} (pick x.resident 1 0) (pick y.resident 1 0) = cc in
    let rest : flags_of a ≡ flags_of b = cc in
    rw (bit x.resident y.resident first, free_flags (k + 1) a b t rest)
  where
    bit : (p q : Bool) → ◌≡◌ {A = ℕ} (pick p 1 0) (pick q 1 0) → p ≡ q
    bit true true h = refl
    bit true false h = absurd (omega arith)
    bit false true h = absurd (omega arith)
    bit false false h = refl
