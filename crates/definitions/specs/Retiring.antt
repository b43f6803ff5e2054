-- Residents retired, in the table.
use Rattle.std.specs.Prelude.{ℕ, zero, suc, ◌+◌, ◌-◌, ◌≤◌, ◌<◌, Bool, true, false, not, ◌≡◌, refl, List, [], ◌∷◌, length, get_or, set, ltb, eqb}
use Rattle.std.proofs.Common.{sym, ap, ◌∙◌, arith, length-take, length-drop, length-set, get_or-take, get_or-drop, ext_get_or, get_or-append-add, get_or-set_same, get_or-set_other, eqb-true, ltb-true, ltb-false}
use Rattle.std.proofs.Math.ListN.{get_or-append}
use Rattle.std.proofs.lemmas.Bool.{eqb-false}
use Rattle.words.specs.Choice.{pick, both}
use Rattle.format.specs.Reader.{among}
use Rattle.model.specs.Layout.{slot_count}
use Rattle.model.specs.Engine.{Slot, slot_at, name_in}
use Rattle.model.specs.Effects.{retired, retire}
use Rattle.model.specs.After.{flags_of, lengths_of}
use Rattle.slots.specs.Slots.{table_words, lengths_on, flags_on, slots_on, slot_on, bytes_on, resident_on, slots_length, slot-at}
use Rattle.definitions.specs.Slots.{SlotsFit, Whole, Formed}
use Rattle.slots.specs.Arena.{lengths_length}
use Rattle.definitions.specs.Storing.{table_of, table-size, flags_at, lengths_at}
use Rattle.definitions.specs.Names.{name_on}
use Rattle.definitions.specs.Naming.{NamedBy}

-- the slot k of the list
pub slot_is : (table arena : List ℕ) (k : ℕ) → k < slot_count → slot_at (slots_on table arena) k ≡ slot_on table arena k
slot_is table arena k h =
    let none : Slot = record { bytes = []; resident = false } in
    let here : k + 0 ≡ k = omega arith in
    ap (λ (j : ℕ). get_or (slots_on table arena) j none) (sym here)
    ∙ sym (get_or-drop k (slots_on table arena) 0 none)
    ∙ ap (λ (l : List Slot). get_or l 0 none) (slot-at table arena k h)

-- a table, word by word
pub table_is : (slots : List Slot) (table now : List ℕ) → length slots ≡ slot_count → length now ≡ table_words
    → ((k : ℕ) → k < slot_count → get_or now k 0 ≡ pick (slot_at slots k).resident (length (slot_at slots k).bytes) (get_or table k 0))
    → ((k : ℕ) → k < slot_count → get_or now (slot_count + k) 0 ≡ pick (slot_at slots k).resident 1 0)
    → now ≡ table_of slots table
table_is slots table now many size first second =
    ext_get_or 0 now (table_of slots table) (size ∙ sym (table-size slots table ∙ rw many)) (λ i h. by i h (ltb i slot_count) refl)
  where
    by : (i : ℕ) → i < length now → (b : Bool) → ltb i slot_count ≡ b → get_or now i 0 ≡ get_or (table_of slots table) i 0
    by i h true e =
        let less : i < slot_count = ltb-true i slot_count e in
        let inside : i < length (lengths_of slots (lengths_on table)) = rw (lengths_length slots (lengths_on table), many) less in
        first i less
        ∙ sym (get_or-append (lengths_of slots (lengths_on table)) (flags_of slots) 0 i inside
        ∙ lengths_at slots (lengths_on table) i (rw many less)
        ∙ ap (λ (n : ℕ). pick (slot_at slots i).resident (length (slot_at slots i).bytes) n) (get_or-take slot_count table i 0 less))
    by i h false e =
        let past : slot_count ≤ i = ltb-false i slot_count e in
        let less : i - slot_count < slot_count = omega arith in
        let size : length (lengths_of slots (lengths_on table)) ≡ slot_count = lengths_length slots (lengths_on table) ∙ many in
        let sum : i ≡ slot_count + (i - slot_count) = omega arith in
        ap (λ (j : ℕ). get_or now j 0) sum
        ∙ second (i - slot_count) less
        ∙ sym (ap (λ (j : ℕ). get_or (table_of slots table) j 0) (sum ∙ ap (λ (n : ℕ). n + (i - slot_count)) (sym size))
        ∙ get_or-append-add (lengths_of slots (lengths_on table)) (flags_of slots) (i - slot_count) 0
        ∙ flags_at slots (i - slot_count) (rw many less))

-- a resident's length word is its length
pub whole-size : (table arena : List ℕ) (k : ℕ) → SlotsFit table arena → k < slot_count → Whole table arena k → length (bytes_on table arena k) ≡ get_or table k 0
whole-size table arena k z h w =
    let small = w.small in
    let long = z.arena_size in
    simp (length-take, length-drop) (omega arith)

-- a flag that is 0 or 1 is fact by its test
flag_fact : (f : ℕ) → f ≤ 1 → f ≡ pick (eqb f 1) 1 0
flag_fact zero h = refl
flag_fact (suc zero) h = refl
flag_fact (suc (suc f)) h = absurd (omega arith)

module _ (table arena : List ℕ) (f : Formed table arena) where
  -- and so is a length word
  size_fact : (k : ℕ) → k < slot_count → get_or table k 0 ≡ pick (resident_on table k) (length (bytes_on table arena k)) (get_or table k 0)
  size_fact k h = by (resident_on table k) refl
    where
      by : (b : Bool) → resident_on table k ≡ b → get_or table k 0 ≡ pick b (length (bytes_on table arena k)) (get_or table k 0)
      by true e = sym (whole-size table arena k f.sized h (f.resident k h e))
      by false e = refl

  -- slots that lie there leave the table as it is
  pub table_same : table_of (slots_on table arena) table ≡ table
  table_same =
      sym (table_is (slots_on table arena) table table (slots_length 0 slot_count (lengths_on table) (flags_on table) arena) f.sized.table_size
      (λ k h. rw (slot_is table arena k h) (size_fact k h))
      (λ k h. rw (slot_is table arena k h) (flag_fact (get_or table (slot_count + k) 0) (f.flag k h))))

pub retired-length : (names : List (List ℕ)) (slots : List Slot) → length (retired names slots) ≡ length slots
unfolding retired
retired-length names [] = refl
retired-length names (s ∷ more) = ap suc (retired-length names more)

abbrev pub retired_slot : List (List ℕ) → Slot → Slot
retired_slot names s = record { bytes = s.bytes; resident = both s.resident (not (among (name_in s) names)) }

retired-at : (names : List (List ℕ)) (slots : List Slot) (k : ℕ) → k < length slots → slot_at (retired names slots) k ≡ retired_slot names (slot_at slots k)
unfolding retired
retired-at names [] k h = absurd (omega arith)
retired-at names (s ∷ more) zero h = refl
retired-at names (s ∷ more) (suc k) h = retired-at names more k (omega arith)

module _ (table arena : List ℕ) (names : List (List ℕ)) where
  pub retired_many : length (retired names (slots_on table arena)) ≡ slot_count
  retired_many = retired-length names (slots_on table arena) ∙ slots_length 0 slot_count (lengths_on table) (flags_on table) arena

  pub retired_is : (k : ℕ) → k < slot_count → slot_at (retired names (slots_on table arena)) k ≡ retired_slot names (slot_on table arena k)
  retired_is k h =
      retired-at names (slots_on table arena) k (rw (slots_length 0 slot_count (lengths_on table) (flags_on table) arena) h)
      ∙ ap (λ (s : Slot). retired_slot names s) (slot_is table arena k h)

-- the flags of the slots before k are cleared where they are marked
pub record Retiring (table : List ℕ) (marks : List Bool) (k : ℕ) (now : List ℕ) : Type 0 where
  pub most : k ≤ slot_count
  pub size : length now ≡ table_words
  pub lengths : (j : ℕ) → j < slot_count → get_or now j 0 ≡ get_or table j 0
  pub before : (j : ℕ) → j < k → get_or now (slot_count + j) 0 ≡ pick (get_or marks j false) 0 (get_or table (slot_count + j) 0)
  pub behind : (j : ℕ) → k ≤ j → get_or now (slot_count + j) 0 ≡ get_or table (slot_count + j) 0

module _ (table : List ℕ) (marks : List Bool) (k : ℕ) (now : List ℕ) (m : Retiring table marks k now) (less : k < slot_count) where
  pub retiring_set : get_or marks k false ≡ true → Retiring table marks (k + 1) (set now (slot_count + k) 0)
  retiring_set e = record {
    most = omega arith;
    size = length-set now (slot_count + k) 0 ∙ m.size;
    lengths = λ j h. get_or-set_other now (slot_count + k) j 0 0 (λ q. omega arith) ∙ m.lengths j h;
    before = λ j h. by j h (eqb j k) refl;
    behind = λ j h. get_or-set_other now (slot_count + k) (slot_count + j) 0 0 (λ q. omega arith) ∙ m.behind j (omega arith);
  }
    where
      by : (j : ℕ) → j < k + 1 → (b : Bool) → eqb j k ≡ b → get_or (set now (slot_count + k) 0) (slot_count + j) 0 ≡ pick (get_or marks j false) 0 (get_or table (slot_count + j) 0)
      by j h true q =
          let same : j ≡ k = eqb-true j k q in
          let size = m.size in
          rw (same, e) (get_or-set_same now (slot_count + k) 0 0 (omega arith))
      by j h false q =
          let other = eqb-false j k q in
          get_or-set_other now (slot_count + k) (slot_count + j) 0 0 (λ p. other (omega arith)) ∙ m.before j (omega (arith, eqb-false j k q))

  pub retiring_skip : get_or marks k false ≡ false → Retiring table marks (k + 1) now
  retiring_skip e = record {
    most = omega arith;
    size = m.size;
    lengths = m.lengths;
    before = λ j h. by j h (eqb j k) refl;
    behind = λ j h. m.behind j (omega arith);
  }
    where
      by : (j : ℕ) → j < k + 1 → (b : Bool) → eqb j k ≡ b → get_or now (slot_count + j) 0 ≡ pick (get_or marks j false) 0 (get_or table (slot_count + j) 0)
      by j h true q =
          let same : j ≡ k = eqb-true j k q in
          rw (same, e) (m.behind k (omega arith))
      by j h false q = m.before j (omega (arith, eqb-false j k q))

module _ (table arena : List ℕ) (names : List (List ℕ)) (f : Formed table arena) where
  -- retired slots keep their lengths
  pub retired_size : (k : ℕ) → k < slot_count
      → get_or table k 0 ≡ pick (slot_at (retired names (slots_on table arena)) k).resident (length (slot_at (retired names (slots_on table arena)) k).bytes) (get_or table k 0)
  retired_size k h = rw (retired_is table arena names k h) (by (resident_on table k) refl (not (among (name_on table arena k) names)))
    where
      by : (b : Bool) → resident_on table k ≡ b → (a : Bool) → get_or table k 0 ≡ pick (both b a) (length (bytes_on table arena k)) (get_or table k 0)
      by true e true = sym (whole-size table arena k f.sized h (f.resident k h e))
      by true e false = refl
      by false e a = refl

  -- all flags cleared where they are marked
  pub retiring_done : (marks : List Bool) (k : ℕ) (now : List ℕ) → NamedBy table arena names marks → Retiring table marks k now → slot_count ≤ k
      → now ≡ table_of (retired names (slots_on table arena)) table
  retiring_done marks k now n m h =
      table_is (retired names (slots_on table arena)) table now (retired_many table arena names) m.size
      (λ j l. m.lengths j l ∙ retired_size j l)
      (λ j l.
      m.before j (omega arith)
      ∙ ap (λ (b : Bool). pick b 0 (get_or table (slot_count + j) 0)) (n.each j l)
      ∙ flag (get_or table (slot_count + j) 0) (f.flag j l) (among (name_on table arena j) names)
      ∙ sym (ap (λ (s : Slot). pick s.resident 1 0) (retired_is table arena names j l)))
    where
      flag : (w : ℕ) → w ≤ 1 → (a : Bool) → pick (both (eqb w 1) a) 0 w ≡ pick (both (eqb w 1) (not a)) 1 0
      flag zero l a = refl
      flag (suc zero) l true = refl
      flag (suc zero) l false = refl
      flag (suc (suc w)) l a = absurd (omega arith)

-- one resident retired
module _ (table arena : List ℕ) (k : ℕ) (f : Formed table arena) (less : k < slot_count) where
  pub retire_table : set table (slot_count + k) 0 ≡ table_of (retire k (slots_on table arena)) table
  retire_table =
      table_is (retire k slots) table (set table (slot_count + k) 0) (length-set slots k x ∙ many) (length-set table (slot_count + k) 0 ∙ f.sized.table_size)
      (λ j h. get_or-set_other table (slot_count + k) j 0 0 (λ q. omega arith) ∙ size j h (eqb j k) refl)
      (λ j h. flag j h (eqb j k) refl)
    where
      slots : List Slot
      slots = slots_on table arena

      none : Slot
      none = record { bytes = []; resident = false }

      x : Slot
      x = record { bytes = (slot_at slots k).bytes; resident = false }

      many : length slots ≡ slot_count
      many = slots_length 0 slot_count (lengths_on table) (flags_on table) arena

      here : slot_at (retire k slots) k ≡ x
      here = get_or-set_same slots k x none (rw many less)

      there : (j : ℕ) → j < slot_count → (j ≡ k → ⊥) → slot_at (retire k slots) j ≡ slot_on table arena j
      there j h other = get_or-set_other slots k j x none other ∙ slot_is table arena j h

      size : (j : ℕ) → j < slot_count → (b : Bool) → eqb j k ≡ b
          → get_or table j 0 ≡ pick (slot_at (retire k slots) j).resident (length (slot_at (retire k slots) j).bytes) (get_or table j 0)
      size j h true e =
          let same : j ≡ k = eqb-true j k e in
          rw (same, here)
      size j h false e = rw (there j h (eqb-false j k e)) (size_fact table arena f j h)

      flag : (j : ℕ) → j < slot_count → (b : Bool) → eqb j k ≡ b → get_or (set table (slot_count + k) 0) (slot_count + j) 0 ≡ pick (slot_at (retire k slots) j).resident 1 0
      flag j h true e =
          let same : j ≡ k = eqb-true j k e in
          let long = f.sized.table_size in
          rw (same, here) (get_or-set_same table (slot_count + k) 0 0 (omega arith))
      flag j h false e =
          let other = eqb-false j k e in
          rw (there j h other) (get_or-set_other table (slot_count + k) (slot_count + j) 0 0 (λ q. other (omega arith)) ∙ flag_fact (get_or table (slot_count + j) 0) (f.flag j h))
