-- An accepted file's definitions put into slots, one after the other.
use Rattle.std.specs.Prelude.{ℕ, ◌+◌, ◌≤◌, ◌<◌, Bool, true, false, ◌≡◌, refl, length, set, ltb, eqb}
use Rattle.std.proofs.Math.Path.{sym, ap}
use Rattle.std.proofs.Common.{ap₂, ◌∙◌, arith, zero-add, length-take, length-drop, length-set, get_or-set_same, get_or-set_other, ltb-true, ltb-false, eqb-true}
use mathlib.Core.List.{List, [], ◌++◌}
use Rattle.std.proofs.Math.ListN.{get_or-eq_default}
use Rattle.std.proofs.Math.Seq.{set_out}
use Rattle.std.proofs.lemmas.Bool.{eqb-false}
use Rattle.words.specs.ChoiceLaws.{either_false}
use Rattle.words.specs.Parts.{put}
use Rattle.words.specs.PartsLaws.{put_length}
use Rattle.format.specs.Definition.{Definition}
use Rattle.format.specs.Reader.{size_limit}
use Rattle.format.specs.Writer.{write_definition}
use Rattle.nodes.specs.declared.Node.{Node}
use Rattle.model.specs.Layout.{slot_count, start_of, arena_length}
use Rattle.model.specs.Engine.{Slot, slots_from, slot_at, held}
use Rattle.model.specs.Effects.{free_from, placed, loaded, retired}
use Rattle.model.specs.Searches.{free_slot}
use Rattle.model.specs.Checks.{names_of}
use Rattle.model.specs.After.{flags_of, lengths_of, arena_of}
use Rattle.definitions.specs.Holders.{holders}
use Rattle.slots.specs.Slots.{lengths_on, flags_on, slots_on, slots_length}
use Rattle.slots.specs.Arena.{Short, arena_set, arena_same}
use Rattle.definitions.specs.Slots.{SlotsFit, Formed}
use Rattle.definitions.specs.Files.{Run, first_place, definitions_on}
use Rattle.definitions.specs.Storing.{table_of, table_set, flags_back, free_flags}
use Rattle.definitions.specs.Naming.{Next, run_last}
use Rattle.definitions.specs.Retiring.{slot_is, table_same}
use Rattle.definitions.specs.Retired.{table_flags, retired_lengths, retired_slots}

-- the slot that is found is not resident
free_resident : (slots : List Slot) (t : List Node) (i : ℕ) → free_from 0 slots t ≡ 0 + i → i < length slots → (slot_at slots i).resident ≡ false
free_resident slots t i e h = (either_false (slot_at slots i).resident (held (0 + i) t) (free_slot 0 slots t i e h)).0

-- a definition placed leaves as many slots
pub placed_many : (d : Definition) (slots : List Slot) (t : List Node) → length slots ≡ slot_count → length (placed d slots t) ≡ slot_count
placed_many d slots t many = length-set slots (free_from 0 slots t) (record { bytes = write_definition d; resident = true }) ∙ many

-- the flags in a table of slots
flags-in : (slots : List Slot) (table arena : List ℕ) → length slots ≡ slot_count → flags_of (slots_on (table_of slots table) arena) ≡ flags_of slots
flags-in slots table arena many =
    ap (λ (l : List ℕ). flags_of (slots_from 0 slot_count (lengths_on (table_of slots table)) l arena)) (table_flags slots table many)
    ∙ ap (λ (n : ℕ). flags_of (slots_from 0 n (lengths_on (table_of slots table)) (flags_of slots) arena)) (sym many)
    ∙ flags_back 0 slots (lengths_on (table_of slots table)) arena

-- the definitions before a place in the file are in their slots
pub record Loading (table₀ arena₀ file : List ℕ) (tests : List Bool) (at : ℕ) (table arena : List ℕ) : Type 0 where
  pub slots : List Slot
  pub rest : List Definition
  pub run : Run file at rest
  pub left : loaded rest slots (holders tests) ≡ loaded (definitions_on file) (slots_on table₀ arena₀) (holders tests)
  pub many : length slots ≡ slot_count
  pub short : Short slots
  pub table_now : table ≡ table_of slots table₀
  pub arena_now : arena ≡ arena_of slots arena₀
  pub sized : SlotsFit table arena

-- the slots after a load: "A load first retires residents whose names are in the file, then puts the new ones in the lowest free slots, in file
-- order."
abbrev pub loaded_on : List ℕ → List ℕ → List Bool → List ℕ → List Slot
loaded_on table arena tests file = loaded (definitions_on file) (retired (names_of (definitions_on file)) (slots_on table arena)) (holders tests)

-- what a load leaves
pub record Loaded (table₀ arena₀ table arena : List ℕ) (slots : List Slot) : Type 0 where
  pub words : table ≡ table_of slots table₀
  pub bytes : arena ≡ arena_of slots arena₀

short_on : (table arena : List ℕ) → Short (slots_on table arena)
short_on table arena k e = by (ltb k slot_count) refl
  where
    slots : List Slot
    slots = slots_on table arena

    by : (b : Bool) → ltb k slot_count ≡ b → length (slot_at slots k).bytes ≤ size_limit
    by true q =
        let less : k < slot_count = ltb-true k slot_count q in
        rw (slot_is table arena k less) (simp (length-take, length-drop) (omega arith))
    by false q =
        let past : slot_count ≤ k = ltb-false k slot_count q in
        rw (get_or-eq_default slots (record { bytes = []; resident = false }) {n = k} (rw (slots_length 0 slot_count (lengths_on table) (flags_on table) arena) past)) (omega arith)

short_set : (slots : List Slot) (k : ℕ) (x : Slot) → Short slots → length x.bytes ≤ size_limit → Short (set slots k x)
short_set slots k x short fits j e = by (eqb j k) refl (ltb k (length slots)) refl
  where
    none : Slot
    none = record { bytes = []; resident = false }

    by : (b : Bool) → eqb j k ≡ b → (l : Bool) → ltb k (length slots) ≡ l → length (slot_at (set slots k x) j).bytes ≤ size_limit
    by true q true l =
        let same : j ≡ k = eqb-true j k q in
        rw (same, get_or-set_same slots k x none (ltb-true k (length slots) l)) fits
    by true q false l =
        let out = set_out slots k x (ltb-false k (length slots) l) in
        rw out (short j (rw out at e))
    by false q l p =
        let other = get_or-set_other slots k j x none (eqb-false j k q) in
        rw other (short j (rw other at e))

pub loading_first : (table arena file : List ℕ) (tests : List Bool) → Formed table arena → Run file first_place (definitions_on file)
    → Loading table arena file tests first_place table arena
loading_first table arena file tests f r = record {
  slots = slots_on table arena;
  rest = definitions_on file;
  run = r;
  left = refl;
  many = slots_length 0 slot_count (lengths_on table) (flags_on table) arena;
  short = short_on table arena;
  table_now = sym (table_same table arena f);
  arena_now = sym (arena_same 0 slot_count (lengths_on table) (flags_on table) arena);
  sized = f.sized;
}

abbrev new_slot : Definition → Slot
new_slot d = record { bytes = write_definition d; resident = true }

module _ (table₀ arena₀ file : List ℕ) (tests : List Bool) (at : ℕ) (table arena : List ℕ)
    (long : length arena₀ ≡ arena_length) (m : Loading table₀ arena₀ file tests at table arena) (n : Next file at m.rest) (k : ℕ)
    (found : k ≡ free_from 0 (slots_on table arena) (holders tests)) where
  -- the slot that is found by the table is found in the slots
  found_in : k ≡ free_from 0 m.slots (holders tests)
  found_in =
      found
      ∙ ap (λ (l : List ℕ). free_from 0 (slots_on l arena) (holders tests)) m.table_now
      ∙ free_flags 0 (slots_on (table_of m.slots table₀) arena) m.slots (holders tests) (flags-in m.slots table₀ arena m.many)

  next_left : loaded n.rest (set m.slots k (new_slot n.first)) (holders tests) ≡ loaded (definitions_on file) (slots_on table₀ arena₀) (holders tests)
  unfolding loaded
  next_left =
      ap (λ (j : ℕ). loaded n.rest (set m.slots j (new_slot n.first)) (holders tests)) found_in
      ∙ sym (ap (λ (ds : List Definition). loaded ds m.slots (holders tests)) n.whole)
      ∙ m.left

  -- there is no free slot
  pub loading_skip : slot_count ≤ k → Loading table₀ arena₀ file tests n.next table arena
  loading_skip past = record {
    slots = m.slots;
    rest = n.rest;
    run = n.run;
    left = ap (λ (l : List Slot). loaded n.rest l (holders tests)) (sym (set_out m.slots k (new_slot n.first) (rw m.many past))) ∙ next_left;
    many = m.many;
    short = m.short;
    table_now = m.table_now;
    arena_now = m.arena_now;
    sized = m.sized;
  }

  pub loading_next : k < slot_count
      → Loading table₀ arena₀ file tests n.next (set (set table k (length (write_definition n.first))) (slot_count + k) 1) (put (start_of k) (length (write_definition n.first)) (write_definition n.first) arena)
  loading_next less =
      let from = write_definition n.first in
      let small = n.here.small in
      let many = m.many in
      let fits : length (write_definition n.first) ≤ size_limit = omega arith in
      let free : (slot_at m.slots k).resident ≡ false = free_resident m.slots (holders tests) k (sym found_in ∙ sym (zero-add k)) (rw m.many less) in
      record {
        slots = set m.slots k (new_slot n.first);
        rest = n.rest;
        run = n.run;
        left = next_left;
        many = length-set m.slots k (new_slot n.first) ∙ m.many;
        short = short_set m.slots k (new_slot n.first) m.short fits;
        table_now = rw m.table_now (sym (table_set m.slots table₀ k (new_slot n.first) m.many less refl));
        arena_now = rw m.arena_now (sym (arena_set 0 m.slots arena₀ k (new_slot n.first) m.short (omega arith) (omega arith) free refl fits ∙ rw zero-add));
        sized = record {
          table_size = length-set (set table k (length from)) (slot_count + k) 1 ∙ length-set table k (length from) ∙ m.sized.table_size;
          arena_size = let z = m.sized.arena_size in put_length (start_of k) (length from) from arena (omega arith) refl ∙ z;
        };
      }

pub loading_last : (table₀ arena₀ file : List ℕ) (tests : List Bool) (at : ℕ) (table arena : List ℕ) → Loading table₀ arena₀ file tests at table arena → length file ≤ at
    → Loaded table₀ arena₀ table arena (loaded (definitions_on file) (slots_on table₀ arena₀) (holders tests))
unfolding loaded
loading_last table₀ arena₀ file tests at table arena m h =
    let same : m.slots ≡ loaded (definitions_on file) (slots_on table₀ arena₀) (holders tests) =
    sym (ap (λ (ds : List Definition). loaded ds m.slots (holders tests)) (run_last m.run h)) ∙ m.left in
    record { words = m.table_now ∙ ap (λ (l : List Slot). table_of l table₀) same; bytes = m.arena_now ∙ ap (λ (l : List Slot). arena_of l arena₀) same }

-- the retirement and then the placing
pub load_whole : (table arena file : List ℕ) (tests : List Bool) (mid table' arena' : List ℕ) → Formed table arena
    → mid ≡ table_of (retired (names_of (definitions_on file)) (slots_on table arena)) table
    → Loaded mid arena table' arena' (loaded (definitions_on file) (slots_on mid arena) (holders tests))
    → Loaded table arena table' arena' (loaded_on table arena tests file)
load_whole table arena file tests mid table' arena' f e l =
    let names = names_of (definitions_on file) in
    let slots : slots_on mid arena ≡ retired names (slots_on table arena) = ap (λ (m : List ℕ). slots_on m arena) e ∙ retired_slots table arena names f in
    let all : loaded (definitions_on file) (slots_on mid arena) (holders tests) ≡ loaded_on table arena tests file = ap (λ (s : List Slot). loaded (definitions_on file) s (holders tests)) slots in
    let lengths : lengths_on mid ≡ lengths_on table = ap (λ (m : List ℕ). lengths_on m) e ∙ retired_lengths table arena names f in
    record {
      words = l.words ∙ ap₂ (λ (s : List Slot) (ls : List ℕ). lengths_of s ls ++ flags_of s) all lengths;
      bytes = l.bytes ∙ ap (λ (s : List Slot). arena_of s arena) all;
    }
