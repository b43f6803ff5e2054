-- The slots of a well-formed state, by their table and the arena.
use Rattle.std.specs.Prelude.{ℕ, ◌+◌, ◌≤◌, ◌<◌, Bool, true, false, ◌≡◌, refl, length, drop, get_or, ltb, Option, Some, None}
use Rattle.std.proofs.Common.{sym, arith, lt-ltb, le-ltb, ltb-true, ltb-false}
use Rattle.std.proofs.lemmas.Option.{none-some}
use Rattle.std.proofs.Math.Path.{ap}
use mathlib.Core.List.{List}
use Rattle.words.specs.Choice.{pick, either}
use Rattle.format.specs.Read.{got}
use Rattle.format.specs.Definition.{Definition}
use Rattle.format.specs.Reader.{read_definition, size_limit}
use Rattle.nodes.specs.declared.Node.{Node}
use Rattle.model.specs.Layout.{slot_count, arena_length}
use Rattle.model.specs.Engine.{Slot, held}
use Rattle.model.specs.Effects.{free_from}
use Rattle.slots.specs.Slots.{table_words, slots_on, bytes_on, resident_on, slot-at, slots_end}

-- the sizes of the table and the arena
pub record SlotsFit (table arena : List ℕ) : Type 0 where
  pub table_size : length table ≡ table_words
  pub arena_size : length arena ≡ arena_length

-- a resident's bytes are one definition of so many bytes
pub record Whole (table arena : List ℕ) (k : ℕ) : Type 0 where
  pub definition : Definition
  pub small : get_or table k 0 ≤ size_limit
  pub read : read_definition (bytes_on table arena k) 0 ≡ got definition (get_or table k 0)

-- the slots of a well-formed state: flags are 0 or 1, and residents are definitions
pub record Formed (table arena : List ℕ) : Type 0 where
  pub sized : SlotsFit table arena
  pub flag : (k : ℕ) → k < slot_count → get_or table (slot_count + k) 0 ≤ 1
  pub resident : (k : ℕ) → k < slot_count → resident_on table k ≡ true → Whole table arena k

-- a slot that was looked for, where it is one of the 32: the searches of the model answer their number where there is none
abbrev pub slot_found : ℕ → Option ℕ
slot_found k = pick (ltb k slot_count) (Some k) None

pub slot_there : (k : ℕ) → k < slot_count → slot_found k ≡ Some k
slot_there k h = rw (lt-ltb k slot_count h)

pub slot_none : (k : ℕ) → slot_count ≤ k → slot_found k ≡ None
slot_none k h = rw (le-ltb k slot_count h)

-- what was found is a slot, and is what the search answers
pub found_slot : (k j : ℕ) → slot_found k ≡ Some j → (k ≡ j) × (j < slot_count)
found_slot k j e = by (ltb k slot_count) refl e
  where
    by : (b : Bool) → ltb k slot_count ≡ b → pick b (Some k) None ≡ Some j → (k ≡ j) × (j < slot_count)
    by true q e =
        let less : k < slot_count = ltb-true k slot_count q in
        let same : k ≡ j = cc in
        (same, omega arith)
    by false q e = absurd (none-some j e)

pub found_none : (k : ℕ) → slot_found k ≡ None → slot_count ≤ k
found_none k e = by (ltb k slot_count) refl e
  where
    by : (b : Bool) → ltb k slot_count ≡ b → ◌≡◌ {A = Option ℕ} (pick b (Some k) None) None → slot_count ≤ k
    by true q e = absurd (none-some k (sym e))
    by false q e = ltb-false k slot_count q

-- a search for a free slot: one step, and the end
module _ (table arena : List ℕ) (t : List Node) where
  pub free_turn : (k : ℕ) → k < slot_count
      → free_from k (drop k (slots_on table arena)) t ≡ pick (either (resident_on table k) (held k t)) (free_from (k + 1) (drop (k + 1) (slots_on table arena)) t) k
  unfolding free_from
  free_turn k h = ap (λ (l : List Slot). free_from k l t) (slot-at table arena k h)

  pub free_end : (k : ℕ) → slot_count ≤ k → free_from k (drop k (slots_on table arena)) t ≡ k
  unfolding free_from
  free_end k h = ap (λ (l : List Slot). free_from k l t) (slots_end table arena k h)
