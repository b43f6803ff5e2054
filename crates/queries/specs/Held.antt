-- The nodes of a well-formed state by their places, and the definitions that synths hold, by their slots' bytes.
use Rattle.std.specs.Prelude.{Some, ℕ, ◌+◌, ◌*◌, ◌<◌, true, false, ◌≡◌, refl, List, ◌∷◌, length, drop, get_or, leb}
use Rattle.std.proofs.Common.{sym, ap, ◌∙◌, arith, zero-add}
use Rattle.words.specs.Choice.{both}
use Rattle.words.specs.ChoiceLaws.{both_true}
use Rattle.words.specs.Parts.{region}
use Rattle.words.specs.PartsLaws.{region-length}
use Rattle.format.specs.Read.{Read, got, bad}
use Rattle.format.specs.Definition.{Definition}
use Rattle.format.specs.Reader.{size_limit, read_definition}
use Rattle.format.specs.Names.{first_name}
use Rattle.readable.specs.Lookup.{units_in, name_in, name_of_in}
use Rattle.readable.specs.LookupOf.{units-of, name-of, first_name_of}
use Rattle.readable.specs.Readable.{ReadableWhole}
use Rattle.nodes.specs.Table.{width, slot_field}
use Rattle.nodes.specs.TableLaws.{row-from}
use Rattle.nodes.specs.Place.{group_slot, is_group}
use Rattle.model.specs.Layout.{slot_count, nodes_place, nodes_words, count_in, lengths_in, nodes_in, record_in}
use Rattle.model.specs.Engine.{Slot, decode, no_definition, value_or, definition_in, slot_at, definition_of, slot_taken}
use Rattle.model.specs.Formed.{is_whole, slot_formed}
use Rattle.state.specs.Known.{Known}
use Rattle.tree.specs.Sizes.{Placed}
use Rattle.controls.specs.Encoded.{front_in}
use Rattle.slots.specs.Slots.{slot_bytes, slot-bytes, decoded_many}
use Rattle.controls.specs.Ready.{Ready, held_at, slot-formed, either_true, synth_ready}
use Rattle.controls.specs.Formed.{bounds_ready}
use Rattle.controls.specs.Synth.{Bounds, slot_bound}

-- a node at a place of the table of a well-formed state
pub record At (ws bs : List ℕ) (i : ℕ) : Type 0 where
  pub state : Known ws bs
  pub live : i < count_in ws

pub ready : (ws bs : List ℕ) → Known ws bs → Ready ws bs
ready ws bs k = record { size = k.size; arena_size = k.arena_size; few = k.few; fields = k.tree.fields; slots = k.slots }

pub bounds : (ws bs : List ℕ) (i : ℕ) → At ws bs i → Bounds ws bs i
bounds ws bs i a = bounds_ready ws bs (ready ws bs a.state) i a.live

-- its place in the table's words
pub at-placed : (ws bs : List ℕ) (i : ℕ) → At ws bs i → (count : ℕ) → count ≡ count_in ws → Placed (region nodes_place nodes_words ws) count i
at-placed ws bs i a count same =
    let size : length (region nodes_place nodes_words ws) ≡ nodes_words = region-length nodes_place nodes_words ws (omega (arith, a.state.size)) in
    record { room = omega (arith, size, a.state.few); few = omega (arith, a.state.few); live = omega (arith, a.live) }

-- a record and what follows it
pub node-there : (ws bs : List ℕ) (i : ℕ) → At ws bs i → drop i (nodes_in ws) ≡ record_in ws i ∷ drop (i + 1) (nodes_in ws)
node-there ws bs i a = row-from (count_in ws) (region nodes_place nodes_words ws) i a.live

whole_read : (s : Slot) (size : ℕ) (r : Read Definition) → read_definition s.bytes 0 ≡ r → is_whole size r ≡ true
    → {E : Type 0} → ((next : ℕ) → read_definition s.bytes 0 ≡ got (definition_in s) next → E) → E
whole_read s size (got d next) e h k = k next (e ∙ ap (λ (x : Definition). got x next) (sym (ap (value_or no_definition) e)))
whole_read s size (bad q place) e h k = absurd (let z : ◌≡◌ {A = ℕ} 0 1 = cc in omega arith)

module _ (ws bs : List ℕ) (i : ℕ) (a : At ws bs i) (single : is_group (record_in ws i) ≡ false) where
  abbrev slots : List Slot
  slots = (decode ws bs).slots

  abbrev slot : ℕ
  slot = (record_in ws i).slot

  low : slot < slot_count
  low = (bounds ws bs i a).slot single

  -- a synth's slot has one whole definition
  pub held_whole : {E : Type 0} → ((next : ℕ) → read_definition (slot_bytes ws bs slot) 0 ≡ got (definition_of slots (record_in ws i)) next → E) → E
  held_whole k =
      let formed : slot_formed slot (get_or (lengths_in ws) slot 0) (slot_at slots slot) (nodes_in ws) ≡ true =
      rw zero-add at (slot-formed 0 slot (lengths_in ws) slots (nodes_in ws) (rw (decoded_many ws bs) low) a.state.slots) in
      let taken : slot_taken slot (slot_at slots slot) (nodes_in ws) ≡ true =
      rw (held_at (nodes_in ws) i (record_in ws i) (drop (i + 1) (nodes_in ws)) (node-there ws bs i a)) (either_true (slot_at slots slot).resident) in
      let whole : both (leb (get_or (lengths_in ws) slot 0) size_limit) (is_whole (get_or (lengths_in ws) slot 0) (read_definition (slot_at slots slot).bytes 0)) ≡ true = rw taken at formed in
      whole_read (slot_at slots slot) (get_or (lengths_in ws) slot 0) (read_definition (slot_at slots slot).bytes 0) refl (both_true (leb (get_or (lengths_in ws) slot 0) size_limit) _ whole).1
      (λ next e. k next (ap (λ (s : List ℕ). read_definition s 0) (sym (slot-bytes ws bs slot low)) ∙ e))

  pub held_readable : ReadableWhole (slot_bytes ws bs slot)
  held_readable = (synth_ready ws bs (ready ws bs a.state) i a.live single).whole

  -- what its bytes tell is what its definition has
  pub held_units : units_in (slot_bytes ws bs slot) ≡ Some (length (definition_of slots (record_in ws i)).units)
  held_units = held_whole (λ next e. units-of (slot_bytes ws bs slot) e)

  pub held_name : name_in (slot_bytes ws bs slot) ≡ (definition_of slots (record_in ws i)).front.name
  held_name = held_whole (λ next e. name-of (slot_bytes ws bs slot) e)

  pub held_first_name : (j : ℕ) → name_of_in j (slot_bytes ws bs slot) ≡ first_name j (definition_of slots (record_in ws i)).front.names
  held_first_name j = held_whole (λ next e. first_name_of (slot_bytes ws bs slot) e j)

  pub held_front : (definition_of slots (record_in ws i)).front ≡ front_in (slot_bytes ws bs slot)
  held_front = (synth_ready ws bs (ready ws bs a.state) i a.live single).front

-- a synth's slot, by the words
pub slot-low : (ws bs : List ℕ) (i : ℕ) → At ws bs i → (get_or ws (nodes_place + width * i + slot_field) 0 ≡ group_slot → ⊥) → get_or ws (nodes_place + width * i + slot_field) 0 < slot_count
slot-low ws bs i a other = slot_bound (bounds ws bs i a) other
