-- What the functions on the words assume of them: sizes and bounds, which the state check has tested.
use Rattle.std.specs.Prelude.{ℕ, zero, suc, ◌+◌, ◌≤◌, ◌<◌, Bool, true, false, ◌≡◌, refl, length, drop, get_or, leb, ltb, eqb}
use Rattle.std.proofs.Common.{sym, ap, ◌∙◌, subst, arith, add-zero, zero-add, leb-true, ltb-true, eq-eqb, length-take, get_or-drop}
use mathlib.Core.List.{List, [], ◌∷◌, nil≢cons, head-eq_of_cons-eq}
use Rattle.std.proofs.lemmas.Bool.{eqb-false}
use Rattle.words.specs.Choice.{both, either}
use Rattle.words.specs.ChoiceLaws.{both_true}
use Rattle.words.specs.Parts.{region}
use Rattle.format.specs.Read.{Read, got, bad}
use Rattle.format.specs.Definition.{Definition}
use Rattle.format.specs.Reader.{size_limit, read_definition}
use Rattle.readable.specs.Readable.{Readable, ReadableWhole, whole_readable}
use Rattle.nodes.specs.declared.Node.{Node}
use Rattle.nodes.specs.TableLaws.{row-from}
use Rattle.nodes.specs.Place.{group_slot, is_group}
use Rattle.nodes.specs.Formed.{most_nodes, most_rows, number_formed, row_formed, fields_formed, all_formed}
use Rattle.model.specs.Layout.{slot_count, nodes_place, nodes_words, words_length, arena_length, count_in, next_in, lengths_in, nodes_in, record_in}
use Rattle.model.specs.Engine.{Slot, decode, no_definition, value_or, definition_in, slot_at, definition_of, held, slot_taken}
use Rattle.model.specs.Formed.{is_whole, slot_formed, slots_formed}
use Rattle.slots.specs.Slots.{slot_bytes, slot-bytes, decoded_many}
use Rattle.state.specs.Known.{Known}
use Rattle.controls.specs.Encoded.{front_in, front_read}

-- a state of which the check has passed the sizes, the nodes' fields and the slots
pub record Ready (ws arena : List ℕ) : Type 0 where
  pub size : length ws ≡ words_length
  pub arena_size : length arena ≡ arena_length
  pub few : count_in ws ≤ most_nodes
  pub fields : all_formed (next_in ws) (nodes_in ws) ≡ true
  pub slots : slots_formed 0 (lengths_in ws) (decode ws arena).slots (nodes_in ws) ≡ true

pub ready_known : (ws arena : List ℕ) → Known ws arena → Ready ws arena
ready_known ws arena k = record { size = k.size; arena_size = k.arena_size; few = k.few; fields = k.tree.fields; slots = k.slots }

-- a synth of such a state: its slot and row are there, and its definition's front is what its slot's bytes tell
pub record Synth (ws arena : List ℕ) (r : Node) : Type 0 where
  pub slot : r.slot < slot_count
  pub row : r.row < most_rows
  pub front : (definition_of (decode ws arena).slots r).front ≡ front_in (slot_bytes ws arena r.slot)
  pub whole : ReadableWhole (slot_bytes ws arena r.slot)

-- a record of the table: its fields are formed, and it holds its slot
pub fields_at : (next : ℕ) (t : List Node) (i : ℕ) (r : Node) (rest : List Node) → drop i t ≡ r ∷ rest → all_formed next t ≡ true → fields_formed next r ≡ true
unfolding all_formed
fields_at next [] zero r rest e h = absurd (nil≢cons e)
fields_at next [] (suc i) r rest e h = absurd (nil≢cons e)
fields_at next (x ∷ t) zero r rest e h = ap (fields_formed next) (sym (head-eq_of_cons-eq e)) ∙ (both_true (fields_formed next x) (all_formed next t) h).0
fields_at next (x ∷ t) (suc i) r rest e h = fields_at next t i r rest e (both_true (fields_formed next x) (all_formed next t) h).1

pub either_true : (b : Bool) → either b true ≡ true
either_true true = refl
either_true false = refl

pub held_at : (t : List Node) (i : ℕ) (r : Node) (rest : List Node) → drop i t ≡ r ∷ rest → held r.slot t ≡ true
unfolding held
held_at [] zero r rest e = absurd (nil≢cons e)
held_at [] (suc i) r rest e = absurd (nil≢cons e)
held_at (x ∷ t) zero r rest e = rw (eq-eqb x.slot r.slot (ap (λ (y : Node). y.slot) (head-eq_of_cons-eq e)))
held_at (x ∷ t) (suc i) r rest e = rw (held_at t i r rest e) (either_true (eqb x.slot r.slot))

-- a slot that a synth holds is one definition
pub slot-formed : (k j : ℕ) (sizes : List ℕ) (slots : List Slot) (t : List Node) → j < length slots → slots_formed k sizes slots t ≡ true
    → slot_formed (k + j) (get_or sizes j 0) (slot_at slots j) t ≡ true
unfolding slots_formed
slot-formed k j sizes [] t l h = absurd (omega arith)
slot-formed k zero sizes (s ∷ more) t l h =
    rw add-zero (both_true (slot_formed k (get_or sizes 0 0) s t) (slots_formed (k + 1) (drop 1 sizes) more t) h).0
slot-formed k (suc j) sizes (s ∷ more) t l h =
    let place : k + suc j ≡ k + 1 + j = omega arith in
    let one : 1 + j ≡ suc j = omega arith in
    let size : get_or sizes (suc j) 0 ≡ get_or (drop 1 sizes) j 0 = ap (λ (m : ℕ). get_or sizes m 0) (sym one) ∙ sym (get_or-drop 1 sizes j 0) in
    rw (place, size)
    (slot-formed (k + 1) j (drop 1 sizes) more t (omega arith) (both_true (slot_formed k (get_or sizes 0 0) s t) (slots_formed (k + 1) (drop 1 sizes) more t) h).1)

whole_front : (s : List ℕ) (size : ℕ) (r : Read Definition) → read_definition s 0 ≡ r → is_whole size r ≡ true → (value_or no_definition r).front ≡ front_in s
whole_front s size (got d next) e h = sym (front_read s e)
whole_front s size (bad q place) e h = cc

taken_front : (k size : ℕ) (s : Slot) (t : List Node) → held k t ≡ true → slot_formed k size s t ≡ true → (definition_in s).front ≡ front_in s.bytes
taken_front k size s t held formed =
    let taken : slot_taken k s t ≡ true = rw held (either_true s.resident) in
    let whole : both (leb size size_limit) (is_whole size (read_definition s.bytes 0)) ≡ true = rw taken at formed in
    whole_front s.bytes size (read_definition s.bytes 0) refl (both_true (leb size size_limit) (is_whole size (read_definition s.bytes 0)) whole).1

slot_front : (ws arena : List ℕ) (k : ℕ) → slots_formed 0 (lengths_in ws) (decode ws arena).slots (nodes_in ws) ≡ true → held k (nodes_in ws) ≡ true → k < slot_count
    → (definition_in (slot_at (decode ws arena).slots k)).front ≡ front_in (slot_bytes ws arena k)
slot_front ws arena k formed held h =
    taken_front k (get_or (lengths_in ws) k 0) (slot_at (decode ws arena).slots k) (nodes_in ws) held
    (rw zero-add at (slot-formed 0 k (lengths_in ws) (decode ws arena).slots (nodes_in ws) (rw (decoded_many ws arena) h) formed))
    ∙ ap front_in (slot-bytes ws arena k h)

-- and those bytes are a readable definition
pub bytes_short : (ws arena : List ℕ) (k : ℕ) → length (slot_bytes ws arena k) ≤ size_limit
bytes_short ws arena k = simp length-take (omega arith)

whole_read : (s : List ℕ) (size : ℕ) (r : Read Definition) → read_definition s 0 ≡ r → is_whole size r ≡ true → length s ≤ size_limit → ReadableWhole s
whole_read s size (got d next) e h l = record { definition = d; past = next; reads = e; short = l }
whole_read s size (bad q place) e h l = absurd (let z : ◌≡◌ {A = ℕ} 0 1 = cc in omega arith)

taken_whole : (k size : ℕ) (s : Slot) (t : List Node) → held k t ≡ true → slot_formed k size s t ≡ true → length s.bytes ≤ size_limit → ReadableWhole s.bytes
taken_whole k size s t held formed short =
    let taken : slot_taken k s t ≡ true = rw held (either_true s.resident) in
    let whole : both (leb size size_limit) (is_whole size (read_definition s.bytes 0)) ≡ true = rw taken at formed in
    whole_read s.bytes size (read_definition s.bytes 0) refl (both_true (leb size size_limit) (is_whole size (read_definition s.bytes 0)) whole).1 short

slot_whole : (ws arena : List ℕ) (k : ℕ) → slots_formed 0 (lengths_in ws) (decode ws arena).slots (nodes_in ws) ≡ true → held k (nodes_in ws) ≡ true → k < slot_count
    → ReadableWhole (slot_bytes ws arena k)
slot_whole ws arena k formed held h =
    subst ReadableWhole (slot-bytes ws arena k h)
    (taken_whole k (get_or (lengths_in ws) k 0) (slot_at (decode ws arena).slots k) (nodes_in ws) held
    (rw zero-add at (slot-formed 0 k (lengths_in ws) (decode ws arena).slots (nodes_in ws) (rw (decoded_many ws arena) h) formed))
    (rw (slot-bytes ws arena k h) (bytes_short ws arena k)))

-- a synth at a place of the table
pub synth_ready : (ws arena : List ℕ) → Ready ws arena → (i : ℕ) → i < count_in ws → is_group (record_in ws i) ≡ false → Synth ws arena (record_in ws i)
synth_ready ws arena ready i h single =
    let r = record_in ws i in
    let found : drop i (nodes_in ws) ≡ r ∷ drop (i + 1) (nodes_in ws) = row-from (count_in ws) (region nodes_place nodes_words ws) i h in
    let a = both_true (number_formed (next_in ws) r) _ (fields_at (next_in ws) (nodes_in ws) i r (drop (i + 1) (nodes_in ws)) found ready.fields) in
    let b = both_true (leb r.run 1) _ a.1 in
    let d = both_true (leb r.slot group_slot) (row_formed r) b.1 in
    let most : r.slot ≤ group_slot = leb-true r.slot group_slot d.0 in
    let other : r.slot ≡ group_slot → ⊥ = eqb-false r.slot group_slot single in
    let low : r.slot < slot_count = omega arith in
    let row : ltb r.row most_rows ≡ true = rw single at d.1 in
    record {
      slot = low;
      row = ltb-true r.row most_rows row;
      front = slot_front ws arena r.slot ready.slots (held_at (nodes_in ws) i r (drop (i + 1) (nodes_in ws)) found) low;
      whole = slot_whole ws arena r.slot ready.slots (held_at (nodes_in ws) i r (drop (i + 1) (nodes_in ws)) found) low;
    }

-- the bytes of its definition, as they are lent
pub synth_readable : (ws arena : List ℕ) → Ready ws arena → (i : ℕ) → i < count_in ws → is_group (record_in ws i) ≡ false → {s : List ℕ} → s ≡ slot_bytes ws arena (record_in ws i).slot → Readable s
synth_readable ws arena ready i h single e = subst Readable (sym e) (whole_readable (slot_bytes ws arena (record_in ws i).slot) (synth_ready ws arena ready i h single).whole)
