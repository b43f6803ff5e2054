-- The slots after an accepted command of definitions: each follows the one before it, residents' names differ, and the slots that synths hold have
-- the bytes that they had.
use Prim.{Unit, tt}
use Rattle.std.specs.Prelude.{ℕ, ◌+◌, ◌-◌, ◌≤◌, Bool, not, ◌≡◌, length, leb}
use Rattle.std.proofs.Math.Bool.{true, false}
use Rattle.std.proofs.Math.Path.{refl, sym, ap, ap₂}
use Rattle.std.proofs.Common.{◌∙◌, arith, leb-true, ltb-false, eq-eqb}
use mathlib.Core.List.{List, [], ◌∷◌, ◌++◌}
use Rattle.words.specs.Choice.{either}
use Rattle.words.specs.ChoiceLaws.{both_true}
use Rattle.words.specs.Bytes.{AreBytes}
use Rattle.format.specs.Read.{Read}
use Rattle.format.specs.Definition.{Definition}
use Rattle.format.specs.Reader.{read_definition, read_file, size_limit, same_name, among}
use Rattle.format.specs.Writer.{write_definition}
use Rattle.format.specs.Bounds.{is_definition, are_definitions}
use Rattle.nodes.specs.declared.Node.{Node}
use Rattle.model.specs.declared.DefinitionCommand.{DefinitionCommand}
use Rattle.model.specs.declared.DefinitionCommand.TheVariants as definitions
use Rattle.model.specs.Layout.{slot_count}
use Rattle.model.specs.Engine.{Slot, Engine, name_in, slot_at, held, resident_of}
use Rattle.model.specs.Checks.{definitions_of, names_of, staying}
use Rattle.model.specs.Effects.{retired, free_from, placed, loaded, retire, definition_effect}
use Rattle.model.specs.Formed.{is_whole, name_resident, names_apart}
use Rattle.state.specs.Accepted.{DefinitionAccepted}
use Rattle.refinement.specs.Names.{same_equal, same_self}
use Rattle.refinement.specs.SlotNames.{Differ}
use Rattle.refinement.specs.Load.{file_bounded, new_slot, written_back, written_read, free_count, spot_slot, spot_resident, placed_count, held-placed, free-staying}
use Rattle.refinement.specs.DefinitionsReplay.{names-apart}
use Rattle.refinement.specs.Follow.{comes, Follow, AllLess, follow_set, less_follow, less_bytes, retired_less, retire_less}
use Rattle.refinement.specs.SlotsApart.{less_apart, retired_named, named_set, apart-set}

-- slots after, of those before
pub record Kept (slots old : List Slot) (t : List Node) : Type 0 where
  pub follow : Follow slots old
  pub apart : names_apart slots ≡ true
  pub holds : (k : ℕ) → held k t ≡ true → (slot_at slots k).bytes ≡ (slot_at old k).bytes

retired_kept : (slots old : List Slot) (t : List Node) → names_apart old ≡ true → AllLess slots old → Kept slots old t
retired_kept slots old t n f = record { follow = less_follow slots old f; apart = less_apart slots old f n; holds = λ k h. less_bytes slots old f k }

-- definitions within the bounds, each of at most 2,048 bytes
unfoldable pub DefinitionsBounded : List Definition → Type 0
DefinitionsBounded [] = Unit {0}
DefinitionsBounded (d ∷ ds) = ((is_definition d ≡ true) × (length (write_definition d) ≤ size_limit)) × DefinitionsBounded ds

all_fine : (names : List (List ℕ)) (ds : List Definition) → are_definitions names ds ≡ true → DefinitionsBounded ds
unfolding are_definitions DefinitionsBounded
all_fine names [] h = tt
all_fine names (d ∷ ds) h =
    let a = both_true (is_definition d) _ h in
    let b = both_true (leb (length (write_definition d)) size_limit) _ a.1 in
    let c = both_true (not (among d.front.name names)) _ b.1 in
    ((a.0, leb-true (length (write_definition d)) size_limit b.0), all_fine (names ++ (d.front.name ∷ [])) ds c.1)

-- a definition's writing is read back whole
written_whole : (d : Definition) → is_definition d ≡ true → is_whole (length (write_definition d)) (read_definition (write_definition d) 0) ≡ true
written_whole d h =
    ap (λ (r : Read Definition). is_whole (length (write_definition d)) r) (written_back d h)
    ∙ eq-eqb (0 + length (write_definition d)) (length (write_definition d)) (omega arith)

-- before the definitions ds go in: their names differ, no resident has one of them, and there is room
record Ready (ds : List Definition) (slots old : List Slot) (t : List Node) : Type 0 where
  kept : Kept slots old t
  fine : DefinitionsBounded ds
  differ : Differ (names_of ds)
  absent : (m : List ℕ) → among m (names_of ds) ≡ true → name_resident m slots ≡ false
  room : length ds ≤ free_count 0 slots t

module _ (d : Definition) (ds : List Definition) (slots old : List Slot) (t : List Node) (r : Ready (d ∷ ds) slots old t) where
  some_room : 1 ≤ free_count 0 slots t
  some_room = let l = r.room in omega arith

  named : name_in (new_slot d) ≡ d.front.name
  unfolding DefinitionsBounded
  named = ap (λ (x : Definition). x.front.name) (written_read d r.fine.0.0)

  new : name_resident (name_in (new_slot d)) slots ≡ false
  unfolding names_of among
  new = ap (λ (m : List ℕ). name_resident m slots) named ∙ r.absent d.front.name (ap (λ (b : Bool). either b (among d.front.name (names_of ds))) (same_self d.front.name))

  absent_next : (m : List ℕ) → among m (names_of ds) ≡ true → name_resident m (placed d slots t) ≡ false
  unfolding names_of among Differ
  absent_next m h =
      named_set m slots (free_from 0 slots t) (new_slot d) (spot_slot slots t some_room) (spot_resident slots t some_room) refl
      ∙ ap₂ (λ (a b : Bool). either a b) (ap (λ (l : List ℕ). same_name l m) named ∙ other (same_name d.front.name m) refl) (r.absent m (in_rest (same_name d.front.name m)))
    where
      other : (b : Bool) → same_name d.front.name m ≡ b → b ≡ false
      other true e = sym h ∙ ap (λ (l : List ℕ). among l (names_of ds)) (sym (same_equal d.front.name m e)) ∙ r.differ.0
      other false e = refl

      in_rest : (b : Bool) → either b (among m (names_of ds)) ≡ true
      in_rest true = refl
      in_rest false = h

  ready_next : Ready ds (placed d slots t) old t
  unfolding DefinitionsBounded Differ names_of
  ready_next = record {
    kept = record {
      follow = follow_set slots old (free_from 0 slots t) (new_slot d) r.kept.follow (λ o. comes refl r.fine.0.1 (written_whole d r.fine.0.0));
      apart = apart-set slots (free_from 0 slots t) (new_slot d) (spot_slot slots t some_room) (spot_resident slots t some_room) refl new r.kept.apart;
      holds = λ k h. ap (λ (s : Slot). s.bytes) (held-placed slots t d k some_room h) ∙ r.kept.holds k h;
    };
    fine = r.fine.1;
    differ = r.differ.1;
    absent = absent_next;
    room = let l = r.room in let c = placed_count slots t some_room d in omega arith;
  }

loaded-kept : (ds : List Definition) (slots old : List Slot) (t : List Node) → Ready ds slots old t → Kept (loaded ds slots t) old t
unfolding loaded
loaded-kept [] slots old t r = r.kept
loaded-kept (d ∷ ds) slots old t r = loaded-kept ds (placed d slots t) old t (ready_next d ds slots old t r)

pub slots_kept : (c : DefinitionCommand) (bytes : List ℕ) → AreBytes bytes → (e : Engine) → DefinitionAccepted c bytes e → length e.slots ≡ slot_count → names_apart e.slots ≡ true
    → Kept (definition_effect c bytes e).slots e.slots e.nodes
slots_kept definitions.Receive bytes b e a many n =
    let fine = file_bounded bytes b a in
    let ds = definitions_of (read_file bytes) in
    let names = names_of (definitions_of (read_file bytes)) in
    let less = retired_less names e.slots in
    let free = free-staying 0 names e.slots e.nodes in
    let fits : length ds ≤ slot_count - staying 0 names e.slots e.nodes = ltb-false (slot_count - staying 0 names e.slots e.nodes) (length ds) a.room in
    loaded-kept ds (retired names e.slots) e.slots e.nodes (record {
      kept = retired_kept (retired names e.slots) e.slots e.nodes n less;
      fine = all_fine [] ds fine;
      differ = (names-apart [] ds fine).differ;
      absent = λ m h. retired_named m names e.slots h;
      room = omega arith;
    })
slots_kept definitions.Free bytes b e a many n =
    retired_kept (retire (resident_of bytes e.slots) e.slots) e.slots e.nodes n (retire_less (resident_of bytes e.slots) e.slots)
