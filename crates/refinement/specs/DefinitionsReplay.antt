-- Loads and `/d_free`: the engine and the plain tree after them are the same again.
use Prim.{tt}
use Rattle.std.specs.Prelude.{ℕ, zero, suc, ◌+◌, ◌-◌, ◌*◌, ◌≤◌, ◌<◌, Bool, true, false, not, ◌≡◌, refl, List, [], ◌∷◌, ◌++◌, length, drop, leb, eqb}
use Rattle.std.proofs.Common.{sym, ap₂, ◌∙◌, arith, ltb-false, leb-false, eq-eqb}
use Rattle.std.proofs.Math.Path.{ap}
use Rattle.std.proofs.Math.Option.{Option, none, some}
use Rattle.std.proofs.lemmas.Bool.{not-true}
use Rattle.words.specs.Choice.{pick, both, either}
use Rattle.words.specs.ChoiceLaws.{both_true}
use Rattle.format.specs.Definition.{Definition}
use Rattle.format.specs.Reader.{same_name, among, size_limit}
use Rattle.format.specs.Writer.{write_definition}
use Rattle.format.specs.Bounds.{is_definition, are_definitions}
use Rattle.nodes.specs.declared.Node.{Node}
use Rattle.nodes.specs.Place.{is_group}
use Rattle.nodes.specs.Forest.{Forest, node, flatten}
use Rattle.nodes.specs.Forest as forest
use Rattle.treerefinement.specs.MapForest.{Each, map_each}
use Rattle.model.specs.Layout.{slot_count, row_words}
use Rattle.model.specs.Engine.{Slot, Engine, name_in, definition_in, slot_at, definition_of, controls_from, held, resident_from, resident_of}
use Rattle.model.specs.View.{group, synth, PlainNode, view_of}
use Rattle.model.specs.Formed.{names_apart}
use Rattle.model.specs.Checks.{names_of, staying, no_slot, no_resident}
use Rattle.model.specs.Effects.{retired, loaded, retire, with_slots}
use Rattle.model.specs.Plain.{Plain, Named, meaning, undefine, define, with_names}
use Rattle.preservation.specs.Slots.{resident_found}
use Rattle.model.specs.Searches.{resident_least}
use Rattle.refinement.specs.Names.{same_equal, same_self, there, means, meaning_means, meaning-undefine, once_undefine, undefine_count}
use Rattle.refinement.specs.SlotNames.{means_retired, means_retire, residents-retire, meant, Differ, residents-retired}
use Rattle.refinement.specs.Load.{known, free-staying, AllDefinitions, Loading, loaded_all, held_loaded}
use Rattle.refinement.specs.Kept.{Kept, seen_tree}

-- the names of a file's definitions differ, and so do they from those before them
among-append : (m x : List ℕ) (names : List (List ℕ)) → among m (names ++ (x ∷ [])) ≡ either (among m names) (same_name x m)
unfolding among
among-append m x [] = go (same_name x m)
  where
    go : (b : Bool) → either b false ≡ either false b
    go true = refl
    go false = refl
among-append m x (n ∷ names) = go (same_name n m) (among-append m x names)
  where
    go : (b : Bool) → among m (names ++ (x ∷ [])) ≡ either (among m names) (same_name x m) → either b (among m (names ++ (x ∷ []))) ≡ either (either b (among m names)) (same_name x m)
    go true ih = refl
    go false ih = ih

pub record Apart (names : List (List ℕ)) (ds : List Definition) : Type 0 where
  pub bounded : AllDefinitions ds
  pub differ : Differ (names_of ds)
  pub apart : (m : List ℕ) → among m names ≡ true → among m (names_of ds) ≡ false

pub names-apart : (names : List (List ℕ)) (ds : List Definition) → are_definitions names ds ≡ true → Apart names ds
unfolding are_definitions AllDefinitions Differ names_of among
names-apart names [] h = record { bounded = tt; differ = tt; apart = λ m e. refl }
names-apart names (d ∷ ds) h =
    let a = both_true (is_definition d) _ h in
    let b = both_true (leb (length (write_definition d)) size_limit) _ a.1 in
    let c = both_true (not (among d.front.name names)) _ b.1 in
    let ih = names-apart (names ++ (d.front.name ∷ [])) ds c.1 in
    let new : among d.front.name names ≡ false = not-true (among d.front.name names) c.0 in
    record {
      bounded = (a.0, ih.bounded);
      differ = (ih.apart d.front.name (among-append d.front.name d.front.name names ∙ last (among d.front.name names) (same_name d.front.name d.front.name) (same_self d.front.name)), ih.differ);
      apart = λ m e.
          let other : same_name d.front.name m ≡ false = unlike m e new (same_name d.front.name m) refl in
          ap₂ (λ (p q : Bool). either p q) other (ih.apart m (among-append m d.front.name names ∙ ap (λ (p : Bool). either p (same_name d.front.name m)) e));
    }
  where
    last : (p q : Bool) → q ≡ true → either p q ≡ true
    last true q e = refl
    last false q e = e

    unlike : (m : List ℕ) → among m names ≡ true → among d.front.name names ≡ false → (b : Bool) → same_name d.front.name m ≡ b → b ≡ false
    unlike m f g true e = sym f ∙ ap (λ (x : List ℕ). among x names) (sym (same_equal d.front.name m e)) ∙ g
    unlike m f g false e = refl

-- of a tree of records, each item's slot is held where the tree's are
held-append : (k : ℕ) (a b : List Node) → held k (a ++ b) ≡ either (held k a) (held k b)
unfolding held
held-append k [] b = refl
held-append k (r ∷ a) b = go (eqb r.slot k) (held-append k a b)
  where
    go : (p : Bool) → held k (a ++ b) ≡ either (held k a) (held k b) → either p (held k (a ++ b)) ≡ either (either p (held k a)) (held k b)
    go true ih = refl
    go false ih = ih

pub each_held : (d : ℕ) (f : Forest Node) (t : List Node) → ((k : ℕ) → held k (flatten d f) ≡ true → held k t ≡ true) → Each (λ (x : Node). held x.slot t ≡ true) f
unfolding Each flatten held
each_held d forest.none t h = tt
each_held d (node x b a) t h = (
  h x.slot (ap (λ (p : Bool). either p (held x.slot (flatten (d + 1) b ++ flatten d a))) (eq-eqb x.slot x.slot refl)),
  each_held (d + 1) b t (λ k e. h k (in_right (eqb x.slot k) (held k (flatten (d + 1) b ++ flatten d a)) (held-append k (flatten (d + 1) b) (flatten d a) ∙ ap (λ (p : Bool). either p (held k (flatten d a))) e))),
  each_held d a t (λ k e. h k (in_right (eqb x.slot k) (held k (flatten (d + 1) b ++ flatten d a)) (held-append k (flatten (d + 1) b) (flatten d a) ∙ in_right (held k (flatten (d + 1) b)) (held k (flatten d a)) e))),
)
  where
    in_right : (p q : Bool) → q ≡ true → either p q ≡ true
    in_right true q e = refl
    in_right false q e = e

-- a property of every item that gives another
pub each_more : {P Q : Node → Type 0} → ((x : Node) → P x → Q x) → (f : Forest Node) → Each P f → Each Q f
unfolding Each
each_more g forest.none e = tt
each_more g (node x b a) e = (g x e.0, each_more g b e.1, each_more g a e.2)

-- a record whose slot's bytes are as they were is seen alike
pub bytes_alike : (before after : List Slot) (controls : List ℕ) (x : Node) → (slot_at after x.slot).bytes ≡ (slot_at before x.slot).bytes → view_of before controls x ≡ view_of after controls x
bytes_alike before after controls x e =
    let d : definition_of before x ≡ definition_of after x = ap (λ (l : List ℕ). definition_in (record { bytes = l; resident = true })) (sym e) in
    ap (λ (y : Definition). view_as y) d
  where
    view_as : Definition → PlainNode
    view_as y = record { number = x.number; run = x.run; kind = pick (is_group x) group (synth y (controls_from (length y.front.values) (drop (row_words * x.row) controls))) }

-- slots whose held bytes are as they were are seen alike
pub seen_alike : (before after : List Slot) (controls : List ℕ) (f : Forest Node) (t : List Node) → t ≡ flatten 0 f
    → ((k : ℕ) → held k t ≡ true → (slot_at after k).bytes ≡ (slot_at before k).bytes) → seen_tree before controls f ≡ seen_tree after controls f
seen_alike before after controls f t laid same =
    map_each (view_of before controls) (view_of after controls) f
    (each_more (λ x e. bytes_alike before after controls x (same x.slot e)) f (each_held 0 f t (λ k e. ap (λ (l : List Node). held k l) laid ∙ e)))

-- a load's retirement leaves the bytes
pub retired_bytes : (names : List (List ℕ)) (slots : List Slot) (k : ℕ) → (slot_at (retired names slots) k).bytes ≡ (slot_at slots k).bytes
unfolding retired
retired_bytes names [] k = refl
retired_bytes names (s ∷ more) zero = refl
retired_bytes names (s ∷ more) (suc k) = retired_bytes names more k

-- as many of the file's names mean something on both sides
meant_known : (names : List (List ℕ)) (slots : List Slot) (ms : List Named) → ((m : List ℕ) → means m slots ≡ meaning m ms) → meant names slots ≡ known ms names
unfolding meant known
meant_known [] slots ms h = refl
meant_known (n ∷ names) slots ms h = ap₂ (λ (o : Option Definition) (j : ℕ). there o + j) (h n) (meant_known names slots ms h)

-- the resident that is found has the name
resident_name : (k j : ℕ) (name : List ℕ) (slots : List Slot) → resident_from k name slots ≡ k + j → j < length slots → same_name (name_in (slot_at slots j)) name ≡ true
unfolding resident_from
resident_name k j name [] e h = absurd (omega arith)
resident_name k zero name (s ∷ more) e h = go (both s.resident (same_name (name_in s) name)) refl e
  where
    go : (b : Bool) → both s.resident (same_name (name_in s) name) ≡ b → pick b k (resident_from (k + 1) name more) ≡ k + 0 → same_name (name_in s) name ≡ true
    go true f g = (both_true s.resident (same_name (name_in s) name) f).1
    go false f g = absurd (omega (arith, resident_least (k + 1) name more))
resident_name k (suc j) name (s ∷ more) e h = go (both s.resident (same_name (name_in s) name)) e (λ f. resident_name (k + 1) j name more f (omega arith))
  where
    go : (b : Bool) → pick b k (resident_from (k + 1) name more) ≡ k + suc j → (resident_from (k + 1) name more ≡ k + 1 + j → same_name (name_in (slot_at more j)) name ≡ true) → same_name (name_in (slot_at more j)) name ≡ true
    go true g ih = absurd (omega arith)
    go false g ih = ih (omega arith)

-- and the name means something
means_there : (name : List ℕ) (slots : List Slot) (j : ℕ) → j < length slots → (slot_at slots j).resident ≡ true → same_name (name_in (slot_at slots j)) name ≡ true → there (means name slots) ≡ 1
unfolding means
means_there name [] j h r n = absurd (omega arith)
means_there name (s ∷ more) zero h r n = ap₂ (λ (p q : Bool). there (pick (both p q) (some (definition_in s)) (means name more))) r n
means_there name (s ∷ more) (suc j) h r n = go (both s.resident (same_name (name_in s) name)) (means_there name more j (omega arith) r n)
  where
    go : (b : Bool) → there (means name more) ≡ 1 → there (pick b (some (definition_in s)) (means name more)) ≡ 1
    go true ih = refl
    go false ih = ih

-- a retired slot's bytes stay
pub set_bytes : (slots : List Slot) (j i : ℕ) → (slot_at (retire j slots) i).bytes ≡ (slot_at slots i).bytes
set_bytes [] j i = refl
set_bytes (s ∷ more) zero zero = refl
set_bytes (s ∷ more) zero (suc i) = refl
set_bytes (s ∷ more) (suc j) zero = refl
set_bytes (s ∷ more) (suc j) (suc i) = set_bytes more j i

module _ (e : Engine) (p : Plain) (k : Kept e p) (apart : names_apart e.slots ≡ true) where
  meanings : (m : List ℕ) → means m e.slots ≡ meaning m p.names
  meanings m = sym (meaning_means m e.slots) ∙ k.names m

  -- before the definitions of an accepted file go in
  pub loading : (ds : List Definition) → are_definitions [] ds ≡ true → no_slot ds e ≡ false → length e.slots ≡ slot_count
      → Loading ds (retired (names_of ds) e.slots) e.nodes p.names
  loading ds h slot many =
      let a = names-apart [] ds h in
      let stays_free = free-staying 0 (names_of ds) e.slots e.nodes in
      let fits : length ds ≤ slot_count - staying 0 (names_of ds) e.slots e.nodes = ltb-false (slot_count - staying 0 (names_of ds) e.slots e.nodes) (length ds) slot in
      record {
        bounded = a.bounded;
        differ = a.differ;
        room = omega arith;
        once = k.once;
        meanings = λ m. means_retired m (names_of ds) e.slots ∙ ap (λ (o : Option Definition). pick (among m (names_of ds)) none o) (meanings m);
        counts =
            let r = residents-retired (names_of ds) e.slots a.differ apart in
            let q = meant_known (names_of ds) e.slots p.names meanings in
            let c = k.name_count in
            omega arith;
      }

  -- "`/d_recv` gives each name in the file its definition there .. Synths keep theirs."
  pub load_replayed : (ds : List Definition) → are_definitions [] ds ≡ true → no_slot ds e ≡ false → length e.slots ≡ slot_count
      → Kept (with_slots (loaded ds (retired (names_of ds) e.slots) e.nodes) e) (with_names (define ds p.names) p)
  unfolding names_of known among
  load_replayed ds h slot many =
      let l = loading ds h slot many in
      let done = loaded_all ds (retired (names_of ds) e.slots) e.nodes p.names l in
      let slots = loaded ds (retired (names_of ds) e.slots) e.nodes in
      record {
        forest = k.forest;
        laid = k.laid;
        leaves = k.leaves;
        tree = k.tree
            ∙ seen_alike e.slots slots e.controls k.forest e.nodes k.laid
            (λ j held-j. ap (λ (s : Slot). s.bytes) (held_loaded ds (retired (names_of ds) e.slots) e.nodes l.room j held-j) ∙ retired_bytes (names_of ds) e.slots j);
        names = λ m. meaning_means m slots ∙ done.meanings m;
        name_count = let c = done.counts in omega arith;
        once = done.once;
        next = k.next;
        latest = k.latest;
        buses = k.buses;
        ordered = k.ordered;
      }

  -- "`/d_free` takes the name away."
  pub retire_replayed : (name : List ℕ) → no_resident name e ≡ false → Kept (with_slots (retire (resident_of name e.slots) e.slots) e) (with_names (undefine name p.names) p)
  retire_replayed name h =
      let j = resident_of name e.slots in
      let low : j < length e.slots = leb-false (length e.slots) j h in
      let resident : (slot_at e.slots j).resident ≡ true = resident_found name e.slots h in
      let named : same_name (name_in (slot_at e.slots j)) name ≡ true = resident_name 0 j name e.slots (omega arith) low in
      let gone : Slot = record { bytes = (slot_at e.slots j).bytes; resident = false } in
      let slots = retire j e.slots in
      let says : (m : List ℕ) → means m slots ≡ pick (same_name name m) none (means m e.slots) = λ m. means_retire name m e.slots j gone apart refl low resident named in
      let heard : means name e.slots ≡ meaning name p.names = meanings name in
      let one : there (meaning name p.names) ≡ 1 = ap (λ (o : Option Definition). there o) (sym heard) ∙ means_there name e.slots j low resident named in
      record {
        forest = k.forest;
        laid = k.laid;
        leaves = k.leaves;
        tree = k.tree ∙ seen_alike e.slots slots e.controls k.forest e.nodes k.laid (λ i held-i. set_bytes e.slots j i);
        names = λ m. meaning_means m slots ∙ says m ∙ ap (λ (o : Option Definition). pick (same_name name m) none o) (meanings m) ∙ sym (meaning-undefine name m p.names k.once);
        name_count =
            let r = residents-retire e.slots j gone low resident refl in
            let f = undefine_count name p.names in
            let c = k.name_count in
            omega arith;
        once = once_undefine name p.names k.once;
        next = k.next;
        latest = k.latest;
        buses = k.buses;
        ordered = k.ordered;
      }
