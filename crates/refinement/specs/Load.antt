-- A load: definitions put into the lowest free slots, one after the other.
use Prim.{Unit}
use Rattle.std.specs.Prelude.{ℕ, zero, suc, ◌+◌, ◌≤◌, ◌<◌, Bool, not, set, leb}
use Rattle.std.proofs.Math.Bool.{true, false}
use Rattle.std.proofs.Math.Path.{◌≡◌, refl, sym, ap}
use Rattle.std.proofs.Common.{ap₂, ◌∙◌, arith, get_or-set_other}
use mathlib.Core.List.{List, [], ◌∷◌, ◌++◌, append-nil}
use Rattle.std.proofs.Math.Option.{Option, none, some}
use Rattle.std.proofs.Math.ListN.{length, length-append}
use Rattle.words.specs.Choice.{pick, both, either}
use Rattle.words.specs.ChoiceLaws.{both_true, either_false}
use Rattle.words.specs.Bytes.{AreBytes}
use Rattle.format.specs.Read.{Read, got}
use Rattle.format.specs.Definition.{Definition}
use Rattle.format.specs.Reader.{most_definitions, read_definition, read_file, same_name, among}
use Rattle.format.specs.Writer.{write_definition}
use Rattle.format.specs.Bounds.{is_definition, are_definitions}
use Rattle.roundtrip.specs.Back.{definition_back}
use Rattle.roundtrip.specs.Forth.{file_forth}
use Rattle.nodes.specs.declared.Node.{Node}
use Rattle.model.specs.Engine.{Slot, Engine, no_definition, value_or, name_in, definition_in, slot_at, held, slot_taken, residents}
use Rattle.model.specs.Checks.{definitions_of, names_of, staying}
use Rattle.model.specs.Effects.{retired, free_from, placed, loaded}
use Rattle.model.specs.Searches.{free_slot}
use Rattle.model.specs.Plain.{Named, meaning, undefine, define}
use Rattle.refinement.specs.Names.{same_equal, same_self, same_sym, there, means, Once, meaning-undefine, meaning_snoc, once_undefine, once_snoc, undefine_count}
use Rattle.refinement.specs.SlotNames.{means_set, residents-set, Differ}
use Rattle.state.specs.Accepted.{FileAccepted}

-- the definitions of an accepted file are within the paper's bounds
pub file_bounded : (bytes : List ℕ) → AreBytes bytes → {e : Engine} → FileAccepted (read_file bytes) e → are_definitions [] (definitions_of (read_file bytes)) ≡ true
file_bounded bytes b a =
    let ds = definitions_of (read_file bytes) in
    (both_true (leb (length ds) most_definitions) (are_definitions [] ds) (file_forth bytes b ds a.past a.reads).bounded).1

-- a definition as it is put into a slot, and what is read from it
abbrev pub new_slot : Definition → Slot
new_slot d = record { bytes = write_definition d; resident = true }

pub written_back : (d : Definition) → is_definition d ≡ true → read_definition (write_definition d) 0 ≡ got d (0 + length (write_definition d))
written_back d h = ap (λ (l : List ℕ). read_definition l 0) (sym (append-nil (write_definition d))) ∙ definition_back d h [] []

pub written_read : (d : Definition) → is_definition d ≡ true → definition_in (new_slot d) ≡ d
written_read d h = ap (λ (r : Read Definition). value_or no_definition r) (written_back d h)

-- how many slots are free, from the slot k on
unfoldable pub free_count : ℕ → List Slot → List Node → ℕ
free_count k [] t = 0
free_count k (s ∷ more) t = pick (slot_taken k s t) 0 1 + free_count (k + 1) more t

-- the lowest free slot, where there is one: it is a slot, it is free, and it is not one that is taken
pub free_found : (k : ℕ) (slots : List Slot) (t : List Node) → 1 ≤ free_count k slots t → (k ≤ free_from k slots t) × (free_from k slots t < k + length slots)
unfolding free_from free_count
free_found k [] t h = absurd (omega arith)
free_found k (s ∷ more) t h = go (slot_taken k s t) h (λ g. free_found (k + 1) more t g)
  where
    go : (b : Bool) → 1 ≤ pick b 0 1 + free_count (k + 1) more t → (1 ≤ free_count (k + 1) more t → (k + 1 ≤ free_from (k + 1) more t) × (free_from (k + 1) more t < k + 1 + length more))
        → (k ≤ pick b (free_from (k + 1) more t) k) × (pick b (free_from (k + 1) more t) k < k + suc (length more))
    go true g ih = let i = ih (omega arith) in (omega arith, omega arith)
    go false g ih = (omega arith, omega arith)

-- how many of some names mean something in the plain tree
unfoldable pub known : List Named → List (List ℕ) → ℕ
known ms [] = 0
known ms (n ∷ names) = there (meaning n ms) + known ms names

-- a definition put into the lowest free slot leaves one free slot less
count_set : (k : ℕ) (slots : List Slot) (t : List Node) (i : ℕ) (x : Slot) → i < length slots → slot_taken (k + i) (slot_at slots i) t ≡ false → x.resident ≡ true
    → suc (free_count k (set slots i x) t) ≡ free_count k slots t
unfolding free_count
count_set k [] t i x h f r = absurd (omega arith)
count_set k (s ∷ more) t zero x h f r =
    let z : k + 0 ≡ k = omega arith in
    let here : slot_taken k s t ≡ false = ap (λ (n : ℕ). slot_taken n s t) (sym z) ∙ f in
    let there : slot_taken k x t ≡ true = ap (λ (b : Bool). either b (held k t)) r in
    let sum : suc (pick true 0 1 + free_count (k + 1) more t) ≡ pick false 0 1 + free_count (k + 1) more t = omega arith in
    ap (λ (b : Bool). suc (pick b 0 1 + free_count (k + 1) more t)) there
    ∙ sum
    ∙ ap (λ (b : Bool). pick b 0 1 + free_count (k + 1) more t) (sym here)
count_set k (s ∷ more) t (suc i) x h f r =
    let z : k + suc i ≡ k + 1 + i = omega arith in
    let ih = count_set (k + 1) more t i x (omega arith) (ap (λ (n : ℕ). slot_taken n (slot_at more i) t) (sym z) ∙ f) r in
    omega arith

-- as many slots are free after a load's retirement as do not stay taken
pub free-staying : (k : ℕ) (names : List (List ℕ)) (slots : List Slot) (t : List Node) → staying k names slots t + free_count k (retired names slots) t ≡ length slots
unfolding staying free_count retired
free-staying k names [] t = refl
free-staying k names (s ∷ more) t = go (held k t) (both s.resident (not (among (name_in s) names))) (free-staying (k + 1) names more t)
  where
    go : (p q : Bool) → staying (k + 1) names more t + free_count (k + 1) (retired names more) t ≡ length more
        → pick (either p q) 1 0 + staying (k + 1) names more t + (pick (either q p) 0 1 + free_count (k + 1) (retired names more) t) ≡ suc (length more)
    go true true ih = omega arith
    go true false ih = omega arith
    go false true ih = omega arith
    go false false ih = omega arith

-- the lowest free slot is not resident, and no synth holds it
module _ (slots : List Slot) (t : List Node) (some-free : 1 ≤ free_count 0 slots t) where
  abbrev pub spot : ℕ
  spot = free_from 0 slots t

  pub spot_slot : spot < length slots
  spot_slot = let f = free_found 0 slots t some-free in omega arith

  spot_free : slot_taken spot (slot_at slots spot) t ≡ false
  spot_free =
      let z : 0 + spot ≡ spot = omega arith in
      ap (λ (n : ℕ). slot_taken n (slot_at slots spot) t) (sym z) ∙ free_slot 0 slots t spot (sym z) spot_slot

  pub spot_resident : (slot_at slots spot).resident ≡ false
  spot_resident = (either_false (slot_at slots spot).resident (held spot t) spot_free).0

  pub spot_held : held spot t ≡ false
  spot_held = (either_false (slot_at slots spot).resident (held spot t) spot_free).1

  pub placed_count : (d : Definition) → suc (free_count 0 (placed d slots t) t) ≡ free_count 0 slots t
  placed_count d =
      let z : 0 + spot ≡ spot = omega arith in
      count_set 0 slots t spot (new_slot d) spot_slot (ap (λ (n : ℕ). slot_taken n (slot_at slots spot) t) z ∙ spot_free) refl

-- a slot that a synth holds is as it was
pub held-placed : (slots : List Slot) (t : List Node) (d : Definition) (k : ℕ) → 1 ≤ free_count 0 slots t → held k t ≡ true → slot_at (placed d slots t) k ≡ slot_at slots k
held-placed slots t d k h e =
    get_or-set_other slots (free_from 0 slots t) k (new_slot d) (record { bytes = []; resident = false })
    (λ same. let z : ◌≡◌ {A = Bool} true false = sym e ∙ ap (λ (n : ℕ). held n t) same ∙ spot_held slots t h in let q : ◌≡◌ {A = ℕ} 0 1 = cc in omega arith)

-- what must hold before the definitions ds go in: they are within bounds, their names differ and mean nothing in the slots, which have room
unfoldable pub AllDefinitions : List Definition → Type 0
AllDefinitions [] = Unit {0}
AllDefinitions (d ∷ ds) = (is_definition d ≡ true) × AllDefinitions ds

pub record Loading (ds : List Definition) (slots : List Slot) (t : List Node) (ms : List Named) : Type 0 where
  pub bounded : AllDefinitions ds
  pub differ : Differ (names_of ds)
  pub room : length ds ≤ free_count 0 slots t
  pub once : Once ms
  pub meanings : (m : List ℕ) → means m slots ≡ pick (among m (names_of ds)) none (meaning m ms)
  pub counts : length (residents slots) + known ms (names_of ds) ≡ length ms

-- names that are not the one undefined mean as much as before
known_other : (a : List ℕ) (ms : List Named) (n : Named) (names : List (List ℕ)) → Once ms → among a names ≡ false → same_name n.name a ≡ true
    → known (undefine a ms ++ (n ∷ [])) names ≡ known ms names
unfolding known among
known_other a ms n [] o h e = refl
known_other a ms n (x ∷ names) o h e =
    let d = either_false (same_name x a) (among a names) h in
    let nx : same_name n.name x ≡ false = ap (λ (l : List ℕ). same_name l x) (same_equal n.name a e) ∙ same_sym a x ∙ d.0 in
    let ax : same_name a x ≡ false = same_sym a x ∙ d.0 in
    let gone : meaning n.name (undefine a ms) ≡ none = meaning-undefine a n.name ms o ∙ ap (λ (b : Bool). pick b none (meaning n.name ms)) (same_sym a n.name ∙ e) in
    ap₂ (λ (u : Option Definition) (j : ℕ). there u + j)
    (meaning_snoc x (undefine a ms) n gone ∙ ap (λ (b : Bool). pick b (some n.definition) (meaning x (undefine a ms))) nx ∙ meaning-undefine a x ms o ∙ ap (λ (b : Bool). pick b none (meaning x ms)) ax)
    (known_other a ms n names o d.1 e)

-- one definition goes in, on both sides
module _ (d : Definition) (ds : List Definition) (slots : List Slot) (t : List Node) (ms : List Named) (l : Loading (d ∷ ds) slots t ms) where
  abbrev title : List ℕ
  title = d.front.name

  abbrev entry : Named
  entry = record { name = title; definition = d }

  some_room : 1 ≤ free_count 0 slots t
  some_room = let r = l.room in omega arith

  good : is_definition d ≡ true
  unfolding AllDefinitions
  good = l.bounded.0

  read_back : definition_in (new_slot d) ≡ d
  read_back = written_read d good

  named : name_in (new_slot d) ≡ title
  named = ap (λ (x : Definition). x.front.name) read_back

  alone : among title (names_of ds) ≡ false
  unfolding names_of Differ
  alone = l.differ.0

  self : same_name title title ≡ true
  self = same_self title

  -- the name meant nothing in the slots, since it was retired
  absent : means (name_in (new_slot d)) slots ≡ none
  unfolding names_of among
  absent = ap (λ (m : List ℕ). means m slots) named ∙ l.meanings title ∙ ap (λ (b : Bool). pick (either b (among title (names_of ds))) none (meaning title ms)) self

  undefined : meaning title (undefine title ms) ≡ none
  undefined = meaning-undefine title title ms l.once ∙ ap (λ (b : Bool). pick b none (meaning title ms)) self

  means_placed : (m : List ℕ) → means m (placed d slots t) ≡ pick (same_name title m) (some d) (means m slots)
  means_placed m =
      means_set m slots (free_from 0 slots t) (new_slot d) (spot_slot slots t some_room) (spot_resident slots t some_room) refl absent
      ∙ ap₂ (λ (n : List ℕ) (x : Definition). pick (same_name n m) (some x) (means m slots)) named read_back

  meaning_defined : (m : List ℕ) → meaning m (undefine title ms ++ (entry ∷ [])) ≡ pick (same_name title m) (some d) (pick (same_name title m) none (meaning m ms))
  meaning_defined m = meaning_snoc m (undefine title ms) entry undefined ∙ ap (λ (o : Option Definition). pick (same_name title m) (some d) o) (meaning-undefine title m ms l.once)

  next_meanings : (m : List ℕ) → means m (placed d slots t) ≡ pick (among m (names_of ds)) none (meaning m (undefine title ms ++ (entry ∷ [])))
  unfolding names_of among
  next_meanings m = means_placed m ∙ go (same_name title m) refl (among m (names_of ds)) refl ∙ ap (λ (o : Option Definition). pick (among m (names_of ds)) none o) (sym (meaning_defined m))
    where
      go : (b : Bool) → same_name title m ≡ b → (c : Bool) → among m (names_of ds) ≡ c
          → pick b (some d) (means m slots) ≡ pick (among m (names_of ds)) none (pick (same_name title m) (some d) (pick (same_name title m) none (meaning m ms)))
      go true e true f = let z : ◌≡◌ {A = Bool} true false = sym f ∙ ap (λ (x : List ℕ). among x (names_of ds)) (sym (same_equal title m e)) ∙ alone in cc
      go true e false f = sym (ap₂ (λ (c b : Bool). pick c none (pick b (some d) (pick b none (meaning m ms)))) f e)
      go false e c f =
          l.meanings m
          ∙ ap (λ (b : Bool). pick (either b (among m (names_of ds))) none (meaning m ms)) (e)
          ∙ sym (ap (λ (b : Bool). pick (among m (names_of ds)) none (pick b (some d) (pick b none (meaning m ms)))) e)

  pub loading_next : Loading ds (placed d slots t) t (undefine title ms ++ (entry ∷ []))
  unfolding AllDefinitions Differ names_of known
  loading_next = record {
    bounded = l.bounded.1;
    differ = l.differ.1;
    room = let r = l.room in let c = placed_count slots t some_room d in omega arith;
    once = once_snoc (undefine title ms) entry (once_undefine title ms l.once) undefined;
    meanings = next_meanings;
    counts =
        let r = residents-set slots (free_from 0 slots t) (new_slot d) (spot_slot slots t some_room) (spot_resident slots t some_room) refl in
        let q = known_other title ms entry (names_of ds) l.once alone self in
        let f = undefine_count title ms in
        let c = l.counts in
        let n : length (undefine title ms ++ (entry ∷ [])) ≡ length (undefine title ms) + 1 = length-append (undefine title ms) (entry ∷ []) in
        omega arith;
  }

-- a whole load
pub loaded_all : (ds : List Definition) (slots : List Slot) (t : List Node) (ms : List Named) → Loading ds slots t ms → Loading [] (loaded ds slots t) t (define ds ms)
unfolding loaded define
loaded_all [] slots t ms l = l
loaded_all (d ∷ ds) slots t ms l = loaded_all ds (placed d slots t) t (undefine d.front.name ms ++ (record { name = d.front.name; definition = d } ∷ [])) (loading_next d ds slots t ms l)

-- the slots that synths hold are as they were
pub held_loaded : (ds : List Definition) (slots : List Slot) (t : List Node) → length ds ≤ free_count 0 slots t → (k : ℕ) → held k t ≡ true → slot_at (loaded ds slots t) k ≡ slot_at slots k
unfolding loaded
held_loaded [] slots t room k h = refl
held_loaded (d ∷ ds) slots t room k h =
    held_loaded ds (placed d slots t) t (omega (arith, placed_count slots t (omega arith) d)) k h ∙ held-placed slots t d k (omega arith) h
