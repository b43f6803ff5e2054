-- The rule on slots is kept where no slot becomes taken; and a new synth takes a resident's slot.
use Rattle.std.specs.Prelude.{ℕ, zero, suc, ◌+◌, ◌<◌, Bool, true, false, not, ◌≡◌, refl, List, [], ◌∷◌, length, drop, get_or, leb, eqb}
use Rattle.std.proofs.Common.{sym, ap, ap₂, ◌∙◌, arith, leb-false, eqb-true}
use Rattle.std.proofs.lemmas.Bool.{not-true}
use Rattle.words.specs.Choice.{pick, both, either}
use Rattle.words.specs.ChoiceLaws.{both_true}
use Rattle.format.specs.Reader.{read_definition, size_limit, same_name}
use Rattle.format.specs.Bounds.{every}
use Rattle.nodes.specs.declared.Node.{Node}
use Rattle.treerefinement.specs.Tally.{Grown}
use Rattle.model.specs.Layout.{slot_count}
use Rattle.model.specs.Engine.{Slot, name_in, slot_at, held, slot_taken, resident_from, resident_of}
use Rattle.model.specs.Searches.{resident_least}
use Rattle.model.specs.Formed.{is_whole, slot_formed, slots_formed}
use Rattle.preservation.specs.Every.{Fewer, every_fewer, every_grown}

-- no slot is taken that was not
abbrev NoMore : ℕ → List Slot → List Node → List Node → Type 0
NoMore k slots after before = (i : ℕ) → i < length slots → slot_taken (k + i) (slot_at slots i) after ≡ true → slot_taken (k + i) (slot_at slots i) before ≡ true

pub slots_kept : (k : ℕ) (sizes : List ℕ) (slots : List Slot) (after before : List Node) → NoMore k slots after before
    → slots_formed k sizes slots before ≡ true → slots_formed k sizes slots after ≡ true
unfolding slots_formed
slots_kept k sizes [] after before n h = refl
slots_kept k sizes (s ∷ more) after before n h =
    let w = both_true (slot_formed k (get_or sizes 0 0) s before) (slots_formed (k + 1) (drop 1 sizes) more before) h in
    ap₂ (λ (a b : Bool). both a b)
    (go (slot_taken k s after) (slot_taken k s before) (λ e. first e) w.0)
    (slots_kept (k + 1) (drop 1 sizes) more after before (λ i l e. let same : k + 1 + i ≡ k + suc i = omega arith in rw same (n (suc i) (omega arith) (rw same at e))) w.1)
  where
    first : slot_taken k s after ≡ true → slot_taken k s before ≡ true
    first e = let same : k + 0 ≡ k = omega arith in rw same at (n 0 (omega arith) (rw same e))

    go : (a b : Bool) → (a ≡ true → b ≡ true) → pick b (both (leb (get_or sizes 0 0) size_limit) (is_whole (get_or sizes 0 0) (read_definition s.bytes 0))) true ≡ true
        → pick a (both (leb (get_or sizes 0 0) size_limit) (is_whole (get_or sizes 0 0) (read_definition s.bytes 0))) true ≡ true
    go true true f e = e
    go true false f e = let q : false ≡ true = f refl in cc
    go false b f e = refl

-- a slot is not held: every node holds another
abbrev elsewhere : ℕ → Node → Bool
elsewhere k r = not (eqb r.slot k)

held-every : (k : ℕ) (t : List Node) → not (held k t) ≡ every (elsewhere k) t
unfolding held every
held-every k [] = refl
held-every k (r ∷ l) = go (held-every k l) (eqb r.slot k)
  where
    go : not (held k l) ≡ every (elsewhere k) l → (b : Bool) → not (either b (held k l)) ≡ both (not b) (every (elsewhere k) l)
    go ih true = refl
    go ih false = ih

-- a slot that is held after was held before
module _ (k : ℕ) (after before : List Node) where
  backwards : (every (elsewhere k) before ≡ true → every (elsewhere k) after ≡ true) → held k after ≡ true → held k before ≡ true
  backwards f h = go (held k before) refl
    where
      go : (b : Bool) → held k before ≡ b → b ≡ true
      go true e = refl
      go false e =
          let none : not (held k after) ≡ true = held-every k after ∙ f (sym (held-every k before) ∙ ap not e) in
          let gone : held k after ≡ false = not-true (held k after) none in
          cc

  held_fewer : Fewer after before → held k after ≡ true → held k before ≡ true
  held_fewer f h = backwards (λ e. every_fewer (elsewhere k) (λ d r. refl) (λ flag r. refl) f e) h

  held_grown : (x : Node) → Grown (x ∷ []) after before → eqb x.slot k ≡ false → held k after ≡ true → held k before ≡ true
  held_grown x g e h = backwards (λ q. every_grown (elsewhere k) (λ d r. refl) x g q (ap not e)) h

taken_by : (b p q : Bool) → (p ≡ true → q ≡ true) → either b p ≡ true → either b q ≡ true
taken_by true p q f h = refl
taken_by false p q f h = f h

-- the rule after an edit that leaves no more of anything
module _ (sizes : List ℕ) (slots : List Slot) where
  pub slots_fewer : {after before : List Node} → Fewer after before → slots_formed 0 sizes slots before ≡ true → slots_formed 0 sizes slots after ≡ true
  slots_fewer {after} {before} f h =
      slots_kept 0 sizes slots after before (λ i l e. taken_by (slot_at slots i).resident (held (0 + i) after) (held (0 + i) before) (held_fewer (0 + i) after before f) e) h

  -- .. and after one new node: a group, or a synth of a resident
  pub slots_grown : (x : Node) {after before : List Node} → Grown (x ∷ []) after before → length slots ≡ slot_count → (x.slot < slot_count → (slot_at slots x.slot).resident ≡ true)
      → slots_formed 0 sizes slots before ≡ true → slots_formed 0 sizes slots after ≡ true
  slots_grown x {after} {before} g many live h = slots_kept 0 sizes slots after before (λ i l e. go i l e (eqb x.slot (0 + i)) refl) h
    where
      go : (i : ℕ) → i < length slots → slot_taken (0 + i) (slot_at slots i) after ≡ true → (b : Bool) → eqb x.slot (0 + i) ≡ b → slot_taken (0 + i) (slot_at slots i) before ≡ true
      go i l e true q =
          let same : x.slot ≡ i = omega (arith, eqb-true x.slot (0 + i) q) in
          let there : (slot_at slots i).resident ≡ true = rw same at (live (omega arith)) in
          rw there
      go i l e false q = taken_by (slot_at slots i).resident (held (0 + i) after) (held (0 + i) before) (held_grown (0 + i) after before x g q) e

-- what is found by a name is resident
resident_there : (k i : ℕ) (name : List ℕ) (slots : List Slot) → resident_from k name slots ≡ k + i → i < length slots → (slot_at slots i).resident ≡ true
unfolding resident_from
resident_there k i name [] e h = absurd (omega arith)
resident_there k zero name (s ∷ more) e h = go (both s.resident (same_name (name_in s) name)) refl e
  where
    go : (b : Bool) → both s.resident (same_name (name_in s) name) ≡ b → pick b k (resident_from (k + 1) name more) ≡ k + 0 → s.resident ≡ true
    go true p q = (both_true s.resident (same_name (name_in s) name) p).0
    go false p q = absurd (omega (arith, resident_least (k + 1) name more))
resident_there k (suc i) name (s ∷ more) e h =
    go (both s.resident (same_name (name_in s) name)) e (λ q. resident_there (k + 1) i name more q (omega arith))
  where
    go : (b : Bool) → pick b k (resident_from (k + 1) name more) ≡ k + suc i → (resident_from (k + 1) name more ≡ k + 1 + i → (slot_at more i).resident ≡ true)
        → (slot_at more i).resident ≡ true
    go true q ih = absurd (omega arith)
    go false q ih = ih (omega arith)

pub resident_found : (name : List ℕ) (slots : List Slot) → leb (length slots) (resident_of name slots) ≡ false → (slot_at slots (resident_of name slots)).resident ≡ true
resident_found name slots h =
    let low = leb-false (length slots) (resident_of name slots) h in
    resident_there 0 (resident_of name slots) name slots (omega arith) low
