-- Slots after a command of definitions against those before it: each stays, maybe retired, or has a new definition. Such slots can be put in, and
-- keep the rule on slots.
use Prim.{Unit, tt}
use Rattle.std.specs.Prelude.{ℕ, zero, suc, ◌+◌, ◌*◌, ◌≤◌, Bool, true, false, not, ◌≡◌, refl, List, [], ◌∷◌, length, drop, get_or, set, leb, eqb}
use Rattle.std.proofs.Common.{sym, ap, ap₂, ◌∙◌, arith, leb-true, le-leb, eq-eqb}
use Rattle.words.specs.Choice.{pick, both, either}
use Rattle.words.specs.ChoiceLaws.{both_true}
use Rattle.format.specs.Reader.{read_definition, size_limit, among}
use Rattle.nodes.specs.declared.Node.{Node}
use Rattle.nodes.specs.Place.{is_group}
use Rattle.model.specs.Layout.{row_words, start_of, slot_in}
use Rattle.model.specs.Engine.{Slot, no_definition, value_or, name_in, slot_at, held, slots_from}
use Rattle.model.specs.Effects.{retired, retire}
use Rattle.model.specs.After.{flags_of, lengths_of}
use Rattle.model.specs.Formed.{is_whole, slot_formed, slots_formed, flags_formed, mappings_formed, controls_formed}
use Rattle.slots.specs.Arena.{slot_most, slot_size, Backed, flag_back}

-- a slot after, of one before: it stays, maybe retired, or it is resident with the bytes of a whole definition
pub data Follows (s o : Slot) : Type 0 where
  stays : s.bytes ≡ o.bytes → (s.resident ≡ true → o.resident ≡ true) → Follows s o
  comes : s.resident ≡ true → length s.bytes ≤ size_limit → is_whole (length s.bytes) (read_definition s.bytes 0) ≡ true → Follows s o

unfoldable pub Follow : List Slot → List Slot → Type 0
Follow [] [] = Unit {0}
Follow [] (o ∷ old) = ⊥
Follow (s ∷ more) [] = ⊥
Follow (s ∷ more) (o ∷ old) = Follows s o × Follow more old

pub follow_length : (slots old : List Slot) → Follow slots old → length slots ≡ length old
unfolding Follow
follow_length [] [] f = refl
follow_length [] (o ∷ old) f = absurd f
follow_length (s ∷ more) [] f = absurd f
follow_length (s ∷ more) (o ∷ old) f = ap suc (follow_length more old f.1)

-- one slot replaced
pub follow_set : (slots old : List Slot) (j : ℕ) (x : Slot) → Follow slots old → ((o : Slot) → Follows x o) → Follow (set slots j x) old
unfolding Follow
follow_set [] [] j x f g = tt
follow_set [] (o ∷ old) j x f g = absurd f
follow_set (s ∷ more) [] j x f g = absurd f
follow_set (s ∷ more) (o ∷ old) zero x f g = (g o, f.1)
follow_set (s ∷ more) (o ∷ old) (suc j) x f g = (f.0, follow_set more old j x f.1 g)

-- each slot as it was, but maybe retired
abbrev Less : Slot → Slot → Type 0
Less s o = (s.bytes ≡ o.bytes) × (s.resident ≡ true → o.resident ≡ true)

unfoldable pub AllLess : List Slot → List Slot → Type 0
AllLess [] [] = Unit {0}
AllLess [] (o ∷ old) = ⊥
AllLess (s ∷ more) [] = ⊥
AllLess (s ∷ more) (o ∷ old) = Less s o × AllLess more old

pub same_less : (slots : List Slot) → AllLess slots slots
unfolding AllLess
same_less [] = tt
same_less (s ∷ more) = ((refl, λ h. h), same_less more)

pub retired_less : (names : List (List ℕ)) (slots : List Slot) → AllLess (retired names slots) slots
unfolding AllLess retired
retired_less names [] = tt
retired_less names (s ∷ more) = ((refl, λ h. (both_true s.resident (not (among (name_in s) names)) h).0), retired_less names more)

pub retire_less : (k : ℕ) (slots : List Slot) → AllLess (retire k slots) slots
unfolding AllLess
retire_less k [] = tt
retire_less zero (s ∷ more) = ((refl, λ h. cc), same_less more)
retire_less (suc k) (s ∷ more) = ((refl, λ h. h), retire_less k more)

pub less_follow : (slots old : List Slot) → AllLess slots old → Follow slots old
unfolding AllLess Follow
less_follow [] [] f = tt
less_follow [] (o ∷ old) f = f
less_follow (s ∷ more) [] f = f
less_follow (s ∷ more) (o ∷ old) f = (stays f.0.0 f.0.1, less_follow more old f.1)

pub less_bytes : (slots old : List Slot) → AllLess slots old → (k : ℕ) → (slot_at slots k).bytes ≡ (slot_at old k).bytes
unfolding AllLess
less_bytes [] [] f k = refl
less_bytes [] (o ∷ old) f k = absurd f
less_bytes (s ∷ more) [] f k = absurd f
less_bytes (s ∷ more) (o ∷ old) f zero = f.0.0
less_bytes (s ∷ more) (o ∷ old) f (suc k) = less_bytes more old f.1 k

-- flags are 0 or 1
pub flags_right : (slots : List Slot) → flags_formed (flags_of slots) ≡ true
unfolding flags_formed flags_of
flags_right [] = refl
flags_right (s ∷ more) = go s.resident (flags_right more)
  where
    go : (b : Bool) → flags_formed (flags_of more) ≡ true → both (leb (pick b 1 0) 1) (flags_formed (flags_of more)) ≡ true
    go true h = h
    go false h = h

-- such slots can be put in
pub follow_backed : (k n : ℕ) (slots : List Slot) (lengths flags arena : List ℕ) → Follow slots (slots_from k n lengths flags arena) → Backed slots (slots_from k n lengths flags arena)
unfolding Follow Backed slots_from
follow_backed k zero [] lengths flags arena f = tt
follow_backed k zero (s ∷ more) lengths flags arena f = absurd f
follow_backed k (suc n) [] lengths flags arena f = absurd f
follow_backed k (suc n) (s ∷ more) lengths flags arena f =
    (go f.0, follow_backed (k + 1) n more (drop 1 lengths) (drop 1 flags) arena f.1)
  where
    o : Slot
    o = record { bytes = slot_in arena k (get_or lengths 0 0); resident = eqb (get_or flags 0 0) 1 }

    go : Follows s o → (s.resident ≡ true → length s.bytes ≤ size_limit) × (s.resident ≡ false → s.bytes ≡ slot_in arena k (get_or lengths 0 0))
    go (stays e r) = ((λ h. rw e (slot_most arena k (get_or lengths 0 0))), (λ h. e))
    go (comes r l w) = ((λ h. l), (λ h. let z : ◌≡◌ {A = Bool} true false = sym r ∙ h in cc))

-- what is asked of a taken slot's length and bytes
abbrev whole_slot : ℕ → List ℕ → Bool
whole_slot size bytes = both (leb size size_limit) (is_whole size (read_definition bytes 0))

whole_by : (size size' : ℕ) (bytes bytes' : List ℕ) → size ≡ size' → bytes ≡ bytes' → whole_slot size' bytes' ≡ true → whole_slot size bytes ≡ true
whole_by size size' bytes bytes' p q h = ap₂ (λ (n : ℕ) (l : List ℕ). whole_slot n l) p q ∙ h

-- the rule on slots, with the lengths after
pub follow_formed : (k n : ℕ) (slots : List Slot) (lengths flags arena : List ℕ) (t : List Node) → start_of (k + n) ≤ length arena → Follow slots (slots_from k n lengths flags arena)
    → slots_formed k lengths (slots_from k n lengths flags arena) t ≡ true → slots_formed k (lengths_of slots lengths) slots t ≡ true
unfolding Follow slots_from slots_formed lengths_of
follow_formed k zero [] lengths flags arena t long f h = refl
follow_formed k zero (s ∷ more) lengths flags arena t long f h = absurd f
follow_formed k (suc n) [] lengths flags arena t long f h = absurd f
follow_formed k (suc n) (s ∷ more) lengths flags arena t long f h =
    let w = both_true (slot_formed k (get_or lengths 0 0) o t) _ h in
    ap₂ (λ (a b : Bool). both a b) (go f.0 s.resident refl w.0)
    (follow_formed (k + 1) n more (drop 1 lengths) (drop 1 flags) arena t (omega arith) f.1 w.1)
  where
    o : Slot
    o = record { bytes = slot_in arena k (get_or lengths 0 0); resident = eqb (get_or flags 0 0) 1 }

    kept : (p q : Bool) → s.bytes ≡ o.bytes → pick (either p q) (whole_slot (get_or lengths 0 0) o.bytes) true ≡ true → pick q (whole_slot (get_or lengths 0 0) s.bytes) true ≡ true
    kept p false e g = refl
    kept true true e g = whole_by (get_or lengths 0 0) (get_or lengths 0 0) s.bytes o.bytes refl e g
    kept false true e g = whole_by (get_or lengths 0 0) (get_or lengths 0 0) s.bytes o.bytes refl e g

    go : Follows s o → (r : Bool) → s.resident ≡ r → slot_formed k (get_or lengths 0 0) o t ≡ true
        → pick (either r (held k t)) (whole_slot (pick r (length s.bytes) (get_or lengths 0 0)) s.bytes) true ≡ true
    go (stays e r) true q g =
        let whole : whole_slot (get_or lengths 0 0) o.bytes ≡ true = ap (λ (b : Bool). pick (either b (held k t)) (whole_slot (get_or lengths 0 0) o.bytes) true) (sym (r q)) ∙ g in
        let small : get_or lengths 0 0 ≤ size_limit = leb-true (get_or lengths 0 0) size_limit (both_true (leb (get_or lengths 0 0) size_limit) _ whole).0 in
        let size : length s.bytes ≡ get_or lengths 0 0 = ap length e ∙ slot_size arena k (get_or lengths 0 0) (omega arith) small in
        whole_by (length s.bytes) (get_or lengths 0 0) s.bytes o.bytes size e whole
    go (stays e r) false q g = kept o.resident (held k t) e g
    go (comes r l w) true q g = rw (le-leb (length s.bytes) size_limit l) w
    go (comes r l w) false q g = let z : ◌≡◌ {A = Bool} true false = sym r ∙ q in cc

-- slots of which some are retired: read back by their flags, and the rule on slots with the lengths as they were
pub less_back : (k n : ℕ) (slots : List Slot) (lengths flags arena : List ℕ) → AllLess slots (slots_from k n lengths flags arena) → slots_from k n lengths (flags_of slots) arena ≡ slots
unfolding AllLess slots_from flags_of
less_back k zero [] lengths flags arena f = refl
less_back k zero (s ∷ more) lengths flags arena f = absurd f
less_back k (suc n) [] lengths flags arena f = absurd f
less_back k (suc n) (s ∷ more) lengths flags arena f =
    ap₂ (λ (r : Bool) (l : List Slot). record { bytes = slot_in arena k (get_or lengths 0 0); resident = r } ∷ l) (flag_back s.resident)
    (less_back (k + 1) n more (drop 1 lengths) (drop 1 flags) arena f.1)
    ∙ ap (λ (l : List ℕ). record { bytes = l; resident = s.resident } ∷ more) (sym f.0.0)

pub less_formed : (k : ℕ) (slots old : List Slot) (lengths : List ℕ) (t : List Node) → AllLess slots old → slots_formed k lengths old t ≡ true → slots_formed k lengths slots t ≡ true
unfolding AllLess slots_formed
less_formed k [] [] lengths t f h = refl
less_formed k [] (o ∷ old) lengths t f h = absurd f
less_formed k (s ∷ more) [] lengths t f h = absurd f
less_formed k (s ∷ more) (o ∷ old) lengths t f h =
    let w = both_true (slot_formed k (get_or lengths 0 0) o t) _ h in
    ap₂ (λ (a b : Bool). both a b)
    (ap (λ (bytes : List ℕ). pick (either s.resident (held k t)) (whole_slot (get_or lengths 0 0) bytes) true) f.0.0
    ∙ taken s.resident o.resident (held k t) (whole_slot (get_or lengths 0 0) o.bytes) f.0.1 w.0)
    (less_formed (k + 1) more old (drop 1 lengths) t f.1 w.1)
  where
    taken : (r p q x : Bool) → (r ≡ true → p ≡ true) → pick (either p q) x true ≡ true → pick (either r q) x true ≡ true
    taken true p q x e g = ap (λ (b : Bool). pick (either b q) x true) (sym (e refl)) ∙ g
    taken false p false x e g = refl
    taken false true true x e g = g
    taken false false true x e g = g

-- the controls of synths, where the bytes of the slots that they hold are as they were
pub controls_held : (slots old : List Slot) (controls : List ℕ) (t : List Node) → ((k : ℕ) → held k t ≡ true → (slot_at slots k).bytes ≡ (slot_at old k).bytes)
    → controls_formed slots controls t ≡ controls_formed old controls t
unfolding controls_formed held
controls_held slots old controls [] h = refl
controls_held slots old controls (r ∷ l) h =
    ap₂ (λ (bytes : List ℕ) (b : Bool). both (pick (is_group r) true (mappings_formed (length (value_or no_definition (read_definition bytes 0)).front.values) (drop (row_words * r.row) controls))) b)
    (h r.slot (ap (λ (b : Bool). either b (held r.slot l)) (eq-eqb r.slot r.slot refl)))
    (controls_held slots old controls l (λ k e. h k (in_rest (eqb r.slot k) (held k l) e)))
  where
    in_rest : (b q : Bool) → q ≡ true → either b q ≡ true
    in_rest true q e = refl
    in_rest false q e = e
