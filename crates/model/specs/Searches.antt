-- Laws of the searches along the slots: what is found lies no lower than where the search starts, and is what is looked for.
use Rattle.std.specs.Prelude.{ℕ, zero, suc, ◌+◌, ◌≤◌, ◌<◌, Bool, true, false, ◌≡◌, refl, List, [], ◌∷◌, length}
use Rattle.std.proofs.Common.{ap, ◌∙◌, arith}
use Rattle.words.specs.Choice.{pick, both}
use Rattle.format.specs.Reader.{same_name}
use Rattle.nodes.specs.declared.Node.{Node}
use Rattle.model.specs.Engine.{Slot, name_in, slot_at, slot_taken, resident_from}
use Rattle.model.specs.Effects.{free_from}

-- the resident of a name
pub resident_least : (k : ℕ) (name : List ℕ) (slots : List Slot) → k ≤ resident_from k name slots
unfolding resident_from
resident_least k name [] = omega arith
resident_least k name (s ∷ more) = go (both s.resident (same_name (name_in s) name)) (resident_least (k + 1) name more)
  where
    go : (b : Bool) → k + 1 ≤ resident_from (k + 1) name more → k ≤ pick b k (resident_from (k + 1) name more)
    go true ih = omega arith
    go false ih = omega arith

-- the lowest free slot
pub free_least : (k : ℕ) (slots : List Slot) (t : List Node) → k ≤ free_from k slots t
unfolding free_from
free_least k [] t = omega arith
free_least k (s ∷ more) t = go (slot_taken k s t) (free_least (k + 1) more t)
  where
    go : (b : Bool) → k + 1 ≤ free_from (k + 1) more t → k ≤ pick b (free_from (k + 1) more t) k
    go true ih = omega arith
    go false ih = omega arith

-- the slot at the place k + i, where it stands at i in a list that starts at k
pub free_slot : (k : ℕ) (slots : List Slot) (t : List Node) (i : ℕ) → free_from k slots t ≡ k + i → i < length slots → slot_taken (k + i) (slot_at slots i) t ≡ false
unfolding free_from
free_slot k [] t i e h = absurd (omega arith)
free_slot k (s ∷ more) t i e h = go i (slot_taken k s t) refl e h (λ j f g. free_slot (k + 1) more t j f g)
  where
    go : (i : ℕ) (b : Bool) → slot_taken k s t ≡ b → pick b (free_from (k + 1) more t) k ≡ k + i → i < suc (length more)
        → ((j : ℕ) → free_from (k + 1) more t ≡ k + 1 + j → j < length more → slot_taken (k + 1 + j) (slot_at more j) t ≡ false)
        → slot_taken (k + i) (slot_at (s ∷ more) i) t ≡ false
    go zero true e f g ih = absurd (omega (arith, free_least (k + 1) more t))
    go (suc j) true e f g ih =
        let z : k + suc j ≡ k + 1 + j = omega arith in
        ap (λ (n : ℕ). slot_taken n (slot_at more j) t) z ∙ ih j (f ∙ z) (omega arith)
    go zero false e f g ih = let z : k + 0 ≡ k = omega arith in rw z e
    go (suc j) false e f g ih = absurd (omega arith)
