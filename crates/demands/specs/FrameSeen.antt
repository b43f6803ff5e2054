-- The numbers and the entries that demand 3 compares, by the records of the table.
use Prim.{tt}
use Rattle.std.specs.Prelude.{ℕ, ◌≤◌, Bool, true, false, ◌≡◌, refl, List, [], ◌∷◌}
use Rattle.std.proofs.Common.{sym, ap, ap₂, ◌∙◌, arith}
use Rattle.words.specs.Choice.{pick}
use Rattle.nodes.specs.declared.Node.{Node}
use Rattle.nodes.specs.Structure.{parent_of}
use Rattle.treerefinement.specs.Tally.{one, tally}
use Rattle.nodes.specs.Table.{numbers}
use Rattle.treerefinement.specs.Left.{left}
use Rattle.treerefinement.specs.Untouched.{Untouched, entries, untouched_entries}
use Rattle.treerefinement.specs.Untouched as bridge
use Rattle.model.specs.Engine.{Slot}
use Rattle.model.specs.View.{PlainNode, view_of, view_rows}
use Rattle.model.specs.Frame.{Entry, numbers_left, entries_left}
use Rattle.refinement.specs.ControlsReplay.{AllOf}

pub numbers_view : (test : ℕ → Bool) (slots : List Slot) (controls : List ℕ) (t : List Node) → numbers_left test (view_rows slots controls t) ≡ numbers (left test t)
unfolding numbers_left view_rows numbers left
numbers_view test slots controls [] = refl
numbers_view test slots controls (r ∷ l) = go (test r.number) (numbers_view test slots controls l)
  where
    go : (b : Bool) → numbers_left test (view_rows slots controls l) ≡ numbers (left test l)
        → pick b (numbers_left test (view_rows slots controls l)) (r.number ∷ numbers_left test (view_rows slots controls l)) ≡ numbers (pick b (left test l) (r ∷ left test l))
    go true ih = ih
    go false ih = ap (λ (m : List ℕ). r.number ∷ m) ih

-- records with their parents, seen with these slots and controls
unfoldable seen_entries : List Slot → List ℕ → List bridge.Entry → List Entry
seen_entries slots controls [] = []
seen_entries slots controls (x ∷ l) = record { node = view_of slots controls x.self; parent = x.parent } ∷ seen_entries slots controls l

entries_view : (test : ℕ → Bool) (slots : List Slot) (controls : List ℕ) (t l : List Node) → entries_left test t (view_rows slots controls l) ≡ seen_entries slots controls (entries t (left test l))
unfolding entries_left view_rows seen_entries entries left
entries_view test slots controls t [] = refl
entries_view test slots controls t (r ∷ l) = go (test r.number) (entries_view test slots controls t l)
  where
    go : (b : Bool) → entries_left test t (view_rows slots controls l) ≡ seen_entries slots controls (entries t (left test l))
        → pick b (entries_left test t (view_rows slots controls l)) (record { node = view_of slots controls r; parent = parent_of r.number t } ∷ entries_left test t (view_rows slots controls l))
        ≡ seen_entries slots controls (entries t (pick b (left test l) (r ∷ left test l)))
    go true ih = ih
    go false ih = ap (λ (m : List Entry). record { node = view_of slots controls r; parent = parent_of r.number t } ∷ m) ih

seen_same : (slots slots' : List Slot) (controls controls' : List ℕ) (t l : List Node) → AllOf (λ (r : Node). view_of slots controls r ≡ view_of slots' controls' r) l
    → seen_entries slots controls (entries t l) ≡ seen_entries slots' controls' (entries t l)
unfolding AllOf seen_entries entries
seen_same slots slots' controls controls' t [] h = refl
seen_same slots slots' controls controls' t (r ∷ l) h =
    ap₂ (λ (x : PlainNode) (m : List Entry). record { node = x; parent = parent_of r.number t } ∷ m) h.0 (seen_same slots slots' controls controls' t l h.1)

-- records and parents that stay, seen alike
pub entries_stay : (test : ℕ → Bool) (slots slots' : List Slot) (controls controls' : List ℕ) (before after : List Node) → Untouched test after before
    → AllOf (λ (r : Node). view_of slots controls r ≡ view_of slots' controls' r) (left test before)
    → entries_left test before (view_rows slots controls before) ≡ entries_left test after (view_rows slots' controls' after)
entries_stay test slots slots' controls controls' before after u h =
    entries_view test slots controls before before
    ∙ seen_same slots slots' controls controls' before (left test before) h
    ∙ ap (λ (l : List bridge.Entry). seen_entries slots' controls' l) (sym (untouched_entries u))
    ∙ sym (entries_view test slots' controls' after after)

-- of each record of a list, or of those that are left
pub all_more : {P Q : Node → Type 0} → ((r : Node) → P r → Q r) → (l : List Node) → AllOf P l → AllOf Q l
unfolding AllOf
all_more g [] h = tt
all_more g (r ∷ l) h = (g r h.0, all_more g l h.1)

pub all_left : (P : Node → Type 0) (test : ℕ → Bool) (l : List Node) → AllOf P l → AllOf P (left test l)
unfolding AllOf left
all_left P test [] h = tt
all_left P test (r ∷ l) h = go (test r.number) (all_left P test l h.1)
  where
    go : (b : Bool) → AllOf P (left test l) → AllOf P (pick b (left test l) (r ∷ left test l))
    go true k = k
    go false k = (h.0, k)

pub all_of : {P : Node → Type 0} → ((r : Node) → P r) → (l : List Node) → AllOf P l
unfolding AllOf
all_of g [] = tt
all_of g (r ∷ l) = (g r, all_of g l)

-- the record r stands in the table: a test that it passes is passed by some
abbrev pub Among : List Node → Node → Type 0
Among t r = (q : Node → Bool) → q r ≡ true → 1 ≤ tally q t

pub all_among : (t : List Node) → AllOf (Among t) t
unfolding AllOf tally
all_among [] = tt
all_among (r ∷ l) = (λ q e. (let o : one (q r) ≡ 1 = ap one e in omega arith), all_more (λ y a q e. omega (arith, a q e)) l (all_among l))
