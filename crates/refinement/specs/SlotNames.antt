-- What names mean once slots are retired, or a definition is put into a free one.
use Prim.{Unit}
use Rattle.std.specs.Prelude.{ℕ, zero, suc, ◌+◌, ◌<◌, Bool, true, false, not, ◌≡◌, refl, List, [], ◌∷◌, length, set}
use Rattle.std.proofs.Common.{sym, ap, ap₂, ◌∙◌, arith}
use Rattle.std.proofs.Math.Option.{Option, none, some}
use Rattle.std.proofs.lemmas.Bool.{not-true}
use Rattle.words.specs.Choice.{pick, both, either}
use Rattle.words.specs.ChoiceLaws.{both_true}
use Rattle.format.specs.Definition.{Definition}
use Rattle.format.specs.Reader.{same_name, among}
use Rattle.model.specs.Engine.{Slot, name_in, definition_in, slot_at, residents}
use Rattle.model.specs.Formed.{name_resident, names_apart}
use Rattle.model.specs.Effects.{retired}
use Rattle.refinement.specs.Names.{same_equal, same_sym, same-name, there, means}

pub among_same : (a b : List ℕ) (names : List (List ℕ)) → same_name a b ≡ true → among a names ≡ among b names
among_same a b names h = ap (λ (l : List ℕ). among l names) (same_equal a b h)

-- "A load first retires residents whose names are in the file"
pub means_retired : (m : List ℕ) (names : List (List ℕ)) (slots : List Slot) → means m (retired names slots) ≡ pick (among m names) none (means m slots)
unfolding means retired
means_retired m names [] = go (among m names)
  where
    go : (b : Bool) → ◌≡◌ {A = Option Definition} none (pick b none none)
    go true = refl
    go false = refl
means_retired m names (s ∷ more) = go s.resident (same_name (name_in s) m) refl (among (name_in s) names) refl (among m names) refl (means_retired m names more)
  where
    go : (r b : Bool) → same_name (name_in s) m ≡ b → (c : Bool) → among (name_in s) names ≡ c → (d : Bool) → among m names ≡ d
        → means m (retired names more) ≡ pick (among m names) none (means m more)
        → pick (both (both r (not c)) b) (some (definition_in s)) (means m (retired names more)) ≡ pick d none (pick (both r b) (some (definition_in s)) (means m more))
    go false b e c f d g ih = ih ∙ ap (λ (x : Bool). pick x none (means m more)) g
    go true false e true f d g ih = ih ∙ ap (λ (x : Bool). pick x none (means m more)) g
    go true false e false f d g ih = ih ∙ ap (λ (x : Bool). pick x none (means m more)) g
    go true true e true f true g ih = ih ∙ ap (λ (x : Bool). pick x none (means m more)) g
    go true true e true f false g ih = let z : ◌≡◌ {A = Bool} true false = sym f ∙ among_same (name_in s) m names e ∙ g in cc
    go true true e false f true g ih = let z : ◌≡◌ {A = Bool} true false = sym g ∙ sym (among_same (name_in s) m names e) ∙ f in cc
    go true true e false f false g ih = refl

-- a slot that is not resident, replaced by one that is, of a name that meant nothing
pub means_set : (m : List ℕ) (slots : List Slot) (j : ℕ) (x : Slot) → j < length slots → (slot_at slots j).resident ≡ false → x.resident ≡ true → means (name_in x) slots ≡ none
    → means m (set slots j x) ≡ pick (same_name (name_in x) m) (some (definition_in x)) (means m slots)
unfolding means
means_set m [] j x h r t n = absurd (omega arith)
means_set m (s ∷ more) zero x h r t n = rw (t, r)
means_set m (s ∷ more) (suc j) x h r t n =
    go s.resident (same_name (name_in s) m) refl (same_name (name_in s) (name_in x)) refl n (λ k. means_set m more j x (omega arith) r t k)
  where
    go : (p b : Bool) → same_name (name_in s) m ≡ b → (c : Bool) → same_name (name_in s) (name_in x) ≡ c → pick (both p c) (some (definition_in s)) (means (name_in x) more) ≡ none
        → (means (name_in x) more ≡ none → means m (set more j x) ≡ pick (same_name (name_in x) m) (some (definition_in x)) (means m more))
        → pick (both p b) (some (definition_in s)) (means m (set more j x)) ≡ pick (same_name (name_in x) m) (some (definition_in x)) (pick (both p b) (some (definition_in s)) (means m more))
    go false b e c f k ih = ih k
    go true b e true f k ih = let z : ◌≡◌ {A = ℕ} 0 1 = cc in absurd (omega arith)
    go true false e false f k ih = ih k
    go true true e false f k ih =
        let xm : same_name (name_in x) m ≡ false = ap (λ (l : List ℕ). same_name (name_in x) l) (sym (same_equal (name_in s) m e)) ∙ same_sym (name_in x) (name_in s) ∙ f in
        rw xm

pub residents-set : (slots : List Slot) (j : ℕ) (x : Slot) → j < length slots → (slot_at slots j).resident ≡ false → x.resident ≡ true → length (residents (set slots j x)) ≡ suc (length (residents slots))
unfolding residents
residents-set [] j x h r t = absurd (omega arith)
residents-set (s ∷ more) zero x h r t = rw (t, r)
residents-set (s ∷ more) (suc j) x h r t = go s.resident (residents-set more j x (omega arith) r t)
  where
    go : (p : Bool) → length (residents (set more j x)) ≡ suc (length (residents more)) → length (pick p (s ∷ residents (set more j x)) (residents (set more j x))) ≡ suc (length (pick p (s ∷ residents more) (residents more)))
    go true ih = ap suc ih
    go false ih = ih

-- a name that no resident has means nothing
pub absent_means : (m : List ℕ) (slots : List Slot) → name_resident m slots ≡ false → means m slots ≡ none
unfolding means name_resident
absent_means m [] h = refl
absent_means m (s ∷ more) h = go (both s.resident (same_name (name_in s) m)) h (λ k. absent_means m more k)
  where
    go : (b : Bool) → pick b true (name_resident m more) ≡ false → (name_resident m more ≡ false → means m more ≡ none) → pick b (some (definition_in s)) (means m more) ≡ none
    go true k ih = let z : ◌≡◌ {A = Bool} true false = k in cc
    go false k ih = ih k

-- a resident's name is resident
pub resident_named : (a : List ℕ) (slots : List Slot) (k : ℕ) → k < length slots → (slot_at slots k).resident ≡ true → same_name (name_in (slot_at slots k)) a ≡ true → name_resident a slots ≡ true
unfolding name_resident
resident_named a [] k h t n = absurd (omega arith)
resident_named a (s ∷ more) zero h t n = rw (t, n)
resident_named a (s ∷ more) (suc k) h t n = go (both s.resident (same_name (name_in s) a)) (resident_named a more k (omega arith) t n)
  where
    go : (b : Bool) → name_resident a more ≡ true → pick b true (name_resident a more) ≡ true
    go true ih = refl
    go false ih = ih

-- "`/d_free` retires one resident": the one of the name
pub means_retire : (a m : List ℕ) (slots : List Slot) (k : ℕ) (x : Slot) → names_apart slots ≡ true → x.resident ≡ false → k < length slots → (slot_at slots k).resident ≡ true
    → same_name (name_in (slot_at slots k)) a ≡ true → means m (set slots k x) ≡ pick (same_name a m) none (means m slots)
unfolding means names_apart
means_retire a m [] k x ap0 r h t n = absurd (omega arith)
means_retire a m (s ∷ more) zero x ap0 r h t n =
    let d = both_true (pick s.resident (not (name_resident (name_in s) more)) true) _ ap0 in
    let alone : name_resident (name_in s) more ≡ false = not-true (name_resident (name_in s) more) (sym (ap (λ (b : Bool). pick b (not (name_resident (name_in s) more)) true) t) ∙ d.0) in
    go (same_name (name_in s) m) refl (absent_means (name_in s) more alone)
  where
    go : (b : Bool) → same_name (name_in s) m ≡ b → means (name_in s) more ≡ none
        → pick (both x.resident (same_name (name_in x) m)) (some (definition_in x)) (means m more) ≡ pick (same_name a m) none (pick (both s.resident (same_name (name_in s) m)) (some (definition_in s)) (means m more))
    go true e g =
        let am : same_name a m ≡ true = sym (same-name (name_in s) a m n) ∙ e in
        let none-m : means m more ≡ none = ap (λ (l : List ℕ). means l more) (sym (same_equal (name_in s) m e)) ∙ g in
        rw (r, am) none-m
    go false e g =
        let am : same_name a m ≡ false = sym (same-name (name_in s) a m n) ∙ e in
        rw (r, am, t, e)
means_retire a m (s ∷ more) (suc k) x ap0 r h t n =
    let d = both_true (pick s.resident (not (name_resident (name_in s) more)) true) _ ap0 in
    go s.resident (same_name (name_in s) m) refl (same_name a m) refl d.0 (means_retire a m more k x d.1 r (omega arith) t n)
  where
    held : name_resident a more ≡ true
    held = resident_named a more k (omega arith) t n

    go : (p b : Bool) → same_name (name_in s) m ≡ b → (c : Bool) → same_name a m ≡ c → pick p (not (name_resident (name_in s) more)) true ≡ true
        → means m (set more k x) ≡ pick (same_name a m) none (means m more)
        → pick (both p b) (some (definition_in s)) (means m (set more k x)) ≡ pick c none (pick (both p b) (some (definition_in s)) (means m more))
    go false b e c f q ih = ih ∙ ap (λ (z : Bool). pick z none (means m more)) f
    go true false e c f q ih = ih ∙ ap (λ (z : Bool). pick z none (means m more)) f
    go true true e false f q ih = refl
    go true true e true f q ih =
        let same : same_name (name_in s) a ≡ true = ap (λ (l : List ℕ). same_name (name_in s) l) (same_equal a m f) ∙ e in
        let z : ◌≡◌ {A = Bool} true false = sym held ∙ ap (λ (l : List ℕ). name_resident l more) (sym (same_equal (name_in s) a same)) ∙ not-true (name_resident (name_in s) more) q in
        cc

pub residents-retire : (slots : List Slot) (k : ℕ) (x : Slot) → k < length slots → (slot_at slots k).resident ≡ true → x.resident ≡ false → suc (length (residents (set slots k x))) ≡ length (residents slots)
unfolding residents
residents-retire [] k x h t r = absurd (omega arith)
residents-retire (s ∷ more) zero x h t r = rw (t, r)
residents-retire (s ∷ more) (suc k) x h t r = go s.resident (residents-retire more k x (omega arith) t r)
  where
    go : (p : Bool) → suc (length (residents (set more k x))) ≡ length (residents more) → suc (length (pick p (s ∷ residents (set more k x)) (residents (set more k x)))) ≡ length (pick p (s ∷ residents more) (residents more))
    go true ih = ap suc ih
    go false ih = ih

-- how many of some names mean something
unfoldable pub meant : List (List ℕ) → List Slot → ℕ
meant [] slots = 0
meant (n ∷ names) slots = there (means n slots) + meant names slots

-- names of which none is twice
unfoldable pub Differ : List (List ℕ) → Type 0
Differ [] = Unit {0}
Differ (n ∷ names) = (among n names ≡ false) × Differ names

unheard : (s : Slot) (more : List Slot) (names : List (List ℕ)) → among (name_in s) names ≡ false → meant names (s ∷ more) ≡ meant names more
unfolding meant means among
unheard s more [] h = refl
unheard s more (n ∷ names) h = go s.resident (same_name (name_in s) n) (same_name n (name_in s)) (same_sym (name_in s) n) h (λ k. unheard s more names k)
  where
    go : (p b c : Bool) → b ≡ c → either c (among (name_in s) names) ≡ false → (among (name_in s) names ≡ false → meant names (s ∷ more) ≡ meant names more)
        → there (pick (both p b) (some (definition_in s)) (means n more)) + meant names (s ∷ more) ≡ there (means n more) + meant names more
    go p b true e k ih = let z : ◌≡◌ {A = Bool} true false = k in cc
    go p true false e k ih = let z : ◌≡◌ {A = Bool} true false = e in cc
    go true false false e k ih = ap (λ (j : ℕ). there (means n more) + j) (ih k)
    go false false false e k ih = ap (λ (j : ℕ). there (means n more) + j) (ih k)

silent_slot : (s : Slot) (more : List Slot) (names : List (List ℕ)) → s.resident ≡ false → meant names (s ∷ more) ≡ meant names more
unfolding meant means
silent_slot s more [] h = refl
silent_slot s more (n ∷ names) h = ap₂ (λ (b : Bool) (j : ℕ). there (pick (both b (same_name (name_in s) n)) (some (definition_in s)) (means n more)) + j) h (silent_slot s more names h)

heard : (s : Slot) (more : List Slot) (names : List (List ℕ)) → s.resident ≡ true → means (name_in s) more ≡ none → Differ names → among (name_in s) names ≡ true → meant names (s ∷ more) ≡ suc (meant names more)
unfolding meant means among Differ
heard s more [] t n d h = let z : ◌≡◌ {A = Bool} true false = sym h in cc
heard s more (x ∷ names) t n d h = go (same_name (name_in s) x) refl (same_name x (name_in s)) refl h (λ k. heard s more names t n d.1 k)
  where
    go : (b : Bool) → same_name (name_in s) x ≡ b → (c : Bool) → same_name x (name_in s) ≡ c → either c (among (name_in s) names) ≡ true → (among (name_in s) names ≡ true → meant names (s ∷ more) ≡ suc (meant names more))
        → there (pick (both s.resident b) (some (definition_in s)) (means x more)) + meant names (s ∷ more) ≡ suc (there (means x more) + meant names more)
    go true e c f k ih =
        let gone : among (name_in s) names ≡ false = among_same (name_in s) x names e ∙ d.0 in
        let empty : means x more ≡ none = ap (λ (l : List ℕ). means l more) (sym (same_equal (name_in s) x e)) ∙ n in
        ap₂ (λ (p : Bool) (j : ℕ). there (pick (both p true) (some (definition_in s)) (means x more)) + j) t (unheard s more names gone)
        ∙ (let z : there (means x more) ≡ 0 = ap (λ (o : Option Definition). there o) empty in omega arith)
    go false e true f k ih = let z : ◌≡◌ {A = Bool} true false = sym f ∙ same_sym x (name_in s) ∙ e in cc
    go false e false f k ih =
        ap₂ (λ (p : Bool) (j : ℕ). there (pick (both p false) (some (definition_in s)) (means x more)) + j) t (ih k) ∙ omega arith

none_meant : (names : List (List ℕ)) → meant names [] ≡ 0
unfolding meant means
none_meant [] = refl
none_meant (n ∷ names) = let z = none_meant names in omega arith

-- a load's retirement takes away as many residents as the file's names that meant something
pub residents-retired : (names : List (List ℕ)) (slots : List Slot) → Differ names → names_apart slots ≡ true → length (residents (retired names slots)) + meant names slots ≡ length (residents slots)
unfolding residents retired names_apart
residents-retired names [] d h = let z = none_meant names in omega arith
residents-retired names (s ∷ more) d h =
    let a = both_true (pick s.resident (not (name_resident (name_in s) more)) true) _ h in
    go s.resident refl (among (name_in s) names) refl a.0 (residents-retired names more d a.1)
  where
    go : (p : Bool) → s.resident ≡ p → (c : Bool) → among (name_in s) names ≡ c → pick p (not (name_resident (name_in s) more)) true ≡ true
        → length (residents (retired names more)) + meant names more ≡ length (residents more)
        → length (pick (both p (not c)) (record { bytes = s.bytes; resident = both p (not c) } ∷ residents (retired names more)) (residents (retired names more))) + meant names (s ∷ more)
        ≡ length (pick p (s ∷ residents more) (residents more))
    go false e c f q ih = rw (silent_slot s more names e) ih
    go true e true f q ih =
        let alone : means (name_in s) more ≡ none = absent_means (name_in s) more (not-true (name_resident (name_in s) more) q) in
        rw (heard s more names e alone d f) (omega arith)
    go true e false f q ih = rw (unheard s more names f) (omega arith)
