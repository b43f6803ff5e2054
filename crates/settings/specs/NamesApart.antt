-- Laws of the settings that a save takes: their names are names and differ, each looks up to its control.
use Prim.{Unit, tt}
use Rattle.std.specs.Prelude.{ℕ, ◌+◌, ◌<◌, Bool, true, false, ◌≡◌, refl, List, [], ◌∷◌, ◌++◌, eqb}
use Rattle.std.proofs.Math.Option.{Option, none, some, none-ne-some, some-injective}
use Rattle.std.proofs.Common.{sym, ap, ◌∙◌, arith, eqb-true}
use Rattle.words.specs.Choice.{pick, both}
use Rattle.words.specs.ChoiceLaws.{both_true}
use Rattle.format.specs.Definition.{ParameterName}
use Rattle.format.specs.Names.{first_index, looks_up_to, name_among, name_for}
use Rattle.format.specs.Reader.{same_name}
use Rattle.values.specs.Controls.{ControlValue}
use Rattle.store.specs.Store.{is_name, is_set, settings_apart}
use Rattle.store.specs.NameLaws.{same_equal}
use Rattle.store.specs.Places.{AreSettings}
use Rattle.settings.specs.Settings.{setting_by, settings_from}

-- the names of a definition are names
unfoldable pub AreNames : List ParameterName → Type 0
AreNames [] = Unit {0}
AreNames (p ∷ more) = (is_name p.name ≡ true) × AreNames more

-- the name that a control is saved under is a name,
name_named : (i : ℕ) (all names : List ParameterName) (n : List ℕ) → AreNames names → name_among i all names ≡ some n → is_name n ≡ true
unfolding name_among AreNames
name_named i all [] n a e = absurd (none-ne-some n e)
name_named i all (p ∷ more) n a e =
    go (both (eqb p.index i) (looks_up_to (first_index p.name all) i)) (name_named i all more n a.1) e
  where
    go : (b : Bool) → (name_among i all more ≡ some n → is_name n ≡ true) → pick b (some p.name) (name_among i all more) ≡ some n → is_name n ≡ true
    go true later e = sym (ap is_name (some-injective p.name n e)) ∙ a.0
    go false later e = later e

looked_up : (found : Option ℕ) (i : ℕ) → looks_up_to found i ≡ true → found ≡ some i
looked_up none i e = absurd (let z : ◌≡◌ {A = ℕ} 0 1 = cc in omega arith)
looked_up (some k) i e = ap some (eqb-true k i e)

-- and looks up to that control
pub name_means : (i : ℕ) (all names : List ParameterName) (n : List ℕ) → name_among i all names ≡ some n → first_index n all ≡ some i
unfolding name_among
name_means i all [] n e = absurd (none-ne-some n e)
name_means i all (p ∷ more) n e =
    go (both (eqb p.index i) (looks_up_to (first_index p.name all) i)) refl (name_means i all more n) e
  where
    go : (b : Bool) → both (eqb p.index i) (looks_up_to (first_index p.name all) i) ≡ b → (name_among i all more ≡ some n → first_index n all ≡ some i)
        → pick b (some p.name) (name_among i all more) ≡ some n → first_index n all ≡ some i
    go true t later e =
        let up = looked_up (first_index p.name all) i (both_true (eqb p.index i) (looks_up_to (first_index p.name all) i) t).1 in
        sym (ap (λ (l : List ℕ). first_index l all) (some-injective p.name n e)) ∙ up
    go false t later e = later e

-- a name that looks up to an earlier control is not among those of later ones
set_later : (i j : ℕ) (names : List ParameterName) (n : List ℕ) → first_index n names ≡ some j → j < i
    → (cs : List ControlValue) → is_set n (settings_from i names cs) ≡ false
unfolding settings_from is_set
set_later i j names n means before [] = refl
set_later i j names n means before (c ∷ cs) = go (name_for i names) refl (set_later (i + 1) j names n means (omega arith) cs)
  where
    other : (m : List ℕ) → name_for i names ≡ some m → (b : Bool) → same_name m n ≡ b → b ≡ false
    other m e true t =
        let up : first_index m names ≡ some i = name_means i names names m e in
        let down : first_index m names ≡ some j = ap (λ (l : List ℕ). first_index l names) (same_equal m n t) ∙ means in
        let same : i ≡ j = some-injective i j (sym up ∙ down) in
        absurd (omega arith)
    other m e false t = refl

    go : (o : Option (List ℕ)) → name_for i names ≡ o → is_set n (settings_from (i + 1) names cs) ≡ false
        → is_set n (setting_by o c.own ++ settings_from (i + 1) names cs) ≡ false
    go none e more = more
    go (some m) e more = rw (other m e (same_name m n) refl) more

-- so no control stands twice in a version
pub settings-apart : (i : ℕ) (names : List ParameterName) (cs : List ControlValue) → settings_apart (settings_from i names cs) ≡ true
unfolding settings_from settings_apart
settings-apart i names [] = refl
settings-apart i names (c ∷ cs) = go (name_for i names) refl (settings-apart (i + 1) names cs)
  where
    go : (o : Option (List ℕ)) → name_for i names ≡ o → settings_apart (settings_from (i + 1) names cs) ≡ true
        → settings_apart (setting_by o c.own ++ settings_from (i + 1) names cs) ≡ true
    go none e more = more
    go (some n) e more = rw (set_later (i + 1) i names n (name_means i names names n e) (omega arith) cs) more

-- floats of 32 bits
unfoldable pub AreFloats : List ControlValue → Type 0
AreFloats [] = Unit {0}
AreFloats (c ∷ cs) = (c.own < 4294967296) × AreFloats cs

pub are_settings : (i : ℕ) (names : List ParameterName) → AreNames names → (cs : List ControlValue) → AreFloats cs → AreSettings (settings_from i names cs)
unfolding settings_from AreSettings AreFloats
are_settings i names a [] f = tt
are_settings i names a (c ∷ cs) f = go (name_for i names) refl (are_settings (i + 1) names a cs f.1)
  where
    go : (o : Option (List ℕ)) → name_for i names ≡ o → AreSettings (settings_from (i + 1) names cs)
        → AreSettings (setting_by o c.own ++ settings_from (i + 1) names cs)
    go none e more = more
    go (some n) e more = (name_named i names names n a e, (f.0, more))
