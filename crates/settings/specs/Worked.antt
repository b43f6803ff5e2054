-- The definitions on an example: a definition with the names (a, 1), (a, 2), (b, 2) among three controls. "control 1 is saved as a and control 2 as
-- b"; control 0, which has no name, is not saved. A recall gives the two their floats and no mapping, and leaves control 0.
use Rattle.std.specs.Prelude.{ℕ, ◌≡◌, refl, List, [], ◌∷◌}
use Rattle.format.specs.Definition.{ParameterName, Definition}
use Rattle.format.specs.Names.{first_index, name_among}
use Rattle.format.specs.Reader.{same_name}
use Rattle.values.specs.declared.Mapping.TheVariants.{Unmapped, Bus}
use Rattle.values.specs.Controls.{ControlValue}
use Rattle.model.specs.View.{synth}
use Rattle.model.specs.Plain.{indices_of, is_named, unnamed_from}
use Rattle.settings.specs.Settings.{settings_from}
use Rattle.settings.specs.PlainRecall.{recall_kind}
use Rattle.settings.specs.Restoring.{restored}

-- "a" and "b"
abbrev a : List ℕ
a = 97 ∷ []

abbrev b : List ℕ
b = 98 ∷ []

abbrev names : List ParameterName
names = record { name = a; index = 1 } ∷ (record { name = a; index = 2 } ∷ (record { name = b; index = 2 } ∷ []))

abbrev definition : Definition
definition = record { front = record { name = a; constants = []; values = 0 ∷ (0 ∷ (0 ∷ [])); names = names }; units = []; variants = [] }

-- the controls of a synth as they are saved, the second mapped; and those of another one
abbrev were : List ControlValue
were = record { own = 5; mapping = Unmapped } ∷ (record { own = 6; mapping = Bus 3 } ∷ (record { own = 7; mapping = Unmapped } ∷ []))

abbrev are : List ControlValue
are = record { own = 1; mapping = Bus 9 } ∷ (record { own = 2; mapping = Bus 9 } ∷ (record { own = 3; mapping = Unmapped } ∷ []))

taken : settings_from 0 names were ≡ record { name = a; float = 6 } ∷ (record { name = b; float = 7 } ∷ [])
unfolding settings_from name_among first_index same_name
taken = refl

abbrev after : List ControlValue
after = record { own = 1; mapping = Bus 9 } ∷ (record { own = 6; mapping = Unmapped } ∷ (record { own = 7; mapping = Unmapped } ∷ []))

restores : restored 0 names were are ≡ after
unfolding restored name_among first_index same_name
restores = refl

recalled : recall_kind (settings_from 0 names were) (synth definition are) ≡ synth definition after
unfolding recall_kind settings_from name_among first_index same_name indices_of is_named unnamed_from
recalled = refl
