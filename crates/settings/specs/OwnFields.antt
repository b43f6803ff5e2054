-- The settings that a save takes from a row of controls by a definition's bytes, and their bytes, control by control.
use Rattle.std.specs.Prelude.{ℕ, ◌-◌, ◌*◌, List, [], length, drop}
use Rattle.format.specs.Definition.{Front}
use Rattle.format.specs.Read.{on_read}
use Rattle.format.specs.Reader.{read_front}
use Rattle.readable.specs.Labels.{label_at}
use Rattle.tagged.specs.Fields.{write_fields}
use Rattle.store.specs.Store.{Setting}
use Rattle.store.specs.Writing.{setting_fields}
use Rattle.model.specs.Layout.{control_words}
use Rattle.model.specs.Engine.{controls_from}
use Rattle.settings.specs.Settings.{setting_by, settings_from}

-- the bytes of settings
abbrev pub setting_bytes : List Setting → List ℕ
setting_bytes cs = write_fields (setting_fields cs)

-- what a save takes from the words of a row, and of that what is left from an index on
abbrev pub taken : Front → List ℕ → List Setting
taken f row = settings_from 0 f.names (controls_from (length f.values) row)

abbrev pub taken_from : ℕ → Front → List ℕ → List Setting
taken_from i f row = settings_from i f.names (controls_from (length f.values - i) (drop (control_words * i) row))

-- the same by a definition's bytes
abbrev pub taken_in : List ℕ → List ℕ → List Setting
taken_in s row = on_read (read_front s 0) [] (λ f next. taken f row)

abbrev pub left_in : ℕ → List ℕ → List ℕ → List Setting
left_in i s row = on_read (read_front s 0) [] (λ f next. taken_from i f row)

-- the bytes of one control's setting, by the place of its name; none where that is 0
abbrev pub control_bytes : List ℕ → ℕ → ℕ → List ℕ
control_bytes s place float = setting_bytes (setting_by (label_at s place) float)
