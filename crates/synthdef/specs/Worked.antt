-- A file of version 1 with one definition: its version, its twin, and what is written, by computation.
use Rattle.std.specs.Prelude.{ℕ, ◌≡◌, refl, List, [], ◌∷◌, ◌++◌, length, replicate}
use Rattle.format.specs.declared.Width.TheVariants.{Short}
use Rattle.format.specs.Read.{repeat}
use Rattle.format.specs.Worked.{ping}
use Rattle.format.specs.Fields.{name_bytes}
use Rattle.format.specs.Reader.{front_by, units_by, definition_by, read_definitions, read_file, among}
use Rattle.format.specs.Writer.{write_all, write_definition_by, write_file_by, write_file}
use Rattle.synthdef.specs.Twin.{accepted_version, twin, widened_length, widened_bytes}

abbrev file : List ℕ
file = write_file_by Short (ping ∷ [])

version : accepted_version file ≡ 1
unfolding write_all write_definition_by write_file repeat name_bytes front_by units_by definition_by read_definitions read_file among
version = refl

version_of_twin : accepted_version (twin file) ≡ 2
unfolding write_all write_definition_by write_file repeat name_bytes front_by units_by definition_by read_definitions read_file among
version_of_twin = refl

same_definitions : twin file ≡ write_file (ping ∷ [])
unfolding write_all write_definition_by write_file repeat name_bytes front_by units_by definition_by read_definitions read_file among
same_definitions = refl

-- its 36 bytes become 46
sizes : length file ≡ 36
unfolding write_all write_definition_by
sizes = refl

has_room : widened_length (read_file file) (replicate 46 7) ≡ 46
unfolding write_all write_definition_by write_file repeat name_bytes front_by units_by definition_by read_definitions read_file among
has_room = refl

no-room : widened_length (read_file file) (replicate 45 7) ≡ 0
unfolding write_all write_definition_by write_file repeat name_bytes front_by units_by definition_by read_definitions read_file among
no-room = refl

-- what lies behind the twin stays, and where it has no room all stays
behind : widened_bytes (read_file file) (replicate 48 7) ≡ write_file (ping ∷ []) ++ (7 ∷ (7 ∷ []))
unfolding write_all write_definition_by write_file repeat name_bytes front_by units_by definition_by read_definitions read_file among
behind = refl

stays : widened_bytes (read_file file) (replicate 45 7) ≡ replicate 45 7
unfolding write_all write_definition_by write_file repeat name_bytes front_by units_by definition_by read_definitions read_file among
stays = refl
