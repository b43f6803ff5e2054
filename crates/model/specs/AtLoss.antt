-- The plain tree is at a loss exactly where the second table's rows are refused, by computation: all but 12, 20 and 24, which are of room.
use Rattle.std.specs.Prelude.{ℕ, zero, suc, true, ◌≡◌, refl, List, [], ◌∷◌, ◌++◌, map, length, drop}
use Rattle.std.specs.Float.Ieee.{to_bits, of_int}
use Rattle.format.specs.Read.{repeat}
use Rattle.format.specs.Fields.{name_bytes}
use Rattle.format.specs.Reader.{front_by, unit_by, units_by, definition_by, read_definitions, read_file, same_name, among}
use Rattle.format.specs.Writer.{write_all, write_definition_by, write_file}
use Rattle.nodes.specs.Forest.{map_forest, beside, prune, has, subtree, edit}
use Rattle.values.specs.Values.{in_bounds, pattern}
use Rattle.model.specs.Plain.{Plain, if_some, at_first, minus_one, lowest, meaning, undefine, define, node_in, has_parent, initial_controls, indices_of, is_named, unnamed_from, step}
use Rattle.model.specs.Examples.{ping, load}
use Rattle.model.specs.Script.{Line, Example, example, agrees}
use Rattle.model.specs.EdgeCases.{synth, Sides, two, places, others}

-- for each command 1 where the plain tree is at a loss, and stays as it was, and else 0
unfoldable pub losses : Plain → List Line → List ℕ
losses p [] = []
losses p (l ∷ ls) = if_some (step l.command l.bytes p) (λ q. 0 ∷ losses q ls) (1 ∷ losses p ls)

abbrev is_refusal : ℕ → ℕ
is_refusal zero = 0
is_refusal (suc n) = 1

-- "the last being -2,147,483,648": the plain tree with one number left to give
abbrev with_last_number : Plain → Plain
with_last_number p = record { tree = p.tree; names = p.names; next = lowest; latest = p.latest; buses = p.buses }

abbrev pub table : List Example
table =
    example (losses (with_last_number at_first) (load ping ∷ synth minus_one 1 0 ∷ synth minus_one 1 0 ∷ synth 7 1 0 ∷ [])) (0 ∷ 0 ∷ 1 ∷ 0 ∷ [])
    ∷ map (λ (r : Sides). example (drop (length two) (losses at_first (two ++ r.lines))) (map is_refusal r.answers)) (places ++ others)

pub agreed : agrees table ≡ true
unfolding to_bits of_int repeat name_bytes front_by unit_by units_by definition_by read_definitions read_file same_name among write_all write_definition_by write_file map_forest beside prune has subtree edit in_bounds pattern meaning undefine define node_in has_parent initial_controls indices_of is_named unnamed_from step losses agrees
agreed = refl
