-- A definition of version 1 with a parameter name and a unit, piece by piece, by computation.
use Rattle.std.specs.Prelude.{ℕ, ◌≡◌, refl, List, [], ◌∷◌}
use Rattle.format.specs.declared.Width.TheVariants.{Short}
use Rattle.format.specs.Writer.{write_all, write_definition_by, write_definition}
use Rattle.encoding.specs.Worked.{tone}
use Rattle.widening.specs.Walk.{wide_all, past_all}
use Rattle.widening.specs.Pieces.{integer_wide, input_wide, floats_past, floats_wide, front_past, front_wide, body_past, body_wide, unit_past, unit_wide, definition_wide}

-- "-1 staying -1"; 258 stays 258
minus-one : integer_wide (255 ∷ (255 ∷ [])) 0 ≡ 255 ∷ (255 ∷ (255 ∷ (255 ∷ [])))
minus-one = refl

plain : integer_wide (1 ∷ (2 ∷ [])) 0 ≡ 0 ∷ (0 ∷ (1 ∷ (2 ∷ [])))
plain = refl

-- an input that names the constant number 7
input : input_wide (255 ∷ (255 ∷ (0 ∷ (7 ∷ [])))) 0 ≡ 255 ∷ (255 ∷ (255 ∷ (255 ∷ (0 ∷ (0 ∷ (0 ∷ (7 ∷ [])))))))
input = refl

abbrev file : List ℕ
file = write_definition_by Short tone

-- its front ends at the place 20, its only unit at 40, and the whole at 42
front-past : front_past file 0 ≡ 20
unfolding write_all write_definition_by past_all floats_past front_past
front-past = refl

unit-past : unit_past file 22 ≡ 40
unfolding write_all write_definition_by past_all body_past unit_past
unit-past = refl

tone-wide : definition_wide file 42 0 ≡ write_definition tone
unfolding write_all write_definition_by wide_all past_all floats_past floats_wide front_past front_wide body_past body_wide unit_past unit_wide definition_wide
tone-wide = refl
