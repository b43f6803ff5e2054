-- A definition of one parameter name and of one unit with two inputs, by computation.
use Rattle.std.specs.Prelude.{◌≡◌, refl, [], ◌∷◌, length}
use Rattle.format.specs.declared.Width.TheVariants.{Short}
use Rattle.format.specs.Definition.{constant, Definition}
use Rattle.format.specs.Writer.{write_all, write_definition_by, write_definition}
use Rattle.encoding.specs.Encoding.{total, fields_in}

abbrev pub tone : Definition
tone = record {
  front = record {
    name = 97 ∷ [];
    constants = 0 ∷ [];
    values = 1138491392 ∷ [];
    names = record { name = 102 ∷ []; index = 0 } ∷ [];
  };
  units = record { class = 98 ∷ []; rate = 2; special = 0; inputs = constant 0 ∷ (constant 0 ∷ []); outputs = 2 ∷ [] } ∷ [];
  variants = [];
}

-- K, P, N and U; the parameter index; I and O; four indices of inputs
tone_fields : fields_in tone ≡ 11
unfolding total
tone_fields = refl

tone_short : length (write_definition_by Short tone) ≡ 42
unfolding write_all write_definition_by
tone_short = refl

tone-long : length (write_definition tone) ≡ 64
unfolding write_all write_definition_by
tone-long = refl
