-- A unit of one input and one output, of both widths, by computation.
use Rattle.std.specs.Prelude.{◌≡◌, refl, [], ◌∷◌}
use Rattle.format.specs.declared.Width.TheVariants.{Short, Long}
use Rattle.format.specs.Definition.{UnitSpec, constant}
use Rattle.format.specs.Writer.{write_all, write_unit}
use Rattle.units.specs.Marks.{unit_counts, unit_inputs, unit_outputs, unit_end}

abbrev one : UnitSpec
one = record { class = 97 ∷ []; rate = 2; special = 0; inputs = constant 0 ∷ []; outputs = 2 ∷ [] }

short_end : unit_end Short (write_unit Short one) 0 ≡ 14
unfolding write_all unit_counts unit_inputs unit_outputs unit_end
short_end = refl

long_end : unit_end Long (write_unit Long one) 0 ≡ 22
unfolding write_all unit_counts unit_inputs unit_outputs unit_end
long_end = refl
