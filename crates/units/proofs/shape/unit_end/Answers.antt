use Prim.Native.Nat.{ℕ, ◌*◌}
use mathlib.Core.Path.{ap₂}
use native.Mathlib.Omega.{arith}
use Rattle.units.specs.Marks.{unit_end}
use Rattle.units.proofs.shape.unit_end.Goals as goal

pub unit_counts-counts-requires : goal.unit_counts-counts-requires
unfolding unit_end
unit_counts-counts-requires c = omega arith

pub overflow_mul-result : goal.overflow_mul-result
unfolding unit_end
overflow_mul-result c = omega arith

pub overflow_add-result : goal.overflow_add-result
unfolding unit_end
overflow_add-result c = omega arith

pub overflow_add-result-2 : goal.overflow_add-result-2
unfolding unit_end
overflow_add-result-2 c = omega arith

pub overflow_mul-result-2 : goal.overflow_mul-result-2
unfolding unit_end
overflow_mul-result-2 c = omega arith

pub overflow_mul-result-3 : goal.overflow_mul-result-3
unfolding unit_end
overflow_mul-result-3 c = omega (arith, ap₂ (λ (size inputs : ℕ). 2 * size * inputs) c.field_size-size.ensures c.unit_inputs-inputs.ensures)

pub overflow_add-result-3 : goal.overflow_add-result-3
unfolding unit_end
overflow_add-result-3 c = omega (arith, ap₂ (λ (size inputs : ℕ). 2 * size * inputs) c.field_size-size.ensures c.unit_inputs-inputs.ensures)

pub overflow_add-result-4 : goal.overflow_add-result-4
unfolding unit_end
overflow_add-result-4 c = omega (arith, ap₂ (λ (size inputs : ℕ). 2 * size * inputs) c.field_size-size.ensures c.unit_inputs-inputs.ensures)

pub returns : goal.returns
unfolding unit_end
returns c = omega (arith, ap₂ (λ (size inputs : ℕ). 2 * size * inputs) c.field_size-size.ensures c.unit_inputs-inputs.ensures)
