-- A definition that is read has at most 32 parameters.
use Prim.{Unit, tt}
use Rattle.std.specs.Prelude.{ℕ, ◌≤◌, ◌≡◌, refl, List, [], length, leb}
use Rattle.std.proofs.Common.{arith, leb-true}
use Rattle.faults.specs.declared.Fault.TheVariants.{BadCount}
use Rattle.format.specs.declared.Width.TheVariants.{Long}
use Rattle.format.specs.Read.{Read, got, bad, and_then, repeat}
use Rattle.format.specs.Fields.{float32, definition_name, integer, count_to, count, short_count_to, highest16}
use Rattle.format.specs.Definition.{Front, Definition}
use Rattle.format.specs.Reader.{most_parameters, parameter_name, front_by, read_front, units_by, variant, definition_by, read_definition}
use Rattle.format.specs.FieldLaws.{checked_got}
use Rattle.format.specs.RepeatLaws.{repeat-length}
use Rattle.model.specs.Engine.{Slot, no_definition, value_or, definition_in}

-- of what was read, if anything was
abbrev Holds : {A : Type 0} → (A → Type 0) → Read A → Type 0
Holds P (got x next) = P x
Holds P (bad r at) = Unit {0}

fact_then : {A B : Type 0} (P : B → Type 0) (r : Read A) (more : A → ℕ → Read B) → ((x : A) (next : ℕ) → r ≡ got x next → Holds P (more x next)) → Holds P (and_then r more)
fact_then P (got x next) more h = h x next refl
fact_then P (bad r at) more h = tt

abbrev Few : Front → Type 0
Few f = length f.values ≤ most_parameters

front_few : (s : List ℕ) (at : ℕ) → Holds Few (read_front s at)
unfolding front_by
front_few s at =
    fact_then Few (definition_name s at) _ (λ n p1 e1.
    fact_then Few (count s p1) _ (λ k p2 e2.
    fact_then Few (repeat (float32 s) k p2) _ (λ constants p3 e3.
    fact_then Few (count_to most_parameters s p3) _ (λ p p4 e4.
    fact_then Few (repeat (float32 s) p p4) _ (λ values p5 e5.
    fact_then Few (count s p5) _ (λ many p6 e6.
    fact_then Few (repeat (parameter_name p s) many p6) _ (λ names end e7.
    omega (arith, leb-true p most_parameters (checked_got BadCount (λ n. leb n most_parameters) p3 (integer s p3) e4).1, repeat-length (float32 s) p p4 e5))))))))

abbrev FewIn : Definition → Type 0
FewIn d = Few d.front

definition_few : (s : List ℕ) (at : ℕ) → Holds FewIn (read_definition s at)
unfolding definition_by
definition_few s at =
    fact_then FewIn (read_front s at) _ (λ f p1 e1.
    fact_then FewIn (count s p1) _ (λ many p2 e2.
    fact_then FewIn (units_by Long (length f.constants) s many [] p2) _ (λ units p3 e3.
    fact_then FewIn (short_count_to highest16 s p3) _ (λ v p4 e4.
    fact_then FewIn (repeat (variant (length f.values) s) v p4) _ (λ variants end e5.
    rw e1 at (front_few s at))))))

pub few_parameters : (s : Slot) → length (definition_in s).front.values ≤ most_parameters
few_parameters s = go (read_definition s.bytes 0) (definition_few s.bytes 0)
  where
    go : (r : Read Definition) → Holds FewIn r → length (value_or no_definition r).front.values ≤ most_parameters
    go (got d end) h = h
    go (bad r at) h = omega arith
