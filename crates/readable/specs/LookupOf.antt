-- What each lookup answers of a definition: the same as its record says.
use Rattle.std.specs.Prelude.{ℕ, zero, suc, ◌≡◌, List, [], ◌∷◌, ◌++◌, length, Some}
use Rattle.std.proofs.Common.{sym}
use Rattle.format.specs.declared.Width.TheVariants.{Long}
use Rattle.format.specs.Read.{got, repeat}
use Rattle.format.specs.Fields.{count, short_count_to, highest16}
use Rattle.format.specs.Definition.{Front, UnitSpec, Definition}
use Rattle.format.specs.Names.{covered_by, first_name, name_for}
use Rattle.format.specs.Reader.{read_front, unit_by, units_by, definition_by, read_definition, variant}
use Rattle.front.specs.Front.{values_at}
use Rattle.readable.specs.Lookup.{name_in, parameters_in, units_in, values_in, cover_in, name_of_in, name_for_in}
use Rattle.format.specs.RepeatLaws.{got_value, went_on}

-- as many units are read as were asked for
pub units_length : (k : ℕ) (s : List ℕ) (n : ℕ) (outs : List ℕ) (at : ℕ) {us : List UnitSpec} {end : ℕ} → units_by Long k s n outs at ≡ got us end → length us ≡ n
unfolding units_by
units_length k s zero outs at e = rw (sym (got_value e))
units_length k s (suc n) outs at e =
    went_on (unit_by Long k outs s at) _ e (λ u p1 e1 r1.
    went_on (units_by Long k s n (outs ++ (length u.outputs ∷ [])) p1) _ r1 (λ us p2 e2 r2.
    rw (sym (got_value r2), units_length k s n (outs ++ (length u.outputs ∷ [])) p1 e2)))

-- a definition that was read: its front, and the count of its units behind it
definition_on : {E : Type 0} (s : List ℕ) (at : ℕ) {d : Definition} {end : ℕ} → read_definition s at ≡ got d end
    → ((p q : ℕ) → read_front s at ≡ got d.front p → count s p ≡ got (length d.units) q → E) → E
unfolding definition_by
definition_on s at e k =
    went_on (read_front s at) _ e (λ f p1 e1 r1.
    went_on (count s p1) _ r1 (λ many p2 e2 r2.
    went_on (units_by Long (length f.constants) s many [] p2) _ r2 (λ units p3 e3 r3.
    went_on (short_count_to highest16 s p3) _ r3 (λ v p4 e4 r4.
    went_on (repeat (variant (length f.values) s) v p4) _ r4 (λ variants p5 e5 r5.
    k p1 p2 (rw (sym (got_value r5)) e1) (rw (sym (got_value r5), units_length (length f.constants) s many [] p2 e3) e2))))))

-- where its front can be read
module _ (s : List ℕ) {f : Front} {end : ℕ} (e : read_front s 0 ≡ got f end) where
  pub parameters_at : parameters_in s ≡ Some (length f.values)
  parameters_at = rw e

  pub found_values_at : values_in s ≡ Some (values_at Long 0 f, length f.values)
  found_values_at = rw e

  pub found_cover_at : (n : List ℕ) → cover_in n s ≡ covered_by n (length f.values) f.names
  found_cover_at n = rw e

  pub first_name_at : (i : ℕ) → name_of_in i s ≡ first_name i f.names
  first_name_at i = rw e

  pub name_for_at : (i : ℕ) → name_for_in i s ≡ name_for i f.names
  name_for_at i = rw e

-- where it is a whole definition
module _ (s : List ℕ) {d : Definition} {end : ℕ} (e : read_definition s 0 ≡ got d end) where
  pub name-of : name_in s ≡ d.front.name
  name-of = definition_on s 0 e (λ p q f u. rw f)

  pub units-of : units_in s ≡ Some (length d.units)
  units-of = definition_on s 0 e (λ p q f u. rw (f, u))

  pub first_name_of : (i : ℕ) → name_of_in i s ≡ first_name i d.front.names
  first_name_of i = definition_on s 0 e (λ p q f u. first_name_at s f i)

  pub parameters_of : parameters_in s ≡ Some (length d.front.values)
  parameters_of = definition_on s 0 e (λ p q f u. parameters_at s f)

  pub values_of : values_in s ≡ Some (values_at Long 0 d.front, length d.front.values)
  values_of = definition_on s 0 e (λ p q f u. found_values_at s f)

  pub cover-of : (n : List ℕ) → cover_in n s ≡ covered_by n (length d.front.values) d.front.names
  cover-of n = definition_on s 0 e (λ p q f u. found_cover_at s f n)

  pub name_for_of : (i : ℕ) → name_for_in i s ≡ name_for i d.front.names
  name_for_of i = definition_on s 0 e (λ p q f u. name_for_at s f i)
