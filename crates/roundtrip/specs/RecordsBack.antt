-- The records of a file, read back from their writing.
use Rattle.std.specs.Prelude.{ℕ, zero, suc, ◌+◌, ◌≤◌, ◌<◌, ◌≡◌, true, List, [], ◌∷◌, ◌++◌, length, get_or, ltb, leb, eqb}
use Rattle.std.proofs.Common.{arith, length-append, leb-true, le-leb, ltb-true, eqb-true, ne_eqb}
use Rattle.words.specs.Choice.{both}
use Rattle.words.specs.ChoiceLaws.{both_true}
use Rattle.format.specs.declared.Width.{Width}
use Rattle.format.specs.declared.Width.TheVariants.{Short, Long}
use Rattle.format.specs.Read.{repeat}
use Rattle.format.specs.Definition.{constant, output, UnitSpec, Front}
use Rattle.words.specs.Patterns.{minus_one}
use Rattle.format.specs.Fields.{float32, rate, highest16, highest32, highest_of, count_by}
use Rattle.format.specs.Reader.{most_parameters, parameter_name_by, front_by, input_by, unit_by, units_by, variant, definition_by}
use Rattle.words.specs.Bytes.{bytes8, bytes32}
use Rattle.format.specs.Writer.{write_integer, write_all, write_parameter_name, write_input, write_unit, write_variant, write_front, write_definition_by}
use Rattle.format.specs.Bounds.{every, is_name, is_float, is_rate, is_parameter_name, is_input, is_unit, are_units, is_variant, is_front, is_definition_by}
use Rattle.roundtrip.specs.Codec.{Reads, Back, onward_reads, then_reads, last_reads, none_reads, repeat_reads}
use Rattle.roundtrip.specs.FieldsBack.{int16_reads, integer_reads, minus_one_reads, float_reads, name_reads, definition_name_reads, count_reads, short_count_reads, index_reads, rate_reads}

floats_reads : (xs : List ℕ) → every is_float xs ≡ true → Reads (λ s at. repeat (float32 s) (length xs) at) xs (write_all bytes32 xs)
floats_reads xs t = repeat_reads float32 bytes32 is_float float_reads xs t

-- no width holds more than the other's highest count
few_both : (w : Width) (n : ℕ) → n ≤ highest_of w → n ≤ highest32
few_both Short n h = omega arith
few_both Long n h = h

few_parameters : (w : Width) (n : ℕ) → n ≤ most_parameters → n ≤ highest_of w
few_parameters Short n h = omega arith
few_parameters Long n h = omega arith

-- a count that fits its field is read back
some_reads : (w : Width) (n : ℕ) → leb n (highest_of w) ≡ true → Reads (count_by w) n (write_integer w n)
some_reads w n t =
    let h = leb-true n (highest_of w) t in
    count_reads w highest32 n (le-leb n highest32 (few_both w n h)) h

pub parameter_name_reads : (w : Width) (p : ℕ) → p ≤ highest_of w → Back (parameter_name_by w p) (write_parameter_name w) (is_parameter_name p)
parameter_name_reads w p h n t =
    let u = both_true (is_name n.name) (ltb n.index p) t in
    then_reads _ (name_reads n.name u.0) (last_reads _ (index_reads w p h n.index u.1))

pub front_reads : (w : Width) → Back (front_by w) (write_front w) (is_front w)
unfolding front_by
front_reads w f t =
    let t1 = both_true (both (ltb 0 (length f.name)) (is_name f.name)) _ t in
    let t2 = both_true (leb (length f.constants) (highest_of w)) _ t1.1 in
    let t3 = both_true (every is_float f.constants) _ t2.1 in
    let t4 = both_true (leb (length f.values) most_parameters) _ t3.1 in
    let t5 = both_true (every is_float f.values) _ t4.1 in
    let t6 = both_true (leb (length f.names) (highest_of w)) _ t5.1 in
    let few = leb-true (length f.values) most_parameters t4.0 in
    then_reads _ (definition_name_reads f.name t1.0)
    (then_reads _ (some_reads w (length f.constants) t2.0)
    (then_reads _ (floats_reads f.constants t3.0)
    (then_reads _ (count_reads w most_parameters (length f.values) t4.0 (few_parameters w (length f.values) few))
    (then_reads _ (floats_reads f.values t5.0)
    (then_reads _ (some_reads w (length f.names) t6.0)
    (last_reads _
    (repeat_reads (parameter_name_by w (length f.values)) (write_parameter_name w) (is_parameter_name (length f.values))
    (parameter_name_reads w (length f.values) (few_parameters w (length f.values) few))
    f.names t6.1)))))))

pub constants_few : (w : Width) (f : Front) → is_front w f ≡ true → length f.constants ≤ highest_of w
constants_few w f t =
    let u = both_true (both (ltb 0 (length f.name)) (is_name f.name)) _ t in
    leb-true (length f.constants) (highest_of w) (both_true (leb (length f.constants) (highest_of w)) _ u.1).0

-- the O of the units before: with so many still to come they are no more than a count tells, and so is each
pub record Before (w : Width) (n : ℕ) (outs : List ℕ) : Type 0 where
  pub many : length outs + n ≤ highest_of w
  pub each : (i : ℕ) → get_or outs i 0 ≤ highest_of w

get_d_snoc : (m o : ℕ) (l : List ℕ) → ((i : ℕ) → get_or l i 0 ≤ m) → o ≤ m → (i : ℕ) → get_or (l ++ (o ∷ [])) i 0 ≤ m
get_d_snoc m o [] h k zero = k
get_d_snoc m o [] h k (suc i) = omega arith
get_d_snoc m o (x ∷ l) h k zero = h 0
get_d_snoc m o (x ∷ l) h k (suc i) = get_d_snoc m o l (λ j. h (suc j)) k i

before_next : (w : Width) (n o : ℕ) (outs : List ℕ) → Before w (suc n) outs → o ≤ highest_of w → Before w n (outs ++ (o ∷ []))
before_next w n o outs b h = record {
  many = let m = b.many in omega (arith, length-append outs (o ∷ []));
  each = get_d_snoc (highest_of w) o outs b.each h;
}

pub input_reads : (w : Width) (n k : ℕ) (outs : List ℕ) → k ≤ highest_of w → Before w n outs → Back (input_by w k outs) (write_input w) (is_input k outs)
input_reads w n k outs h b (constant i) t =
    onward_reads _ (minus_one_reads w) (λ at. last_reads _ (index_reads w k h i t))
input_reads w n k outs h b (output u o) t =
    let v = both_true (ltb u (length outs)) (ltb o (get_or outs u 0)) t in
    let below : u < length outs = ltb-true u (length outs) v.0 in
    let m = b.many in
    let fits : u ≤ highest_of w = omega arith in
    let few = few_both w u fits in
    onward_reads _ (integer_reads w u fits)
    (λ at. rw (ne_eqb u minus_one (omega arith), v.0) (last_reads _ (index_reads w (get_or outs u 0) (b.each u) o v.1)))

pub unit_reads : (w : Width) (n k : ℕ) (outs : List ℕ) → k ≤ highest_of w → Before w n outs → Back (unit_by w k outs) (write_unit w) (is_unit w k outs)
unfolding unit_by
unit_reads w n k outs h b u t =
    let t1 = both_true (is_name u.class) _ t in
    let t2 = both_true (is_rate u.rate) _ t1.1 in
    let t3 = both_true (ltb u.special 65536) _ t2.1 in
    let t4 = both_true (leb (length u.inputs) (highest_of w)) _ t3.1 in
    let t5 = both_true (leb (length u.outputs) (highest_of w)) _ t4.1 in
    let t6 = both_true (every (is_input k outs) u.inputs) _ t5.1 in
    then_reads _ (name_reads u.class t1.0)
    (then_reads _ (rate_reads u.rate t2.0)
    (then_reads _ (some_reads w (length u.inputs) t4.0)
    (then_reads _ (some_reads w (length u.outputs) t5.0)
    (then_reads _ (int16_reads u.special (ltb-true u.special 65536 t3.0))
    (then_reads _ (repeat_reads (input_by w k outs) (write_input w) (is_input k outs) (input_reads w n k outs h b) u.inputs t6.0)
    (last_reads _ (repeat_reads rate bytes8 is_rate rate_reads u.outputs t6.1)))))))

outputs_few : (w : Width) (k : ℕ) (outs : List ℕ) (u : UnitSpec) → is_unit w k outs u ≡ true → length u.outputs ≤ highest_of w
outputs_few w k outs u t =
    let t1 = both_true (is_name u.class) _ t in
    let t2 = both_true (is_rate u.rate) _ t1.1 in
    let t3 = both_true (ltb u.special 65536) _ t2.1 in
    let t4 = both_true (leb (length u.inputs) (highest_of w)) _ t3.1 in
    leb-true (length u.outputs) (highest_of w) (both_true (leb (length u.outputs) (highest_of w)) _ t4.1).0

pub units_read : (w : Width) (k : ℕ) → k ≤ highest_of w → (us : List UnitSpec) (outs : List ℕ) → Before w (length us) outs → are_units w k outs us ≡ true
    → Reads (λ s at. units_by w k s (length us) outs at) us (write_all (write_unit w) us)
unfolding units_by are_units write_all
units_read w k h [] outs b t = none_reads []
units_read w k h (u ∷ us) outs b t =
    let v = both_true (is_unit w k outs u) _ t in
    let out : length u.outputs ≤ highest_of w = outputs_few w k outs u v.0 in
    then_reads _ (unit_reads w (length (u ∷ us)) k outs h b u v.0)
    (last_reads _ (units_read w k h us (outs ++ (length u.outputs ∷ [])) (before_next w (length us) (length u.outputs) outs b out) v.1))

pub variant_reads : (p : ℕ) → Back (variant p) write_variant (is_variant p)
variant_reads p v t =
    let t1 = both_true (is_name v.name) _ t in
    let t2 = both_true (eqb (length v.values) p) _ t1.1 in
    let many : length v.values ≡ p = eqb-true (length v.values) p t2.0 in
    then_reads _ (name_reads v.name t1.0) (last_reads _ (rw many at (floats_reads v.values t2.1)))

pub definition_reads : (w : Width) → Back (definition_by w) (write_definition_by w) (is_definition_by w)
unfolding definition_by write_definition_by is_definition_by
definition_reads w d t =
    let t1 = both_true (is_front w d.front) _ t in
    let t2 = both_true (leb (length d.units) (highest_of w)) _ t1.1 in
    let t3 = both_true (are_units w (length d.front.constants) [] d.units) _ t2.1 in
    let t4 = both_true (leb (length d.variants) highest16) _ t3.1 in
    let few = leb-true (length d.units) (highest_of w) t2.0 in
    then_reads _ (front_reads w d.front t1.0)
    (then_reads _ (some_reads w (length d.units) t2.0)
    (then_reads _ (units_read w (length d.front.constants) (constants_few w d.front t1.0) d.units [] (record { many = omega arith; each = λ i. omega arith }) t3.0)
    (then_reads _ (short_count_reads highest16 (omega arith) (length d.variants) t4.0)
    (last_reads _
    (repeat_reads (variant (length d.front.values)) write_variant (is_variant (length d.front.values)) (variant_reads (length d.front.values)) d.variants t4.1)))))
