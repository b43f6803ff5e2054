-- What fits the fields of version 1 fits those of version 2.
use Rattle.std.specs.Prelude.{ℕ, ◌≡◌, refl, true, List, [], ◌∷◌, ◌++◌, length, ltb, leb}
use Rattle.std.proofs.Common.{arith, leb-true, le-leb}
use Rattle.words.specs.Choice.{both}
use Rattle.words.specs.ChoiceLaws.{both_true}
use Rattle.format.specs.declared.Width.{Width}
use Rattle.format.specs.declared.Width.TheVariants.{Short, Long}
use Rattle.format.specs.Definition.{UnitSpec, Front, Definition}
use Rattle.format.specs.Fields.{highest_of}
use Rattle.format.specs.Reader.{most_parameters}
use Rattle.format.specs.Bounds.{every, is_name, is_float, is_rate, is_unit, are_units, is_front, is_definition_by, is_definition}

wider_count : (n : ℕ) → leb n (highest_of Short) ≡ true → leb n (highest_of Long) ≡ true
wider_count n t = let h = leb-true n (highest_of Short) t in le-leb n (highest_of Long) (omega arith)

wider_unit : (k : ℕ) (outs : List ℕ) (u : UnitSpec) → is_unit Short k outs u ≡ true → is_unit Long k outs u ≡ true
wider_unit k outs u t =
    let t1 = both_true (is_name u.class) _ t in
    let t2 = both_true (is_rate u.rate) _ t1.1 in
    let t3 = both_true (ltb u.special 65536) _ t2.1 in
    let t4 = both_true (leb (length u.inputs) (highest_of Short)) _ t3.1 in
    let t5 = both_true (leb (length u.outputs) (highest_of Short)) _ t4.1 in
    rw (t1.0, t2.0, t3.0, wider_count (length u.inputs) t4.0, wider_count (length u.outputs) t5.0) t5.1

wider_units : (k : ℕ) (outs : List ℕ) (us : List UnitSpec) → are_units Short k outs us ≡ true → are_units Long k outs us ≡ true
unfolding are_units
wider_units k outs [] t = refl
wider_units k outs (u ∷ us) t =
    let v = both_true (is_unit Short k outs u) _ t in
    rw (wider_unit k outs u v.0) (wider_units k (outs ++ (length u.outputs ∷ [])) us v.1)

wider_front : (f : Front) → is_front Short f ≡ true → is_front Long f ≡ true
wider_front f t =
    let t1 = both_true (both (ltb 0 (length f.name)) (is_name f.name)) _ t in
    let t2 = both_true (leb (length f.constants) (highest_of Short)) _ t1.1 in
    let t3 = both_true (every is_float f.constants) _ t2.1 in
    let t4 = both_true (leb (length f.values) most_parameters) _ t3.1 in
    let t5 = both_true (every is_float f.values) _ t4.1 in
    let t6 = both_true (leb (length f.names) (highest_of Short)) _ t5.1 in
    rw (t1.0, wider_count (length f.constants) t2.0, t3.0, t4.0, t5.0, wider_count (length f.names) t6.0) t6.1

pub wider : (w : Width) (d : Definition) → is_definition_by w d ≡ true → is_definition d ≡ true
unfolding is_definition_by
wider Short d t =
    let t1 = both_true (is_front Short d.front) _ t in
    let t2 = both_true (leb (length d.units) (highest_of Short)) _ t1.1 in
    let t3 = both_true (are_units Short (length d.front.constants) [] d.units) _ t2.1 in
    rw (wider_front d.front t1.0, wider_count (length d.units) t2.0, wider_units (length d.front.constants) [] d.units t3.0) t3.1
wider Long d t = t
