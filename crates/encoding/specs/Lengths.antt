-- "The 2,048 limit is measured on the version 2 encoding": each count and index takes two bytes more there than in version 1.
use Rattle.std.specs.Prelude.{ℕ, ◌+◌, ◌*◌, ◌-◌, ◌≤◌, ◌≡◌, refl, length}
use Rattle.std.proofs.Common.{ap, ◌∙◌, length-append, length-take, length-drop}
use mathlib.Core.List.{List, [], ◌∷◌, ◌++◌}
use native.Mathlib.Omega.{arith}
use Rattle.words.specs.Bytes.{AreBytes, bytes8, bytes16, bytes32}
use Rattle.format.specs.declared.Width.{Width}
use Rattle.format.specs.declared.Width.TheVariants.{Short, Long}
use Rattle.format.specs.Read.{got}
use Rattle.words.specs.Patterns.{minus_one}
use Rattle.format.specs.Definition.{Input, constant, output, UnitSpec, ParameterName, Front, Definition}
use Rattle.format.specs.Reader.{definition_by}
use Rattle.format.specs.Writer.{write_integer, write_name, write_all, write_parameter_name, write_input, write_unit, write_variant, write_front, write_definition_by, write_definition}
use Rattle.roundtrip.specs.Forth.{definition_forth}
use Rattle.encoding.specs.Encoding.{total, unit_fields, fields_in}

-- the same in four bytes a field and in two, with so many fields
record Wider (long short : List ℕ) (n : ℕ) : Type 0 where
  pub longer : length long ≡ length short + 2 * n
  pub least : 2 * n ≤ length short

same : (xs : List ℕ) → Wider xs xs 0
same xs = record { longer = omega arith; least = omega arith }

integer : (n : ℕ) → Wider (write_integer Long n) (write_integer Short n) 1
integer n = record { longer = refl; least = omega arith }

join : {a b c d : List ℕ} {m n : ℕ} → Wider a b m → Wider c d n → Wider (a ++ c) (b ++ d) (m + n)
join {a} {b} {c} {d} p q =
    record {
      longer = omega (arith, length-append a c, length-append b d, p.longer, q.longer);
      least = omega (arith, length-append b d, p.least, q.least);
    }

recount : {a b : List ℕ} {m n : ℕ} → Wider a b m → m ≡ n → Wider a b n
recount w e = rw e at w

module _ {A : Type 0} where
  all : (long short : A → List ℕ) (count : A → ℕ) → ((x : A) → Wider (long x) (short x) (count x)) → (xs : List A) → Wider (write_all long xs) (write_all short xs) (total count xs)
  unfolding write_all total
  all long short count each [] = same []
  all long short count each (x ∷ xs) = join (each x) (all long short count each xs)

  total_same : (k : ℕ) (xs : List A) → total (λ x. k) xs ≡ k * length xs
  unfolding total
  total_same k [] = omega arith
  total_same k (x ∷ xs) = omega (arith, total_same k xs)

parameter_wider : (p : ParameterName) → Wider (write_parameter_name Long p) (write_parameter_name Short p) 1
parameter_wider p = join (same (write_name p.name)) (integer p.index)

input_wider : (i : Input) → Wider (write_input Long i) (write_input Short i) 2
input_wider (constant k) = join (integer minus_one) (integer k)
input_wider (output u o) = join (integer u) (integer o)

unit_wider : (u : UnitSpec) → Wider (write_unit Long u) (write_unit Short u) (unit_fields u)
unit_wider u =
    recount
    (join (same (write_name u.class))
    (join (same (bytes8 u.rate))
    (join (integer (length u.inputs))
    (join (integer (length u.outputs))
    (join (same (bytes16 u.special))
    (join (all (write_input Long) (write_input Short) (λ i. 2) input_wider u.inputs) (same (write_all bytes8 u.outputs))))))))
    (omega (arith, total_same 2 u.inputs))

front_wider : (f : Front) → Wider (write_front Long f) (write_front Short f) (3 + length f.names)
front_wider f =
    recount
    (join (same (write_name f.name))
    (join (integer (length f.constants))
    (join (same (write_all bytes32 f.constants))
    (join (integer (length f.values))
    (join (same (write_all bytes32 f.values))
    (join (integer (length f.names)) (all (write_parameter_name Long) (write_parameter_name Short) (λ p. 1) parameter_wider f.names)))))))
    (omega (arith, total_same 1 f.names))

definition_wider : (d : Definition) → Wider (write_definition d) (write_definition_by Short d) (fields_in d)
unfolding write_definition_by
definition_wider d =
    recount
    (join (front_wider d.front)
    (join (integer (length d.units))
    (join (all (write_unit Long) (write_unit Short) unit_fields unit_wider d.units)
    (join (same (bytes16 (length d.variants))) (same (write_all write_variant d.variants))))))
    (omega arith)

-- the length in version 2 by that in version 1
pub definition_longer : (d : Definition) → length (write_definition d) ≡ length (write_definition_by Short d) + 2 * fields_in d
definition_longer d = (definition_wider d).longer

-- each field takes at least two bytes
pub fields_few : (w : Width) (d : Definition) → 2 * fields_in d ≤ length (write_definition_by w d)
fields_few Short d = (definition_wider d).least
fields_few Long d = omega (arith, (definition_wider d).longer)

-- so it is no shorter, and at most twice as long
pub at_least : (w : Width) (d : Definition) → length (write_definition_by w d) ≤ length (write_definition d)
at_least Short d = omega (arith, definition_longer d)
at_least Long d = omega arith

pub at_most_twice : (w : Width) (d : Definition) → length (write_definition d) ≤ 2 * length (write_definition_by w d)
at_most_twice Short d = omega (arith, definition_longer d, fields_few Short d)
at_most_twice Long d = omega arith

-- the bytes of a file from which a definition was read are as many as its writing has in that version
pub file-length : (w : Width) (s : List ℕ) → AreBytes s → (at : ℕ) {d : Definition} {end : ℕ} → definition_by w s at ≡ got d end → length (write_definition_by w d) ≡ end - at
file-length w s b at {d} {end} h =
    let t = definition_forth w s b at d end h in
    let forward = t.forward in
    let inside = t.inside in
    ap length t.bytes ∙ simp (length-take, length-drop) (omega arith)

-- what is known of a definition that was read from one place to another
pub record Sized (w : Width) (s : List ℕ) (at end : ℕ) (d : Definition) : Type 0 where
  pub forward : at ≤ end
  pub inside : end ≤ length s
  pub least : end - at ≤ length (write_definition d)
  pub most : length (write_definition d) ≤ 2 * (end - at)
  pub few : 2 * fields_in d ≤ end - at

pub sized : (w : Width) (s : List ℕ) → AreBytes s → (at end : ℕ) (d : Definition) → definition_by w s at ≡ got d end → Sized w s at end d
sized w s b at end d h =
    let t = definition_forth w s b at d end h in
    let size = file-length w s b at h in
    record {
      forward = t.forward;
      inside = t.inside;
      least = omega (arith, at_least w d);
      most = omega (arith, at_most_twice w d);
      few = omega (arith, fields_few w d);
    }
