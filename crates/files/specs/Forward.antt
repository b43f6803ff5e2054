-- A definition that was read: its name stands at its start, and it ends behind it.
use Prim.Native.Nat.{ℕ, zero, suc, ◌+◌, ◌*◌, ◌≤◌, ◌<◌}
use Rattle.std.specs.Prelude.{◌≡◌, List, [], ◌∷◌, ◌++◌, length, get_or, ltb, leb}
use Rattle.std.proofs.Common.{ap, ◌∙◌, length-take, ltb-true}
use native.Mathlib.Omega.{arith}
use Rattle.words.specs.Choice.{both}
use Rattle.words.specs.ChoiceLaws.{both_true}
use Rattle.faults.specs.declared.Fault.TheVariants.{BadName, BadCount}
use Rattle.format.specs.Read.{Read, got, repeat, map_read}
use Rattle.format.specs.declared.Width.{Width}
use Rattle.format.specs.declared.Width.TheVariants.{Short, Long}
use Rattle.format.specs.Fields.{int16, float32, name, definition_name, pstring, string_at, name_bytes, size_of, count_by, count_to_by, short_count_to, index_below_by, highest16, highest32}
use Rattle.format.specs.Definition.{UnitSpec, Front, Definition}
use Rattle.format.specs.Reader.{most_parameters, size_limit, parameter_name_by, front_by, unit_by, units_by, variant, definition_by}
use Rattle.format.specs.Writer.{write_definition}
use Rattle.format.specs.Endings.{field_got}
use Rattle.format.specs.RepeatLaws.{went_on, floats_end, got_value}
use Rattle.format.specs.FieldLaws.{checked_got, count_end}
use Rattle.format.specs.Sizes.{string_got, name_got, index_sized}
use Rattle.words.specs.Bytes.{AreBytes}
use Rattle.roundtrip.specs.Stands.{stands_all}
use Rattle.roundtrip.specs.RecordsBack.{definition_reads}
use Rattle.roundtrip.specs.Forth.{definition_forth}
use Rattle.units.specs.Marks.{unit_end, unit_counts}
use Rattle.units.specs.Units.{counts_of, unit_shape, remembered}

module _ {A : Type 0} where
  -- readings that never go back
  abbrev pub Forward : (ℕ → Read A) → Type 0
  Forward read = (at : ℕ) (x : A) (next : ℕ) → read at ≡ got x next → at ≤ next

module _ {A : Type 0} where
  pub repeat_forward : (read : ℕ → Read A) → Forward read → (n : ℕ) → Forward (repeat read n)
  unfolding repeat
  repeat_forward read f zero at xs end h =
      let e : at ≡ end = cc in
      omega arith
  repeat_forward read f (suc n) at xs end h =
      went_on (read at) _ h (λ x next e1 r1.
      went_on (repeat read n next) _ r1 (λ ys last e2 r2.
      let e : last ≡ end = cc in
      omega (arith, f at x next e1, repeat_forward read f n next ys last e2)))

floats_forward : (s : List ℕ) (n : ℕ) → Forward (repeat (float32 s) n)
floats_forward s n at xs end h = omega (arith, floats_end s n at h)

-- a count takes at least two bytes
least : (w : Width) → 2 ≤ size_of w
least Short = omega arith
least Long = omega arith

count_size : (w : Width) (most : ℕ) (s : List ℕ) (at : ℕ) {x next : ℕ} → count_to_by w most s at ≡ got x next → at + 2 ≤ next
count_size w most s at h = omega (arith, count_end w most s at h, least w)

short_size : (most : ℕ) (s : List ℕ) (at : ℕ) (x next : ℕ) → short_count_to most s at ≡ got x next → next ≡ at + 2
short_size most s at x next h =
    let w = field_got 2 s at _ (checked_got BadCount (λ n. leb n most) at (int16 s at) h).0 in
    omega arith

name_forward : (s : List ℕ) → Forward (name s)
name_forward s at x next h = let w = name_got s at h in omega arith

parameter_forward : (w : Width) (p : ℕ) (s : List ℕ) → Forward (parameter_name_by w p s)
parameter_forward w p s at x next h =
    went_on (name s at) _ h (λ n p1 e1 r1.
    went_on (index_below_by w p s p1) _ r1 (λ i p2 e2 r2.
    let e : p2 ≡ next = cc in
    omega (arith, name_forward s at n p1 e1, (index_sized w p s p1 i p2 e2).0)))

variant_forward : (p : ℕ) (s : List ℕ) → Forward (variant p s)
variant_forward p s at x next h =
    went_on (name s at) _ h (λ n p1 e1 r1.
    went_on (repeat (float32 s) p p1) _ r1 (λ values p2 e2 r2.
    let e : p2 ≡ next = cc in
    omega (arith, name_forward s at n p1 e1, floats_forward s p p1 values p2 e2)))

-- a unit takes at least eight bytes
unit_size : (w : Width) (k : ℕ) (outs s : List ℕ) (at : ℕ) (x : UnitSpec) (next : ℕ) → unit_by w k outs s at ≡ got x next → at + 8 ≤ next
unfolding unit_end unit_counts
unit_size w k outs s at x next h =
    omega (arith, least w, (unit_shape w k outs s at (ap (map_read counts_of) h)).past)

units_size : (w : Width) (k : ℕ) (s : List ℕ) (n : ℕ) (outs : List ℕ) (at : ℕ) (us : List UnitSpec) (end : ℕ) → units_by w k s n outs at ≡ got us end → at + 8 * length us ≤ end
unfolding units_by
units_size w k s zero outs at us end h =
    let none : us ≡ [] = cc in
    let e : at ≡ end = cc in
    omega (arith, ap length none)
units_size w k s (suc n) outs at us end h =
    went_on (unit_by w k outs s at) _ h (λ u next e1 r1.
    went_on (units_by w k s n (outs ++ (length u.outputs ∷ [])) next) _ r1 (λ rest last e2 r2.
    let all : us ≡ u ∷ rest = cc in
    let e : last ≡ end = cc in
    omega (
      arith,
      ap length all,
      unit_size w k outs s at u next e1,
      units_size w k s n (outs ++ (length u.outputs ∷ [])) next rest last e2,
    )))

-- what is known of a part of a definition that starts with its name, and takes at least so many bytes
pub record Whole (s : List ℕ) (at : ℕ) (n : List ℕ) (least end : ℕ) : Type 0 where
  pub named : string_at s at ≡ n
  pub some : 0 < get_or s at 0
  pub inside : at + 1 + get_or s at 0 ≤ length s
  pub forward : at + 1 + get_or s at 0 ≤ end
  pub room : at + least ≤ end

front_whole : (w : Width) (s : List ℕ) (at : ℕ) {f : Front} {end : ℕ} → front_by w s at ≡ got f end → Whole s at f.name 8 end
unfolding front_by
front_whole w s at {f} {end} h =
    went_on (definition_name s at) _ h (λ n p1 e1 r1.
    went_on (count_by w s p1) _ r1 (λ k p2 e2 r2.
    went_on (repeat (float32 s) k p2) _ r2 (λ constants p3 e3 r3.
    went_on (count_to_by w most_parameters s p3) _ r3 (λ p p4 e4 r4.
    went_on (repeat (float32 s) p p4) _ r4 (λ values p5 e5 r5.
    went_on (count_by w s p5) _ r5 (λ many p6 e6 r6.
    went_on (repeat (parameter_name_by w p s) many p6) _ r6 (λ names p7 e7 r7.
    let c = checked_got BadName (λ n. both (ltb 0 (length n)) (name_bytes n)) at (pstring s at) e1 in
    let t = string_got s at c.0 in
    let full = ltb-true 0 (length n) (both_true (ltb 0 (length n)) (name_bytes n) c.1).0 in
    let most : length (string_at s at) ≤ get_or s at 0 = simp length-take (omega arith) in
    let size = ap length t.0 in
    let g2 = count_size w highest32 s p1 e2 in
    let g3 = floats_forward s k p2 constants p3 e3 in
    let g4 = count_size w most_parameters s p3 e4 in
    let g5 = floats_forward s p p4 values p5 e5 in
    let g6 = count_size w highest32 s p5 e6 in
    let g7 = repeat_forward (parameter_name_by w p s) (parameter_forward w p s) many p6 names p7 e7 in
    let last : p7 ≡ end = cc in
    let same : got n p7 ≡ got f.name end = ap (map_read (λ (x : Front). x.name)) r7 in
    let named : n ≡ f.name = cc in
    record { named = t.0 ∙ named; some = omega arith; inside = omega arith; forward = omega arith; room = omega arith })))))))

pub definition_whole : (w : Width) (s : List ℕ) (at : ℕ) {d : Definition} {end : ℕ} → definition_by w s at ≡ got d end → Whole s at d.front.name (12 + 8 * length d.units) end
unfolding definition_by
definition_whole w s at {d} {end} h =
    went_on (front_by w s at) _ h (λ f p1 e1 r1.
    went_on (count_by w s p1) _ r1 (λ many p2 e2 r2.
    went_on (units_by w (length f.constants) s many [] p2) _ r2 (λ units p3 e3 r3.
    went_on (short_count_to highest16 s p3) _ r3 (λ v p4 e4 r4.
    went_on (repeat (variant (length f.values) s) v p4) _ r4 (λ variants p5 e5 r5.
    let t = front_whole w s at e1 in
    let g2 = count_size w highest32 s p1 e2 in
    let g3 = units_size w (length f.constants) s many [] p2 units p3 e3 in
    let g4 = short_size highest16 s p3 v p4 e4 in
    let g5 = repeat_forward (variant (length f.values) s) (variant_forward (length f.values) s) v p4 variants p5 e5 in
    let same : got f.name p5 ≡ got d.front.name end = ap (map_read (λ (x : Definition). x.front.name)) r5 in
    let last : p5 ≡ end = cc in
    let named : f.name ≡ d.front.name = cc in
    let all = got_value (ap (map_read (λ (x : Definition). length x.units)) r5) in
    record {
      named = t.named ∙ named;
      some = t.some;
      inside = t.inside;
      forward = omega (arith, t.forward);
      room = omega (arith, t.room);
    })))))

-- the outputs of all units of a definition within the size limit are remembered
pub units_remembered : (w : Width) (s : List ℕ) → AreBytes s → (at : ℕ) {d : Definition} {end : ℕ} → definition_by w s at ≡ got d end → length (write_definition d) ≤ size_limit → length d.units < remembered
units_remembered w s b at {d} {end} h l =
    omega (arith, (definition_whole Long (write_definition d) 0 ((definition_reads Long d (definition_forth w s b at d end h).bounded).found (write_definition d) 0 (stands_all (write_definition d)))).room)
