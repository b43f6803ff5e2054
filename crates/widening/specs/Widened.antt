-- What the pieces of a definition of version 1 become is the version 2 writing of what is read from them.
use Prim.Native.Nat.{ℕ, zero, suc, ◌+◌, ◌*◌, ◌-◌, ◌≤◌}
use Rattle.std.specs.Prelude.{Bool, true, false, ◌≡◌, refl, ltb, leb, eqb}
use Rattle.std.proofs.Math.Path.{sym, ap, ap₂}
use Rattle.std.proofs.Common.{◌∙◌, arith, eqb-true}
use mathlib.Core.List.{List, [], ◌∷◌, ◌++◌, append_assoc}
use Rattle.std.proofs.Math.ListN.{length, get_or}
use Rattle.words.specs.Bytes.{AreBytes, bytes8, bytes16, bytes32}
use Rattle.words.specs.Choice.{pick}
use Rattle.words.specs.Parts.{region}
use Rattle.faults.specs.declared.Fault.TheVariants.{BadCount, BadIndex, BadName}
use Rattle.format.specs.declared.Width.TheVariants.{Short, Long}
use Rattle.format.specs.Read.{Read, got, bad, and_then, repeat}
use Rattle.format.specs.Definition.{Input, constant, output, UnitSpec, ParameterName, Front, Definition}
use Rattle.words.specs.Patterns.{minus_one}
use Rattle.format.specs.Fields.{int16, float32, name, definition_name, pstring, rate, value_by, integer_by, count_to_by, count_by, index_below_by, short_count_to, highest16, highest32}
use Rattle.format.specs.Reader.{most_parameters, parameter_name_by, front_by, input_by, unit_by, units_by, variant, definition_by}
use Rattle.format.specs.Writer.{write_name, write_all, write_parameter_name, write_input, write_unit, write_variant, write_front, write_definition_by, write_definition}
use Rattle.format.specs.Bounds.{is_float, is_rate, is_variant}
use Rattle.format.specs.NameLaws.{full}
use Rattle.format.specs.FieldLaws.{checked_got}
use Rattle.format.specs.Endings.{field_got, repeat_got}
use Rattle.format.specs.RepeatLaws.{went_on, got_value, got_place, repeat-length, floats_end}
use Rattle.format.specs.Sizes.{string_got, name_got, rate_sized}
use Rattle.roundtrip.specs.Sound.{Part, part_of, join, repeat_sound}
use Rattle.roundtrip.specs.FieldsForth.{int16_sound, float_sound, name_sound, definition_name_sound, rate_sound, short_count_sound}
use Rattle.roundtrip.specs.RecordsForth.{units_sound, variant_sound}
use Rattle.roundtrip.specs.Forth.{definition_forth}
use Rattle.widening.specs.Walk.{wide_all, past_all}
use Rattle.widening.specs.Pieces.{integer_wide, floats_past, floats_wide, name_past, name_wide, names_past, names_wide, front_past, front_wide, input_past, input_wide, body_past, body_wide, unit_past, unit_wide, units_past, rest_wide, definition_wide}

-- a writing of what was read up to a place is what a piece becomes, and the place is where the piece ends
pub record Wide (s : List ℕ) (next : ℕ) (w wide : List ℕ) (past : ℕ) : Type 0 where
  pub bytes : w ≡ wide
  pub end : next ≡ past
  pub inside : next ≤ length s

-- one piece behind another
wide_then : {s : List ℕ} {mid next : ℕ} {v w v' : List ℕ} {p : ℕ} (wide : ℕ → List ℕ) (past : ℕ → ℕ) → Wide s mid v v' p → Wide s next w (wide mid) (past mid) → Wide s next (v ++ w) (v' ++ wide p) (past p)
wide_then wide past a b = record {
  bytes = ap₂ (λ (x y : List ℕ). x ++ y) a.bytes (b.bytes ∙ ap wide a.end);
  end = b.end ∙ ap past a.end;
  inside = b.inside;
}

module _ (s : List ℕ) (b : AreBytes s) where
  -- bytes that stay as they are
  kept : (at k : ℕ) {next : ℕ} {w : List ℕ} {Q : Type 0} → Part s at next w Q → next ≡ at + k → Wide s next w (region at k s) (at + k)
  kept at k {next} c e =
      let n : next - at ≡ k = omega arith in
      record { bytes = (c.fact b).0 ∙ ap (λ (j : ℕ). region at j s) n; end = e; inside = c.inside }

  -- a count or an index
  integer-wide : (at : ℕ) {n next : ℕ} → integer_by Short s at ≡ got n next → Wide s next (bytes32 n) (integer_wide s at) (at + 2)
  integer-wide at h = let f = field_got 2 s at (value_by Short s at) h in record { bytes = ap bytes32 (sym f.0); end = f.1; inside = f.2 }

  count_wide : (most at : ℕ) {n next : ℕ} → count_to_by Short most s at ≡ got n next → Wide s next (bytes32 n) (integer_wide s at) (at + 2)
  count_wide most at h = integer-wide at (checked_got BadCount (λ n. leb n most) at (integer_by Short s at) h).0

  count_value : (most at : ℕ) {n next : ℕ} → count_to_by Short most s at ≡ got n next → n ≡ value_by Short s at
  count_value most at h = sym (field_got 2 s at (value_by Short s at) (checked_got BadCount (λ n. leb n most) at (integer_by Short s at) h).0).0

  index_wide : (bound at : ℕ) {n next : ℕ} → index_below_by Short bound s at ≡ got n next → Wide s next (bytes32 n) (integer_wide s at) (at + 2)
  index_wide bound at h = integer-wide at (checked_got BadIndex (λ n. ltb n bound) at (integer_by Short s at) h).0

  floats-wide : (most at : ℕ) {n p next : ℕ} {xs : List ℕ} → count_to_by Short most s at ≡ got n p → repeat (float32 s) n p ≡ got xs next
      → Wide s next (bytes32 (length xs) ++ write_all bytes32 xs) (floats_wide s at) (floats_past s at)
  unfolding floats_wide floats_past
  floats-wide most at {n} {p} {next} {xs} e f =
      let c = count_wide most at e in
      let value = count_value most at e in
      let many : length xs ≡ n = repeat-length (float32 s) n p f in
      let k : Wide s next (write_all bytes32 xs) (region p (4 * n) s) (p + 4 * n) = kept p (4 * n) (part_of (repeat_sound float32 bytes32 is_float float_sound n s p c.inside) f) (floats_end s n p f) in
      rw many (rw value (wide_then (λ q. region q (4 * value_by Short s at) s) (λ q. q + 4 * value_by Short s at) (rw value at c) (rw value at k)))

  name-wide : (p at : ℕ) (x : ParameterName) (next : ℕ) → at ≤ length s → parameter_name_by Short p s at ≡ got x next → Wide s next (write_parameter_name Long x) (name_wide s at) (name_past s at)
  name-wide p at x next l h =
      went_on (name s at) _ h (λ n p1 e1 r1.
      went_on (index_below_by Short p s p1) _ r1 (λ i p2 e2 r2.
      let c = kept at (1 + get_or s at 0) (part_of (name_sound s at l) e1) (name_got s at e1).1 in
      rw (sym (got_value r2), sym (got_place r2)) (wide_then (integer_wide s) (λ q. q + 2) c (index_wide p p1 e2))))

  all_wide : {A : Type 0} (read : ℕ → Read A) (write : A → List ℕ) (wide : ℕ → List ℕ) (past : ℕ → ℕ)
      → ((at : ℕ) (x : A) (next : ℕ) → at ≤ length s → read at ≡ got x next → Wide s next (write x) (wide at) (past at))
      → (n at : ℕ) {xs : List A} {end : ℕ} → at ≤ length s → repeat read n at ≡ got xs end → Wide s end (write_all write xs) (wide_all wide past n at) (past_all past n at)
  unfolding repeat write_all wide_all past_all
  all_wide read write wide past each zero at l h = rw (sym (got_value h), sym (got_place h)) (record { bytes = refl; end = refl; inside = l })
  all_wide read write wide past each (suc n) at l h =
      went_on (read at) _ h (λ x next e1 r1.
      went_on (repeat read n next) _ r1 (λ xs last e2 r2.
      let c = each at x next l e1 in
      rw (sym (got_value r2), sym (got_place r2)) (wide_then (wide_all wide past n) (past_all past n) c (all_wide read write wide past each n next c.inside e2))))

  front-wide : (at : ℕ) {f : Front} {end : ℕ} → at ≤ length s → front_by Short s at ≡ got f end → Wide s end (write_front Long f) (front_wide s at) (front_past s at)
  unfolding front_by front_wide front_past
  front-wide at {f} {end} l h =
      went_on (definition_name s at) _ h (λ n p1 e1 r1.
      went_on (count_by Short s p1) _ r1 (λ k p2 e2 r2.
      went_on (repeat (float32 s) k p2) _ r2 (λ constants p3 e3 r3.
      went_on (count_to_by Short most_parameters s p3) _ r3 (λ p p4 e4 r4.
      went_on (repeat (float32 s) p p4) _ r4 (λ values p5 e5 r5.
      went_on (count_by Short s p5) _ r5 (λ many p6 e6 r6.
      went_on (repeat (parameter_name_by Short p s) many p6) _ r6 (λ names p7 e7 r7.
      let c1 = kept at (1 + get_or s at 0) (part_of (definition_name_sound s at l) e1) (string_got s at (checked_got BadName full at (pstring s at) e1).0).1 in
      let c2 = floats-wide highest32 p1 e2 e3 in
      let c3 = floats-wide most_parameters p3 e4 e5 in
      let c4 = count_wide highest32 p5 e6 in
      let value = count_value highest32 p5 e6 in
      let count : length names ≡ many = repeat-length (parameter_name_by Short p s) many p6 e7 in
      let c5 : Wide s p7 (write_all (write_parameter_name Long) names) (wide_all (name_wide s) (name_past s) many p6) (past_all (name_past s) many p6) =
      all_wide (parameter_name_by Short p s) (write_parameter_name Long) (name_wide s) (name_past s) (name-wide p) many p6 c4.inside e7 in
      let c6 : Wide s p7 (bytes32 (length names) ++ write_all (write_parameter_name Long) names) (names_wide s p5) (names_past s p5) =
      rw count (rw value (wide_then (λ q. wide_all (name_wide s) (name_past s) (value_by Short s p5) q) (λ q. past_all (name_past s) (value_by Short s p5) q) (rw value at c4) (rw value at c5))) in
      let all = wide_then (λ q. floats_wide s q ++ (floats_wide s (floats_past s q) ++ names_wide s (floats_past s (floats_past s q)))) (λ q. names_past s (floats_past s (floats_past s q))) c1
      (wide_then (λ q. floats_wide s q ++ names_wide s (floats_past s q)) (λ q. names_past s (floats_past s q)) c2
      (wide_then (λ q. names_wide s q) (λ q. names_past s q) c3 c6)) in
      rw (sym (got_value r7), sym (got_place r7)) (record {
        bytes =
            ap (λ (x : List ℕ). write_name n ++ x)
            (sym (append_assoc (bytes32 (length constants)) (write_all bytes32 constants) _)
            ∙ ap (λ (x : List ℕ). (bytes32 (length constants) ++ write_all bytes32 constants) ++ x) (sym (append_assoc (bytes32 (length values)) (write_all bytes32 values) _)))
            ∙ all.bytes;
        end = all.end;
        inside = all.inside;
      }))))))))

  input-wide : (k : ℕ) (outs : List ℕ) (at : ℕ) (x : Input) (next : ℕ) → at ≤ length s → input_by Short k outs s at ≡ got x next → Wide s next (write_input Long x) (input_wide s at) (input_past at)
  input-wide k outs at x next l h = went_on (integer_by Short s at) _ h (λ u p e r. by u p (integer-wide at e) (eqb u minus_one) refl (ltb u (length outs)) r)
    where
      by : (u p : ℕ) → Wide s p (bytes32 u) (integer_wide s at) (at + 2) → (m : Bool) → eqb u minus_one ≡ m → (f : Bool)
          → pick m (and_then (index_below_by Short k s p) (λ i end. got (constant i) end)) (pick f (and_then (index_below_by Short (get_or outs u 0) s p) (λ o end. got (output u o) end)) (bad BadIndex at)) ≡ got x next
          → Wide s next (write_input Long x) (input_wide s at) (input_past at)
      by u p c true e f r =
          went_on (index_below_by Short k s p) _ r (λ i p2 e2 r2.
          rw (sym (got_value r2), sym (got_place r2)) (wide_then (integer_wide s) (λ q. q + 2) (rw (eqb-true u minus_one e) at c) (index_wide k p e2)))
      by u p c false e true r =
          went_on (index_below_by Short (get_or outs u 0) s p) _ r (λ o p2 e2 r2.
          rw (sym (got_value r2), sym (got_place r2)) (wide_then (integer_wide s) (λ q. q + 2) c (index_wide (get_or outs u 0) p e2)))
      by u p c false e false r = absurd (let z : ◌≡◌ {A = ℕ} 0 1 = cc in omega arith)

  unit-wide : (k : ℕ) (outs : List ℕ) (at : ℕ) {u : UnitSpec} {next : ℕ} → at ≤ length s → unit_by Short k outs s at ≡ got u next → Wide s next (write_unit Long u) (unit_wide s at) (unit_past s at)
  unfolding unit_by unit_wide unit_past body_wide body_past
  unit-wide k outs at {u} {next} l h =
      went_on (name s at) _ h (λ class p1 e1 r1.
      went_on (rate s p1) _ r1 (λ r p2 e2 r2.
      went_on (count_by Short s p2) _ r2 (λ many p3 e3 r3.
      went_on (count_by Short s p3) _ r3 (λ out p4 e4 r4.
      went_on (int16 s p4) _ r4 (λ special p5 e5 r5.
      went_on (repeat (input_by Short k outs s) many p5) _ r5 (λ inputs p6 e6 r6.
      went_on (repeat (rate s) out p6) _ r6 (λ outputs p7 e7 r7.
      let a1 = part_of (name_sound s at l) e1 in
      let a2 = part_of (rate_sound s p1 a1.inside) e2 in
      let c1 = kept at (2 + get_or s at 0) (join a1 a2) (omega (arith, (name_got s at e1).1, (rate_sized s p1 r p2 e2).0)) in
      let c2 = count_wide highest32 p2 e3 in
      let c3 = count_wide highest32 p3 e4 in
      let c4 = kept p4 2 (part_of (int16_sound s p4 c3.inside) e5) (field_got 2 s p4 _ e5).1 in
      let c5 : Wide s p6 (write_all (write_input Long) inputs) (wide_all (input_wide s) input_past many p5) (past_all input_past many p5) =
      all_wide (input_by Short k outs s) (write_input Long) (input_wide s) input_past (input-wide k outs) many p5 c4.inside e6 in
      let c6 = kept p6 out (part_of (repeat_sound rate bytes8 is_rate rate_sound out s p6 c5.inside) e7) (omega (arith, (repeat_got (rate s) 1 (length s) (rate_sized s) out p6 e7).past)) in
      let body : Wide s p7 (bytes16 special ++ (write_all (write_input Long) inputs ++ write_all bytes8 outputs)) (body_wide s many out p4) (body_past many out p4) =
      wide_then (λ q. wide_all (input_wide s) input_past many q ++ region (past_all input_past many q) out s) (λ q. past_all input_past many q + out) c4
      (wide_then (λ q. region q out s) (λ q. q + out) c5 c6) in
      let ins : many ≡ value_by Short s p2 = count_value highest32 p2 e3 in
      let outs' : out ≡ value_by Short s (p2 + 2) = count_value highest32 p3 e4 ∙ ap (value_by Short s) c2.end in
      let i = value_by Short s p2 in
      let o = value_by Short s (p2 + 2) in
      let counts : Wide s p7 (bytes32 many ++ (bytes32 out ++ (bytes16 special ++ (write_all (write_input Long) inputs ++ write_all bytes8 outputs)))) (integer_wide s p2 ++ (integer_wide s (p2 + 2) ++ body_wide s i o (p2 + 2 + 2))) (body_past i o (p2 + 2 + 2)) =
      wide_then (λ q. integer_wide s q ++ body_wide s i o (q + 2)) (λ q. body_past i o (q + 2)) c2
      (wide_then (λ q. body_wide s i o q) (λ q. body_past i o q) c3 (rw (ins, outs') at body)) in
      let all = wide_then (λ q. integer_wide s q ++ (integer_wide s (q + 2) ++ body_wide s (value_by Short s q) (value_by Short s (q + 2)) (q + 2 + 2))) (λ q. body_past (value_by Short s q) (value_by Short s (q + 2)) (q + 2 + 2)) c1 counts in
      let inputs-many : length inputs ≡ many = repeat-length (input_by Short k outs s) many p5 e6 in
      let outputs-many : length outputs ≡ out = repeat-length (rate s) out p6 e7 in
      rw (sym (got_value r7), sym (got_place r7)) (record {
        bytes =
            ap₂ (λ (x y : ℕ). write_name class ++ (bytes8 r ++ (bytes32 x ++ (bytes32 y ++ (bytes16 special ++ (write_all (write_input Long) inputs ++ write_all bytes8 outputs)))))) inputs-many outputs-many
            ∙ sym (append_assoc (write_name class) (bytes8 r) _)
            ∙ all.bytes;
        end = all.end;
        inside = all.inside;
      }))))))))

  units_wide : (k n : ℕ) (outs : List ℕ) (at : ℕ) {us : List UnitSpec} {end : ℕ} → at ≤ length s → units_by Short k s n outs at ≡ got us end
      → Wide s end (write_all (write_unit Long) us) (wide_all (unit_wide s) (unit_past s) n at) (past_all (unit_past s) n at)
  unfolding units_by write_all wide_all past_all
  units_wide k zero outs at l h = rw (sym (got_value h), sym (got_place h)) (record { bytes = refl; end = refl; inside = l })
  units_wide k (suc n) outs at l h =
      went_on (unit_by Short k outs s at) _ h (λ u next e1 r1.
      went_on (units_by Short k s n (outs ++ (length u.outputs ∷ [])) next) _ r1 (λ us last e2 r2.
      let c = unit-wide k outs at l e1 in
      rw (sym (got_value r2), sym (got_place r2)) (wide_then (wide_all (unit_wide s) (unit_past s) n) (past_all (unit_past s) n) c (units_wide k n (outs ++ (length u.outputs ∷ [])) next c.inside e2))))

  -- a whole definition, up to its end
  pub record WholeWide (at : ℕ) (d : Definition) (end : ℕ) : Type 0 where
    pub bytes : write_definition d ≡ definition_wide s end at
    pub forward : units_past s (front_past s at) ≤ end
    pub inside : end ≤ length s

  pub definition-wide : (at : ℕ) {d : Definition} {end : ℕ} → definition_by Short s at ≡ got d end → WholeWide at d end
  unfolding definition_by write_definition_by definition_wide
  definition-wide at {d} {end} h =
      let here = definition_forth Short s b at d end h in
      went_on (front_by Short s at) _ h (λ f p1 e1 r1.
      went_on (count_by Short s p1) _ r1 (λ many p2 e2 r2.
      went_on (units_by Short (length f.constants) s many [] p2) _ r2 (λ units p3 e3 r3.
      went_on (short_count_to highest16 s p3) _ r3 (λ v p4 e4 r4.
      went_on (repeat (variant (length f.values) s) v p4) _ r4 (λ variants p5 e5 r5.
      let c1 = front-wide at (omega (arith, here.forward, here.inside)) e1 in
      let c2 = count_wide highest32 p1 e2 in
      let c3 = units_wide (length f.constants) many [] p2 c2.inside e3 in
      let a4 = part_of (short_count_sound highest16 s p3 c3.inside) e4 in
      let a5 = part_of (repeat_sound (variant (length f.values)) write_variant (is_variant (length f.values)) (variant_sound (length f.values)) v s p4 a4.inside) e5 in
      let tail = join a4 a5 in
      let c4 = kept p3 (p5 - p3) tail (omega (arith, tail.forward)) in
      let value : many ≡ value_by Short s p1 = count_value highest32 p1 e2 in
      let units-many : length units ≡ many = ((part_of (units_sound Short (length f.constants) many [] s p2 c2.inside) e3).fact b).1.0 in
      let variants-many : length variants ≡ v = repeat-length (variant (length f.values) s) v p4 e5 in
      let last : p5 ≡ end = got_place r5 in
      let n = value_by Short s p1 in
      let behind : p3 ≡ units_past s (front_past s at) =
      c3.end ∙ ap₂ (λ (m q : ℕ). past_all (unit_past s) m q) value c2.end ∙ ap (units_past s) c1.end in
      let c5 : Wide s p5 (bytes16 v ++ write_all write_variant variants) (region p3 (p5 - p3) s) p5 = record { bytes = c4.bytes; end = refl; inside = c4.inside } in
      let c6 : Wide s p5 (write_all (write_unit Long) units ++ (bytes16 v ++ write_all write_variant variants)) (wide_all (unit_wide s) (unit_past s) many p2 ++ region (past_all (unit_past s) many p2) (p5 - past_all (unit_past s) many p2) s) p5 =
      wide_then (λ q. region q (p5 - q) s) (λ q. p5) c3 c5 in
      let rest : Wide s p5 (bytes32 many ++ (write_all (write_unit Long) units ++ (bytes16 v ++ write_all write_variant variants))) (rest_wide s p5 p1) p5 =
      wide_then (λ q. wide_all (unit_wide s) (unit_past s) n q ++ region (past_all (unit_past s) n q) (p5 - past_all (unit_past s) n q) s) (λ q. p5) c2 (rw value at c6) in
      let all = wide_then (λ q. rest_wide s p5 q) (λ q. p5) c1 rest in
      rw (sym (got_value r5), sym last) (record {
        bytes =
            ap₂ (λ (x y : ℕ). write_front Long f ++ (bytes32 x ++ (write_all (write_unit Long) units ++ (bytes16 y ++ write_all write_variant variants)))) units-many variants-many
            ∙ all.bytes;
        forward = omega (arith, behind, tail.forward);
        inside = all.inside;
      }))))))
