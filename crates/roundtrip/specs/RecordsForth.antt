-- The records of a file: what is taken is the writing of what is given.
use Rattle.std.specs.Prelude.{ℕ, zero, suc, ◌≡◌, refl, Bool, true, false, List, [], ◌∷◌, ◌++◌, length, get_or, ltb, leb, eqb}
use Rattle.std.proofs.Common.{ap, arith, eqb-true, eq-eqb, lt-ltb, le-leb}
use Rattle.words.specs.Choice.{pick}
use Rattle.faults.specs.declared.Fault.TheVariants.{BadIndex}
use Rattle.format.specs.declared.Width.{Width}
use Rattle.format.specs.Read.{got, bad, and_then, repeat}
use Rattle.format.specs.Definition.{constant, output}
use Rattle.words.specs.Patterns.{minus_one}
use Rattle.format.specs.Fields.{float32, rate, highest16, highest32, highest_of, count_by, index_below_by}
use Rattle.format.specs.Reader.{most_parameters, parameter_name_by, front_by, input_by, unit_by, units_by, variant, definition_by}
use Rattle.words.specs.Bytes.{bytes8, bytes32}
use Rattle.format.specs.Writer.{write_integer, write_all, write_parameter_name, write_input, write_unit, write_variant, write_front, write_definition_by}
use Rattle.format.specs.Bounds.{every, is_float, is_rate, is_parameter_name, is_input, is_unit, are_units, is_variant, is_front, is_definition_by}
use Rattle.roundtrip.specs.Sound.{Part, Sound, taken, refused, Forth, empty_part, join, restate, then_sound, weaken, repeat_sound}
use Rattle.roundtrip.specs.FieldsForth.{Fits, int16_sound, integer_sound, float_sound, name_sound, definition_name_sound, count_sound, short_count_sound, index_sound, rate_sound}

floats_sound : (n : ℕ) → Forth (λ s at. repeat (float32 s) n at) (write_all bytes32) (λ xs. (length xs ≡ n) × (every is_float xs ≡ true))
floats_sound n = repeat_sound float32 bytes32 is_float float_sound n

-- a count that fits its field
some_sound : (w : Width) → Forth (count_by w) (write_integer w) (λ n. leb n (highest_of w) ≡ true)
some_sound w s at h = weaken (count_sound w highest32 (omega arith) s at h) (λ n q. le-leb n (highest_of w) q.1)

pub parameter_name_sound : (w : Width) (p : ℕ) → Forth (parameter_name_by w p) (write_parameter_name w) (λ n. is_parameter_name p n ≡ true)
parameter_name_sound w p s at h =
    then_sound _ (name_sound s at h) (λ n next c.
    then_sound _ (index_sound w p s next c.inside) (λ i end d.
    taken _ end (restate (join c d) (λ q. (refl, rw q.0 q.1)))))

pub front_sound : (w : Width) → Forth (front_by w) (write_front w) (λ f. is_front w f ≡ true)
unfolding front_by
front_sound w s at h =
    then_sound _ (definition_name_sound s at h) (λ n p1 c1.
    then_sound _ (some_sound w s p1 c1.inside) (λ k p2 c2.
    then_sound _ (floats_sound k s p2 c2.inside) (λ constants p3 c3.
    then_sound _ (count_sound w most_parameters (omega arith) s p3 c3.inside) (λ p p4 c4.
    then_sound _ (floats_sound p s p4 c4.inside) (λ values p5 c5.
    then_sound _ (some_sound w s p5 c5.inside) (λ many p6 c6.
    then_sound _ (repeat_sound (parameter_name_by w p) (write_parameter_name w) (is_parameter_name p) (parameter_name_sound w p) many s p6 c6.inside) (λ names end c7.
    taken _ end (restate (join c1 (join c2 (join c3 (join c4 (join c5 (join c6 c7)))))) (λ (t1, (t2, ((e3, t3), ((t4, q4), ((e5, t5), (t6, (e7, t7))))))).
    rw (e3, e5, e7) (refl, rw (t1, t2, t3, t4, t5, t6) t7))))))))))

pub input_sound : (w : Width) (k : ℕ) (outs : List ℕ) → Forth (input_by w k outs) (write_input w) (λ i. is_input k outs i ≡ true)
input_sound w k outs s at h = then_sound _ (integer_sound w s at h) (λ u next c. by u next c (eqb u minus_one) refl (ltb u (length outs)) refl)
  where
    by : (u next : ℕ) → Part s at next (write_integer w u) (Fits w u) → (m : Bool) → eqb u minus_one ≡ m → (l : Bool) → ltb u (length outs) ≡ l
        → Sound s at (write_input w) (λ i. is_input k outs i ≡ true)
        (pick m
        (and_then (index_below_by w k s next) (λ i end. got (constant i) end))
        (pick l (and_then (index_below_by w (get_or outs u 0) s next) (λ o end. got (output u o) end)) (bad BadIndex at)))
    by u next c true e l f =
        then_sound _ (index_sound w k s next c.inside) (λ i end d.
        taken _ end (restate (join c d) (λ (q, t). (rw (eqb-true u minus_one e), t))))
    by u next c false e true f =
        then_sound _ (index_sound w (get_or outs u 0) s next c.inside) (λ o end d.
        taken _ end (restate (join c d) (λ (q, t). (refl, rw f t))))
    by u next c false e false f = refused BadIndex at h

pub unit_sound : (w : Width) (k : ℕ) (outs : List ℕ) → Forth (unit_by w k outs) (write_unit w) (λ u. is_unit w k outs u ≡ true)
unfolding unit_by
unit_sound w k outs s at h =
    then_sound _ (name_sound s at h) (λ class p1 c1.
    then_sound _ (rate_sound s p1 c1.inside) (λ r p2 c2.
    then_sound _ (some_sound w s p2 c2.inside) (λ many p3 c3.
    then_sound _ (some_sound w s p3 c3.inside) (λ out p4 c4.
    then_sound _ (int16_sound s p4 c4.inside) (λ special p5 c5.
    then_sound _ (repeat_sound (input_by w k outs) (write_input w) (is_input k outs) (input_sound w k outs) many s p5 c5.inside) (λ inputs p6 c6.
    then_sound _ (repeat_sound rate bytes8 is_rate rate_sound out s p6 c6.inside) (λ outputs end c7.
    taken _ end (restate (join c1 (join c2 (join c3 (join c4 (join c5 (join c6 c7)))))) (λ (t1, (t2, (t3, (t4, (q5, ((e6, t6), (e7, t7))))))).
    rw (e6, e7) (refl, rw (t1, t2, lt-ltb special 65536 q5, t3, t4, t6) t7))))))))))

pub units_sound : (w : Width) (k : ℕ) (n : ℕ) (outs : List ℕ) → Forth (λ s at. units_by w k s n outs at) (write_all (write_unit w)) (λ us. (length us ≡ n) × (are_units w k outs us ≡ true))
unfolding units_by write_all are_units
units_sound w k zero outs s at h = taken [] at (empty_part s at _ h (refl, refl))
units_sound w k (suc n) outs s at h =
    then_sound _ (unit_sound w k outs s at h) (λ u next c.
    then_sound _ (units_sound w k n (outs ++ (length u.outputs ∷ [])) s next c.inside) (λ us end d.
    taken (u ∷ us) end (restate (join c d) (λ (t, (e, ts)). (refl, (ap suc e, rw t ts))))))

pub variant_sound : (p : ℕ) → Forth (variant p) write_variant (λ v. is_variant p v ≡ true)
variant_sound p s at h =
    then_sound _ (name_sound s at h) (λ n next c.
    then_sound _ (floats_sound p s next c.inside) (λ values end d.
    taken _ end (restate (join c d) (λ (t1, (e2, t2)). (refl, rw (t1, eq-eqb (length values) p e2) t2)))))

pub definition_sound : (w : Width) → Forth (definition_by w) (write_definition_by w) (λ d. is_definition_by w d ≡ true)
unfolding definition_by write_definition_by is_definition_by
definition_sound w s at h =
    then_sound _ (front_sound w s at h) (λ f p1 c1.
    then_sound _ (some_sound w s p1 c1.inside) (λ many p2 c2.
    then_sound _ (units_sound w (length f.constants) many [] s p2 c2.inside) (λ units p3 c3.
    then_sound _ (short_count_sound highest16 s p3 c3.inside) (λ v p4 c4.
    then_sound _ (repeat_sound (variant (length f.values)) write_variant (is_variant (length f.values)) (variant_sound (length f.values)) v s p4 c4.inside) (λ variants end c5.
    taken _ end (restate (join c1 (join c2 (join c3 (join c4 c5)))) (λ (t1, (t2, ((e3, t3), (t4, (e5, t5))))).
    rw (e3, e5) (refl, rw (t1, t2, t3, t4) t5))))))))
