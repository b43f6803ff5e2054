-- The fields of a definition's units, counted along the file.
use Prim.Native.Nat.{ℕ, zero, suc, ◌+◌, ◌-◌, ◌≤◌}
use Rattle.std.specs.Prelude.{◌≡◌, length, get_or, leb}
use Rattle.std.proofs.Common.{sym, ◌∙◌}
use Rattle.std.proofs.Math.Path.{ap}
use mathlib.Core.List.{List, []}
use native.Mathlib.Omega.{arith}
use Rattle.std.proofs.Math.ListN.{drop}
use Rattle.faults.specs.declared.Fault.TheVariants.{BadCount}
use Rattle.format.specs.declared.Width.{Width}
use Rattle.format.specs.Read.{got, repeat, map_read}
use Rattle.format.specs.Fields.{size_of, value_by, integer_by, count_by, short_count_to, highest16, highest32}
use Rattle.format.specs.Definition.{UnitSpec, Definition}
use Rattle.format.specs.Reader.{front_by, input_by, unit_by, units_by, variant, definition_by}
use Rattle.format.specs.Endings.{field_got}
use Rattle.format.specs.FieldLaws.{checked_got}
use Rattle.format.specs.RepeatLaws.{went_on, got_value, got_place, repeat-length}
use Rattle.format.specs.Sizes.{rate_sized, count_got, name_got}
use Rattle.front.specs.declared.Counts.{Counts}
use Rattle.front.specs.Front.{counts_of}
use Rattle.units.specs.Marks.{unit_counts, unit_inputs, unit_place, walked}
use Rattle.units.specs.Units.{outs_from, unit_on}
use Rattle.units.specs.Walk.{units_behind, unit_read}
use Rattle.encoding.specs.Encoding.{total, unit_fields}

-- a unit that was read has as many inputs as its count says
inputs_counted : (w : Width) (k : ℕ) (outs s : List ℕ) (at : ℕ) {u : UnitSpec} {end : ℕ} → unit_by w k outs s at ≡ got u end → length u.inputs ≡ unit_inputs w s at
unfolding unit_counts unit_inputs
inputs_counted w k outs s at h =
    unit_on w k outs s at h (λ class r many o special p1 p2 p3 p4 p5 p6 e1 e2 e3 e4 e5 e6 e7.
    let a = name_got s at e1 in
    let b = rate_sized s p1 r p2 e2 in
    let place : p2 ≡ at + 2 + get_or s at 0 = omega arith in
    repeat-length (input_by w k outs s) many p5 e6 ∙ (count_got w s p2 e3).0 ∙ ap (value_by w s) place)

module _ (w : Width) (k : ℕ) (s : List ℕ) (n start : ℕ) {us : List UnitSpec} {end : ℕ} (h : units_by w k s n [] start ≡ got us end) where
  -- the units that were walked over, and those that are left
  walked_left : (i : ℕ) → i ≤ n → walked w s start i + total unit_fields (drop i us) ≡ total unit_fields us
  unfolding walked total
  walked_left zero l = omega arith
  walked_left (suc i) l =
      let t = unit_read w k s n start h i (omega arith) in
      let inputs = inputs_counted w k (outs_from w s start i) s (unit_place w s start i) t.read in
      let one : total unit_fields (drop i us) ≡ unit_fields t.unit + total unit_fields (drop (suc i) us) = ap (total unit_fields) t.listed in
      omega (arith, walked_left i (omega arith))

  pub walked_all : walked w s start n ≡ total unit_fields us
  unfolding units_by total
  walked_all =
      let none : n - n ≡ 0 = omega arith in
      let left : [] ≡ drop n us = got_value (rw none at (units_behind w k s n start h n (omega arith))) in
      omega (arith, walked_left n (omega arith), ap (total unit_fields) left)

-- a definition that was read: its front, its U and its units
pub record Parts (w : Width) (s : List ℕ) (at : ℕ) (d : Definition) : Type 0 where
  pub past : ℕ
  pub count : ℕ
  pub start : ℕ
  pub last : ℕ
  pub front : front_by w s at ≡ got d.front past
  pub counted : count_by w s past ≡ got count start
  pub units : units_by w (length d.front.constants) s count [] start ≡ got d.units last

pub definition_parts : (w : Width) (s : List ℕ) (at : ℕ) {d : Definition} {end : ℕ} → definition_by w s at ≡ got d end → Parts w s at d
unfolding definition_by
definition_parts w s at {d} {end} h =
    went_on (front_by w s at) _ h (λ f p1 e1 r1.
    went_on (count_by w s p1) _ r1 (λ many p2 e2 r2.
    went_on (units_by w (length f.constants) s many [] p2) _ r2 (λ units p3 e3 r3.
    went_on (short_count_to highest16 s p3) _ r3 (λ v p4 e4 r4.
    went_on (repeat (variant (length f.values) s) v p4) _ r4 (λ variants p5 e5 r5.
    rw (sym (got_value r5)) (record { past = p1; count = many; start = p2; last = p3; front = e1; counted = e2; units = e3 }))))))

-- the units of a definition end in the file
units_inside : (w : Width) (k : ℕ) (s : List ℕ) (n start : ℕ) {us : List UnitSpec} {end : ℕ} → start ≤ length s → units_by w k s n [] start ≡ got us end → unit_place w s start n ≤ length s
unfolding unit_place
units_inside w k s zero start l h = l
units_inside w k s (suc n) start l h = (unit_read w k s (suc n) start h n (omega arith)).within

-- what the front's counts and U tell of a definition that was read
pub record CountsTold (w : Width) (s : List ℕ) (d : Definition) (names start count : ℕ) : Type 0 where
  pub named : names ≡ length d.front.names
  pub fields : walked w s start count ≡ total unit_fields d.units
  pub inside : unit_place w s start count ≤ length s

pub told : (w : Width) (s : List ℕ) (at : ℕ) {d : Definition} {end past start n : ℕ} {c : Counts} → definition_by w s at ≡ got d end
    → map_read (counts_of w at) (front_by w s at) ≡ got c past → count_by w s past ≡ got n start → CountsTold w s d c.names start n
told w s at {d} {end} {past} {start} {n} {c} h e1 e2 =
    let t = definition_parts w s at h in
    let front : got (counts_of w at d.front) t.past ≡ got c past = rw t.front at e1 in
    let same : t.past ≡ past = got_place front in
    let count : got t.count t.start ≡ got n start = sym t.counted ∙ ap (count_by w s) same ∙ e2 in
    let units = rw (got_value count, got_place count) at t.units in
    let room = (field_got (size_of w) s past (value_by w s past) (checked_got BadCount (λ i. leb i highest32) past (integer_by w s past) e2).0).2 in
    record {
      named = ap (λ (x : Counts). x.names) (sym (got_value front));
      fields = walked_all w (length d.front.constants) s n start units;
      inside = units_inside w (length d.front.constants) s n start room units;
    }
