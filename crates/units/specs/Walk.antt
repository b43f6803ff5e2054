-- The units of a definition that was read: each of them, where it lies, and where they end.
use Prim.Native.Nat.{ℕ, zero, suc, ◌+◌, ◌-◌, ◌≤◌, ◌<◌}
use Rattle.std.specs.Prelude.{◌≡◌, List, [], ◌∷◌, ◌++◌, length}
use Rattle.std.proofs.Math.Path.{refl, sym, ap}
use Rattle.std.proofs.Common.{◌∙◌, drop-drop}
use native.Mathlib.Omega.{arith}
use Rattle.std.proofs.Math.Nat.{sub-zero}
use Rattle.std.proofs.Math.ListN.{drop}
use Rattle.format.specs.declared.Width.{Width}
use Rattle.format.specs.Read.{got, map_read}
use Rattle.format.specs.Definition.{UnitSpec}
use Rattle.format.specs.Reader.{unit_by, units_by}
use Rattle.format.specs.RepeatLaws.{went_on, got_value, got_place}
use Rattle.units.specs.Marks.{unit_place}
use Rattle.units.specs.Units.{counts_of, outs_from, unit_shape}

-- a unit that was read, behind i others, and what is left behind it
pub record UnitRead (w : Width) (k : ℕ) (s : List ℕ) (start n i : ℕ) (us : List UnitSpec) (end : ℕ) : Type 0 where
  pub unit : UnitSpec
  pub listed : drop i us ≡ unit ∷ drop (suc i) us
  pub read : unit_by w k (outs_from w s start i) s (unit_place w s start i) ≡ got unit (unit_place w s start (suc i))
  pub within : unit_place w s start (suc i) ≤ length s
  pub left : units_by w k s (n - suc i) (outs_from w s start (suc i)) (unit_place w s start (suc i)) ≡ got (drop (suc i) us) end

drop_more : {A : Type 0} (i : ℕ) (xs : List A) {y : A} {ys : List A} → drop i xs ≡ y ∷ ys → drop (suc i) xs ≡ ys
drop_more i xs h =
    let e : suc i ≡ i + 1 = omega arith in
    rw e (sym (drop-drop 1 i xs) ∙ ap (drop 1) h)

module _ (w : Width) (k : ℕ) (s : List ℕ) (n start : ℕ) {us : List UnitSpec} {end : ℕ} where
  next_unit : (i m : ℕ) → n - i ≡ suc m → m ≡ n - suc i → units_by w k s (n - i) (outs_from w s start i) (unit_place w s start i) ≡ got (drop i us) end → UnitRead w k s start n i us end
  unfolding units_by outs_from unit_place
  next_unit i m e l h =
      went_on (unit_by w k (outs_from w s start i) s (unit_place w s start i)) _ (rw e at h) (λ u next e1 r1.
      went_on (units_by w k s m (outs_from w s start i ++ (length u.outputs ∷ [])) next) _ r1 (λ more last e2 r2.
      let shape = unit_shape w k (outs_from w s start i) s (unit_place w s start i) (ap (map_read counts_of) e1) in
      let all : u ∷ more ≡ drop i us = got_value r2 in
      let tail : drop (suc i) us ≡ more = drop_more i us (sym all) in
      record {
        unit = u;
        listed = rw tail (sym all);
        read = e1 ∙ ap (got u) shape.past;
        within = rw (sym shape.past) shape.within;
        left = rw (tail, sym l, sym shape.outputs, sym shape.past) (e2 ∙ ap (got more) (got_place r2));
      }))

  -- what is left to read behind i of the units
  pub units_behind : units_by w k s n [] start ≡ got us end → (i : ℕ) → i ≤ n → units_by w k s (n - i) (outs_from w s start i) (unit_place w s start i) ≡ got (drop i us) end
  unfolding outs_from unit_place
  units_behind h zero l = rw sub-zero h
  units_behind h (suc i) l = (next_unit i (n - suc i) (omega arith) refl (units_behind h i (omega arith))).left

  pub unit_read : units_by w k s n [] start ≡ got us end → (i : ℕ) → i < n → UnitRead w k s start n i us end
  unit_read h i l = next_unit i (n - suc i) (omega arith) refl (units_behind h i (omega arith))

  pub units_end : units_by w k s n [] start ≡ got us end → end ≡ unit_place w s start n
  unfolding units_by
  units_end h =
      let none : n - n ≡ 0 = omega arith in
      sym (got_place (rw none at (units_behind h n (omega arith))))
