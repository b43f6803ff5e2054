-- Parts of a definition of which only the end is kept, field by field.
use Prim.{Unit}
use Rattle.std.specs.Prelude.{ℕ, ◌+◌, ◌*◌, ◌≤◌, ◌≡◌, refl, List, [], length}
use Rattle.std.proofs.Common.{ap, ◌∙◌, arith}
use Rattle.faults.specs.declared.Fault.{Fault}
use Rattle.front.specs.declared.Counts.{Counts}
use Rattle.format.specs.Read.{Read, got, bad, and_then, repeat, ending, map_read}
use Rattle.format.specs.declared.Width.{Width}
use Rattle.format.specs.Fields.{float32, name, count_by, short_count_to, highest16}
use Rattle.format.specs.Reader.{front_by, units_by, variant, definition_by}
use Rattle.front.specs.Front.{counts_of}
use Rattle.format.specs.RepeatLaws.{went_on}
use Rattle.format.specs.Endings.{mapped_got, ending-fact, ending_then, ending_keeps, ending_got}
use Rattle.units.specs.Marks.{walked_few}
use Rattle.units.specs.Units.{count_units}
use Rattle.units.specs.Walk.{units_end}
use Rattle.encoding.specs.Encoding.{fields_in}
use Rattle.encoding.specs.Walked.{told}

module _ {A B : Type 0} where
  -- the rest takes only the place, and something of the value is kept
  then_kept : {C : Type 0} (k : A → C) (r : Read A) (f : A → ℕ → Read B) (g : ℕ → Read B) → ((x : A) (n : ℕ) → f x n ≡ g n) → and_then r f ≡ and_then (map_read k r) (λ c n. g n)
  then_kept k (got x n) f g h = h x n
  then_kept k (bad q at) f g h = refl

  -- a reading after two
  then_then : {C : Type 0} (r : Read A) (f : A → ℕ → Read B) (g : B → ℕ → Read C) → and_then r (λ x n. and_then (f x n) g) ≡ and_then (and_then r f) g
  then_then (got x n) f g = refl
  then_then (bad q at) f g = refl

  -- where a reading ends, whatever is kept of the value
  pub kept_ending : (k : A → B) (r : Read A) → ending (map_read k r) ≡ ending r
  kept_ending k (got x n) = refl
  kept_ending k (bad q at) = refl

  pub kept_bad : (k : A → B) (r : Read A) {q : Fault} {place : ℕ} → bad q place ≡ ending r → bad q place ≡ map_read k r
  kept_bad k (got x n) h = absurd (let z : ◌≡◌ {A = ℕ} 0 1 = cc in omega arith)
  kept_bad k (bad q at) h = cc

-- a variant
abbrev pub skip_variant : ℕ → List ℕ → ℕ → Read (Unit {0})
skip_variant p s at = and_then (name s at) (λ n next. ending (repeat (float32 s) p next))

pub skip-variant : (p : ℕ) (s : List ℕ) (at : ℕ) → ending (variant p s at) ≡ skip_variant p s at
skip-variant p s at = ending_then (name s at) _ _ (λ n next. ending_keeps (repeat (float32 s) p next) (λ values. record { name = n; values = values }))

-- a count of units and as many units: how many counts and indices they have
abbrev pub counted_units : Width → ℕ → List ℕ → ℕ → Read ℕ
counted_units w k s at = and_then (count_by w s at) (λ many first. count_units w k s many first)

-- a count of variants and as many variants
abbrev pub counted_variants : ℕ → List ℕ → ℕ → Read (Unit {0})
counted_variants p s at = and_then (short_count_to highest16 s at) (λ many first. ending (repeat (variant p s) many first))

-- what stands behind the front
abbrev pub skip_rest : Width → List ℕ → Counts → ℕ → Read (Unit {0})
skip_rest w s c at = and_then (counted_units w c.constants s at) (λ fields p2. counted_variants c.parameters s p2)

pub skip_definition : (w : Width) (s : List ℕ) (at : ℕ) → ending (definition_by w s at) ≡ and_then (map_read (counts_of w at) (front_by w s at)) (skip_rest w s)
unfolding definition_by
skip_definition w s at =
    ending-fact (counts_of w at) (front_by w s at) _ (skip_rest w s) (λ f p1.
    let k = length f.constants in
    let p = length f.values in
    ending_then (count_by w s p1) _ (λ many p2. and_then (count_units w k s many p2) (λ fields p3. counted_variants p s p3)) (λ many p2.
    ending_then (units_by w k s many [] p2) _ _ (λ units p3.
    ending_then (short_count_to highest16 s p3) _ _ (λ v p4.
    ending_keeps (repeat (variant p s) v p4) (λ variants. record { front = f; units = units; variants = variants })))
    ∙ then_kept _ (units_by w k s many [] p2) _ _ (λ units p3. refl))
    ∙ then_then (count_by w s p1) (λ many p2. count_units w k s many p2) (λ fields p3. counted_variants p s p3))

-- the same where a definition was read: how many counts and indices it has
pub count_definition : (w : Width) (s : List ℕ) (at : ℕ) {c : Counts} {p1 fields p2 next : ℕ} {u : Unit {0}} → map_read (counts_of w at) (front_by w s at) ≡ got c p1
    → counted_units w c.constants s p1 ≡ got fields p2 → counted_variants c.parameters s p2 ≡ got u next
    → map_read fields_in (definition_by w s at) ≡ got (4 + c.names + fields) next
count_definition w s at {c} {p1} {fields} {p2} {next} {u} e1 e2 e3 =
    went_on (count_by w s p1) _ e2 (λ many first f1 f2.
    let t = ending_got (definition_by w s at) {u = u} {end = next} (rw (skip_definition w s at, e1, e2) e3) in
    let units = mapped_got _ (units_by w c.constants s many [] first) f2 in
    let z = told w s at t.read e1 f1 in
    let same : fields_in t.value ≡ 4 + c.names + fields = omega (arith, z.named, z.fields, units.same) in
    ap (map_read fields_in) t.read ∙ ap (λ (m : ℕ). got m next) same)

-- each takes at least two bytes
pub units_few : (w : Width) (k : ℕ) (s : List ℕ) (at : ℕ) {fields end : ℕ} → counted_units w k s at ≡ got fields end → 2 * fields ≤ end
units_few w k s at e =
    went_on (count_by w s at) _ e (λ many first f1 f2.
    let t = mapped_got _ (units_by w k s many [] first) f2 in
    omega (arith, walked_few w s first many, units_end w k s many first t.read, t.same))
