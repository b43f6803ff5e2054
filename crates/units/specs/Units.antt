-- Units one after the other: the outputs of the units before one, and the turns of the loop that reads them.
use Prim.{Unit, tt}
use Rattle.std.specs.Prelude.{ℕ, zero, suc, ◌+◌, ◌-◌, ◌*◌, ◌%◌, ◌≤◌, ◌<◌, Bool, true, false, ◌≡◌, refl, length, get_or, set, take, ltb, eqb}
use Rattle.std.proofs.Math.Path.{sym, ap}
use Rattle.std.proofs.Common.{◌∙◌, eq-or-lt_of_le, length-append, get_or-set_same, length-take-le, eq-eqb, ne_eqb, lt-ltb, le-ltb}
use mathlib.Core.List.{List, [], ◌∷◌, ◌++◌}
use Rattle.std.proofs.Math.Logic.{⊎_elim}
use native.Mathlib.Omega.{arith}
use Rattle.std.proofs.Math.Nat.{sub-zero}
use Rattle.std.proofs.Math.Numerals.{add-one}
use Rattle.std.proofs.Math.ListN.{length-set, get_or-append}
use Rattle.std.proofs.lemmas.List.{get_or_at}
use Rattle.std.proofs.Math.Seq.{get_or-set_other}
use Rattle.words.specs.Choice.{pick}
use Rattle.faults.specs.declared.Fault.{Fault}
use Rattle.faults.specs.declared.Fault.TheVariants.{BadIndex}
use Rattle.format.specs.declared.Width.{Width}
use Rattle.format.specs.Read.{Read, got, bad, and_then, repeat, ending, map_read}
use Rattle.words.specs.Patterns.{minus_one}
use Rattle.format.specs.Fields.{int16, name, rate, size_of, value_by, integer_by, count_by, index_below_by}
use Rattle.format.specs.Definition.{constant, output, UnitSpec}
use Rattle.format.specs.Reader.{input_by, unit_by, units_by}
use Rattle.format.specs.Endings.{then_got, then_bad, mapped_got, fact_then, fact-ending, ending-fact, ending_keeps, FixedSize, repeat_got, field_got}
use Rattle.format.specs.RepeatLaws.{went_on, got_value, got_place}
use Rattle.units.specs.Marks.{unit_counts, unit_inputs, unit_outputs, input_size, unit_end, unit_place, place_up, walked, walked_few, most_marks, Marked, Marking, marking_same, marking_next}
use Rattle.format.specs.Sizes.{index_sized, rate_sized, count_got, name_got}

-- how many outputs each of the first n units has
unfoldable pub outs_from : Width → List ℕ → ℕ → ℕ → List ℕ
outs_from w s start zero = []
outs_from w s start (suc n) = outs_from w s start n ++ (unit_outputs w s (unit_place w s start n) ∷ [])

pub outs_length : (w : Width) (s : List ℕ) (start n : ℕ) → length (outs_from w s start n) ≡ n
unfolding outs_from
outs_length w s start zero = refl
outs_length w s start (suc n) = length-append (outs_from w s start n) _ ∙ omega (arith, outs_length w s start n)

pub outs_at : (w : Width) (s : List ℕ) (start n u : ℕ) → u < n → get_or (outs_from w s start n) u 0 ≡ unit_outputs w s (unit_place w s start u)
unfolding outs_from
outs_at w s start zero u h = absurd (omega arith)
outs_at w s start (suc n) u h =
    let most : u ≤ n = omega arith in
    ⊎_elim
    (λ same. rw same (get_or_at (outs_from w s start n) _ [] 0 n (outs_length w s start n)))
    (λ less. get_or-append (outs_from w s start n) _ 0 u (rw outs_length less) ∙ outs_at w s start n u less)
    (eq-or-lt_of_le most)

-- an input takes two fields
pub input_sized : (w : Width) (k : ℕ) (outs s : List ℕ) → FixedSize (input_by w k outs s) (input_size w) (length s)
input_sized w k outs s at x next h =
    went_on (integer_by w s at) _ h (λ u n e rest.
    behind (eqb u minus_one) (ltb u (length outs)) u (get_or outs u 0) (field_got (size_of w) s at _ e).1 rest) where
      behind : (c d : Bool) (u b : ℕ) {n : ℕ} → n ≡ at + size_of w
          → pick c (and_then (index_below_by w k s n) (λ i end. got (constant i) end)) (pick d (and_then (index_below_by w b s n) (λ o end. got (output u o) end)) (bad BadIndex at)) ≡ got x next
          → (next ≡ at + input_size w) × (next ≤ length s)
      behind true d u b {n = n} e r =
          went_on (index_below_by w k s n) _ r (λ i m f last.
          let q = index_sized w k s n i m f in
          let g : m ≡ next = cc in (omega arith, omega arith))
      behind false true u b {n = n} e r =
          went_on (index_below_by w b s n) _ r (λ i m f last.
          let q = index_sized w b s n i m f in
          let g : m ≡ next = cc in (omega arith, omega arith))
      behind false false u b e r = absurd (let z : ◌≡◌ {A = ℕ} 0 1 = cc in omega arith)

-- a unit's counts
abbrev pub counts_of : UnitSpec → ℕ × ℕ
counts_of u = (length u.inputs, length u.outputs)

-- the shape of a unit that was read
pub record Shaped (w : Width) (s : List ℕ) (at ins out end : ℕ) : Type 0 where
  pub inputs : ins ≡ unit_inputs w s at
  pub outputs : out ≡ unit_outputs w s at
  pub past : end ≡ unit_end w s at
  pub within : end ≤ length s

-- a unit that was read, field by field
pub unit_on : {E : Type 0} (w : Width) (k : ℕ) (outs s : List ℕ) (at : ℕ) {u : UnitSpec} {end : ℕ} → unit_by w k outs s at ≡ got u end
    → ((class : List ℕ) (r many out special p1 p2 p3 p4 p5 p6 : ℕ) → name s at ≡ got class p1 → rate s p1 ≡ got r p2 → count_by w s p2 ≡ got many p3 → count_by w s p3 ≡ got out p4
    → int16 s p4 ≡ got special p5 → repeat (input_by w k outs s) many p5 ≡ got u.inputs p6 → repeat (rate s) out p6 ≡ got u.outputs end → E) → E
unfolding unit_by
unit_on w k outs s at h go =
    went_on (name s at) _ h (λ class p1 e1 r1.
    went_on (rate s p1) _ r1 (λ r p2 e2 r2.
    went_on (count_by w s p2) _ r2 (λ many p3 e3 r3.
    went_on (count_by w s p3) _ r3 (λ out p4 e4 r4.
    went_on (int16 s p4) _ r4 (λ special p5 e5 r5.
    went_on (repeat (input_by w k outs s) many p5) _ r5 (λ inputs p6 e6 r6.
    went_on (repeat (rate s) out p6) _ r6 (λ outputs p7 e7 r7.
    go class r many out special p1 p2 p3 p4 p5 p6 e1 e2 e3 e4 e5
    (rw (sym (got_value r7)) e6)
    (rw (sym (got_value r7), sym (got_place r7)) e7))))))))

pub unit_shape : (w : Width) (k : ℕ) (outs s : List ℕ) (at : ℕ) {ins out end : ℕ} → map_read counts_of (unit_by w k outs s at) ≡ got (ins, out) end → Shaped w s at ins out end
unfolding unit_counts unit_inputs unit_outputs unit_end
unit_shape w k outs s at {ins} {out} {end} h =
    let t = mapped_got counts_of (unit_by w k outs s at) h in
    unit_on w k outs s at t.read (λ class r many o special p1 p2 p3 p4 p5 p6 e1 e2 e3 e4 e5 e6 e7.
    let a = name_got s at e1 in
    let b = rate_sized s p1 r p2 e2 in
    let c = count_got w s p2 e3 in
    let d = count_got w s p3 e4 in
    let e = field_got 2 s p4 _ e5 in
    let f = repeat_got (input_by w k outs s) (input_size w) (length s) (input_sized w k outs s) many p5 e6 in
    let g = repeat_got (rate s) 1 (length s) (rate_sized s) o p6 e7 in
    let i1 : ins ≡ many = sym (ap (λ (p : ℕ × ℕ). p.0) t.same) ∙ f.many in
    let o1 : out ≡ o = sym (ap (λ (p : ℕ × ℕ). p.1) t.same) ∙ g.many in
    let q2 : p2 ≡ at + 2 + get_or s at 0 = omega arith in
    let q3 : p3 ≡ at + 2 + get_or s at 0 + size_of w = omega arith in
    let ins1 : many ≡ value_by w s (at + 2 + get_or s at 0) = c.0 ∙ ap (value_by w s) q2 in
    let out1 : o ≡ value_by w s (at + 2 + get_or s at 0 + size_of w) = d.0 ∙ ap (value_by w s) q3 in
    let all = ap (λ (i : ℕ). input_size w * i) ins1 in
    record { inputs = i1 ∙ ins1; outputs = o1 ∙ out1; past = omega (arith, f.past, g.past, all); within = omega (arith, g.within (f.within e.2)) })

-- a unit of which the counts are fact, field by field
unfoldable pub skip_unit : Width → ℕ → List ℕ → List ℕ → ℕ → Read (ℕ × ℕ)
skip_unit w k outs s at =
    and_then (name s at) (λ class p1.
    and_then (rate s p1) (λ r p2.
    and_then (count_by w s p2) (λ many p3.
    and_then (count_by w s p3) (λ out p4.
    and_then (int16 s p4) (λ special p5.
    and_then (ending (repeat (input_by w k outs s) many p5)) (λ u p6.
    and_then (ending (repeat (rate s) out p6)) (λ v end.
    got (many, out) end)))))))

pub skip-unit : (w : Width) (k : ℕ) (outs s : List ℕ) (at : ℕ) → map_read counts_of (unit_by w k outs s at) ≡ skip_unit w k outs s at
unfolding unit_by skip_unit
skip-unit w k outs s at =
    fact_then _ (name s at) _ _ (λ class p1.
    fact_then _ (rate s p1) _ _ (λ r p2.
    fact_then _ (count_by w s p2) _ _ (λ many p3.
    fact_then _ (count_by w s p3) _ _ (λ out p4.
    fact_then _ (int16 s p4) _ _ (λ special p5.
    fact-ending _ (repeat (input_by w k outs s) many p5) _ _ (λ inputs p6 e6.
    fact-ending _ (repeat (rate s) out p6) _ (λ end. got (many, out) end) (λ outputs end e7.
    let ins = (repeat_got (input_by w k outs s) (input_size w) (length s) (input_sized w k outs s) many p5 e6).many in
    let outs = (repeat_got (rate s) 1 (length s) (rate_sized s) out p6 e7).many in
    rw (ins, outs))))))))

-- one unit of several
pub skip_units : (w : Width) (k : ℕ) (s : List ℕ) (n : ℕ) (outs : List ℕ) (at : ℕ)
    → ending (units_by w k s (suc n) outs at) ≡ and_then (map_read counts_of (unit_by w k outs s at)) (λ c next. ending (units_by w k s n (outs ++ (c.1 ∷ [])) next))
unfolding units_by
skip_units w k s n outs at =
    ending-fact counts_of (unit_by w k outs s at) _ _ (λ u next. ending_keeps (units_by w k s n (outs ++ (length u.outputs ∷ [])) next) (λ us. u ∷ us))

-- The outputs of the last so many units are remembered while a definition is read. In version 2 a unit takes at least 12 bytes, and a definition 20
-- besides: a name of
-- one byte, four counts of four bytes and one of two. So a definition within the size limit has fewer units than this (`units_remembered` of
-- `files`).
abbrev pub remembered : ℕ
remembered = 256

-- what is known of the units before one: they lie in the file, the outputs of the last of them are in outs, and marks has places of some
pub record Remembered (w : Width) (s : List ℕ) (start units : ℕ) (outs : List ℕ) (stride : ℕ) (marks : List ℕ) : Type 0 where
  pub within : 0 < units → unit_place w s start units ≤ length s
  pub known : (u : ℕ) → u < units → units ≤ u + remembered → get_or outs (u % remembered) 0 ≡ unit_outputs w s (unit_place w s start u)
  pub marked : Marked w s start stride marks

-- the ways through an input
pub input_cut : (w : Width) (k : ℕ) (outs s : List ℕ) (at : ℕ) {q : Fault} {place : ℕ} → integer_by w s at ≡ bad q place → ending (input_by w k outs s at) ≡ bad q place
input_cut w k outs s at e = ap ending (then_bad _ e)

pub input_constant : (w : Width) (k : ℕ) (outs s : List ℕ) (at : ℕ) {u next : ℕ} → integer_by w s at ≡ got u next → u ≡ minus_one
    → ending (input_by w k outs s at) ≡ ending (index_below_by w k s next)
input_constant w k outs s at {u} {next} e h = rw (e, eq-eqb u minus_one h) (ending_keeps (index_below_by w k s next) constant)

pub input_output : (w : Width) (k : ℕ) (outs s : List ℕ) (at : ℕ) {u next : ℕ} → integer_by w s at ≡ got u next → (u ≡ minus_one → ⊥) → u < length outs
    → ending (input_by w k outs s at) ≡ ending (index_below_by w (get_or outs u 0) s next)
input_output w k outs s at {u} {next} e h l =
    rw (e, ne_eqb u minus_one h, lt-ltb u (length outs) l) (ending_keeps (index_below_by w (get_or outs u 0) s next) (output u))

pub input_bad : (w : Width) (k : ℕ) (outs s : List ℕ) (at : ℕ) {u next : ℕ} → integer_by w s at ≡ got u next → (u ≡ minus_one → ⊥) → length outs ≤ u
    → ending (input_by w k outs s at) ≡ bad BadIndex at
input_bad w k outs s at {u} {next} e h l = rw (e, ne_eqb u minus_one h, le-ltb u (length outs) l)

-- Behind i units, at a place: they are remembered, and their counts and indices are counted.
pub record UnitsRead (w : Width) (s : List ℕ) (start : ℕ) (outs : List ℕ) (stride : ℕ) (marks : List ℕ) (at i fields : ℕ) : Type 0 where
  pub here : at ≡ unit_place w s start i
  pub counted : fields ≡ walked w s start i
  pub sized : length outs ≡ remembered
  pub before : Remembered w s start i outs stride marks

pub stood_first : (w : Width) (s : List ℕ) (start : ℕ) (outs : List ℕ) (stride : ℕ) (marks : List ℕ) → length outs ≡ remembered → 0 < stride → length marks ≡ 0 → UnitsRead w s start outs stride marks start 0 0
unfolding unit_place walked
stood_first w s start outs stride marks h p none = record {
  here = refl;
  counted = refl;
  sized = h;
  before = record {
    within = λ l. absurd (omega arith);
    known = λ u l m. absurd (omega arith);
    marked = record { steps = p; placed = λ n l. absurd (omega arith) };
  };
}

-- What a run of units leaves, from one number to another: behind them the units are remembered, and what is left to read, however much, reads as it
-- does with the run; or the run is bad.
unfoldable pub Ran : (w : Width) (k : ℕ) (s : List ℕ) (start from to at stride : ℕ) (marks outs : List ℕ) → Read ℕ → Type 0
Ran w k s start from to at stride marks outs (got fields next) =
    UnitsRead w s start outs stride marks next to fields × ((n : ℕ) → ending (units_by w k s n (outs_from w s start to) next) ≡ ending (units_by w k s ((to - from) + n) (outs_from w s start from) at))
Ran w k s start from to at stride marks outs (bad q place) = (length outs ≡ remembered) × ((n : ℕ) → ending (units_by w k s ((to - from) + n) (outs_from w s start from) at) ≡ bad q place)

-- The turns of the loop of a run.
module _ (w : Width) (k : ℕ) (s : List ℕ) (start : ℕ) {outs : List ℕ} {stride : ℕ} {marks : List ℕ} {at i fields : ℕ} (st : UnitsRead w s start outs stride marks at i fields) where
  run_shaped : {ins o next : ℕ} → skip_unit w k (outs_from w s start i) s at ≡ got (ins, o) next → Shaped w s (unit_place w s start i) ins o next
  run_shaped e = rw st.here at (unit_shape w k (outs_from w s start i) s at (skip-unit w k (outs_from w s start i) s at ∙ e))

  run_turn : (n : ℕ) → ending (units_by w k s (suc n) (outs_from w s start i) at)
      ≡ and_then (skip_unit w k (outs_from w s start i) s at) (λ c next. ending (units_by w k s n (outs_from w s start i ++ (c.1 ∷ [])) next))
  run_turn n =
      skip_units w k s n (outs_from w s start i) at
      ∙ ap (λ (r : Read (ℕ × ℕ)). and_then r (λ c next. ending (units_by w k s n (outs_from w s start i ++ (c.1 ∷ [])) next))) (skip-unit w k (outs_from w s start i) s at)

  -- the counts and indices of one unit more, each of at least two bytes
  pub run_few : {ins o next : ℕ} → skip_unit w k (outs_from w s start i) s at ≡ got (ins, o) next → 2 * (fields + (2 + 2 * ins)) ≤ length s
  unfolding unit_place walked
  run_few e =
      let shape = run_shaped e in
      omega (arith, walked_few w s start (suc i), st.counted, shape.inputs, shape.past, shape.within)

  pub run_stood : {ins o next : ℕ} → skip_unit w k (outs_from w s start i) s at ≡ got (ins, o) next
      → UnitsRead w s start (set outs (i % remembered) o) stride marks next (i + 1) (fields + (2 + 2 * ins))
  unfolding unit_place walked
  run_stood {ins} {o} {next} e =
      let shape = run_shaped e in
      rw add-one record {
        here = shape.past;
        counted = omega (arith, st.counted, shape.inputs);
        sized = length-set outs (i % remembered) o ∙ st.sized;
        before = record {
          within = λ m. omega (arith, shape.past, shape.within);
          known = λ u m n.
              let upto : u ≤ i = omega arith in
              ⊎_elim
              (λ last. rw last (get_or-set_same outs (i % remembered) o 0 (rw st.sized (omega arith)) ∙ shape.outputs))
              (λ less. get_or-set_other outs (i % remembered) (u % remembered) o 0 (λ same. omega arith) ∙ st.before.known u less (omega arith))
              (eq-or-lt_of_le upto);
          marked = st.before.marked;
        };
      }

  pub run_next : (m n : ℕ) {ins o next : ℕ} → skip_unit w k (outs_from w s start i) s at ≡ got (ins, o) next → m ≡ suc n
      → ending (units_by w k s n (outs_from w s start (i + 1)) next) ≡ ending (units_by w k s m (outs_from w s start i) at)
  unfolding outs_from
  run_next m n {ins} {o} {next} e h =
      let shape = run_shaped e in
      rw (add-one, h) (ap (λ (x : ℕ). ending (units_by w k s n (outs_from w s start i ++ (x ∷ [])) next)) (sym shape.outputs)
      ∙ sym (run_turn n ∙ then_got (λ c next. ending (units_by w k s n (outs_from w s start i ++ (c.1 ∷ [])) next)) e))

  pub run_bad : (m n : ℕ) {q : Fault} {place : ℕ} → skip_unit w k (outs_from w s start i) s at ≡ bad q place → m ≡ suc n → ending (units_by w k s m (outs_from w s start i) at) ≡ bad q place
  run_bad m n e h = rw h (run_turn n ∙ then_bad (λ c next. ending (units_by w k s n (outs_from w s start i ++ (c.1 ∷ [])) next)) e)

-- so many units, the first of a definition: how many counts and indices they have
abbrev pub count_units : Width → ℕ → List ℕ → ℕ → ℕ → Read ℕ
count_units w k s n at = map_read (λ (us : List UnitSpec). walked w s at n) (units_by w k s n [] at)

counted_got : {A : Type 0} (x : ℕ) (r : Read A) {u : Unit {0}} {next : ℕ} → ending r ≡ got u next → map_read (λ (a : A). x) r ≡ got x next
counted_got x (got a n) h = ap (got x) (got_place h)
counted_got x (bad q at) h = absurd (let z : ◌≡◌ {A = ℕ} 0 1 = cc in omega arith)

counted_bad : {A : Type 0} (x : ℕ) (r : Read A) {q : Fault} {place : ℕ} → ending r ≡ bad q place → map_read (λ (a : A). x) r ≡ bad q place
counted_bad x (got a n) h = absurd (let z : ◌≡◌ {A = ℕ} 0 1 = cc in omega arith)
counted_bad x (bad q at) h = cc

-- all units of a definition in one run
pub run_whole : (w : Width) (k : ℕ) (s : List ℕ) (start count stride : ℕ) (marks outs : List ℕ) (r : Read ℕ) → Ran w k s start 0 count start stride marks outs r → r ≡ count_units w k s count start
unfolding Ran units_by outs_from
run_whole w k s start count stride marks outs (got fields next) h =
    let same : (count - 0) + 0 ≡ count = omega arith in
    rw h.0.counted (sym (counted_got (walked w s start count) (units_by w k s count [] start) (sym (h.1 0 ∙ rw same))))
run_whole w k s start count stride marks outs (bad q place) h =
    let same : (count - 0) + 0 ≡ count = omega arith in
    sym (counted_bad (walked w s start count) (units_by w k s count [] start) (rw same at (h.1 0)))

pub run_sized : (w : Width) (k : ℕ) (s : List ℕ) (start from to at stride : ℕ) (marks outs : List ℕ) (r : Read ℕ) → Ran w k s start from to at stride marks outs r → length outs ≡ remembered
unfolding Ran
run_sized w k s start from to at stride marks outs (got fields next) h = h.0.sized
run_sized w k s start from to at stride marks outs (bad q place) h = h.0

-- The turns of a loop that reads units run by run, behind i of them: what is left to read, from the present place, reads as the whole does from the
-- first.
pub record Standing (w : Width) (k : ℕ) (s : List ℕ) (start count : ℕ) (outs : List ℕ) (stride : ℕ) (marks : List ℕ) (known at i fields : ℕ) : Type 0 where
  pub most : i ≤ count
  pub room : known ≤ length marks
  pub few : length marks ≤ most_marks
  pub stood : UnitsRead w s start outs stride (take known marks) at i fields
  pub left : ending (units_by w k s (count - i) (outs_from w s start i) at) ≡ ending (units_by w k s count [] start)

pub stands_first : (w : Width) (k : ℕ) (s : List ℕ) (start count : ℕ) (outs : List ℕ) (stride : ℕ) (marks : List ℕ) → length outs ≡ remembered → 0 < stride → length marks ≤ most_marks
    → Standing w k s start count outs stride marks 0 start 0 0
unfolding outs_from
stands_first w k s start count outs stride marks h p l = record {
  most = omega arith;
  room = omega arith;
  few = l;
  stood = stood_first w s start outs stride (take 0 marks) h p (length-take-le 0 marks (omega arith));
  left = rw sub-zero;
}

module _ (w : Width) (k : ℕ) (s : List ℕ) (start count : ℕ) {outs : List ℕ} {stride : ℕ} {marks : List ℕ} {known at i fields : ℕ} (st : Standing w k s start count outs stride marks known at i fields) where
  -- the unit at the place may be marked
  pub stands_marked : {marks' : List ℕ} {known' : ℕ} → Marking marks marks' known stride i (at - start) known' → Standing w k s start count outs stride marks' known' at i fields
  unfolding unit_place
  stands_marked {marks'} {known'} m =
      let place : start + (at - start) ≡ unit_place w s start i = omega (arith, st.stood.here, place_up w s start 0 i (omega arith)) in
      let next = marking_next w s start st.room place m st.stood.before.marked in
      record {
        most = st.most;
        room = next.room;
        few = omega (arith, marking_same m, st.few);
        stood = record {
          here = st.stood.here;
          counted = st.stood.counted;
          sized = st.stood.sized;
          before = record { within = st.stood.before.within; known = st.stood.before.known; marked = next.marked };
        };
        left = st.left;
      }

  pub stands_next : (outs' : List ℕ) {to next fields' : ℕ} → i ≤ to → to ≤ count → Ran w k s start i to at stride (take known marks) outs' (got fields' next)
      → Standing w k s start count outs' stride marks known next to fields'
  unfolding Ran
  stands_next outs' {to} {next} l h r =
      let same : (to - i) + (count - to) ≡ count - i = omega arith in
      record {
        most = h;
        room = st.room;
        few = st.few;
        stood = r.0;
        left = r.1 (count - to) ∙ rw same st.left;
      }

  pub stands_bad : (outs' : List ℕ) {to : ℕ} {q : Fault} {place : ℕ} → i ≤ to → to ≤ count → Ran w k s start i to at stride (take known marks) outs' (bad q place) → count_units w k s count start ≡ bad q place
  unfolding Ran
  stands_bad outs' {to} l h r =
      let same : (to - i) + (count - to) ≡ count - i = omega arith in
      counted_bad (walked w s start count) (units_by w k s count [] start) (sym st.left ∙ (rw same at (r.1 (count - to))))

  pub stands_done : count ≤ i → count_units w k s count start ≡ got fields at
  unfolding units_by
  stands_done l =
      let none : count - i ≡ 0 = omega arith in
      let all : i ≡ count = omega (arith, st.most) in
      counted_got (walked w s start count) (units_by w k s count [] start) {u = tt} (sym st.left ∙ rw none) ∙ ap (λ (n : ℕ). got n at) (sym (st.stood.counted ∙ ap (walked w s start) all))
