-- An accepted file as a run of definitions, one behind the other.
use Rattle.std.specs.Prelude.{ℕ, zero, suc, ◌+◌, ◌-◌, ◌≤◌, ◌<◌, Bool, true, false, ◌≡◌, refl, List, [], ◌∷◌, ◌++◌, length, get_or, ltb}
use Rattle.std.proofs.Common.{sym, ap, ◌∙◌, arith, ltb-false}
use Rattle.words.specs.Bytes.{AreBytes}
use Rattle.words.specs.Choice.{pick}
use Rattle.words.specs.PartsLaws.{region-length}
use Rattle.faults.specs.declared.Fault.TheVariants.{TooLong, NameTwice, BytesLeft, BadName}
use Rattle.format.specs.declared.Width.{Width}
use Rattle.format.specs.Read.{Read, got, bad, and_then, repeat}
use Rattle.format.specs.FieldLaws.{checked_got}
use Rattle.format.specs.RepeatLaws.{went_on}
use Rattle.format.specs.Sizes.{string_got}
use Rattle.format.specs.Fields.{float32, string_at, pstring, definition_name, count_by, count_to_by, short_count_to, highest16}
use Rattle.format.specs.NameLaws.{full}
use Rattle.format.specs.Definition.{Front, Definition}
use Rattle.format.specs.Reader.{most_parameters, size_limit, parameter_name_by, variant, among, fits, front_by, units_by, definition_by, read_definitions, read_header, read_file, file_width}
use Rattle.format.specs.HeaderLaws.{header_got}
use Rattle.format.specs.Writer.{write_definition_by, write_definition}
use Rattle.model.specs.Checks.{definitions_of, fault_of}
use Rattle.roundtrip.specs.Forth.{definition_forth}

-- the name of a definition that was read
front_named : (w : Width) (s : List ℕ) (at : ℕ) {f : Front} {next : ℕ} → front_by w s at ≡ got f next → (f.name ≡ string_at s at) × (at + (1 + get_or s at 0) ≤ length s)
unfolding front_by
front_named w s at {f} {next} e =
    went_on (definition_name s at) _ e (λ n p1 e1 r1.
    went_on (count_by w s p1) _ r1 (λ k p2 e2 r2.
    went_on (repeat (float32 s) k p2) _ r2 (λ constants p3 e3 r3.
    went_on (count_to_by w most_parameters s p3) _ r3 (λ p p4 e4 r4.
    went_on (repeat (float32 s) p p4) _ r4 (λ values p5 e5 r5.
    went_on (count_by w s p5) _ r5 (λ many p6 e6 r6.
    went_on (repeat (parameter_name_by w p s) many p6) _ r6 (λ names end e7 r7.
    let whole : record { name = n; constants = constants; values = values; names = names } ≡ f = cc in
    let string = string_got s at (checked_got BadName full at (pstring s at) e1).0 in
    (sym (ap (λ (g : Front). g.name) whole) ∙ sym string.0, omega arith))))))))

definition_front : (w : Width) (s : List ℕ) (at : ℕ) {d : Definition} {next : ℕ} {P : Type 0} → definition_by w s at ≡ got d next → ((p : ℕ) → front_by w s at ≡ got d.front p → P) → P
unfolding definition_by
definition_front w s at {d} {next} e go =
    went_on (front_by w s at) _ e (λ f p1 e1 r1.
    went_on (count_by w s p1) _ r1 (λ many p2 e2 r2.
    went_on (units_by w (length f.constants) s many [] p2) _ r2 (λ units p3 e3 r3.
    went_on (short_count_to highest16 s p3) _ r3 (λ v p4 e4 r4.
    went_on (repeat (variant (length f.values) s) v p4) _ r4 (λ variants end e5 r5.
    let whole : record { front = f; units = units; variants = variants } ≡ d = cc in
    let same : f ≡ d.front = ap (λ (x : Definition). x.front) whole in
    go p1 (e1 ∙ ap (λ (x : Front). got x p1) same))))))

pub definition_named : (w : Width) (s : List ℕ) (at : ℕ) {d : Definition} {next : ℕ} → definition_by w s at ≡ got d next → (d.front.name ≡ string_at s at) × (at + (1 + get_or s at 0) ≤ length s)
definition_named w s at e = definition_front w s at e (λ p f. front_named w s at f)

-- a definition in a file, from one place to another, by the width of the file's fields
pub record Held (s : List ℕ) (at next : ℕ) (d : Definition) : Type 0 where
  pub read : definition_by (file_width s) s at ≡ got d next
  pub forward : at < next
  pub inside : next ≤ length s
  pub small : length (write_definition d) ≤ size_limit
  pub named : d.front.name ≡ string_at s at
  pub name_inside : at + (1 + get_or s at 0) ≤ length s

-- the definitions from a place on, to the file's end
pub data Run (s : List ℕ) : ℕ → List Definition → Type 0 where
  done : (at : ℕ) → length s ≤ at → Run s at []
  more : (at next : ℕ) (d : Definition) (ds : List Definition) → Held s at next d → Run s next ds → Run s at (d ∷ ds)

write_some : (w : Width) (d : Definition) → 0 < length (write_definition_by w d)
unfolding write_definition_by
write_some w d = omega arith

pub held_definition : (s : List ℕ) → AreBytes s → (at next : ℕ) (d : Definition) → definition_by (file_width s) s at ≡ got d next → length (write_definition d) ≤ size_limit → Held s at next d
held_definition s b at next d e small =
    let w = definition_forth (file_width s) s b at d next e in
    let n = definition_named (file_width s) s at e in
    let i = w.inside in
    let f = w.forward in
    let size : length (write_definition_by (file_width s) d) ≡ next - at = ap length w.bytes ∙ region-length at (next - at) s (omega arith) in
    record { read = e; forward = omega (arith, write_some (file_width s) d); inside = i; small = small; named = n.0; name_inside = n.1 }

-- a definition that was read from one place to another, and has room in a slot
pub record Placeable (w : Width) (s : List ℕ) (at end : ℕ) : Type 0 where
  pub definition : Definition
  pub read : definition_by w s at ≡ got definition end
  pub small : length (write_definition definition) ≤ size_limit

run_read : (s : List ℕ) → AreBytes s → (n : ℕ) (names : List (List ℕ)) (at : ℕ) {ds : List Definition} {end : ℕ} → read_definitions (file_width s) s n names at ≡ got ds end → length s ≤ end → Run s at ds
unfolding read_definitions
run_read s b zero names at {ds} {end} e h =
    let none : [] ≡ ds = cc in
    let here : at ≡ end = cc in
    rw (sym none) (done at (omega arith))
run_read s b (suc n) names at {ds} {end} e h =
    went_on (and_then (definition_by (file_width s) s at) (λ d next. fits names at d next)) _ e (λ d next e1 r1.
    went_on (read_definitions (file_width s) s n (names ++ (d.front.name ∷ [])) next) _ r1 (λ rest last e2 r2.
    let cons : d ∷ rest ≡ ds = cc in
    let here : last ≡ end = cc in
    went_on (definition_by (file_width s) s at) _ e1 (λ x m e3 r3.
    fitted x m e3 (ltb size_limit (length (write_definition x))) refl (among x.front.name names) refl r3 cons (run_read s b n (names ++ (d.front.name ∷ [])) next e2 (omega arith)))))
  where
    fitted : {d : Definition} {next : ℕ} {rest : List Definition} (x : Definition) (m : ℕ) → definition_by (file_width s) s at ≡ got x m → (l : Bool) → ltb size_limit (length (write_definition x)) ≡ l → (a : Bool) → among x.front.name names ≡ a
        → pick l (bad TooLong at) (pick a (bad NameTwice at) (got x m)) ≡ got d next → d ∷ rest ≡ ds → Run s next rest → Run s at ds
    fitted x m e3 true q a t r cons run = absurd (let z : ◌≡◌ {A = ℕ} 0 1 = cc in omega arith)
    fitted x m e3 false q true t r cons run = absurd (let z : ◌≡◌ {A = ℕ} 0 1 = cc in omega arith)
    fitted {d} {next} {rest} x m e3 false q false t r cons run =
        let same : x ≡ d = cc in
        let end : m ≡ next = cc in
        let e : definition_by (file_width s) s at ≡ got d next = e3 ∙ r in
        rw (sym cons) (more at next d rest (held_definition s b at next d e (rw same at (ltb-false size_limit (length (write_definition x)) q))) run)

-- where a file's first definition starts
abbrev pub first_place : ℕ
first_place = 10

pub file_run : (s : List ℕ) → AreBytes s → {ds : List Definition} {end : ℕ} → read_file s ≡ got ds end → Run s first_place ds
unfolding read_file
file_run s b {ds} {end} e =
    went_on (read_header s) _ e (λ h p1 e1 r1.
    let g = header_got s e1 in
    went_on (read_definitions (file_width s) s h.count [] p1) _ (rw g.width at r1) (λ xs last e2 r2.
    by h.count p1 xs last e2 (ltb last (length s)) refl r2 g.past))
  where
    by : (n p1 : ℕ) (xs : List Definition) (last : ℕ) → read_definitions (file_width s) s n [] p1 ≡ got xs last → (l : Bool) → ltb last (length s) ≡ l → pick l (bad BytesLeft last) (got xs last) ≡ got ds end → p1 ≡ 10 → Run s 10 ds
    by n p1 xs last e2 true q r here = absurd (let z : ◌≡◌ {A = ℕ} 0 1 = cc in omega arith)
    by n p1 xs last e2 false q r here =
        let same : xs ≡ ds = cc in
        rw (sym same, sym here) (run_read s b n [] p1 e2 (ltb-false last (length s) q))

-- a file without a fault of its own
abbrev pub Accepted : List ℕ → Type 0
Accepted s = (fault_of (read_file s)).fires ≡ false

abbrev pub definitions_on : List ℕ → List Definition
definitions_on s = definitions_of (read_file s)

pub record Got (s : List ℕ) : Type 0 where
  pub end : ℕ
  pub read : read_file s ≡ got (definitions_on s) end

pub accepted_got : (s : List ℕ) → Accepted s → Got s
accepted_got s a = by (read_file s) refl a
  where
    by : (r : Read (List Definition)) → read_file s ≡ r → (fault_of r).fires ≡ false → Got s
    by (got ds end) e t = record { end = end; read = rw e refl }
    by (bad q at) e t = absurd (let z : ◌≡◌ {A = ℕ} 0 1 = cc in omega arith)

pub accepted_run : (s : List ℕ) → AreBytes s → Accepted s → Run s first_place (definitions_on s)
accepted_run s b a = file_run s b (accepted_got s a).read
