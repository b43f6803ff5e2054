-- Writing what was read: the bytes that a definition, or a file, was read from are its writing.
use Rattle.std.specs.Prelude.{ℕ, zero, suc, ◌-◌, ◌≤◌, ◌≡◌, refl, Bool, true, false, List, [], ◌∷◌, ◌++◌, length, take, drop, ltb, leb, eqb}
use Rattle.std.proofs.Common.{sym, ap, ◌∙◌, arith, ltb-true, ltb-false, le-leb, eqb-true}
use Rattle.std.proofs.Math.Nat.{sub-zero}
use Rattle.std.proofs.Math.Seq.{take-length}
use Rattle.words.specs.Bytes.{AreBytes}
use Rattle.words.specs.Choice.{pick, either}
use Rattle.faults.specs.declared.Fault.TheVariants.{NotSynthDef, BadVersion, TooLong, NameTwice, BytesLeft}
use Rattle.format.specs.declared.Width.{Width}
use Rattle.format.specs.declared.Width.TheVariants.{Short, Long}
use Rattle.format.specs.Read.{Read, got, bad, and_then}
use Rattle.format.specs.Definition.{Definition}
use Rattle.format.specs.Reader.{most_definitions, size_limit, among, fits, is_version, width_of, Header, front_by, definition_by, read_definitions, read_header, read_file, version_in, file_width}
use Rattle.format.specs.HeaderLaws.{header_got}
use Rattle.format.specs.Writer.{file_type, first_version, file_version, version_of, write_all, write_definition_by, write_definition, write_header, write_file_by, write_file}
use Rattle.format.specs.Bounds.{is_definition_by, is_definition, are_definitions, is_file}
use Rattle.roundtrip.specs.Wider.{wider}
use Rattle.roundtrip.specs.Sound.{Part, Sound, taken, refused, Forth, empty_part, part_length, join, restate, then_sound, checked_sound, part_of, place_of}
use Rattle.roundtrip.specs.FieldsForth.{int32_sound, short_count_sound}
use Rattle.roundtrip.specs.RecordsForth.{definition_sound}

-- a definition that is read starts in the file
starts_inside : (w : Width) (s : List ℕ) (at : ℕ) (d : Definition) (next : ℕ) → definition_by w s at ≡ got d next → at ≤ length s
unfolding definition_by front_by
starts_inside w s at d next e = by (ltb at (length s)) refl
  where
    by : (b : Bool) → ltb at (length s) ≡ b → at ≤ length s
    by true t = omega (arith, ltb-true at (length s) t)
    by false t =
        let f = rw t at e in
        let z : ◌≡◌ {A = ℕ} 0 1 = cc in
        omega arith

-- the bytes from one place to another are a definition's writing
pub record Written (w : Width) (s : List ℕ) (at next : ℕ) (d : Definition) : Type 0 where
  pub bytes : write_definition_by w d ≡ take (next - at) (drop at s)
  pub fits : is_definition_by w d ≡ true
  pub bounded : is_definition d ≡ true
  pub forward : at ≤ next
  pub inside : next ≤ length s

pub definition_forth : (w : Width) (s : List ℕ) → AreBytes s → (at : ℕ) (d : Definition) (next : ℕ) → definition_by w s at ≡ got d next → Written w s at next d
definition_forth w s b at d next e =
    let c = part_of (definition_sound w s at (starts_inside w s at d next e)) e in
    let t = (c.fact b).1 in
    record { bytes = (c.fact b).0; fits = t; bounded = wider w d t; forward = c.forward; inside = c.inside }

-- the tests at a definition's end
abbrev Fitting : List (List ℕ) → Definition → Type 0
Fitting names d = (is_definition d ≡ true) × (leb (length (write_definition d)) size_limit ≡ true) × (among d.front.name names ≡ false)

fitting_sound : (w : Width) (names : List (List ℕ)) → Forth (λ s at. and_then (definition_by w s at) (λ d next. fits names at d next)) (write_definition_by w) (Fitting names)
fitting_sound w names s at h = then_sound _ (definition_sound w s at h) (λ d next c. by d next c (ltb size_limit (length (write_definition d))) refl (among d.front.name names) refl)
  where
    by : (d : Definition) (next : ℕ) → Part s at next (write_definition_by w d) (is_definition_by w d ≡ true) → (l : Bool) → ltb size_limit (length (write_definition d)) ≡ l
        → (m : Bool) → among d.front.name names ≡ m
        → Sound s at (write_definition_by w) (Fitting names) (pick l (bad TooLong at) (pick m (bad NameTwice at) (got d next)))
    by d next c true e m f = refused TooLong at h
    by d next c false e true f = refused NameTwice at h
    by d next c false e false f =
        taken d next (restate c (λ t. (refl, (wider w d t, le-leb (length (write_definition d)) size_limit (ltb-false size_limit (length (write_definition d)) e), f))))

definitions_sound : (w : Width) (n : ℕ) (names : List (List ℕ)) → Forth (λ s at. read_definitions w s n names at) (write_all (write_definition_by w)) (λ ds. (length ds ≡ n) × (are_definitions names ds ≡ true))
unfolding read_definitions are_definitions write_all
definitions_sound w zero names s at h = taken [] at (empty_part s at _ h (refl, refl))
definitions_sound w (suc n) names s at h =
    then_sound _ (fitting_sound w names s at h) (λ d next c.
    then_sound _ (definitions_sound w n (names ++ (d.front.name ∷ [])) s next c.inside) (λ ds end c2.
    taken (d ∷ ds) end (restate (join c c2) (λ (t, (e, ts)). (refl, (ap suc e, rw (t.0, t.1, t.2) ts))))))

-- a version that is one is that of its width
version-of : (v : ℕ) → is_version v ≡ true → version_of (width_of v) ≡ v
version-of v t = by (eqb v first_version) refl (eqb v file_version) refl t
  where
    by : (a : Bool) → eqb v first_version ≡ a → (b : Bool) → eqb v file_version ≡ b → either a b ≡ true → version_of (pick a Short Long) ≡ v
    by true e b f h = sym (eqb-true v first_version e)
    by false e true f h = sym (eqb-true v file_version f)
    by false e false f h = absurd (let z : ◌≡◌ {A = ℕ} 0 1 = cc in omega arith)

header_sound : (s : List ℕ) → Sound s 0 (λ h. write_header h.width h.count) (λ h. leb h.count most_definitions ≡ true) (read_header s)
header_sound s =
    then_sound _ (checked_sound NotSynthDef (λ t. eqb t file_type) (omega arith) (int32_sound s 0 (omega arith))) (λ t p1 c1.
    then_sound _ (checked_sound BadVersion is_version c1.inside (int32_sound s p1 c1.inside)) (λ v p2 c2.
    then_sound _ (short_count_sound most_definitions s p2 c2.inside) (λ n p3 c3.
    taken _ p3 (restate (join c1 (join c2 c3)) (λ ((_, e1), ((_, e2), t3)). (rw (eqb-true t file_type e1, version-of v e2), t3))))))

-- a file, by the width that its head says
abbrev pub Whole : List ℕ → List Definition → Type 0
Whole s ds = (is_file ds ≡ true) × (length s ≤ length (write_file_by (file_width s) ds))

pub file_sound : (s : List ℕ) → Sound s 0 (write_file_by (file_width s)) (Whole s) (read_file s)
unfolding read_file
file_sound s = by (read_header s) refl (header_sound s)
  where
    ended : (n : ℕ) (ds : List Definition) (end : ℕ)
        → Part s 0 end (write_header (file_width s) n ++ write_all (write_definition_by (file_width s)) ds) ((leb n most_definitions ≡ true) × ((length ds ≡ n) × (are_definitions [] ds ≡ true)))
        → (b : Bool) → ltb end (length s) ≡ b
        → Sound s 0 (write_file_by (file_width s)) (Whole s) (pick b (bad BytesLeft end) (got ds end))
    ended n ds end c true e = refused BytesLeft end c.inside
    ended n ds end c false e =
        taken ds end (record {
          forward = c.forward;
          inside = c.inside;
          fact = λ b.
              let (w, (few, (many, fine))) = c.fact b in
              let size : length (write_header (file_width s) n ++ write_all (write_definition_by (file_width s)) ds) ≡ end - 0 = part_length c b in
              (rw many w, (rw (many, few) fine, omega (arith, ltb-false end (length s) e)));
        })

    by : (r : Read Header) → read_header s ≡ r → Sound s 0 (λ h. write_header h.width h.count) (λ h. leb h.count most_definitions ≡ true) r
        → Sound s 0 (write_file_by (file_width s)) (Whole s) (and_then r (λ h p1. and_then (read_definitions h.width s h.count [] p1) (λ ds end. pick (ltb end (length s)) (bad BytesLeft end) (got ds end))))
    by (got h p1) e k =
        let same = (header_got s e).width in
        let c1 = rw same at (part_of k refl) in
        rw same (then_sound _ (definitions_sound (file_width s) h.count [] s p1 c1.inside) (λ ds end c2. ended h.count ds end (join c1 c2) (ltb end (length s)) refl))
    by (bad q p) e k = refused q p (place_of k refl)

-- the same for a file: it is the whole of its bytes
pub record WrittenFile (s : List ℕ) (end : ℕ) (ds : List Definition) : Type 0 where
  pub bytes : write_file_by (file_width s) ds ≡ s
  pub bounded : is_file ds ≡ true
  pub whole : end ≡ length s

pub file_forth : (s : List ℕ) → AreBytes s → (ds : List Definition) (end : ℕ) → read_file s ≡ got ds end → WrittenFile s end ds
file_forth s b ds end e =
    let c = part_of (file_sound s) e in
    let w = c.fact b in
    let size : length (write_file_by (file_width s) ds) ≡ end - 0 = part_length c b in
    let whole : end ≡ length s = omega arith in
    record {
      bytes = w.0 ∙ rw (sub-zero, whole) (take-length s);
      bounded = w.1.0;
      whole = whole;
    }

-- "Demand 2's export always writes version 2, so byte equality is asked of version 2 files only"
pub file_same : (s : List ℕ) → AreBytes s → (ds : List Definition) (end : ℕ) → read_file s ≡ got ds end → version_in s ≡ file_version → write_file ds ≡ s
unfolding write_file
file_same s b ds end e v = rw v at (file_forth s b ds end e).bytes
