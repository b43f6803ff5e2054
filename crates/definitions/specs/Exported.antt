-- Export over the reading: what a fresh engine loaded is exported byte for byte, and an export is read as the residents' definitions, in slot order.
use Rattle.std.specs.Prelude.{ℕ, zero, suc, ◌+◌, ◌-◌, ◌≤◌, ◌<◌, Bool, true, false, not, ◌≡◌, refl, List, [], ◌∷◌, ◌++◌, length, get_or, ltb, leb}
use Rattle.std.proofs.Common.{sym, ap, ap₂, ◌∙◌, append-nil, arith, add-zero, zero-add, length-append, le-leb, leb-true, lt-ltb, le-ltb}
use Rattle.std.proofs.Math.Option.{Option, none, some}
use Rattle.std.proofs.Math.Nat.{sub-zero}
use Rattle.std.proofs.Math.Seq.{set-append_seam, append_snoc}
use Rattle.std.proofs.lemmas.Bool.{not-true}
use Rattle.words.specs.Bytes.{AreBytes}
use Rattle.words.specs.Choice.{pick, both, either}
use Rattle.words.specs.ChoiceLaws.{both_true}
use Rattle.format.specs.declared.Width.TheVariants.{Long}
use Rattle.format.specs.Read.{Read, got}
use Rattle.format.specs.Definition.{Definition}
use Rattle.format.specs.Reader.{read_definition, read_file, size_limit, most_definitions, same_name, among}
use Rattle.format.specs.Writer.{write_definition, write_file}
use Rattle.format.specs.Bounds.{every, is_definition, are_definitions, is_file}
use Rattle.nodes.specs.declared.Node.{Node}
use Rattle.model.specs.Layout.{slot_count}
use Rattle.model.specs.Engine.{Slot, slot_at, held, definition_in, no_definition, value_or, name_in, residents, resident_from, resident_of}
use Rattle.model.specs.Searches.{resident_least}
use Rattle.model.specs.Formed.{name_resident, names_apart}
use Rattle.model.specs.Checks.{names_of}
use Rattle.model.specs.Effects.{free_from, loaded, retired}
use Rattle.model.specs.Replies.{definitions_in, export_file}
use Rattle.model.specs.Demands.{definition_at_slot}
use Rattle.roundtrip.specs.Back.{definition_back, file_back}
use Rattle.roundtrip.specs.Forth.{definition_forth, file_forth}
use Rattle.slots.specs.Slots.{lengths_on, flags_on, slots_on, slot_on, bytes_on, slots_length}
use Rattle.definitions.specs.Slots.{Formed}
use Rattle.definitions.specs.Naming.{same_sym}
use Rattle.definitions.specs.Retiring.{slot_is, whole-size, retired-length}
use Rattle.definitions.specs.Exporting.{bytes-on, whole_written}

-- a resident's definition, as read, is within the bounds
pub record DefinitionBounded (s : Slot) : Type 0 where
  pub bounded : is_definition (definition_in s) ≡ true
  pub small : length (write_definition (definition_in s)) ≤ size_limit

abbrev pub AllBounded : List Slot → Type 0
AllBounded slots = (k : ℕ) → k < length slots → (slot_at slots k).resident ≡ true → DefinitionBounded (slot_at slots k)

-- a name among one more
among_snoc : (n m : List ℕ) (names : List (List ℕ)) → among n names ≡ false → same_name m n ≡ false → among n (names ++ (m ∷ [])) ≡ false
unfolding among
among_snoc n m [] a s = rw s
among_snoc n m (x ∷ names) a s = by (same_name x n) refl (among_snoc n m names)
  where
    by : (b : Bool) → same_name x n ≡ b → (among n names ≡ false → same_name m n ≡ false → among n (names ++ (m ∷ [])) ≡ false) → either (same_name x n) (among n (names ++ (m ∷ []))) ≡ false
    by true e ih = absurd (let z : true ≡ false = sym (ap (λ (c : Bool). either c (among n names)) e) ∙ a in let y : ◌≡◌ {A = ℕ} 0 1 = cc in omega arith)
    by false e ih = rw e (ih (sym (ap (λ (c : Bool). either c (among n names)) e) ∙ a) s)

-- of the residents of slots no name is among some
abbrev NoneAmong : List (List ℕ) → List Slot → Type 0
NoneAmong names slots = (k : ℕ) → k < length slots → (slot_at slots k).resident ≡ true → among (name_in (slot_at slots k)) names ≡ false

-- a name that no resident has
name_other : (name : List ℕ) (slots : List Slot) → name_resident name slots ≡ false → (k : ℕ) → k < length slots → (slot_at slots k).resident ≡ true → same_name (name_in (slot_at slots k)) name ≡ false
unfolding name_resident
name_other name [] e k h r = absurd (omega arith)
name_other name (s ∷ more) e k h r = by (both s.resident (same_name (name_in s) name)) refl e k h r (name_other name more)
  where
    first : (r b : Bool) → both r b ≡ false → r ≡ true → b ≡ false
    first true b e q = e
    first false b e q = absurd (let y : ◌≡◌ {A = ℕ} 0 1 = cc in omega arith)

    by : (b : Bool) → both s.resident (same_name (name_in s) name) ≡ b → pick b true (name_resident name more) ≡ false → (k : ℕ) → k < suc (length more) → (slot_at (s ∷ more) k).resident ≡ true
        → (name_resident name more ≡ false → (j : ℕ) → j < length more → (slot_at more j).resident ≡ true → same_name (name_in (slot_at more j)) name ≡ false)
        → same_name (name_in (slot_at (s ∷ more) k)) name ≡ false
    by true q e k h r ih = absurd (let y : ◌≡◌ {A = ℕ} 0 1 = cc in omega arith)
    by false q e zero h r ih = first s.resident (same_name (name_in s) name) q r
    by false q e (suc k) h r ih = ih e k (omega arith) r

fine_definitions : (slots : List Slot) (names : List (List ℕ)) → AllBounded slots → names_apart slots ≡ true → NoneAmong names slots → are_definitions names (definitions_in (residents slots)) ≡ true
unfolding residents definitions_in are_definitions names_apart
fine_definitions [] names fine apart new = refl
fine_definitions (s ∷ more) names fine apart new =
    let p = both_true (pick s.resident (not (name_resident (name_in s) more)) true) _ apart in
    by s.resident refl p.0 (λ ns h. fine_definitions more ns (λ k l r. fine (suc k) (omega arith) r) p.1 h)
  where
    by : (b : Bool) → s.resident ≡ b → pick b (not (name_resident (name_in s) more)) true ≡ true
        → ((ns : List (List ℕ)) → NoneAmong ns more → are_definitions ns (definitions_in (residents more)) ≡ true)
        → are_definitions names (definitions_in (pick b (s ∷ residents more) (residents more))) ≡ true
    by false e q ih = ih names (λ k h r. new (suc k) (omega arith) r)
    by true e q ih =
        let f = fine 0 (omega arith) e in
        let other = not-true (name_resident (name_in s) more) q in
        rw (f.bounded, le-leb (length (write_definition (definition_in s))) size_limit f.small, new 0 (omega arith) e)
        (ih (names ++ (name_in s ∷ [])) (λ k h r.
        among_snoc (name_in (slot_at more k)) (name_in s) names (new (suc k) (omega arith) r)
        (same_sym (name_in s) (name_in (slot_at more k)) ∙ name_other (name_in s) more other k h r)))

residents_fewer : (slots : List Slot) → length (definitions_in (residents slots)) ≤ length slots
unfolding residents definitions_in
residents_fewer [] = omega arith
residents_fewer (s ∷ more) = by s.resident (residents_fewer more)
  where
    by : (b : Bool) → length (definitions_in (residents more)) ≤ length more → length (definitions_in (pick b (s ∷ residents more) (residents more))) ≤ suc (length more)
    by true h = omega arith
    by false h = omega arith

-- the residents are the definitions of a file
pub residents-file : (slots : List Slot) → length slots ≡ slot_count → AllBounded slots → names_apart slots ≡ true → is_file (definitions_in (residents slots)) ≡ true
unfolding among
residents-file slots many fine apart =
    rw (le-leb (length (definitions_in (residents slots))) most_definitions (omega (arith, residents_fewer slots))) (fine_definitions slots [] fine apart (λ k h r. refl))

-- Demand 2, an export loaded into a fresh engine gives the same definitions: an export is read as the residents' definitions, in slot order
pub export_read : (slots : List Slot) → length slots ≡ slot_count → AllBounded slots → names_apart slots ≡ true
    → read_file (export_file slots) ≡ got (definitions_in (residents slots)) (length (export_file slots))
export_read slots many fine apart = file_back (definitions_in (residents slots)) (residents-file slots many fine apart)

-- the slots of a well-formed state
pub formed_fine : (table arena : List ℕ) → AreBytes arena → Formed table arena → AllBounded (slots_on table arena)
formed_fine table arena b f k h r =
    let less : k < slot_count = rw (slots_length 0 slot_count (lengths_on table) (flags_on table) arena) at h in
    let is : slot_at (slots_on table arena) k ≡ slot_on table arena k = slot_is table arena k less in
    let w = f.resident k less (sym (ap (λ (s : Slot). s.resident) is) ∙ r) in
    let small = w.small in
    let size = ap length (whole_written table arena k b f.sized less w) ∙ whole-size table arena k f.sized less w in
    rw is (record {
      bounded = ap (λ (q : Read Definition). is_definition (value_or no_definition q)) w.read
          ∙ (definition_forth Long (bytes_on table arena k) (bytes-on table arena k b) 0 w.definition (get_or table k 0) w.read).bounded;
      small = omega arith;
    })

-- a definition in a slot of its own
abbrev new_slot : Definition → Slot
new_slot d = record { bytes = write_definition d; resident = true }

unfoldable new_slots : List Definition → List Slot
new_slots [] = []
new_slots (d ∷ ds) = new_slot d ∷ new_slots ds

new_read : (d : Definition) → is_definition d ≡ true → definition_in (new_slot d) ≡ d
new_read d t =
    let back : read_definition (write_definition d) 0 ≡ got d (length (write_definition d)) =
    ap (λ (l : List ℕ). read_definition l 0) (sym (append-nil (write_definition d))) ∙ definition_back d t [] [] ∙ ap (λ (n : ℕ). got d n) (zero-add (length (write_definition d))) in
    ap (λ (q : Read Definition). value_or no_definition q) back

new_definitions : (ds : List Definition) (names : List (List ℕ)) → are_definitions names ds ≡ true → definitions_in (new_slots ds) ≡ ds
unfolding new_slots definitions_in are_definitions
new_definitions [] names t = refl
new_definitions (d ∷ ds) names t =
    let t1 = both_true (is_definition d) _ t in
    let t2 = both_true (leb (length (write_definition d)) size_limit) _ t1.1 in
    let t3 = both_true (not (among d.front.name names)) _ t2.1 in
    ap₂ (λ (x : Definition) (xs : List Definition). x ∷ xs) (new_read d t1.0) (new_definitions ds (names ++ (d.front.name ∷ [])) t3.1)

-- slots that are all resident, and slots that are all free
abbrev AllIn : List Slot → Type 0
AllIn slots = every (λ s. s.resident) slots ≡ true

abbrev pub AllOut : List Slot → Type 0
AllOut slots = every (λ s. not s.resident) slots ≡ true

residents_in : (p q : List Slot) → AllIn p → AllOut q → residents (p ++ q) ≡ p
unfolding residents every
residents_in [] [] a o = refl
residents_in [] (s ∷ q) a o =
    let t = both_true (not s.resident) _ o in
    rw (not-true s.resident t.0) (residents_in [] q refl t.1)
residents_in (s ∷ p) q a o =
    let t = both_true s.resident _ a in
    ap (λ (b : Bool). pick b (s ∷ residents (p ++ q)) (residents (p ++ q))) t.0 ∙ ap (λ (l : List Slot). s ∷ l) (residents_in p q t.1 o)

in_snoc : (p : List Slot) (d : Definition) → AllIn p → AllIn (p ++ (new_slot d ∷ []))
unfolding every
in_snoc [] d a = refl
in_snoc (s ∷ p) d a =
    let t = both_true s.resident _ a in
    rw t.0 (in_snoc p d t.1)

free_behind : (k : ℕ) (p : List Slot) (s : Slot) (q : List Slot) (t : List Node) → AllIn p → s.resident ≡ false → held (k + length p) t ≡ false
    → free_from k (p ++ s ∷ q) t ≡ k + length p
unfolding free_from every
free_behind k [] s q t a e h =
    let here : held k t ≡ false = rw add-zero at h in
    rw (e, here) (sym (add-zero k))
free_behind k (x ∷ p) s q t a e h =
    let c = both_true x.resident _ a in
    let next : k + suc (length p) ≡ k + 1 + length p = omega arith in
    rw (c.0, next) (free_behind (k + 1) p s q t c.1 e (rw next at h))

-- definitions put into free slots, behind those that are resident
loaded_behind : (ds : List Definition) (p q : List Slot) (t : List Node) → AllIn p → AllOut q → length ds ≤ length q → ((k : ℕ) → k < length p + length q → held k t ≡ false)
    → residents (loaded ds (p ++ q) t) ≡ p ++ new_slots ds
unfolding loaded new_slots every
loaded_behind [] p q t a o h idle = residents_in p q a o ∙ sym (append-nil p)
loaded_behind (d ∷ ds) p [] t a o h idle = absurd (omega arith)
loaded_behind (d ∷ ds) p (s ∷ q) t a o h idle =
    let c = both_true (not s.resident) _ o in
    let at : free_from 0 (p ++ s ∷ q) t ≡ length p = free_behind 0 p s q t a (not-true s.resident c.0) (idle (0 + length p) (omega arith)) ∙ zero-add (length p) in
    let size : length (p ++ (new_slot d ∷ [])) ≡ length p + 1 = length-append p (new_slot d ∷ []) in
    rw (at, set-append_seam p s q (new_slot d), sym (append_snoc p (new_slot d) q))
    (loaded_behind ds (p ++ (new_slot d ∷ [])) q t (in_snoc p d a) c.1 (omega arith) (λ k l. idle k (omega arith))
    ∙ append_snoc p (new_slot d) (new_slots ds))

retired_out : (names : List (List ℕ)) (slots : List Slot) → AllOut slots → AllOut (retired names slots)
unfolding retired every
retired_out names [] o = refl
retired_out names (s ∷ more) o =
    let c = both_true (not s.resident) _ o in
    rw (not-true s.resident c.0) (retired_out names more c.1)

-- definitions loaded where no slot is taken are what is resident, in file order
pub fresh-residents : (ds : List Definition) → is_file ds ≡ true → (slots : List Slot) (t : List Node) → length slots ≡ slot_count → AllOut slots → ((k : ℕ) → k < slot_count → held k t ≡ false)
    → definitions_in (residents (loaded ds (retired (names_of ds) slots) t)) ≡ ds
unfolding every
fresh-residents ds file slots t many out idle =
    let c = both_true (leb (length ds) most_definitions) _ file in
    let few = leb-true (length ds) most_definitions c.0 in
    let size : length (retired (names_of ds) slots) ≡ slot_count = retired-length (names_of ds) slots ∙ many in
    ap definitions_in (loaded_behind ds [] (retired (names_of ds) slots) t refl (retired_out (names_of ds) slots out) (omega arith) (λ k l. idle k (omega arith)))
    ∙ new_definitions ds [] c.1

-- Demand 2, what a fresh engine accepts is exported byte for byte: a file loaded where no slot is taken
pub fresh-export : (file : List ℕ) → AreBytes file → (ds : List Definition) (end : ℕ) → read_file file ≡ got ds end
    → (slots : List Slot) (t : List Node) → length slots ≡ slot_count → AllOut slots → ((k : ℕ) → k < slot_count → held k t ≡ false)
    → export_file (loaded ds (retired (names_of ds) slots) t) ≡ write_file ds
fresh-export file b ds end e slots t many out idle =
    ap write_file (fresh-residents ds (file_forth file b ds end e).bounded slots t many out idle)

-- the definition that a name means, of residents by their definitions
unfoldable pub meaning_of : List ℕ → List Definition → Option Definition
meaning_of name [] = none
meaning_of name (d ∷ ds) = pick (same_name d.front.name name) (some d) (meaning_of name ds)

meaning_from : (k : ℕ) (name : List ℕ) (slots : List Slot)
    → pick (ltb (resident_from k name slots) (k + length slots)) (some (definition_in (slot_at slots (resident_from k name slots - k)))) none ≡ meaning_of name (definitions_in (residents slots))
unfolding resident_from residents definitions_in meaning_of
meaning_from k name [] = rw (le-ltb k (k + 0) (omega arith))
meaning_from k name (s ∷ more) = by s.resident refl (same_name (name_in s) name) refl (meaning_from (k + 1) name more)
  where
    r : ℕ
    r = resident_from (k + 1) name more

    on : pick (ltb r (k + 1 + length more)) (some (definition_in (slot_at more (r - (k + 1))))) none ≡ meaning_of name (definitions_in (residents more))
        → pick (ltb r (k + suc (length more))) (some (definition_in (slot_at (s ∷ more) (r - k)))) none ≡ meaning_of name (definitions_in (residents more))
    on ih =
        let least = resident_least (k + 1) name more in
        let sum : k + suc (length more) ≡ k + 1 + length more = omega arith in
        let next : r - k ≡ suc (r - (k + 1)) = omega arith in
        rw (sum, next) ih

    by : (b : Bool) → s.resident ≡ b → (q : Bool) → same_name (name_in s) name ≡ q
        → pick (ltb r (k + 1 + length more)) (some (definition_in (slot_at more (r - (k + 1))))) none ≡ meaning_of name (definitions_in (residents more))
        → pick (ltb (pick (both b q) k r) (k + suc (length more))) (some (definition_in (slot_at (s ∷ more) (pick (both b q) k r - k)))) none
        ≡ meaning_of name (definitions_in (pick b (s ∷ residents more) (residents more)))
    by true e true f ih =
        let here : k - k ≡ 0 = omega arith in
        rw (lt-ltb k (k + suc (length more)) (omega arith), here, f)
    by true e false f ih = rw f (on ih)
    by false e q f ih = on ih

-- what a name means is fact by the residents' definitions
pub meaning-residents : (name : List ℕ) (slots : List Slot) → definition_at_slot slots (resident_of name slots) ≡ meaning_of name (definitions_in (residents slots))
meaning-residents name slots =
    let all : 0 + length slots ≡ length slots = zero-add (length slots) in
    let here : resident_of name slots - 0 ≡ resident_of name slots = sub-zero (resident_of name slots) in
    sym (ap₂ (λ (n k : ℕ). pick (ltb (resident_of name slots) n) (some (definition_in (slot_at slots k))) none) all here) ∙ meaning_from 0 name slots
