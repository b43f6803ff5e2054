-- Laws of a definition's front: what is counts_of of it, and where its parts stand.
use Rattle.std.specs.Prelude.{ℕ, ◌+◌, ◌*◌, ◌<◌, ◌≡◌, refl, List, length, get_or}
use Rattle.std.proofs.Common.{sym, ap, arith}
use Rattle.front.specs.declared.Floats.{Floats}
use Rattle.format.specs.Read.{Read, got, bad, and_then, repeat, ending, map_read}
use Rattle.format.specs.declared.Width.{Width}
use Rattle.format.specs.Fields.{float32, definition_name, size_of, count_by, count_to_by, highest32}
use Rattle.format.specs.Definition.{ParameterName, Front}
use Rattle.format.specs.Reader.{most_parameters, parameter_name_by, front_by}
use Rattle.front.specs.Front.{read_counts, read_names, name_end, values_at, names_at, counts_of}
use Rattle.format.specs.FieldLaws.{name_length, count_end}
use Rattle.format.specs.RepeatLaws.{got_value, got_place, went_on, repeat-length, floats_end, floats_at}

module _ {A B E D : Type 0} (tell : E → D) (g : B → ℕ → Read D) where
  -- two readings that begin alike, of the second of which something is counts_of
  same_first : (r : Read A) (f : A → ℕ → Read B) (h : A → ℕ → Read E)
      → ((x : A) (p : ℕ) → r ≡ got x p → and_then (f x p) g ≡ map_read tell (h x p)) → and_then (and_then r f) g ≡ map_read tell (and_then r h)
  same_first (got x p) f h e = e x p refl
  same_first (bad q place) f h e = refl

module _ {B E D : Type 0} (tell : E → D) (g : B → ℕ → Read D) (f : Floats → ℕ → Read B) where
  -- the same where they begin with floats, of which the first keeps how many, and where they start
  same_floats : (k q : ℕ) (r : Read (List ℕ)) (h : List ℕ → ℕ → Read E)
      → ((xs : List ℕ) (p : ℕ) → r ≡ got xs p → and_then (f (record { count = k; at = q }) p) g ≡ map_read tell (h xs p))
      → and_then (and_then (and_then (ending r) (λ t end. got (record { count = k; at = q }) end)) f) g ≡ map_read tell (and_then r h)
  same_floats k q (got xs p) h e = e xs p refl
  same_floats k q (bad r place) h e = refl

  same_counted : (s : List ℕ) (r : Read ℕ) (h : ℕ → List ℕ → ℕ → Read E)
      → ((k q : ℕ) (xs : List ℕ) (p : ℕ) → r ≡ got k q → repeat (float32 s) k q ≡ got xs p
      → and_then (f (record { count = k; at = q }) p) g ≡ map_read tell (h k xs p))
      → and_then (and_then (and_then r (λ k q. and_then (ending (repeat (float32 s) k q)) (λ t end. got (record { count = k; at = q }) end))) f) g
      ≡ map_read tell (and_then r (λ k q. and_then (repeat (float32 s) k q) (λ xs p. h k xs p)))
  same_counted s (got k q) h e = same_floats k q (repeat (float32 s) k q) (h k) (λ xs p t. e k q xs p refl t)
  same_counted s (bad r place) h e = refl

-- the names, at the end
same_last : {A E D : Type 0} (tell : E → D) (c : D) (r : Read A) (h : A → E)
    → ((x : A) (p : ℕ) → r ≡ got x p → c ≡ tell (h x)) → and_then (ending r) (λ t end. got c end) ≡ map_read tell (and_then r (λ x end. got (h x) end))
same_last tell c (got x p) h e = ap (λ d. got d p) (e x p refl)
same_last tell c (bad q place) h e = refl

-- the counts and places of a front whose fields were read
record Places (w : Width) (at p1 q3 p3 p4 k p many : ℕ) (n constants values : List ℕ) (names : List ParameterName) : Type 0 where
  pub k_is : k ≡ length constants
  pub p_is : p ≡ length values
  pub many-is : many ≡ length names
  pub name-end : p1 ≡ at + (1 + length n)
  pub values-at : q3 ≡ at + (1 + length n) + size_of w + 4 * length constants + size_of w
  pub values_end : p3 ≡ at + (1 + length n) + size_of w + 4 * length constants + size_of w + 4 * length values
  pub names-at : p4 ≡ at + (1 + length n) + size_of w + 4 * length constants + size_of w + 4 * length values + size_of w

places : (w : Width) (s : List ℕ) (at : ℕ) {p1 q2 p2 q3 p3 p4 k p many end : ℕ} {n constants values : List ℕ} {names : List ParameterName}
    → definition_name s at ≡ got n p1 → count_by w s p1 ≡ got k q2 → repeat (float32 s) k q2 ≡ got constants p2
    → count_to_by w most_parameters s p2 ≡ got p q3 → repeat (float32 s) p q3 ≡ got values p3 → count_by w s p3 ≡ got many p4
    → repeat (parameter_name_by w p s) many p4 ≡ got names end
    → Places w at p1 q3 p3 p4 k p many n constants values names
places w s at {p1} {q2} {p2} {q3} {p3} {p4} {k} {p} {many} {end} {n} {constants} {values} {names} e1 e2 f2 e3 f3 e4 e5 =
    let k1 : k ≡ length constants = sym (repeat-length (float32 s) k q2 f2) in
    let k2 : p ≡ length values = sym (repeat-length (float32 s) p q3 f3) in
    let k3 : many ≡ length names = sym (repeat-length (parameter_name_by w p s) many p4 e5) in
    let a1 : p1 ≡ at + (1 + length n) = name_length s at e1 in
    let a2 : q2 ≡ p1 + size_of w = count_end w highest32 s p1 e2 in
    let a3 : p2 ≡ q2 + 4 * k = floats_end s k q2 f2 in
    let a4 : q3 ≡ p2 + size_of w = count_end w most_parameters s p2 e3 in
    let a5 : p3 ≡ q3 + 4 * p = floats_end s p q3 f3 in
    let a6 : p4 ≡ p3 + size_of w = count_end w highest32 s p3 e4 in
    record { k_is = k1; p_is = k2; many-is = k3; name-end = a1; values-at = omega arith; values_end = omega arith; names-at = omega arith }

-- what the reading of the counts and then of the names tells of a front
pub front_fact : (w : Width) (s : List ℕ) (at : ℕ) → and_then (read_counts w s at) (λ c p. read_names w s c p) ≡ map_read (counts_of w at) (front_by w s at)
unfolding front_by
front_fact w s at =
    same_first (counts_of w at) (λ c p. read_names w s c p) (definition_name s at) _ _ (λ n p1 e1.
    same_counted (counts_of w at) (λ c p. read_names w s c p) _ s (count_by w s p1) _ (λ k q2 constants p2 e2 f2.
    same_counted (counts_of w at) (λ c p. read_names w s c p) _ s (count_to_by w most_parameters s p2) _ (λ p q3 values p3 e3 f3.
    same_first (counts_of w at) (λ c p. read_names w s c p) (count_by w s p3) _ _ (λ many p4 e4.
    same_last (counts_of w at) _ (repeat (parameter_name_by w p s) many p4) _ (λ names end e5.
    let q = places w s at e1 e2 f2 e3 f3 e4 e5 in
    cc)))))

-- a front that was read, by its parts
pub record FrontGot (w : Width) (s : List ℕ) (at : ℕ) (f : Front) (end : ℕ) : Type 0 where
  pub name : definition_name s at ≡ got f.name (name_end at f)
  pub values : repeat (float32 s) (length f.values) (values_at w at f) ≡ got f.values (values_at w at f + 4 * length f.values)
  pub names : repeat (parameter_name_by w (length f.values) s) (length f.names) (names_at w at f) ≡ got f.names end

front_parts : (w : Width) (s : List ℕ) (at : ℕ) {p1 q3 p3 p4 k p many last end : ℕ} {n constants values : List ℕ} {names : List ParameterName} {f : Front}
    → definition_name s at ≡ got n p1 → repeat (float32 s) p q3 ≡ got values p3 → repeat (parameter_name_by w p s) many p4 ≡ got names last
    → Places w at p1 q3 p3 p4 k p many n constants values names
    → got (record { name = n; constants = constants; values = values; names = names }) last ≡ got f end
    → FrontGot w s at f end
front_parts w s at e1 f3 e5 q e =
    rw (sym (got_value e), sym (got_place e)) (record {
      name = rw q.name-end at e1;
      values = rw (q.p_is, q.values-at, q.values_end) at f3;
      names = rw (q.p_is, q.many-is, q.names-at) at e5;
    })

pub front_got : (w : Width) (s : List ℕ) (at : ℕ) {f : Front} {end : ℕ} → front_by w s at ≡ got f end → FrontGot w s at f end
unfolding front_by
front_got w s at e =
    went_on (definition_name s at) _ e (λ n p1 e1 r1.
    went_on (count_by w s p1) _ r1 (λ k q2 e2 r2.
    went_on (repeat (float32 s) k q2) _ r2 (λ constants p2 f2 r3.
    went_on (count_to_by w most_parameters s p2) _ r3 (λ p q3 e3 r4.
    went_on (repeat (float32 s) p q3) _ r4 (λ values p3 f3 r5.
    went_on (count_by w s p3) _ r5 (λ many p4 e4 r6.
    went_on (repeat (parameter_name_by w p s) many p4) _ r6 (λ names last e5 r7.
    front_parts w s at e1 f3 e5 (places w s at e1 e2 f2 e3 f3 e4 e5) r7)))))))

-- each of its initial values, by its place
pub front_value : (w : Width) (s : List ℕ) (at i : ℕ) {f : Front} {end : ℕ} → front_by w s at ≡ got f end → i < length f.values
    → float32 s (values_at w at f + 4 * i) ≡ got (get_or f.values i 0) (values_at w at f + 4 * i + 4)
front_value w s at i {f} e h = floats_at s (length f.values) (values_at w at f) i (front_got w s at e).values h
