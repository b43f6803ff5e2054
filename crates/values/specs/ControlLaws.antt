-- Laws of controls: the tests that the code makes, and the round trip through two words.
use Rattle.std.specs.Prelude.{ℕ, zero, suc, ◌+◌, ◌%◌, ◌<◌, ◌≤◌, min, Bool, true, false, not, ◌≡◌, refl, T, eqb, Float}
use Rattle.std.proofs.Common.{sym, ap, ◌∙◌, subst, arith, lt-ltb, le-ltb, eq-eqb, ne_eqb}
use Rattle.std.specs.Float.{nan, inf, fin, binary32}
use Rattle.std.specs.Float.Ieee.{is_nan, to_bits, of_bits, nan_bits, ne}
use Rattle.std.specs.Float.Ieee.Bits.{to_bits-of_bits, nan_bits_is, nan_bits_above}
use Rattle.std.specs.Float.Ieee.Compare.{differs_from_itself}
use Rattle.values.specs.declared.Control.{Control}
use Rattle.values.specs.declared.Mapping.{Mapping}
use Rattle.values.specs.declared.Mapping.TheVariants.{Unmapped, Bus}
use Rattle.values.specs.Controls.{ControlValue, Holds, seen, control_of, mapping_of, mapping_word, control_at}

-- the code's test of a pattern, with its sign's bit taken off
pub nan_above : (p : ℕ) → 2139095040 < p % 2147483648 → nan_bits binary32 p ≡ true
nan_above p h = nan_bits_above binary32 p ∙ lt-ltb 2139095040 (p % 2147483648) h

pub number_below : (p : ℕ) → p % 2147483648 ≤ 2139095040 → nan_bits binary32 p ≡ false
number_below p h = nan_bits_above binary32 p ∙ le-ltb 2139095040 (p % 2147483648) h

pub holds_nan : (p : ℕ) (m : Mapping) → 2139095040 < p % 2147483648
    → Holds (record { own = of_bits binary32 0; nan = p; mapping = m }) (record { own = p; mapping = m })
unfolding seen control_of
holds_nan p m h =
    let some : eqb p 0 ≡ false = ne_eqb p 0 (λ e. omega (arith, ap (λ (x : ℕ). x % 2147483648) e)) in
    record { struct = rw (nan_above p h); value = rw some }

pub holds_number : (p : ℕ) (m : Mapping) → p < 4294967296 → p % 2147483648 ≤ 2139095040
    → Holds (record { own = of_bits binary32 p; nan = 0; mapping = m }) (record { own = p; mapping = m })
unfolding seen control_of
holds_number p m l h =
    let no : nan_bits binary32 p ≡ false = number_below p h in
    let back : to_bits binary32 (of_bits binary32 p) ≡ p =
    to_bits-of_bits binary32 p l (subst (λ (b : Bool). T (not b)) (sym no ∙ nan_bits_is binary32 p) tt) in
    record { struct = rw no; value = ap (λ (x : ℕ). record { own = x; mapping = m }) back }

pub no_nan_below : (p : ℕ) → p % 2147483648 ≤ 2139095040 → T (not (nan_bits binary32 p))
no_nan_below p h = rw (number_below p h) tt

-- what is seen of a struct, by the code's tests
pub seen_number : (c : Control) → c.nan ≡ 0 → (seen c).own ≡ to_bits binary32 c.own
unfolding seen
seen_number c h = rw (eq-eqb c.nan 0 h)

pub seen_nan : (c : Control) → (c.nan ≡ 0 → ⊥) → (seen c).own ≡ c.nan
unfolding seen
seen_nan c h = rw (ne_eqb c.nan 0 h)

pub seen_mapping : (c : Control) → (seen c).mapping ≡ c.mapping
unfolding seen
seen_mapping c = refl

pub nan_pattern : (x : Float) → ne x x ≡ true → to_bits binary32 x ≡ 2143289344
unfolding to_bits
nan_pattern x h = ap (to_bits binary32) (differs_from_itself x (subst T (sym h) tt))

pub no_nan : (x : Float) → ne x x ≡ false → T (not (is_nan x))
unfolding is_nan ne
no_nan nan h = subst T h tt
no_nan (inf s) h = tt
no_nan (fin s m e) h = tt

-- The round trip: a mapping's word, a word's mapping, and the control of a control's words.
pub word_mapping : (w : ℕ) → w ≤ 4294967295 → mapping_word (mapping_of w) ≡ w
word_mapping zero h = refl
word_mapping (suc w) h = rw (ne_eqb (suc w) 0 (λ e. omega arith)) (omega arith)

pub mapping-word : (m : Mapping) → mapping_word m < 4294967295 → mapping_of (mapping_word m) ≡ m
mapping-word Unmapped h = refl
mapping-word (Bus b) h =
    let next : min (b + 1) 4294967295 ≡ b + 1 = omega arith in
    rw (next, ne_eqb (b + 1) 0 (λ e. omega arith)) (ap Bus (omega arith))

pub words_control : (v : ControlValue) → mapping_word v.mapping < 4294967295 → control_at v.own (mapping_word v.mapping) ≡ v
words_control v h = ap (λ (m : Mapping). record { own = v.own; mapping = m }) (mapping-word v.mapping h)

-- the words of the control of two words are those words
pub control-words : (c : Control) (own word : ℕ) → Holds c (control_at own word) → word ≤ 4294967295 → ((seen c).own ≡ own) × (mapping_word (seen c).mapping ≡ word)
control-words c own word h l = (ap (λ (v : ControlValue). v.own) h.value, ap (λ (v : ControlValue). mapping_word v.mapping) h.value ∙ word_mapping word l)

-- equal controls are equal structs
pub one_struct : (c d : Control) (v : ControlValue) → Holds c v → Holds d v → c ≡ d
one_struct c d v h k = h.struct ∙ sym k.struct
