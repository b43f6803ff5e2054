-- Where the label of each control stands: the first name of each index.
use Prim.Native.Nat.{ℕ, zero, suc, ◌+◌, ◌-◌, ◌≤◌, ◌<◌}
use Rattle.std.specs.Prelude.{Bool, true, false, ◌≡◌, refl, List, length, get_or, set, replicate, eqb}
use Rattle.std.proofs.Math.Option.{Option, none, some}
use Rattle.std.proofs.Common.{sym, ◌∙◌, length-set, get_or-set_same, get_or-set_other, ne_eqb, eqb-true}
use Rattle.std.proofs.Math.Path.{ap}
use native.Mathlib.Omega.{arith}
use Rattle.std.proofs.Math.Nat.{sub-zero}
use Rattle.std.proofs.lemmas.List.{length-replicate, get_or-replicate}
use Rattle.std.proofs.lemmas.Bool.{eqb-false}
use Rattle.words.specs.Choice.{pick, both}
use Rattle.format.specs.declared.Width.TheVariants.{Long}
use Rattle.format.specs.Fields.{word, string_at}
use Rattle.format.specs.Definition.{Front}
use Rattle.format.specs.Names.{first_name}
use Rattle.format.specs.Read.{got, on_read}
use Rattle.format.specs.Reader.{most_parameters, read_front}
use Rattle.front.specs.Front.{names_at}
use Rattle.readable.specs.Lookup.{name_of_in}
use Rattle.readable.specs.LookupOf.{first_name_at}
use Rattle.readable.specs.Entries.{index_place, entry_end, entries_from, Entries, Turn, entries_turn}
use Rattle.readable.specs.Readable.{parts}

-- the place of the first of so many entries that may count and has an index, 0 where there is none
unfoldable pub label_from : (ℕ → Bool) → List ℕ → ℕ → ℕ → ℕ → ℕ
label_from counts s zero at k = 0
label_from counts s (suc n) at k = pick (both (counts at) (eqb (word s (index_place s at)) k)) at (label_from counts s n (entry_end s at) k)

-- each entry counts
abbrev pub each : ℕ → Bool
each at = true

-- the place of an index's first name in a definition
abbrev pub label_place : List ℕ → ℕ → ℕ
label_place s k = on_read (read_front s 0) 0 (λ f next. label_from each s (length f.names) (names_at Long 0 f) k)

-- the string at a place, where 0 is no place
abbrev pub label_at : List ℕ → ℕ → Option (List ℕ)
label_at s place = pick (eqb place 0) none (some (string_at s place))

-- for each index the place of the length byte of its first name, 0 where it has none; and what stands there
pub record Labelled (s table : List ℕ) : Type 0 where
  pub size : length table ≡ most_parameters
  pub placed : (i : ℕ) → i < most_parameters → get_or table i 0 ≡ label_place s i
  pub named : (i : ℕ) → i < most_parameters → name_of_in i s ≡ label_at s (get_or table i 0)
  pub within : (i : ℕ) → i < most_parameters → 0 < get_or table i 0 → get_or table i 0 + 1 + get_or s (get_or table i 0) 0 ≤ length s

-- the same of so many entries from a place on, of those that count
pub record LabelledFrom (counts : ℕ → Bool) (s : List ℕ) (count first : ℕ) (table : List ℕ) : Type 0 where
  pub size : length table ≡ most_parameters
  pub placed : (k : ℕ) → k < most_parameters → get_or table k 0 ≡ label_from counts s count first k

-- what stands at the first of two places, by a test
pub named_by : (s : List ℕ) (at : ℕ) → 0 < at → (b : Bool) (name : Option (List ℕ)) (place : ℕ) → name ≡ label_at s place
    → pick b (some (string_at s at)) name ≡ label_at s (pick b at place)
named_by s at h true name place e = rw (ne_eqb at 0 (λ z. omega arith))
named_by s at h false name place e = e

-- what stands at a label's place: the first name of the index
from_named : (s : List ℕ) (n at k : ℕ) → 0 < at → first_name k (entries_from s n at) ≡ label_at s (label_from each s n at k)
unfolding first_name entries_from label_from
from_named s zero at k h = refl
from_named s (suc n) at k h =
    named_by s at h (eqb (word s (index_place s at)) k) _ (label_from each s n (entry_end s at) k) (from_named s n (entry_end s at) k (omega arith))

pub from_within : (counts : ℕ → Bool) (s : List ℕ) (bound n at k : ℕ) → Entries s bound n at → 0 < label_from counts s n at k
    → label_from counts s n at k + 1 + get_or s (label_from counts s n at k) 0 ≤ length s
unfolding Entries label_from
from_within counts s bound zero at k l h = absurd (omega arith)
from_within counts s bound (suc n) at k l h =
    by (both (counts at) (eqb (word s (index_place s at)) k)) (label_from counts s n (entry_end s at) k) (from_within counts s bound n (entry_end s at) k l.2) h where
      by : (b : Bool) (more : ℕ) → (0 < more → more + 1 + get_or s more 0 ≤ length s) → 0 < pick b at more → pick b at more + 1 + get_or s (pick b at more) 0 ≤ length s
      by true more f p = omega (arith, l.1)
      by false more f p = f p

-- the first of two places, where 0 is none
abbrev or_place : ℕ → ℕ → ℕ
or_place p q = pick (eqb p 0) q p

-- the names before entry i are in the table, of count entries from first on
pub record Labelling (counts : ℕ → Bool) (s : List ℕ) (first count i at : ℕ) (table : List ℕ) : Type 0 where
  pub most : i ≤ count
  pub past : 0 < at
  pub size : length table ≡ most_parameters
  pub left : Entries s most_parameters (count - i) at
  pub same : (k : ℕ) → k < most_parameters → label_from counts s count first k ≡ or_place (get_or table k 0) (label_from counts s (count - i) at k)

pub labels_first : (counts : ℕ → Bool) (s : List ℕ) (first count : ℕ) → 0 < first → Entries s most_parameters count first
    → Labelling counts s first count 0 first (replicate most_parameters 0)
labels_first counts s first count later known = record {
  most = omega arith;
  past = later;
  size = length-replicate {A = ℕ} most_parameters 0;
  left = rw sub-zero known;
  same = λ k h. rw (sub-zero, get_or-replicate {A = ℕ} most_parameters k 0 0 h);
}

module _ (counts : ℕ → Bool) (s : List ℕ) (first count i at : ℕ) (table : List ℕ) (now : Labelling counts s first count i at table) (less : i < count) where
  turn : Turn s most_parameters count i at
  turn = entries_turn s most_parameters count i at less now.left

  abbrev index : ℕ
  index = word s (index_place s at)

  abbrev more : ℕ → ℕ
  more k = label_from counts s (count - (i + 1)) (entry_end s at) k

  here : (k : ℕ) → k < most_parameters → label_from counts s count first k ≡ or_place (get_or table k 0) (pick (both (counts at) (eqb index k)) at (more k))
  unfolding label_from
  here k h =
      let e : count - i ≡ suc (count - (i + 1)) = omega arith in
      now.same k h ∙ ap (λ (n : ℕ). or_place (get_or table k 0) (label_from counts s n at k)) e

  -- the table stays where the entry changes nothing in what is found
  stays : ((k : ℕ) → k < most_parameters → or_place (get_or table k 0) (pick (both (counts at) (eqb index k)) at (more k)) ≡ or_place (get_or table k 0) (more k))
      → Labelling counts s first count (i + 1) (entry_end s at) table
  stays e = record {
    most = omega arith;
    past = omega arith;
    size = now.size;
    left = turn.more;
    same = λ k h. here k h ∙ e k h;
  }

  -- a name that counts and whose index has none yet
  pub label_set : counts at ≡ true → get_or table index 0 ≡ 0 → Labelling counts s first count (i + 1) (entry_end s at) (set table index at)
  label_set taken free = record {
    most = omega arith;
    past = omega arith;
    size = length-set table index at ∙ now.size;
    left = turn.more;
    same = λ k h. here k h ∙ ap (λ (b : Bool). or_place (get_or table k 0) (pick (both b (eqb index k)) at (more k))) taken ∙ by k (eqb index k) refl;
  }
    where
      by : (k : ℕ) (b : Bool) → eqb index k ≡ b → or_place (get_or table k 0) (pick b at (more k)) ≡ or_place (get_or (set table index at) k 0) (more k)
      by k true e =
          let same : index ≡ k = eqb-true index k e in
          let there : get_or (set table index at) k 0 ≡ at = ap (λ (m : ℕ). get_or (set table index at) m 0) (sym same) ∙ get_or-set_same table index at 0 (rw now.size turn.below) in
          let none_yet : get_or table k 0 ≡ 0 = ap (λ (m : ℕ). get_or table m 0) (sym same) ∙ free in
          rw (none_yet, there, ne_eqb at 0 (λ z. omega (arith, now.past)))
      by k false e = ap (λ (p : ℕ). or_place p (more k)) (sym (get_or-set_other table index k at 0 (λ z. eqb-false index k e (sym z))))

  -- a name whose index has one
  pub label_skip : 0 < get_or table index 0 → Labelling counts s first count (i + 1) (entry_end s at) table
  label_skip taken = stays (λ k h. by k (counts at) (eqb index k) refl)
    where
      by : (k : ℕ) (a b : Bool) → eqb index k ≡ b → or_place (get_or table k 0) (pick (both a b) at (more k)) ≡ or_place (get_or table k 0) (more k)
      by k true true e =
          let same : index ≡ k = eqb-true index k e in
          let found : 0 < get_or table k 0 = rw same at taken in
          rw (ne_eqb (get_or table k 0) 0 (λ z. omega arith))
      by k true false e = refl
      by k false b e = refl

  -- a name that doesn't count
  pub label_pass : counts at ≡ false → Labelling counts s first count (i + 1) (entry_end s at) table
  label_pass e = stays (λ k h. ap (λ (b : Bool). or_place (get_or table k 0) (pick (both b (eqb index k)) at (more k))) e)

-- the end
pub labels_last : (counts : ℕ → Bool) (s : List ℕ) (first count i at : ℕ) (table : List ℕ) → Labelling counts s first count i at table → count ≤ i
    → LabelledFrom counts s count first table
unfolding label_from
labels_last counts s first count i at table now done = record {
  size = now.size;
  placed = λ k h. by (eqb (get_or table k 0) 0) refl (sym (now.same k h ∙ ap (λ (n : ℕ). or_place (get_or table k 0) (label_from counts s n at k)) none-left));
}
  where
    none-left : count - i ≡ 0
    none-left = omega arith

    by : {p q : ℕ} (b : Bool) → eqb p 0 ≡ b → pick b 0 p ≡ q → p ≡ q
    by {p} true e h = eqb-true p 0 e ∙ h
    by false e h = h

-- of a front that was read
pub labels_front : (s : List ℕ) {f : Front} {end : ℕ} (table : List ℕ) → read_front s 0 ≡ got f end → 0 < names_at Long 0 f → Entries s most_parameters (length f.names) (names_at Long 0 f)
    → LabelledFrom each s (length f.names) (names_at Long 0 f) table → Labelled s table
labels_front s {f} {end} table e later known l = record {
  size = l.size;
  placed = λ i h. rw e (l.placed i h);
  named = λ i h. first_name_at s e i ∙ rw (l.placed i h) (ap (first_name i) (parts s e).names ∙ from_named s (length f.names) (names_at Long 0 f) i later);
  within = λ i h p.
      let q : 0 < label_from each s (length f.names) (names_at Long 0 f) i = rw (l.placed i h) at p in
      rw (l.placed i h) (from_within each s most_parameters (length f.names) (names_at Long 0 f) i known q);
}
