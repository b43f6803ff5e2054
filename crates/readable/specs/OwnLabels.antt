-- Where the name that a control is saved under stands: its first name that looks up to it.
use Rattle.std.specs.Prelude.{ℕ, zero, suc, ◌+◌, ◌≤◌, ◌<◌, Bool, true, false, ◌≡◌, refl, List, length, get_or, eqb}
use Rattle.std.proofs.Math.Option.{Option, some}
use Rattle.std.proofs.Common.{sym, ap, ◌∙◌, arith, eqb-true}
use Rattle.words.specs.Choice.{pick, both}
use Rattle.format.specs.declared.Width.TheVariants.{Long}
use Rattle.format.specs.Fields.{word, string_at}
use Rattle.format.specs.Definition.{Front}
use Rattle.format.specs.Names.{first_index, looks_up_to, name_among, name_for}
use Rattle.format.specs.Read.{got}
use Rattle.format.specs.Reader.{most_parameters, read_front}
use Rattle.front.specs.Front.{names_at}
use Rattle.readable.specs.Lookup.{name_for_in}
use Rattle.readable.specs.LookupOf.{name_for_at}
use Rattle.readable.specs.Entries.{index_place, entry_end, entries_from, Entries}
use Rattle.readable.specs.Labels.{label_from, label_at, LabelledFrom, named_by, from_within}
use Rattle.readable.specs.Readable.{parts}

-- whether the name of the entry at a place, looked up among so many entries, means the index of that entry
abbrev pub looks_up : List ℕ → ℕ → ℕ → ℕ → Bool
looks_up s count first at = looks_up_to (first_index (string_at s at) (entries_from s count first)) (word s (index_place s at))

-- for each index the place of the length byte of its first name that looks up to it, 0 where it has none
pub record OwnLabelled (s table : List ℕ) : Type 0 where
  pub size : length table ≡ most_parameters
  pub named : (i : ℕ) → i < most_parameters → name_for_in i s ≡ label_at s (get_or table i 0)
  pub within : (i : ℕ) → i < most_parameters → 0 < get_or table i 0 → get_or table i 0 + 1 + get_or s (get_or table i 0) 0 ≤ length s

-- the two tests of an entry, either first
same_test : (found : Option ℕ) (index k : ℕ) → both (eqb index k) (looks_up_to found k) ≡ both (looks_up_to found index) (eqb index k)
same_test found index k = by (eqb index k) refl
  where
    with_true : (a : Bool) → a ≡ both a true
    with_true true = refl
    with_true false = refl

    with_false : (a : Bool) → false ≡ both a false
    with_false true = refl
    with_false false = refl

    by : (b : Bool) → eqb index k ≡ b → both b (looks_up_to found k) ≡ both (looks_up_to found index) b
    by true e = ap (looks_up_to found) (sym (eqb-true index k e)) ∙ with_true (looks_up_to found index)
    by false e = with_false (looks_up_to found index)

-- what stands at such a place
from_own : (s : List ℕ) (count first n at k : ℕ) → 0 < at
    → name_among k (entries_from s count first) (entries_from s n at) ≡ label_at s (label_from (looks_up s count first) s n at k)
unfolding name_among entries_from label_from
from_own s count first zero at k h = refl
from_own s count first (suc n) at k h =
    ap (λ (b : Bool). pick b (some (string_at s at)) (name_among k (entries_from s count first) (entries_from s n (entry_end s at))))
    (same_test (first_index (string_at s at) (entries_from s count first)) (word s (index_place s at)) k)
    ∙ named_by s at h (both (looks_up s count first at) (eqb (word s (index_place s at)) k)) _ (label_from (looks_up s count first) s n (entry_end s at) k)
    (from_own s count first n (entry_end s at) k (omega arith))

-- of a front that was read
pub own_front : (s : List ℕ) {f : Front} {end : ℕ} (table : List ℕ) → read_front s 0 ≡ got f end → 0 < names_at Long 0 f
    → Entries s most_parameters (length f.names) (names_at Long 0 f)
    → LabelledFrom (looks_up s (length f.names) (names_at Long 0 f)) s (length f.names) (names_at Long 0 f) table → OwnLabelled s table
own_front s {f} {end} table e later known l =
    let n = length f.names in
    let at = names_at Long 0 f in
    record {
      size = l.size;
      named = λ i h. name_for_at s e i ∙ rw (l.placed i h) (ap (name_for i) (parts s e).names ∙ from_own s n at n at i later);
      within = λ i h p.
          let q : 0 < label_from (looks_up s n at) s n at i = rw (l.placed i h) at p in
          rw (l.placed i h) (from_within (looks_up s n at) s most_parameters n at i known q);
    }
