-- The contents of a formed store as fields, and where they end.
use Rattle.std.specs.Prelude.{ℕ, ◌≡◌, refl, List, [], ◌∷◌, length}
use Rattle.std.proofs.Common.{ap, arith, le-leb}
use Rattle.tagged.specs.Fields.{Field, write_fields}
use Rattle.store.specs.Store.{entries_of, name_tag}
use Rattle.store.specs.Writing.{fields_for, writing}
use Rattle.store.specs.WritingLaws.{AreFields, entry-fields}
use Rattle.store.specs.ReadingLaws.{StoreStands}
use Rattle.store.specs.Ahead.{FieldsAhead, leading, PastTags}

-- a walk over all fields goes up to the end
pub leading_all : (fs : List Field) → AreFields fs → leading name_tag fs ≡ fs
unfolding leading AreFields
leading_all [] h = refl
leading_all (f ∷ fs) h = rw (le-leb name_tag f.tag h.0.0) (ap (λ (gs : List Field). f ∷ gs) (leading_all fs h.1))

-- the fields of a formed store
pub store_ahead : (s : List ℕ) → StoreStands s → FieldsAhead s 0 (fields_for (entries_of s))
store_ahead s p = record {
  rest = p.rest;
  inside = omega arith;
  split = p.split;
  sized = entry-fields (entries_of s) p.sized;
  closed = p.closed;
}

pub contents_end : (s : List ℕ) → StoreStands s → (r : ℕ) → PastTags name_tag s 0 r → r ≡ length (writing (entries_of s))
contents_end s p r past =
    let long : length (write_fields (leading name_tag (fields_for (entries_of s)))) ≡ length (writing (entries_of s)) =
    ap (λ (fs : List Field). length (write_fields fs)) (leading_all (fields_for (entries_of s)) (entry-fields (entries_of s) p.sized)) in
    omega (arith, past (fields_for (entries_of s)) (store_ahead s p))
