-- Laws of the search for an entry.
use Rattle.std.specs.Prelude.{ℕ, ◌+◌, ◌-◌, ◌≤◌, ◌<◌, true, false, ◌≡◌, refl, drop, get_or}
use Rattle.std.proofs.Common.{sym, ◌∙◌, drop-drop}
use Rattle.std.proofs.Math.Path.{ap}
use mathlib.Core.List.{List, [], ◌∷◌, ◌++◌, append_assoc, append-nil}
use native.Mathlib.Omega.{arith}
use Rattle.std.proofs.Math.ListN.{length, length-append}
use Rattle.words.specs.ChoiceLaws.{either_false}
use Rattle.words.specs.Parts.{region}
use Rattle.format.specs.Reader.{same_name}
use Rattle.tagged.specs.Fields.{Field, head_size, size_in, field_in, write_field, write_fields}
use Rattle.tagged.specs.FieldsLaws.{field_length}
use Rattle.store.specs.Store.{Entry, version_tag, entries_of, has_entry}
use Rattle.store.specs.Writing.{version_fields, highest_field, name_field, entry_fields, fields_for, writing}
use Rattle.store.specs.Places.{EntryStands, NoEntry}
use Rattle.store.specs.NameLaws.{same_equal}
use Rattle.store.specs.SplitLaws.{writing-append, writing-cons}
use Rattle.store.specs.WritingLaws.{entry-fields}
use Rattle.store.specs.ReadingLaws.{StoreStands}
use Rattle.store.specs.Ahead.{FieldsAhead, EntryAhead, PastTags, VersionsFrom, VersionsStart, PastEntry}
use Rattle.store.specs.AheadLaws.{FieldAhead, field_ahead, none_ahead, ahead_behind, leading_versions}

-- the contents of a field at a place, as the part behind its head
pub contents_at : (s : List ℕ) (at : ℕ) → region (at + head_size) (at + (head_size + size_in (drop at s)) - (at + head_size)) s ≡ (field_in (drop at s)).contents
contents_at s at =
    let size : at + (head_size + size_in (drop at s)) - (at + head_size) ≡ size_in (drop at s) = omega arith in
    rw (size, drop-drop head_size at s)

-- an entry at a place: its name, its highest version, its versions
module _ (s : List ℕ) (at : ℕ) (e : Entry) (es : List Entry) (p : FieldsAhead s at (entry_fields e ++ fields_for es)) where
  pub name_ahead : FieldAhead s at (name_field e.name) (highest_field e.highest ∷ (version_fields e.versions ++ fields_for es))
  name_ahead = field_ahead s at (name_field e.name) (highest_field e.highest ∷ (version_fields e.versions ++ fields_for es)) p

  module _ (second : ℕ) (f : second ≡ at + (head_size + size_in (drop at s))) where
    pub highest_ahead : FieldAhead s second (highest_field e.highest) (version_fields e.versions ++ fields_for es)
    highest_ahead = field_ahead s second (highest_field e.highest) (version_fields e.versions ++ fields_for es) (rw f name_ahead.next)

    pub versions-from : (start : ℕ) → start ≡ second + (head_size + size_in (drop second s)) → VersionsFrom s e es at start
    unfolding write_fields
    versions-from start g =
        let sizes : length (write_fields (entry_fields e)) ≡ length (write_field (name_field e.name)) + (length (write_field (highest_field e.highest)) + length (write_fields (version_fields e.versions))) =
        length-append (write_field (name_field e.name)) (write_field (highest_field e.highest) ++ write_fields (version_fields e.versions))
        ∙ ap (λ (n : ℕ). length (write_field (name_field e.name)) + n) (length-append (write_field (highest_field e.highest)) (write_fields (version_fields e.versions))) in
        record {
          ahead = rw g highest_ahead.next;
          place = omega (arith, name_ahead.size, highest_ahead.size, sizes, f, g);
        }

pub past_entry : (s : List ℕ) (at start end : ℕ) → VersionsStart s at start → PastTags version_tag s start end → PastEntry s at end
past_entry s at start end v h e es p =
    let from = v e es p in
    h (version_fields e.versions ++ fields_for es) from.ahead
    ∙ ap (λ (fs : List Field). start + length (write_fields fs)) (leading_versions e.versions es)
    ∙ from.place

-- the search for a name: the entries passed, which have others, and those that are left
pub record EntriesLeft (name s : List ℕ) (at : ℕ) : Type 0 where
  pub before : List Entry
  pub left : List Entry
  pub split : entries_of s ≡ before ++ left
  pub apart : has_entry name before ≡ false
  pub place : at ≡ length (writing before)
  pub ahead : FieldsAhead s at (fields_for left)

pub entries_ahead : (s : List ℕ) → StoreStands s → FieldsAhead s 0 (fields_for (entries_of s))
entries_ahead s t = record {
  rest = t.rest;
  inside = omega arith;
  split = t.split;
  sized = entry-fields (entries_of s) t.sized;
  closed = t.closed;
}

pub left_starts : (name s : List ℕ) → StoreStands s → EntriesLeft name s 0
unfolding has_entry fields_for write_fields
left_starts name s t = record {
  before = [];
  left = entries_of s;
  split = refl;
  apart = refl;
  place = refl;
  ahead = entries_ahead s t;
}

has-append : (name : List ℕ) (es : List Entry) (e : Entry) → has_entry name es ≡ false → same_name e.name name ≡ false → has_entry name (es ++ (e ∷ [])) ≡ false
unfolding has_entry
has-append name [] e h l = rw l
has-append name (x ∷ es) e h l =
    let w = either_false (same_name x.name name) (has_entry name es) h in
    rw w.0 (has-append name es e w.1 l)

writing-last : (before : List Entry) (e : Entry) → length (writing (before ++ (e ∷ []))) ≡ length (writing before) + length (write_fields (entry_fields e))
unfolding fields_for write_fields
writing-last before e =
    ap length (writing-append before (e ∷ []))
    ∙ length-append (writing before) (writing (e ∷ []))
    ∙ ap (λ (n : ℕ). length (writing before) + n)
    (ap length (writing-cons e []) ∙ length-append (write_fields (entry_fields e)) [] ∙ omega arith)

-- an entry that is left, at its place
pub record NextEntry (name s : List ℕ) (at : ℕ) : Type 0 where
  pub before : List Entry
  pub entry : Entry
  pub after : List Entry
  pub split : entries_of s ≡ before ++ (entry ∷ after)
  pub apart : has_entry name before ≡ false
  pub place : at ≡ length (writing before)
  pub ahead : FieldsAhead s at (entry_fields entry ++ fields_for after)

module _ (name s : List ℕ) (at : ℕ) where
  -- there is one where a byte is no 0, and else none
  pub next_entry : 0 < get_or s at 0 → EntriesLeft name s at → NextEntry name s at
  unfolding fields_for
  next_entry h w = go w.left w.split w.ahead where
    go : (left : List Entry) → entries_of s ≡ w.before ++ left → FieldsAhead s at (fields_for left) → NextEntry name s at
    go [] e p = absurd (omega (arith, none_ahead s at p))
    go (x ∷ left) e p = record { before = w.before; entry = x; after = left; split = e; apart = w.apart; place = w.place; ahead = p }

  pub no_entry : get_or s at 0 ≡ 0 → EntriesLeft name s at → NoEntry name s at
  unfolding fields_for
  no_entry h w = go w.left w.split w.ahead where
    go : (left : List Entry) → entries_of s ≡ w.before ++ left → FieldsAhead s at (fields_for left) → NoEntry name s at
    go [] e p =
        let all : entries_of s ≡ w.before = e ∙ append-nil w.before in
        record { apart = ap (has_entry name) all ∙ w.apart; place = w.place ∙ ap (λ (es : List Entry). length (writing es)) (sym all) }
    go (x ∷ left) e p = absurd (omega (arith, (name_ahead s at x left p).tag))

  module _ (n : NextEntry name s at) where
    held_name : (field_in (drop at s)).contents ≡ n.entry.name
    held_name = ap (λ (f : Field). f.contents) (name_ahead s at n.entry n.after n.ahead).field

    pub entry_found : same_name (field_in (drop at s)).contents name ≡ true → EntryStands name s at
    entry_found h = record {
      before = n.before;
      entry = n.entry;
      after = n.after;
      split = n.split;
      apart = n.apart;
      same = sym held_name ∙ same_equal (field_in (drop at s)).contents name h;
      place = n.place;
    }

    pub entry_passed : (end : ℕ) → same_name (field_in (drop at s)).contents name ≡ false → PastEntry s at end → EntriesLeft name s end
    entry_passed end h past =
        let past-it = past n.entry n.after n.ahead in
        record {
          before = n.before ++ (n.entry ∷ []);
          left = n.after;
          split = n.split ∙ sym (append_assoc n.before (n.entry ∷ []) n.after);
          apart = has-append name n.before n.entry n.apart (ap (λ (l : List ℕ). same_name l name) (sym held_name) ∙ h);
          place = past-it ∙ omega (arith, writing-last n.before n.entry, n.place);
          ahead = rw past-it (ahead_behind s at (entry_fields n.entry) (fields_for n.after) n.ahead);
        }

    pub entry_takes : (end : ℕ) → PastEntry s at end → at < end
    unfolding write_fields
    entry_takes end past =
        omega (
          arith,
          past n.entry n.after n.ahead,
          length-append (write_field (name_field n.entry.name)) (write_fields (highest_field n.entry.highest ∷ version_fields n.entry.versions)),
          field_length (name_field n.entry.name),
        )

    pub entry_ahead : EntryAhead s at
    entry_ahead = record { entry = n.entry; after = n.after; ahead = n.ahead }

    pub entry_inside : at + (head_size + size_in (drop at s)) ≤ length s
    entry_inside = (name_ahead s at n.entry n.after n.ahead).inside
