-- Laws of `Opening`: what a save, a drop and their measure come to, where the entry of a name was looked for.
use Rattle.std.specs.Prelude.{ℕ, ◌+◌, ◌≤◌, Bool, true, false, ◌≡◌, refl, List, [], ◌∷◌, length}
use Rattle.std.proofs.Common.{sym, ap, ap₂, ◌∙◌, subst, arith, length-append}
use Rattle.std.proofs.Math.Option.{Option, some}
use Rattle.words.specs.Parts.{put}
use Rattle.tagged.specs.Fields.{head_size, write_field, write_fields}
use Rattle.tagged.specs.FieldsLaws.{field_length}
use Rattle.store.specs.Store.{Version, Entry, store_formed, entries_of}
use Rattle.store.specs.Writing.{setting_fields, name_field, version_field, highest_field, writing, version_by, version_numbered, versions_by, highest_by, last_version}
use Rattle.store.specs.Places.{EntryStands, NoEntry, Measured, Opened, Dropped, is_some}
use Rattle.store.specs.ReadingLaws.{StoreStands}
use Rattle.store.specs.SplitLaws.{versions_bytes, versions-bytes, named_none, numbered_split}
use Rattle.store.specs.Walk.{NumberedAt}
use Rattle.store.specs.Edit.{number_field, version_put}
use Rattle.store.specs.PlaceLaws.{head_of, VersionsHere, named_here, entry_sized, highest_here, contents_here, versions_here, saved_length, opened_here, dropped_here, new_length, opened_new}
use Rattle.store.specs.Opening.{Openable, HeadStands, EntryMeasured, VersionRoom, VersionAdded, EntryAdded, NumberCutBy, NumberCut}

-- a version lies among those that it was looked for in
pub numbered_inside : (at number from to : ℕ) (vs : List Version) → NumberedAt at number vs from to → to ≤ at + length (versions_bytes vs)
numbered_inside at number from to vs d =
    let one = d.version ∷ [] in
    let inside : length (versions_bytes vs) ≡ length (versions_bytes d.before) + length (versions_bytes (d.version ∷ d.after)) =
    ap length (ap versions_bytes d.split ∙ versions-bytes d.before (d.version ∷ d.after))
    ∙ length-append (versions_bytes d.before) (versions_bytes (d.version ∷ d.after)) in
    let later : length (versions_bytes (d.version ∷ d.after)) ≡ length (versions_bytes one) + length (versions_bytes d.after) =
    ap length (versions-bytes one d.after) ∙ length-append (versions_bytes one) (versions_bytes d.after) in
    omega (arith, d.start, d.end)

module _ (name s : List ℕ) (at : ℕ) (p : StoreStands s) (q : EntryStands name s at) where
  pub head_inside : head_of at name + number_field ≤ length s
  head_inside = (versions_here name s at p q).stand.ahead.inside

  pub measured_here : (size count highest : ℕ) → EntryMeasured s (head_of at name) size count highest → Measured name s size count highest
  measured_here size count highest m =
      let here = versions_here name s at p q in
      let named = named_here name s at p q in record {
        versions = m.many here.stand ∙ ap length here.same ∙ ap (λ (o : Option Entry). length (versions_by o)) (sym named);
        given = m.given ∙ highest_here name s at p q ∙ ap highest_by (sym named);
        room = λ cs. omega (arith, m.long, saved_length name s at p q cs);
      }

  pub head_stands : store_formed s ≡ true → HeadStands s (head_of at name)
  head_stands formed =
      let here = versions_here name s at p q in
      let long : length (versions_bytes here.stand.versions) ≡ length (versions_bytes q.entry.versions) =
      ap (λ (vs : List Version). length (versions_bytes vs)) here.same in
      record { formed = formed; versions = here.stand; before = omega (arith, contents_here name s at p q) }

  pub version_room : (size : ℕ) → Openable name size s → VersionRoom s (head_of at name) size
  version_room size o =
      let below : q.entry.highest ≡ last_version → ⊥ = λ e. o.given (ap highest_by (named_here name s at p q) ∙ e) in record {
        stand = head_stands o.formed;
        number = omega (arith, highest_here name s at p q, (entry_sized name s at p q).highest, below);
        room = omega (arith, o.room, o.measured [], saved_length name s at p q []);
      }

  pub opened_version : (size r : ℕ) (s' : List ℕ) → Openable name size s → VersionAdded s (head_of at name) size r s' → length s' ≡ length s
      → Opened name size s r s'
  opened_version size r s' o added same =
      let here = versions_here name s at p q in
      let far = added here.stand in
      let long : length (versions_bytes here.stand.versions) ≡ length (versions_bytes q.entry.versions) =
      ap (λ (vs : List Version). length (versions_bytes vs)) here.same in
      let room = version_room size o in
      let head = head_of at name in
      let contents = length (writing (entries_of s)) in
      let n = q.entry.highest + 1 in
      let start : r ≡ head + (number_field + length (versions_bytes q.entry.versions)) + number_field = omega (arith, far.0) in
      let bytes : s' ≡ version_put head (head + (number_field + length (versions_bytes q.entry.versions))) contents size
      (write_field (highest_field n)) (write_field (version_field n)) s =
      far.1
      ∙ ap₂ (λ (k m : ℕ). version_put head (head + (number_field + k)) contents size (write_field (highest_field (m + 1))) (write_field (version_field (m + 1))) s)
      long (highest_here name s at p q) in record {
        same = same;
        inside = omega (arith, contents_here name s at p q, room.room);
        filled = λ cs fits.
            ap₂ (λ (k : ℕ) (l : List ℕ). put k size (write_fields (setting_fields cs)) l) start bytes
            ∙ opened_here name s at p q cs size fits room.room;
      }

  pub dropped_version : (number : ℕ) (r : Bool) (s' : List ℕ) → NumberCut s (head_of at name) number r s' → Dropped name number s r s'
  dropped_version number r s' cut = go (versions_here name s at p q) r (cut (versions_here name s at p q).stand)
    where
      go : (here : VersionsHere s (head_of at name + number_field) q.entry.versions) (b : Bool)
          → NumberCutBy b s (head_of at name) number here.stand s' → Dropped name number s b s'
      go here true d =
          let inside : NumberedAt (head_of at name + number_field) number q.entry.versions d.from d.to =
          subst (λ (vs : List Version). NumberedAt (head_of at name + number_field) number vs d.from d.to) here.same d.found in
          let one : version_numbered number q.entry.versions ≡ some inside.version =
          ap (version_numbered number) inside.split ∙ numbered_split number inside.before inside.version inside.after inside.apart inside.same in
          record {
            there = sym (ap is_some (ap (version_by number) (named_here name s at p q) ∙ one));
            store = d.bytes ∙ dropped_here name s at p q number d.from d.to inside;
          }
      go here false d = record {
        there = sym (ap is_some (ap (version_by number) (named_here name s at p q) ∙ ap (version_numbered number) (sym here.same) ∙ d.0));
        store = d.1;
      }

module _ (name s : List ℕ) (at : ℕ) (p : StoreStands s) (q : NoEntry name s at) where
  pub contents_inside : at ≤ length s
  contents_inside = omega (arith, q.place, ap length p.split, length-append (writing (entries_of s)) p.rest)

  pub measured_new : (size : ℕ) → size ≡ at + (head_size + length name + (number_field + number_field)) → Measured name s size 0 0
  measured_new size e =
      let named = named_none name (entries_of s) q.apart in record {
        versions = ap (λ (o : Option Entry). length (versions_by o)) (sym named);
        given = ap highest_by (sym named);
        room = λ cs. omega (arith, q.place, new_length name s at p q cs);
      }

  pub entry_room : (size : ℕ) → Openable name size s → at + (head_size + length name + (number_field + (number_field + size))) ≤ length s
  entry_room size o = omega (arith, o.room, o.measured [], new_length name s at p q [], q.place)

  pub opened_entry : (size r : ℕ) (s' : List ℕ) → Openable name size s → EntryAdded name s at size r s' → length s' ≡ length s → Opened name size s r s'
  opened_entry size r s' o added same =
      let room = entry_room size o in record {
        same = same;
        inside = omega (arith, added.start, field_length (name_field name));
        filled = λ cs fits.
            ap₂ (λ (k : ℕ) (l : List ℕ). put k size (write_fields (setting_fields cs)) l) added.start added.bytes
            ∙ opened_new name s at p q cs size fits room;
      }

  pub dropped_none : (number : ℕ) → Dropped name number s false s
  dropped_none number = record { there = sym (ap (λ (o : Option Entry). is_some (version_by number o)) (named_none name (entries_of s) q.apart)); store = refl }
