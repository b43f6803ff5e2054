-- A formed store around the entry of a name: its bytes in order, and those of the entries after a save and a drop.
use Rattle.std.specs.Prelude.{ℕ, ◌+◌, ◌-◌, ◌≤◌, true, ◌≡◌, refl, drop, replicate}
use Rattle.std.proofs.Math.Path.{sym, ap, subst}
use Rattle.std.proofs.Common.{ap₂, ◌∙◌, arith, drop_at}
use mathlib.Core.List.{List, [], ◌∷◌, ◌++◌, append_assoc, append-nil}
use Rattle.std.proofs.Math.Option.{some}
use Rattle.std.proofs.Math.ListN.{length, length-append}
use Rattle.words.specs.Parts.{put}
use Rattle.format.specs.Fields.{word}
use Rattle.format.specs.Reader.{same_name}
use Rattle.tagged.specs.Fields.{Field, head_size, write_field, write_fields}
use Rattle.tagged.specs.FieldsLaws.{field_length, fields_append}
use Rattle.store.specs.Store.{Setting, Version, Entry, entries_of}
use Rattle.store.specs.Writing.{setting_fields, version_field, version_fields, highest_field, name_field, entry_fields, fields_for, writing, laid, entry_named, with_version, first_entry, saved, without, without_version, dropped}
use Rattle.store.specs.Places.{EntryStands, NoEntry}
use Rattle.store.specs.Sizes.{EntrySized, AreEntries}
use Rattle.store.specs.WritingLaws.{word_back}
use Rattle.store.specs.ReadingLaws.{StoreStands}
use Rattle.store.specs.NameLaws.{same_self}
use Rattle.store.specs.SplitLaws.{versions_bytes, entries_append, writing-append, writing-cons, entry_bytes, versions-bytes, named_split, saved_split, saved_none, dropped_split, without_split}
use Rattle.store.specs.Ahead.{FieldsAhead, VersionsAhead}
use Rattle.store.specs.AheadLaws.{ahead_behind}
use Rattle.store.specs.Edit.{number_field, version_put, entry_put, run_cut}
use Rattle.store.specs.EditLaws.{version-put, entry-put, cut_seam}
use Rattle.store.specs.Walk.{NumberedAt}
use Rattle.store.specs.WalkLaws.{store_ahead}
use Rattle.store.specs.VersionWalkLaws.{word-drop}

sized_at : (a : List Entry) (e : Entry) (b : List Entry) → AreEntries (a ++ (e ∷ b)) → EntrySized e
unfolding AreEntries
sized_at [] e b h = h.0
sized_at (x ∷ a) e b h = sized_at a e b h.1

-- a version by itself
pub version_alone : (v : Version) → versions_bytes (v ∷ []) ≡ write_field (version_field v.number) ++ write_fields (setting_fields v.settings)
unfolding version_fields write_fields
version_alone v = ap (λ (fs : List Field). write_field (version_field v.number) ++ write_fields fs) (append-nil (setting_fields v.settings))

-- runs of bytes grouped anew
around_group : (w n h v b : List ℕ) → w ++ ((n ++ (h ++ v)) ++ b) ≡ (w ++ n) ++ (h ++ (v ++ b))
around_group w n h v b = simp append_assoc

apart_group : (f h v b r : List ℕ) → (f ++ (h ++ (v ++ b))) ++ r ≡ f ++ (h ++ (v ++ (b ++ r)))
apart_group f h v b r = simp append_assoc

saved_group : (f h v n c b : List ℕ) → f ++ (h ++ ((v ++ (n ++ c)) ++ b)) ≡ f ++ (h ++ (v ++ (n ++ (c ++ b))))
saved_group f h v n c b = simp append_assoc

cut_group : (f h u g v b r : List ℕ) → f ++ (h ++ ((u ++ (g ++ v)) ++ (b ++ r))) ≡ (f ++ (h ++ u)) ++ (g ++ ((v ++ b) ++ r))
cut_group f h u g v b r = simp append_assoc

dropped_group : (f h u v b : List ℕ) → f ++ (h ++ ((u ++ v) ++ b)) ≡ (f ++ (h ++ u)) ++ (v ++ b)
dropped_group f h u v b = simp append_assoc

-- the versions of an entry at a place
pub record VersionsHere (s : List ℕ) (at : ℕ) (vs : List Version) : Type 0 where
  pub stand : VersionsAhead s at
  pub same : stand.versions ≡ vs

-- where the field of an entry's highest version stands
abbrev pub head_of : ℕ → List ℕ → ℕ
head_of at name = at + (head_size + length name)

-- the bytes around an entry: up to its highest version, its highest version, its versions, those of the entries behind it
module _ (before : List Entry) (e : Entry) (after : List Entry) where
  abbrev pub front_bytes : List ℕ
  front_bytes = writing before ++ write_field (name_field e.name)

  pub around : writing (before ++ (e ∷ after)) ≡ front_bytes ++ (write_field (highest_field e.highest) ++ (versions_bytes e.versions ++ writing after))
  around =
      writing-append before (e ∷ after)
      ∙ ap (λ (l : List ℕ). writing before ++ l) (writing-cons e after ∙ ap (λ (l : List ℕ). l ++ writing after) (entry_bytes e))
      ∙ around_group (writing before) (write_field (name_field e.name)) (write_field (highest_field e.highest)) (versions_bytes e.versions) (writing after)

module _ (name s : List ℕ) (at : ℕ) (p : StoreStands s) (q : EntryStands name s at) where
  abbrev front : List ℕ
  front = front_bytes q.before q.entry q.after

  abbrev vs : List Version
  vs = q.entry.versions

  abbrev end : ℕ
  end = head_of at name + (number_field + length (versions_bytes vs))

  pub same_here : same_name q.entry.name name ≡ true
  same_here = ap (λ (n : List ℕ). same_name n name) q.same ∙ same_self name

  pub named_here : entry_named name (entries_of s) ≡ some q.entry
  named_here = ap (entry_named name) q.split ∙ named_split name q.before q.entry q.after q.apart same_here

  pub entry_sized : EntrySized q.entry
  entry_sized = sized_at q.before q.entry q.after (subst (λ (es : List Entry). AreEntries es) q.split p.sized)

  pub entry_apart : s ≡ front ++ (write_field (highest_field q.entry.highest) ++ (versions_bytes vs ++ (writing q.after ++ p.rest)))
  entry_apart =
      p.split
      ∙ ap (λ (l : List ℕ). l ++ p.rest) (ap writing q.split ∙ around q.before q.entry q.after)
      ∙ apart_group front (write_field (highest_field q.entry.highest)) (versions_bytes vs) (writing q.after) p.rest

  pub head_place : length front ≡ head_of at name
  head_place =
      let name_length : length q.entry.name ≡ length name = ap length q.same in
      omega (arith, length-append (writing q.before) (write_field (name_field q.entry.name)), field_length (name_field q.entry.name), q.place)

  pub highest_here : word s (head_of at name + head_size) ≡ q.entry.highest
  highest_here =
      word-drop s (head_of at name) head_size
      ∙ ap (λ (l : List ℕ). word l head_size)
      (ap (drop (head_of at name)) entry_apart
      ∙ drop_at front (write_field (highest_field q.entry.highest) ++ (versions_bytes vs ++ (writing q.after ++ p.rest))) (head_of at name) head_place)
      ∙ word_back q.entry.highest entry_sized.highest

  pub contents_here : length (writing (entries_of s)) ≡ end + length (writing q.after)
  contents_here =
      let all : length (writing (entries_of s)) ≡ length front + (number_field + (length (versions_bytes vs) + length (writing q.after))) =
      ap length (ap writing q.split ∙ around q.before q.entry q.after)
      ∙ length-append front (write_field (highest_field q.entry.highest) ++ (versions_bytes vs ++ writing q.after))
      ∙ omega (arith, length-append (versions_bytes vs) (writing q.after)) in
      omega (arith, head_place)

  pub rest_here : length s ≡ length (writing (entries_of s)) + length p.rest
  rest_here = ap length p.split ∙ length-append (writing (entries_of s)) p.rest

  pub versions_here : VersionsHere s (head_of at name + number_field) vs
  unfolding fields_for write_fields
  versions_here =
      let lead = name_field q.entry.name ∷ (highest_field q.entry.highest ∷ []) in
      let a = fields_for q.before ++ lead in
      let b = version_fields vs ++ fields_for q.after in
      let group : fields_for (entries_of s) ≡ a ++ b =
      ap fields_for q.split ∙ entries_append q.before (q.entry ∷ q.after) ∙ sym (append_assoc (fields_for q.before) lead b) in
      let ahead : FieldsAhead s (0 + length (write_fields a)) b =
      ahead_behind s 0 a b (subst (λ (fs : List Field). FieldsAhead s 0 fs) group (store_ahead s p)) in
      let lead-length : length (write_fields lead) ≡ head_size + length q.entry.name + number_field =
      length-append (write_field (name_field q.entry.name)) (write_field (highest_field q.entry.highest) ++ []) ∙ omega (arith, field_length (name_field q.entry.name)) in
      let place : 0 + length (write_fields a) ≡ head_of at name + number_field =
      omega (arith, ap length (fields_append (fields_for q.before) lead), length-append (writing q.before) (write_fields lead), ap length q.same, q.place) in
      record {
        stand = record { versions = vs; after = q.after; ahead = subst (λ (k : ℕ). FieldsAhead s k b) place ahead; sized = entry_sized.versions };
        same = refl;
      }

  -- the bytes after a save
  pub saved_here : (cs : List Setting)
      → writing (saved name cs (entries_of s))
      ≡ front
      ++ (write_field (highest_field (q.entry.highest + 1))
      ++ (versions_bytes vs ++ (write_field (version_field (q.entry.highest + 1)) ++ (write_fields (setting_fields cs) ++ writing q.after))))
  saved_here cs =
      let v : Version = record { number = q.entry.highest + 1; settings = cs } in
      ap writing (ap (saved name cs) q.split ∙ saved_split name cs q.before q.entry q.after q.apart same_here)
      ∙ around q.before (with_version cs q.entry) q.after
      ∙ ap (λ (l : List ℕ). front ++ (write_field (highest_field (q.entry.highest + 1)) ++ (l ++ writing q.after)))
      (versions-bytes vs (v ∷ []) ∙ ap (λ (l : List ℕ). versions_bytes vs ++ l) (version_alone v))
      ∙ saved_group front (write_field (highest_field (q.entry.highest + 1))) (versions_bytes vs) (write_field (version_field (q.entry.highest + 1)))
      (write_fields (setting_fields cs)) (writing q.after)

  pub saved_length : (cs : List Setting)
      → length (writing (saved name cs (entries_of s))) ≡ length (writing (entries_of s)) + number_field + length (write_fields (setting_fields cs))
  saved_length cs =
      let settings = write_fields (setting_fields cs) in
      let high = write_field (highest_field (q.entry.highest + 1)) in
      let new = write_field (version_field (q.entry.highest + 1)) in
      let all : length (writing (saved name cs (entries_of s)))
      ≡ length front + (number_field + (length (versions_bytes vs) + (number_field + (length settings + length (writing q.after))))) =
      ap length (saved_here cs)
      ∙ length-append front (high ++ (versions_bytes vs ++ (new ++ (settings ++ writing q.after))))
      ∙ omega (arith, length-append (versions_bytes vs) (new ++ (settings ++ writing q.after)), length-append settings (writing q.after)) in
      omega (arith, contents_here, head_place)

  -- a version put in with its settings
  pub opened_here : (cs : List Setting) (size : ℕ) → length (write_fields (setting_fields cs)) ≡ size
      → length (writing (entries_of s)) + (number_field + size) ≤ length s
      → put (end + number_field) size (write_fields (setting_fields cs))
      (version_put (head_of at name) end (length (writing (entries_of s))) size (write_field (highest_field (q.entry.highest + 1)))
      (write_field (version_field (q.entry.highest + 1))) s)
      ≡ laid (length s) (saved name cs (entries_of s))
  opened_here cs size long room =
      let high = write_field (highest_field (q.entry.highest + 1)) in
      let new = write_field (version_field (q.entry.highest + 1)) in
      let contents = length (writing (entries_of s)) in
      let left : length p.rest - (number_field + size) ≡ length s - length (writing (saved name cs (entries_of s))) =
      omega (arith, rest_here, saved_length cs) in
      ap (λ (l : List ℕ). put (end + number_field) size (write_fields (setting_fields cs)) (version_put (head_of at name) end contents size high new l)) entry_apart
      ∙ version-put front (write_field (highest_field q.entry.highest)) (versions_bytes vs) (writing q.after) p.rest high new (write_fields (setting_fields cs))
      (head_of at name) end contents size head_place refl refl refl refl (sym contents_here) (omega (arith, rest_here))
      ∙ ap₂ (λ (l : List ℕ) (n : ℕ). l ++ replicate n 0) (sym (saved_here cs)) left

  -- a version taken out
  pub dropped_here : (number from to : ℕ) → NumberedAt (head_of at name + number_field) number vs from to
      → run_cut from to (length (writing (entries_of s))) s ≡ laid (length s) (dropped name number (entries_of s))
  dropped_here number from to d =
      let high = write_field (highest_field q.entry.highest) in
      let a = front ++ (high ++ versions_bytes d.before) in
      let g = versions_bytes (d.version ∷ []) in
      let b = versions_bytes d.after ++ writing q.after in
      let contents = length (writing (entries_of s)) in
      let inside : versions_bytes vs ≡ versions_bytes d.before ++ (g ++ versions_bytes d.after) =
      ap versions_bytes d.split
      ∙ versions-bytes d.before (d.version ∷ d.after)
      ∙ ap (λ (l : List ℕ). versions_bytes d.before ++ l) (versions-bytes (d.version ∷ []) d.after) in
      let whole : s ≡ a ++ (g ++ (b ++ p.rest)) =
      entry_apart ∙ ap (λ (l : List ℕ). front ++ (high ++ (l ++ (writing q.after ++ p.rest)))) inside
      ∙ cut_group front high (versions_bytes d.before) g (versions_bytes d.after) (writing q.after) p.rest in
      let long : length (versions_bytes vs) ≡ length (versions_bytes d.before) + (length g + length (versions_bytes d.after)) =
      ap length inside ∙ length-append (versions_bytes d.before) (g ++ versions_bytes d.after)
      ∙ ap (λ (n : ℕ). length (versions_bytes d.before) + n) (length-append g (versions_bytes d.after)) in
      let la : length a ≡ length front + (number_field + length (versions_bytes d.before)) = length-append front (high ++ versions_bytes d.before) ∙ omega arith in
      let lb : length b ≡ length (versions_bytes d.after) + length (writing q.after) = length-append (versions_bytes d.after) (writing q.after) in
      let after : writing (dropped name number (entries_of s)) ≡ a ++ b =
      ap writing (ap (dropped name number) q.split ∙ dropped_split name number q.before q.entry q.after q.apart same_here)
      ∙ around q.before (without_version number q.entry) q.after
      ∙ ap (λ (l : List ℕ). front ++ (high ++ (l ++ writing q.after)))
      (ap (λ (ws : List Version). versions_bytes (without number ws)) d.split
      ∙ ap versions_bytes (without_split number d.before d.version d.after d.apart d.same)
      ∙ versions-bytes d.before d.after)
      ∙ dropped_group front high (versions_bytes d.before) (versions_bytes d.after) (writing q.after) in
      let left : length g + length p.rest ≡ length s - length (writing (dropped name number (entries_of s))) =
      omega (arith, rest_here, contents_here, head_place, ap length after, length-append a b) in
      ap (run_cut from to contents) whole
      ∙ cut_seam a g b p.rest from to contents (omega (arith, head_place, d.start)) (sym d.end) (omega (arith, contents_here, d.start, d.end))
      ∙ ap₂ (λ (l : List ℕ) (n : ℕ). l ++ replicate n 0) (sym after) left

-- a formed store with no entry of a name
module _ (name s : List ℕ) (at : ℕ) (p : StoreStands s) (q : NoEntry name s at) where
  pub saved_new : (cs : List Setting)
      → writing (saved name cs (entries_of s))
      ≡ writing (entries_of s)
      ++ (write_field (name_field name) ++ (write_field (highest_field 1) ++ (write_field (version_field 1) ++ write_fields (setting_fields cs))))
  unfolding fields_for write_fields version_fields
  saved_new cs =
      ap writing (saved_none name cs (entries_of s) q.apart)
      ∙ writing-append (entries_of s) (first_entry name cs ∷ [])
      ∙ ap (λ (l : List ℕ). writing (entries_of s) ++ l)
      (writing-cons (first_entry name cs) []
      ∙ append-nil (write_fields (entry_fields (first_entry name cs)))
      ∙ ap (λ (l : List ℕ). write_field (name_field name) ++ (write_field (highest_field 1) ++ l)) (version_alone (record { number = 1; settings = cs })))

  pub new_length : (cs : List Setting)
      → length (writing (saved name cs (entries_of s)))
      ≡ length (writing (entries_of s)) + (head_size + length name + (number_field + number_field)) + length (write_fields (setting_fields cs))
  new_length cs =
      let settings = write_fields (setting_fields cs) in
      ap length (saved_new cs)
      ∙ length-append (writing (entries_of s)) (write_field (name_field name) ++ (write_field (highest_field 1) ++ (write_field (version_field 1) ++ settings)))
      ∙ omega (arith, length-append (write_field (name_field name)) (write_field (highest_field 1) ++ (write_field (version_field 1) ++ settings)), field_length (name_field name))

  pub opened_new : (cs : List Setting) (size : ℕ) → length (write_fields (setting_fields cs)) ≡ size
      → at + (head_size + length name + (number_field + (number_field + size))) ≤ length s
      → put (at + (length (write_field (name_field name)) + (number_field + number_field))) size (write_fields (setting_fields cs))
      (entry_put at size (write_field (name_field name)) (write_field (highest_field 1)) (write_field (version_field 1)) s)
      ≡ laid (length s) (saved name cs (entries_of s))
  opened_new cs size long room =
      let name_f = write_field (name_field name) in
      let high = write_field (highest_field 1) in
      let new = write_field (version_field 1) in
      let rest : length s ≡ length (writing (entries_of s)) + length p.rest = ap length p.split ∙ length-append (writing (entries_of s)) p.rest in
      let left : length p.rest - (length name_f + (number_field + (number_field + size))) ≡ length s - length (writing (saved name cs (entries_of s))) =
      omega (arith, new_length cs, field_length (name_field name)) in
      ap (λ (l : List ℕ). put (at + (length name_f + (number_field + number_field))) size (write_fields (setting_fields cs)) (entry_put at size name_f high new l)) p.split
      ∙ entry-put (writing (entries_of s)) p.rest name_f high new (write_fields (setting_fields cs)) at size (sym q.place) refl refl
      (omega (arith, field_length (name_field name), q.place))
      ∙ ap₂ (λ (l : List ℕ) (n : ℕ). l ++ replicate n 0) (sym (saved_new cs)) left
