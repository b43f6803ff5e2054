-- A save and a drop leave a store that is formed, with the entries that they make.
use Prim.{tt}
use Rattle.std.specs.Prelude.{ℕ, zero, suc, ◌+◌, ◌-◌, ◌<◌, Bool, true, false, ◌≡◌, refl, List, [], ◌∷◌, ◌++◌, length, replicate, eqb}
use Rattle.std.proofs.Math.Option.{some}
use Rattle.std.proofs.Common.{arith}
use Rattle.words.specs.Choice.{pick}
use Rattle.words.specs.Bytes.{AreBytes}
use Rattle.format.specs.Reader.{same_name}
use Rattle.store.specs.Store.{Setting, Version, Entry, closes, is_name, settings_apart, most_versions, store_formed, entries_of}
use Rattle.store.specs.Writing.{writing, laid, entry_named, highest_by, highest_for, versions_for, with_version, saved, without, without_version, dropped, last_version}
use Rattle.store.specs.Places.{AreSettings}
use Rattle.store.specs.Sizes.{AreVersions, EntrySized, AreEntries, word_limit}
use Rattle.store.specs.WritingLaws.{reading_written, written_formed}
use Rattle.store.specs.ReadingLaws.{store_stands}
use Rattle.store.specs.KeptLaws.{saved_formed, dropped_formed}

-- a version more, and one less
sized_behind : (vs : List Version) (v : Version) → AreVersions vs → v.number < word_limit → AreSettings v.settings → AreVersions (vs ++ (v ∷ []))
unfolding AreVersions
sized_behind [] v h number settings = (number, (settings, tt))
sized_behind (x ∷ vs) v h number settings = (h.0, (h.1.0, sized_behind vs v h.1.1 number settings))

sized_without : (number : ℕ) (vs : List Version) → AreVersions vs → AreVersions (without number vs)
unfolding AreVersions without
sized_without number [] h = tt
sized_without number (v ∷ vs) h = go (sized_without number vs h.1.1) (eqb v.number number)
  where
    go : AreVersions (without number vs) → (b : Bool) → AreVersions (pick b vs (v ∷ without number vs))
    go more true = h.1.1
    go more false = (h.0, (h.1.0, more))

sized_more : (cs : List Setting) (e : Entry) → 0 < length e.name → is_name e.name ≡ true → AreVersions e.versions → AreSettings cs
    → e.highest + 1 < word_limit → EntrySized (with_version cs e)
sized_more cs e full named versions settings few =
    record {
      full = full;
      named = named;
      highest = few;
      versions = sized_behind e.versions (record { number = e.highest + 1; settings = cs }) versions few settings;
    }

pub saved_sized : (name : List ℕ) (cs : List Setting) (es : List Entry) → AreEntries es → 0 < length name → is_name name ≡ true → AreSettings cs
    → highest_for name es + 1 < word_limit → AreEntries (saved name cs es)
unfolding AreEntries AreVersions saved entry_named
saved_sized name cs [] h full named settings few =
    (sized_more cs (record { name = name; highest = 0; versions = [] }) full named tt settings few, tt)
saved_sized name cs (e ∷ es) h full named settings few = go (saved_sized name cs es h.1 full named settings) (same_name e.name name) few
  where
    go : (highest_for name es + 1 < word_limit → AreEntries (saved name cs es)) → (b : Bool) → highest_by (pick b (some e) (entry_named name es)) + 1 < word_limit
        → AreEntries (pick b (with_version cs e ∷ es) (e ∷ saved name cs es))
    go more true below = (sized_more cs e h.0.full h.0.named h.0.versions settings below, h.1)
    go more false below = (h.0, more below)

pub dropped_sized : (name : List ℕ) (number : ℕ) (es : List Entry) → AreEntries es → AreEntries (dropped name number es)
unfolding AreEntries dropped
dropped_sized name number [] h = tt
dropped_sized name number (e ∷ es) h = go (dropped_sized name number es h.1) (same_name e.name name)
  where
    go : AreEntries (dropped name number es) → (b : Bool) → AreEntries (pick b (without_version number e ∷ es) (e ∷ dropped name number es))
    go more true =
        (record { full = h.0.full; named = h.0.named; highest = h.0.highest; versions = sized_without number e.versions h.0.versions }, h.1)
    go more false = (h.0, more)

-- four bytes hold the highest version of any name
pub highest_sized : (name : List ℕ) (es : List Entry) → AreEntries es → highest_for name es < word_limit
unfolding AreEntries entry_named
highest_sized name [] h = omega arith
highest_sized name (e ∷ es) h = go (highest_sized name es h.1) (same_name e.name name)
  where
    go : highest_for name es < word_limit → (b : Bool) → highest_by (pick b (some e) (entry_named name es)) < word_limit
    go more true = h.0.highest
    go more false = more

zeros_close : (n : ℕ) → closes (replicate {A = ℕ} n 0) ≡ true
zeros_close zero = refl
zeros_close (suc n) = refl

-- a store of some size with these entries, zero behind them
pub record StoreKept (s : List ℕ) (es : List Entry) : Type 0 where
  pub formed : store_formed s ≡ true
  pub entries : entries_of s ≡ es

pub save_kept : (s name : List ℕ) (cs : List Setting) (size : ℕ) → AreBytes s → store_formed s ≡ true → 0 < length name → is_name name ≡ true
    → AreSettings cs → settings_apart cs ≡ true → length (versions_for name (entries_of s)) < most_versions
    → (highest_for name (entries_of s) ≡ last_version → ⊥) → StoreKept (laid size (saved name cs (entries_of s))) (saved name cs (entries_of s))
save_kept s name cs size bytes formed full named settings apart few given =
    let p = store_stands s bytes formed in
    let es = saved name cs (entries_of s) in
    let below : highest_for name (entries_of s) + 1 < word_limit = omega (arith, highest_sized name (entries_of s) p.sized, given) in
    let sized : AreEntries es = saved_sized name cs (entries_of s) p.sized full named settings below in
    let zeros = replicate {A = ℕ} (size - length (writing es)) 0 in
    record {
      formed = written_formed es zeros sized (zeros_close (size - length (writing es))) (saved_formed name cs (entries_of s) p.formed apart few);
      entries = reading_written es zeros sized (zeros_close (size - length (writing es)));
    }

pub drop_kept : (s name : List ℕ) (number size : ℕ) → AreBytes s → store_formed s ≡ true
    → StoreKept (laid size (dropped name number (entries_of s))) (dropped name number (entries_of s))
drop_kept s name number size bytes formed =
    let p = store_stands s bytes formed in
    let es = dropped name number (entries_of s) in
    let sized : AreEntries es = dropped_sized name number (entries_of s) p.sized in
    let zeros = replicate {A = ℕ} (size - length (writing es)) 0 in
    record {
      formed = written_formed es zeros sized (zeros_close (size - length (writing es))) (dropped_formed name number (entries_of s) p.formed);
      entries = reading_written es zeros sized (zeros_close (size - length (writing es)));
    }
