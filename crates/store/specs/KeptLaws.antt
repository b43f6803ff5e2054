-- A save and a drop leave formed entries.
use Rattle.std.specs.Prelude.{ℕ, ◌+◌, ◌≤◌, ◌<◌, Bool, true, false, not, ◌≡◌, refl, List, [], ◌∷◌, ◌++◌, eqb, leb, ltb, length}
use Rattle.std.proofs.Common.{ap, ◌∙◌, arith, lt-ltb, le-leb, ltb-true, leb-true, length-append}
use Rattle.std.proofs.Math.Option.{some}
use Rattle.std.proofs.lemmas.Bool.{not-true}
use Rattle.words.specs.Choice.{pick, either}
use Rattle.words.specs.ChoiceLaws.{both_true}
use Rattle.format.specs.Reader.{same_name}
use Rattle.store.specs.Store.{Setting, Version, Entry, rising, up_to, settings_apart, all_apart, most_versions, entry_formed, has_entry, entries_formed}
use Rattle.store.specs.Writing.{entry_named, versions_by, versions_for, with_version, first_entry, saved, without, without_version, dropped}
use Rattle.store.specs.NameLaws.{same_equal, same_sym}
use Rattle.store.specs.VersionLaws.{no_versions}

-- a formed entry by its parts
pub record EntryParts (e : Entry) : Type 0 where
  pub given : 0 < e.highest
  pub rises : rising 0 e.versions ≡ true
  pub bounded : up_to e.highest e.versions ≡ true
  pub few : length e.versions ≤ most_versions
  pub apart : all_apart e.versions ≡ true

pub entry_parts : (e : Entry) → entry_formed e ≡ true → EntryParts e
entry_parts e h =
    let a = both_true (ltb 0 e.highest) _ h in
    let b = both_true (rising 0 e.versions) _ a.1 in
    let c = both_true (up_to e.highest e.versions) _ b.1 in
    let d = both_true (leb (length e.versions) most_versions) _ c.1 in record {
      given = ltb-true 0 e.highest a.0;
      rises = b.0;
      bounded = c.0;
      few = leb-true (length e.versions) most_versions d.0;
      apart = d.1;
    }

pub parts_entry : (e : Entry) → EntryParts e → entry_formed e ≡ true
parts_entry e p = rw (lt-ltb 0 e.highest p.given, p.rises, p.bounded, le-leb (length e.versions) most_versions p.few) p.apart

-- a version above all others, behind them
rising_behind : (before highest : ℕ) (vs : List Version) (v : Version) → rising before vs ≡ true → up_to highest vs ≡ true
    → before < v.number → highest < v.number → rising before (vs ++ (v ∷ [])) ≡ true
unfolding rising up_to
rising_behind before highest [] v r u low above = rw (lt-ltb before v.number low)
rising_behind before highest (x ∷ vs) v r u low above =
    let rises = both_true (ltb before x.number) (rising x.number vs) r in
    let bounds = both_true (leb x.number highest) (up_to highest vs) u in
    rw rises.0 (rising_behind x.number highest vs v rises.1 bounds.1 (omega (arith, leb-true x.number highest bounds.0)) above)

up_to_behind : (highest : ℕ) (vs : List Version) (v : Version) → up_to highest vs ≡ true → highest ≤ v.number → up_to v.number (vs ++ (v ∷ [])) ≡ true
unfolding up_to
up_to_behind highest [] v u above = rw (le-leb v.number v.number (omega arith))
up_to_behind highest (x ∷ vs) v u above =
    let bounds = both_true (leb x.number highest) (up_to highest vs) u in
    rw (le-leb x.number v.number (omega (arith, leb-true x.number highest bounds.0))) (up_to_behind highest vs v bounds.1 above)

apart_behind : (vs : List Version) (v : Version) → all_apart vs ≡ true → settings_apart v.settings ≡ true → all_apart (vs ++ (v ∷ [])) ≡ true
unfolding all_apart
apart_behind [] v h s = rw s
apart_behind (x ∷ vs) v h s =
    let here = both_true (settings_apart x.settings) (all_apart vs) h in
    rw here.0 (apart_behind vs v here.1 s)

-- an entry with a version more
entry_saved : (cs : List Setting) (e : Entry) → rising 0 e.versions ≡ true → up_to e.highest e.versions ≡ true → all_apart e.versions ≡ true
    → settings_apart cs ≡ true → length e.versions < most_versions → entry_formed (with_version cs e) ≡ true
entry_saved cs e r u a s few =
    let v : Version = record { number = e.highest + 1; settings = cs } in
    parts_entry (with_version cs e) (record {
      given = omega arith;
      rises = rising_behind 0 e.highest e.versions v r u (omega arith) (omega arith);
      bounded = up_to_behind e.highest e.versions v u (omega arith);
      few = simp length-append (omega arith);
      apart = apart_behind e.versions v a s;
    })

-- the names after a save
has_saved : (x name : List ℕ) (cs : List Setting) (es : List Entry) → has_entry x (saved name cs es) ≡ either (has_entry x es) (same_name name x)
unfolding has_entry saved
has_saved x name cs [] = only (same_name name x)
  where
    only : (b : Bool) → either b false ≡ b
    only true = refl
    only false = refl
has_saved x name cs (e ∷ es) = go (has_saved x name cs es) (same_name e.name name) refl
  where
    twice : (p q : Bool) → either p q ≡ either (either p q) p
    twice true q = refl
    twice false true = refl
    twice false false = refl

    regroup : (p q r : Bool) → either p (either q r) ≡ either (either p q) r
    regroup true q r = refl
    regroup false q r = refl

    go : has_entry x (saved name cs es) ≡ either (has_entry x es) (same_name name x) → (b : Bool) → same_name e.name name ≡ b
        → has_entry x (pick b (with_version cs e ∷ es) (e ∷ saved name cs es)) ≡ either (either (same_name e.name x) (has_entry x es)) (same_name name x)
    go more true h =
        twice (same_name e.name x) (has_entry x es)
        ∙ ap (λ (n : List ℕ). either (either (same_name e.name x) (has_entry x es)) (same_name n x)) (same_equal e.name name h)
    go more false h = ap (either (same_name e.name x)) more ∙ regroup (same_name e.name x) (has_entry x es) (same_name name x)

-- entries by their first one
pub record FirstParts (e : Entry) (es : List Entry) : Type 0 where
  pub first : entry_formed e ≡ true
  pub once : has_entry e.name es ≡ false
  pub others : entries_formed es ≡ true

pub first_parts : (e : Entry) (es : List Entry) → entries_formed (e ∷ es) ≡ true → FirstParts e es
unfolding entries_formed
first_parts e es h =
    let a = both_true (entry_formed e) _ h in
    let b = both_true (not (has_entry e.name es)) (entries_formed es) a.1 in
    record { first = a.0; once = not-true (has_entry e.name es) b.0; others = b.1 }

pub parts_first : (e : Entry) (es : List Entry) → FirstParts e es → entries_formed (e ∷ es) ≡ true
unfolding entries_formed
parts_first e es p = rw (p.first, p.once) p.others

-- a save of settings that differ by name, under a name that has room for a version
pub saved_formed : (name : List ℕ) (cs : List Setting) (es : List Entry) → entries_formed es ≡ true → settings_apart cs ≡ true
    → length (versions_for name es) < most_versions → entries_formed (saved name cs es) ≡ true
unfolding saved entry_named has_entry rising up_to all_apart entries_formed
saved_formed name cs [] h s few =
    parts_first (first_entry name cs) [] (record {
      first = entry_saved cs (no_versions name) refl refl refl s (omega arith);
      once = refl;
      others = refl;
    })
saved_formed name cs (e ∷ es) h s few =
    let p = first_parts e es h in
    go p (saved_formed name cs es p.others s) (same_name e.name name) refl few
  where
    go : FirstParts e es → (length (versions_for name es) < most_versions → entries_formed (saved name cs es) ≡ true)
        → (b : Bool) → same_name e.name name ≡ b → length (versions_by (pick b (some e) (entry_named name es))) < most_versions
        → entries_formed (pick b (with_version cs e ∷ es) (e ∷ saved name cs es)) ≡ true
    go p more true same room =
        let q = entry_parts e p.first in
        parts_first (with_version cs e) es (record {
          first = entry_saved cs e q.rises q.bounded q.apart s room;
          once = p.once;
          others = p.others;
        })
    go p more false same room =
        parts_first e (saved name cs es) (record {
          first = p.first;
          once = has_saved e.name name cs es ∙ rw (p.once, same_sym name e.name, same);
          others = more room;
        })

-- versions without one
rising_lower : (low before : ℕ) (vs : List Version) → rising before vs ≡ true → low ≤ before → rising low vs ≡ true
unfolding rising
rising_lower low before [] r h = refl
rising_lower low before (v ∷ vs) r h =
    let here = both_true (ltb before v.number) (rising v.number vs) r in
    rw (lt-ltb low v.number (omega (arith, ltb-true before v.number here.0))) here.1

rising_without : (before number : ℕ) (vs : List Version) → rising before vs ≡ true → rising before (without number vs) ≡ true
unfolding rising without
rising_without before number [] r = refl
rising_without before number (v ∷ vs) r =
    let here = both_true (ltb before v.number) (rising v.number vs) r in
    let above : before < v.number = ltb-true before v.number here.0 in
    go here.0 (rising_lower before v.number vs here.1 (omega arith)) (rising_without v.number number vs here.1) (eqb v.number number)
  where
    go : ltb before v.number ≡ true → rising before vs ≡ true → rising v.number (without number vs) ≡ true
        → (b : Bool) → rising before (pick b vs (v ∷ without number vs)) ≡ true
    go first rest more true = rest
    go first rest more false = rw first more

up_to-without : (highest number : ℕ) (vs : List Version) → up_to highest vs ≡ true → up_to highest (without number vs) ≡ true
unfolding up_to without
up_to-without highest number [] u = refl
up_to-without highest number (v ∷ vs) u =
    let here = both_true (leb v.number highest) (up_to highest vs) u in
    go here.0 here.1 (up_to-without highest number vs here.1) (eqb v.number number)
  where
    go : leb v.number highest ≡ true → up_to highest vs ≡ true → up_to highest (without number vs) ≡ true
        → (b : Bool) → up_to highest (pick b vs (v ∷ without number vs)) ≡ true
    go first rest more true = rest
    go first rest more false = rw first more

apart-without : (number : ℕ) (vs : List Version) → all_apart vs ≡ true → all_apart (without number vs) ≡ true
unfolding all_apart without
apart-without number [] a = refl
apart-without number (v ∷ vs) a =
    let here = both_true (settings_apart v.settings) (all_apart vs) a in
    go here.0 here.1 (apart-without number vs here.1) (eqb v.number number)
  where
    go : settings_apart v.settings ≡ true → all_apart vs ≡ true → all_apart (without number vs) ≡ true
        → (b : Bool) → all_apart (pick b vs (v ∷ without number vs)) ≡ true
    go first rest more true = rest
    go first rest more false = rw first more

without-length : (number : ℕ) (vs : List Version) → length (without number vs) ≤ length vs
unfolding without
without-length number [] = omega arith
without-length number (v ∷ vs) = go (without-length number vs) (eqb v.number number)
  where
    go : length (without number vs) ≤ length vs → (b : Bool) → length (pick b vs (v ∷ without number vs)) ≤ length (v ∷ vs)
    go more true = omega arith
    go more false = omega arith

entry_dropped : (number : ℕ) (e : Entry) → entry_formed e ≡ true → entry_formed (without_version number e) ≡ true
entry_dropped number e h =
    let p = entry_parts e h in
    parts_entry (without_version number e) (record {
      given = p.given;
      rises = rising_without 0 number e.versions p.rises;
      bounded = up_to-without e.highest number e.versions p.bounded;
      few = omega (arith, p.few, without-length number e.versions);
      apart = apart-without number e.versions p.apart;
    })

-- the names stay
has-dropped : (x name : List ℕ) (number : ℕ) (es : List Entry) → has_entry x (dropped name number es) ≡ has_entry x es
unfolding has_entry dropped
has-dropped x name number [] = refl
has-dropped x name number (e ∷ es) = go (has-dropped x name number es) (same_name e.name name)
  where
    go : has_entry x (dropped name number es) ≡ has_entry x es
        → (b : Bool) → has_entry x (pick b (without_version number e ∷ es) (e ∷ dropped name number es)) ≡ either (same_name e.name x) (has_entry x es)
    go more true = refl
    go more false = ap (either (same_name e.name x)) more

pub dropped_formed : (name : List ℕ) (number : ℕ) (es : List Entry) → entries_formed es ≡ true → entries_formed (dropped name number es) ≡ true
unfolding dropped
dropped_formed name number [] h = h
dropped_formed name number (e ∷ es) h =
    let p = first_parts e es h in
    go p (dropped_formed name number es p.others) (same_name e.name name)
  where
    go : FirstParts e es → entries_formed (dropped name number es) ≡ true
        → (b : Bool) → entries_formed (pick b (without_version number e ∷ es) (e ∷ dropped name number es)) ≡ true
    go p more true =
        parts_first (without_version number e) es (record { first = entry_dropped number e p.first; once = p.once; others = p.others })
    go p more false =
        parts_first e (dropped name number es) (record {
          first = p.first;
          once = has-dropped e.name name number es ∙ p.once;
          others = more;
        })
