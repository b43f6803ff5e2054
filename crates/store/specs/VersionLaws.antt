-- What a save and a drop leave, on entries: the name's own entry, every other one, and every version.
use Rattle.std.specs.Prelude.{ℕ, ◌+◌, ◌≤◌, ◌<◌, Bool, true, false, not, ◌≡◌, refl, List, [], ◌∷◌, ◌++◌, eqb, leb, ltb}
use Rattle.std.proofs.Common.{sym, ap, ◌∙◌, arith, eq-eqb, ne_eqb, eqb-true, leb-true, ltb-true}
use Rattle.std.proofs.Math.Option.{Option, none, some}
use Rattle.words.specs.Choice.{pick, both}
use Rattle.words.specs.ChoiceLaws.{both_true}
use Rattle.format.specs.Reader.{same_name}
use Rattle.store.specs.Store.{Setting, Version, Entry, rising, up_to, entry_formed, has_entry, entries_formed}
use Rattle.store.specs.Writing.{entry_named, version_numbered, version_by, version_in, highest_by, highest_for, with_version, saved, without, without_version, dropped}
use Rattle.store.specs.NameLaws.{same_equal, same_self}

-- the entry of a name before its first save
abbrev pub no_versions : List ℕ → Entry
no_versions name = record { name = name; highest = 0; versions = [] }

abbrev pub entry_or : List ℕ → Option Entry → Entry
entry_or name none = no_versions name
entry_or name (some e) = e

-- a save makes a version of the name's entry, the one that stands there or a new one
pub saved_entry : (name : List ℕ) (cs : List Setting) (es : List Entry)
    → entry_named name (saved name cs es) ≡ some (with_version cs (entry_or name (entry_named name es)))
unfolding entry_named saved
saved_entry name cs [] = rw (same_self name)
saved_entry name cs (e ∷ es) = go (saved_entry name cs es) (same_name e.name name) refl
  where
    go : entry_named name (saved name cs es) ≡ some (with_version cs (entry_or name (entry_named name es)))
        → (b : Bool) → same_name e.name name ≡ b
        → entry_named name (pick b (with_version cs e ∷ es) (e ∷ saved name cs es))
        ≡ some (with_version cs (entry_or name (pick b (some e) (entry_named name es))))
    go more true h = rw h
    go more false h = rw h more

-- and leaves the entry of any other name as it was
pub saved_other : (name other : List ℕ) (cs : List Setting) (es : List Entry) → same_name name other ≡ false
    → entry_named other (saved name cs es) ≡ entry_named other es
unfolding entry_named saved
saved_other name other cs [] apart = rw apart
saved_other name other cs (e ∷ es) apart = go (saved_other name other cs es apart) (same_name e.name name) refl
  where
    go : entry_named other (saved name cs es) ≡ entry_named other es → (b : Bool) → same_name e.name name ≡ b
        → entry_named other (pick b (with_version cs e ∷ es) (e ∷ saved name cs es)) ≡ pick (same_name e.name other) (some e) (entry_named other es)
    go more true h =
        let differ : same_name e.name other ≡ false = ap (λ (n : List ℕ). same_name n other) (same_equal e.name name h) ∙ apart in
        rw differ
    go more false h = ap (λ (o : Option Entry). pick (same_name e.name other) (some e) o) more

-- a drop takes a version out of the name's entry, where there is one
abbrev pub dropped_from : ℕ → Option Entry → Option Entry
dropped_from number none = none
dropped_from number (some e) = some (without_version number e)

pub dropped_entry : (name : List ℕ) (number : ℕ) (es : List Entry) → entry_named name (dropped name number es) ≡ dropped_from number (entry_named name es)
unfolding entry_named dropped
dropped_entry name number [] = refl
dropped_entry name number (e ∷ es) = go (dropped_entry name number es) (same_name e.name name) refl
  where
    go : entry_named name (dropped name number es) ≡ dropped_from number (entry_named name es) → (b : Bool) → same_name e.name name ≡ b
        → entry_named name (pick b (without_version number e ∷ es) (e ∷ dropped name number es)) ≡ dropped_from number (pick b (some e) (entry_named name es))
    go more true h = rw h
    go more false h = rw h more

pub dropped_other : (name other : List ℕ) (number : ℕ) (es : List Entry) → same_name name other ≡ false
    → entry_named other (dropped name number es) ≡ entry_named other es
unfolding entry_named dropped
dropped_other name other number [] apart = refl
dropped_other name other number (e ∷ es) apart = go (dropped_other name other number es apart) (same_name e.name name) refl
  where
    go : entry_named other (dropped name number es) ≡ entry_named other es → (b : Bool) → same_name e.name name ≡ b
        → entry_named other (pick b (without_version number e ∷ es) (e ∷ dropped name number es))
        ≡ pick (same_name e.name other) (some e) (entry_named other es)
    go more true h =
        let differ : same_name e.name other ≡ false = ap (λ (n : List ℕ). same_name n other) (same_equal e.name name h) ∙ apart in
        rw differ
    go more false h = ap (λ (o : Option Entry). pick (same_name e.name other) (some e) o) more

-- "each new version is one more than the highest ever given for that name, 1 where there was none"
pub highest_saved : (name : List ℕ) (cs : List Setting) (es : List Entry) → highest_for name (saved name cs es) ≡ highest_for name es + 1
highest_saved name cs es = ap highest_by (saved_entry name cs es) ∙ given (entry_named name es)
  where
    given : (o : Option Entry) → (entry_or name o).highest + 1 ≡ highest_by o + 1
    given none = refl
    given (some e) = refl

-- "Tag 4 .. outlives a drop", of this name and of any other
pub highest_dropped : (name other : List ℕ) (number : ℕ) (es : List Entry) → highest_for other (dropped name number es) ≡ highest_for other es
highest_dropped name other number es = go (same_name name other) refl
  where
    kept : (o : Option Entry) → highest_by (dropped_from number o) ≡ highest_by o
    kept none = refl
    kept (some e) = refl

    go : (b : Bool) → same_name name other ≡ b → highest_for other (dropped name number es) ≡ highest_for other es
    go true h = rw (← same_equal name other h) (ap highest_by (dropped_entry name number es) ∙ kept (entry_named name es))
    go false h = ap highest_by (dropped_other name other number es h)

-- the entry of a name among formed ones is formed
pub named_formed : (name : List ℕ) (es : List Entry) (e : Entry) → entries_formed es ≡ true → entry_named name es ≡ some e → entry_formed e ≡ true
unfolding entry_named entries_formed
named_formed name [] e formed found = cc
named_formed name (x ∷ es) e formed found =
    let here = both_true (entry_formed x) (both (not (has_entry x.name es)) (entries_formed es)) formed in
    let there = both_true (not (has_entry x.name es)) (entries_formed es) here.1 in
    go (named_formed name es e there.1) here.0 (same_name x.name name) found
  where
    go : (entry_named name es ≡ some e → entry_formed e ≡ true) → entry_formed x ≡ true
        → (b : Bool) → pick b (some x) (entry_named name es) ≡ some e → entry_formed e ≡ true
    go more first true f = let same : x ≡ e = cc in rw (← same) first
    go more first false f = more f

-- of a formed entry: its versions rise from 1 and go up to the highest
pub formed_rising : (e : Entry) → entry_formed e ≡ true → rising 0 e.versions ≡ true
formed_rising e h = (both_true (rising 0 e.versions) _ (both_true (ltb 0 e.highest) _ h).1).0

pub formed_up_to : (e : Entry) → entry_formed e ≡ true → up_to e.highest e.versions ≡ true
formed_up_to e h = (both_true (up_to e.highest e.versions) _ (both_true (rising 0 e.versions) _ (both_true (ltb 0 e.highest) _ h).1).1).0

-- a number above the highest is no version's
pub none_above : (highest k : ℕ) (vs : List Version) → up_to highest vs ≡ true → highest < k → version_numbered k vs ≡ none
unfolding up_to version_numbered
none_above highest k [] h above = refl
none_above highest k (v ∷ vs) h above =
    let here = both_true (leb v.number highest) (up_to highest vs) h in
    rw (ne_eqb v.number k (λ e. omega (arith, leb-true v.number highest here.0, e))) (none_above highest k vs here.1 above)

-- nor is one at or below that which the versions rise from
pub none_below : (before k : ℕ) (vs : List Version) → rising before vs ≡ true → k ≤ before → version_numbered k vs ≡ none
unfolding rising version_numbered
none_below before k [] h below = refl
none_below before k (v ∷ vs) h below =
    let here = both_true (ltb before v.number) (rising v.number vs) h in
    let less : before < v.number = ltb-true before v.number here.0 in
    rw (ne_eqb v.number k (λ e. omega (arith, e))) (none_below v.number k vs here.1 (omega arith))

-- a version behind others
pub numbered_behind : (k : ℕ) (vs : List Version) (v : Version) → version_numbered k vs ≡ none
    → version_numbered k (vs ++ (v ∷ [])) ≡ pick (eqb v.number k) (some v) none
unfolding version_numbered
numbered_behind k [] v h = refl
numbered_behind k (x ∷ vs) v h = go (numbered_behind k vs v) (eqb x.number k) h
  where
    go : (version_numbered k vs ≡ none → version_numbered k (vs ++ (v ∷ [])) ≡ pick (eqb v.number k) (some v) none)
        → (b : Bool) → pick b (some x) (version_numbered k vs) ≡ none
        → pick b (some x) (version_numbered k (vs ++ (v ∷ []))) ≡ pick (eqb v.number k) (some v) none
    go more true f = cc
    go more false f = more f

-- one of another number changes nothing
pub numbered_beside : (k : ℕ) (vs : List Version) (v : Version) → eqb v.number k ≡ false → version_numbered k (vs ++ (v ∷ [])) ≡ version_numbered k vs
unfolding version_numbered
numbered_beside k [] v h = rw h
numbered_beside k (x ∷ vs) v h = ap (λ (o : Option Version). pick (eqb x.number k) (some x) o) (numbered_beside k vs v h)

-- the version that was saved is there, with its settings
pub version_saved : (name : List ℕ) (cs : List Setting) (es : List Entry) → entries_formed es ≡ true
    → version_in name (highest_for name es + 1) (saved name cs es) ≡ some (record { number = highest_for name es + 1; settings = cs })
unfolding version_numbered
version_saved name cs es formed =
    ap (version_by (highest_for name es + 1)) (saved_entry name cs es) ∙ go (entry_named name es) (λ e. named_formed name es e formed)
  where
    go : (o : Option Entry) → ((e : Entry) → o ≡ some e → entry_formed e ≡ true)
        → version_numbered (highest_by o + 1) (with_version cs (entry_or name o)).versions ≡ some (record { number = highest_by o + 1; settings = cs })
    go none h = refl
    go (some e) h =
        numbered_behind (e.highest + 1) e.versions (record { number = e.highest + 1; settings = cs })
        (none_above e.highest (e.highest + 1) e.versions (formed_up_to e (h e refl)) (omega arith))
        ∙ rw (eq-eqb (e.highest + 1) (e.highest + 1) refl)

-- and each other one is as it was
pub versions_saved : (name other : List ℕ) (k : ℕ) (cs : List Setting) (es : List Entry) → (same_name name other ≡ true → highest_for name es + 1 ≡ k → ⊥)
    → version_in other k (saved name cs es) ≡ version_in other k es
unfolding version_numbered
versions_saved name other k cs es differ = go (same_name name other) refl
  where
    beside : (o : Option Entry) → (highest_by o + 1 ≡ k → ⊥) → version_numbered k (with_version cs (entry_or name o)).versions ≡ version_by k o
    beside none d = rw (ne_eqb (0 + 1) k d)
    beside (some e) d = numbered_beside k e.versions (record { number = e.highest + 1; settings = cs }) (ne_eqb (e.highest + 1) k d)

    go : (b : Bool) → same_name name other ≡ b → version_in other k (saved name cs es) ≡ version_in other k es
    go true h = rw (← same_equal name other h) (ap (version_by k) (saved_entry name cs es) ∙ beside (entry_named name es) (differ h))
    go false h = ap (version_by k) (saved_other name other cs es h)

-- a version that was dropped is gone, where versions rise
pub numbered_without : (before number : ℕ) (vs : List Version) → rising before vs ≡ true → version_numbered number (without number vs) ≡ none
unfolding version_numbered without rising
numbered_without before number [] h = refl
numbered_without before number (v ∷ vs) h =
    let here = both_true (ltb before v.number) (rising v.number vs) h in
    go here.1 (numbered_without v.number number vs here.1) (eqb v.number number) refl
  where
    go : rising v.number vs ≡ true → version_numbered number (without number vs) ≡ none
        → (b : Bool) → eqb v.number number ≡ b → version_numbered number (pick b vs (v ∷ without number vs)) ≡ none
    go more rest true e = none_below v.number number vs more (omega (arith, eqb-true v.number number e))
    go more rest false e = rw e rest

pub numbered_other : (k number : ℕ) (vs : List Version) → (number ≡ k → ⊥) → version_numbered k (without number vs) ≡ version_numbered k vs
unfolding version_numbered without
numbered_other k number [] differ = refl
numbered_other k number (v ∷ vs) differ = go (numbered_other k number vs differ) (eqb v.number number) refl
  where
    go : version_numbered k (without number vs) ≡ version_numbered k vs → (b : Bool) → eqb v.number number ≡ b
        → version_numbered k (pick b vs (v ∷ without number vs)) ≡ pick (eqb v.number k) (some v) (version_numbered k vs)
    go more true e = rw (ne_eqb v.number k (λ q. differ (sym (eqb-true v.number number e) ∙ q)))
    go more false e = ap (λ (o : Option Version). pick (eqb v.number k) (some v) o) more

pub version_dropped : (name : List ℕ) (number : ℕ) (es : List Entry) → entries_formed es ≡ true → version_in name number (dropped name number es) ≡ none
version_dropped name number es formed =
    ap (version_by number) (dropped_entry name number es) ∙ go (entry_named name es) (λ e. named_formed name es e formed)
  where
    go : (o : Option Entry) → ((e : Entry) → o ≡ some e → entry_formed e ≡ true) → version_by number (dropped_from number o) ≡ none
    go none h = refl
    go (some e) h = numbered_without 0 number e.versions (formed_rising e (h e refl))

pub versions_dropped : (name other : List ℕ) (number k : ℕ) (es : List Entry) → (same_name name other ≡ true → number ≡ k → ⊥)
    → version_in other k (dropped name number es) ≡ version_in other k es
versions_dropped name other number k es differ = go (same_name name other) refl
  where
    beside : (o : Option Entry) → (number ≡ k → ⊥) → version_by k (dropped_from number o) ≡ version_by k o
    beside none d = refl
    beside (some e) d = numbered_other k number e.versions d

    go : (b : Bool) → same_name name other ≡ b → version_in other k (dropped name number es) ≡ version_in other k es
    go true h = rw (← same_equal name other h) (ap (version_by k) (dropped_entry name number es) ∙ beside (entry_named name es) (differ h))
    go false h = ap (version_by k) (dropped_other name other number es h)
