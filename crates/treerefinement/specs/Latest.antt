-- Groups and synths by number, where numbers are distinct; and the latest synth, which stays one or becomes none.
use Rattle.std.specs.Prelude.{ℕ, ◌+◌, ◌≤◌, ◌<◌, Bool, true, false, ◌≡◌, refl, List, [], ◌∷◌, eqb}
use Rattle.std.proofs.Common.{sym, ◌∙◌, arith, lt-ltb, le-ltb, ltb-true, eq-eqb}
use Rattle.words.specs.Choice.{pick, either}
use Rattle.nodes.specs.declared.Node.{Node}
use Rattle.nodes.specs.Place.{is_group, lives}
use Rattle.nodes.specs.Formed.{apart, synth_lives, latest_formed}
use Rattle.treerefinement.specs.Tally.{one, tally, Within, Grown}
use Rattle.treerefinement.specs.Keep.{numbered, synth_numbered, lives_some, synth_lives_some, apart_few, grown_synth_lives}

abbrev pub group_numbered : ℕ → Node → Bool
group_numbered n r = pick (is_group r) (eqb r.number n) false

-- a node is a group or a synth
pub kinds : (n : ℕ) (t : List Node) → tally (numbered n) t ≡ tally (synth_numbered n) t + tally (group_numbered n) t
unfolding tally
kinds n [] = refl
kinds n (r ∷ l) = let ih = kinds n l in let k = go (is_group r) (eqb r.number n) in omega arith
  where
    go : (g b : Bool) → one b ≡ one (pick g false b) + one (pick g b false)
    go true true = refl
    go true false = refl
    go false true = refl
    go false false = refl

-- the first record of the number n is a group's
unfoldable pub group_named : ℕ → List Node → Bool
group_named n [] = false
group_named n (r ∷ l) = pick (eqb r.number n) (is_group r) (group_named n l)

named_tally : (n : ℕ) (t : List Node) → group_named n t ≡ true → 1 ≤ tally (group_numbered n) t
unfolding group_named tally
named_tally n [] h = absurd (let z : ◌≡◌ {A = ℕ} 0 1 = cc in omega arith)
named_tally n (r ∷ l) h = go (eqb r.number n) (is_group r) h (named_tally n l)
  where
    go : (b g : Bool) → pick b g (group_named n l) ≡ true → (group_named n l ≡ true → 1 ≤ tally (group_numbered n) l) → 1 ≤ one (pick g b false) + tally (group_numbered n) l
    go true true e ih = omega arith
    go true false e ih = absurd (let z : ◌≡◌ {A = ℕ} 0 1 = cc in omega arith)
    go false g e ih = omega (arith, ih e)

-- then no synth has its number
pub group_nosynth : (n : ℕ) (t : List Node) → apart t ≡ true → group_named n t ≡ true → synth_lives n t ≡ false
group_nosynth n t a h = synth_lives_some n t ∙ le-ltb 0 (tally (synth_numbered n) t) (omega (arith, apart_few t a n, kinds n t, named_tally n t h))

-- a synth that lives after an edit with no more of anything is a synth then
synth_within : {after before : List Node} → Within after before → (n : ℕ) → apart before ≡ true → synth_lives n before ≡ true → lives n after ≡ true → synth_lives n after ≡ true
synth_within {after} {before} w n a s h =
    let was : 0 < tally (synth_numbered n) before = ltb-true 0 (tally (synth_numbered n) before) (sym (synth_lives_some n before) ∙ s) in
    let is : 0 < tally (numbered n) after = ltb-true 0 (tally (numbered n) after) (sym (lives_some n after) ∙ h) in
    synth_lives_some n after
    ∙ lt-ltb 0 (tally (synth_numbered n) after) (omega (arith, apart_few before a n, kinds n before, kinds n after, w.sum (group_numbered n) (λ d r. refl)))

-- "A latest freed by these or by 4 becomes none."
pub latest_within : {after before : List Node} → Within after before → (latest : ℕ) → apart before ≡ true → latest_formed latest before ≡ true
    → latest_formed (pick (lives latest after) latest 0) after ≡ true
latest_within {after} {before} w latest a h = go (lives latest after) (eqb latest 0) refl refl h
  where
    go : (p z : Bool) → lives latest after ≡ p → eqb latest 0 ≡ z → either z (synth_lives latest before) ≡ true → latest_formed (pick p latest 0) after ≡ true
    go false z e f k = rw (eq-eqb 0 0 refl)
    go true true e f k = rw f
    go true false e f k = rw f (synth_within w latest a k e)

-- nothing is freed where a node comes in
pub latest_grown : {xs after before : List Node} → Grown xs after before → (latest : ℕ) → latest_formed latest before ≡ true → latest_formed latest after ≡ true
latest_grown {xs} {after} {before} g latest h = go (eqb latest 0) (synth_lives latest before) refl h
  where
    go : (z s : Bool) → synth_lives latest before ≡ s → either z s ≡ true → either z (synth_lives latest after) ≡ true
    go true s e k = refl
    go false true e k = grown_synth_lives latest g ∙ rw e
    go false false e k = cc
