-- The rules on numbers, rows and fields, as sums: each edit keeps them.
use Rattle.std.specs.Prelude.{ℕ, zero, suc, ◌+◌, ◌≤◌, ◌<◌, Bool, ◌≡◌, ltb, leb, length}
use Rattle.std.proofs.Math.Bool.{true, false}
use Rattle.std.proofs.Math.Path.{refl, ap, ap₂}
use Rattle.std.proofs.Common.{sym, ◌∙◌, arith, lt-ltb, le-ltb, le-leb, ltb-true, ltb-false, eq-eqb, eqb-true}
use mathlib.Core.List.{List, [], ◌∷◌}
use Rattle.std.proofs.Math.Dec.{eqb}
use Rattle.words.specs.Choice.{pick, both, either}
use Rattle.words.specs.ChoiceLaws.{both_true}
use Rattle.nodes.specs.declared.Node.{Node}
use Rattle.nodes.specs.Place.{group_slot, is_group, lives}
use Rattle.nodes.specs.Edit.{with_run, set_run}
use Rattle.nodes.specs.Formed.{apart, first_given, last_given, number_formed, row_formed, fields_formed, all_formed, row_taken, rows_apart, synth_lives, in_row}
use Rattle.treerefinement.specs.Tally.{IgnoresDepth, one, tally, tally-length, tally-set_run, tally-set_run_same, Within, Same, Grown}

-- the tests: a record has the number n; it is a synth with the number n; its fields break a rule
abbrev pub numbered : ℕ → Node → Bool
numbered n r = eqb r.number n

abbrev pub synth_numbered : ℕ → Node → Bool
synth_numbered n r = pick (is_group r) false (eqb r.number n)

abbrev pub ill_formed : ℕ → Node → Bool
ill_formed next r = pick (fields_formed next r) false true

-- a record passes the test
abbrev pub some : (Node → Bool) → List Node → Bool
some p t = ltb 0 (tally p t)

some_turn : (b : Bool) (k : ℕ) → either b (ltb 0 k) ≡ ltb 0 (one b + k)
some_turn true k = sym (lt-ltb 0 (1 + k) (omega arith))
some_turn false k = let same : k ≡ 0 + k = omega arith in ap (λ (j : ℕ). ltb 0 j) same

pub lives_some : (n : ℕ) (t : List Node) → lives n t ≡ some (numbered n) t
unfolding lives tally
lives_some n [] = refl
lives_some n (r ∷ l) = ap (λ (b : Bool). either (numbered n r) b) (lives_some n l) ∙ some_turn (numbered n r) (tally (numbered n) l)

pub row_taken_some : (k : ℕ) (t : List Node) → row_taken k t ≡ some (in_row k) t
unfolding row_taken tally
row_taken_some k [] = refl
row_taken_some k (r ∷ l) = ap (λ (b : Bool). either (in_row k r) b) (row_taken_some k l) ∙ some_turn (in_row k r) (tally (in_row k) l)

pub synth_lives_some : (n : ℕ) (t : List Node) → synth_lives n t ≡ some (synth_numbered n) t
unfolding synth_lives tally
synth_lives_some n [] = refl
synth_lives_some n (r ∷ l) = ap (λ (b : Bool). either (synth_numbered n r) b) (synth_lives_some n l) ∙ some_turn (synth_numbered n r) (tally (synth_numbered n) l)

none_of : (k : ℕ) → ltb 0 k ≡ false → k ≡ 0
none_of k h = let low = ltb-false 0 k h in omega arith

-- what lives and which rows are taken, after an edit
module _ {after before : List Node} where
  module _ (p : Node → Bool) (b : IgnoresDepth p) where
    within_some : Within after before → some p before ≡ false → some p after ≡ false
    within_some w h = let k = none_of (tally p before) h in le-ltb 0 (tally p after) (omega (arith, w.sum p b))

    same_some : Same after before → some p after ≡ some p before
    same_some s = ap (λ (k : ℕ). ltb 0 k) (s.sum p b)

    grown_some : {xs : List Node} → Grown xs after before → some p after ≡ either (some p before) (some p xs)
    grown_some {xs} g = ap (λ (k : ℕ). ltb 0 k) (g.sum p b) ∙ go (tally p before)
      where
        go : (k : ℕ) → ltb 0 (k + tally p xs) ≡ either (ltb 0 k) (some p xs)
        go zero = let same : 0 + tally p xs ≡ tally p xs = omega arith in ap (λ (k : ℕ). ltb 0 k) same
        go (suc k) = lt-ltb 0 (suc k + tally p xs) (omega arith) ∙ sym (ap (λ (q : Bool). either q (some p xs)) (lt-ltb 0 (suc k) (omega arith)))

  -- three tests by one law
  module _ (test : List Node → Bool) (p : Node → Bool) (b : IgnoresDepth p) (means : (t : List Node) → test t ≡ some p t) where
    within_test : Within after before → test before ≡ false → test after ≡ false
    within_test w h = means after ∙ within_some p b w (sym (means before) ∙ h)

    same_test : Same after before → test after ≡ test before
    same_test s = means after ∙ same_some p b s ∙ sym (means before)

    grown_test : {xs : List Node} → Grown xs after before → test after ≡ either (test before) (test xs)
    grown_test {xs} g = means after ∙ grown_some p b g ∙ sym (ap₂ (λ (u v : Bool). either u v) (means before) (means xs))

  module _ (n : ℕ) where
    pub within_lives : Within after before → lives n before ≡ false → lives n after ≡ false
    within_lives w h = within_test (lives n) (numbered n) (λ d r. refl) (lives_some n) w h

    pub same_lives : Same after before → lives n after ≡ lives n before
    same_lives s = same_test (lives n) (numbered n) (λ d r. refl) (lives_some n) s

    pub grown_lives : {xs : List Node} → Grown xs after before → lives n after ≡ either (lives n before) (lives n xs)
    grown_lives g = grown_test (lives n) (numbered n) (λ d r. refl) (lives_some n) g

    pub within_row_taken : Within after before → row_taken n before ≡ false → row_taken n after ≡ false
    within_row_taken w h = within_test (row_taken n) (in_row n) (λ d r. refl) (row_taken_some n) w h

    pub same_row_taken : Same after before → row_taken n after ≡ row_taken n before
    same_row_taken s = same_test (row_taken n) (in_row n) (λ d r. refl) (row_taken_some n) s

    pub grown_row_taken : {xs : List Node} → Grown xs after before → row_taken n after ≡ either (row_taken n before) (row_taken n xs)
    grown_row_taken g = grown_test (row_taken n) (in_row n) (λ d r. refl) (row_taken_some n) g

    pub within_synth_lives : Within after before → synth_lives n before ≡ false → synth_lives n after ≡ false
    within_synth_lives w h = within_test (synth_lives n) (synth_numbered n) (λ d r. refl) (synth_lives_some n) w h

    pub same_synth_lives : Same after before → synth_lives n after ≡ synth_lives n before
    same_synth_lives s = same_test (synth_lives n) (synth_numbered n) (λ d r. refl) (synth_lives_some n) s

    pub grown_synth_lives : {xs : List Node} → Grown xs after before → synth_lives n after ≡ either (synth_lives n before) (synth_lives n xs)
    grown_synth_lives g = grown_test (synth_lives n) (synth_numbered n) (λ d r. refl) (synth_lives_some n) g

  -- how many records
  pub within_length : Within after before → length after ≤ length before
  within_length w = omega (arith, w.sum (λ r. true) (λ d r. refl), tally-length after, tally-length before)

  pub same_length : Same after before → length after ≡ length before
  same_length s = omega (arith, s.sum (λ r. true) (λ d r. refl), tally-length after, tally-length before)

  pub grown_length : {xs : List Node} → Grown xs after before → length after ≡ length before + length xs
  grown_length {xs} g = omega (arith, g.sum (λ r. true) (λ d r. refl), tally-length after, tally-length before, tally-length xs)

-- no number twice: each at most once
pub apart_few : (t : List Node) → apart t ≡ true → (m : ℕ) → tally (numbered m) t ≤ 1
unfolding apart tally
apart_few [] h m = omega arith
apart_few (r ∷ l) h m = go (lives r.number l) refl h (λ k. apart_few l k m) (eqb r.number m) refl
  where
    go : (p : Bool) → lives r.number l ≡ p → pick p false (apart l) ≡ true → (apart l ≡ true → tally (numbered m) l ≤ 1) → (q : Bool) → eqb r.number m ≡ q → one q + tally (numbered m) l ≤ 1
    go true e k ih q f = absurd (let z : ◌≡◌ {A = ℕ} 0 1 = cc in omega arith)
    go false e k ih true f =
        let none : tally (numbered m) l ≡ 0 = none_of (tally (numbered m) l) (sym (lives_some m l) ∙ ap (λ (j : ℕ). lives j l) (sym (eqb-true r.number m f)) ∙ e) in
        omega arith
    go false e k ih false f = omega (arith, ih k)

pub few_apart : (t : List Node) → ((m : ℕ) → tally (numbered m) t ≤ 1) → apart t ≡ true
unfolding apart tally
few_apart [] h = refl
few_apart (r ∷ l) h = go (lives r.number l) refl (few_apart l (λ m. omega (arith, h m)))
  where
    go : (p : Bool) → lives r.number l ≡ p → apart l ≡ true → pick p false (apart l) ≡ true
    go true e k =
        let more : 0 < tally (numbered r.number) l = ltb-true 0 (tally (numbered r.number) l) (sym (lives_some r.number l) ∙ e) in
        let first : one (numbered r.number r) ≡ 1 = ap one (eq-eqb r.number r.number refl) in
        absurd (omega (arith, h r.number))
    go false e k = k

-- no two synths with one row: each row at most once
pub rows_few : (t : List Node) → rows_apart t ≡ true → (k : ℕ) → tally (in_row k) t ≤ 1
unfolding rows_apart tally
rows_few [] h k = omega arith
rows_few (r ∷ l) h k =
    let w = both_true (pick (is_group r) true (pick (row_taken r.row l) false true)) (rows_apart l) h in
    go (is_group r) (row_taken r.row l) refl w.0 (rows_few l w.1 k) (eqb r.row k) refl
  where
    go : (g p : Bool) → row_taken r.row l ≡ p → pick g true (pick p false true) ≡ true → tally (in_row k) l ≤ 1 → (q : Bool) → eqb r.row k ≡ q → one (pick g false q) + tally (in_row k) l ≤ 1
    go true p e u ih q f = omega arith
    go false true e u ih q f = absurd (let z : ◌≡◌ {A = ℕ} 0 1 = cc in omega arith)
    go false false e u ih true f =
        let none : tally (in_row k) l ≡ 0 = none_of (tally (in_row k) l) (sym (row_taken_some k l) ∙ ap (λ (j : ℕ). row_taken j l) (sym (eqb-true r.row k f)) ∙ e) in
        omega arith
    go false false e u ih false f = omega arith

pub few_rows : (t : List Node) → ((k : ℕ) → tally (in_row k) t ≤ 1) → rows_apart t ≡ true
unfolding rows_apart tally
few_rows [] h = refl
few_rows (r ∷ l) h = go (is_group r) (row_taken r.row l) refl refl (few_rows l (λ k. omega (arith, h k)))
  where
    go : (g p : Bool) → is_group r ≡ g → row_taken r.row l ≡ p → rows_apart l ≡ true → both (pick g true (pick p false true)) (rows_apart l) ≡ true
    go true p e f k = k
    go false true e f k =
        let more : 0 < tally (in_row r.row) l = ltb-true 0 (tally (in_row r.row) l) (sym (row_taken_some r.row l) ∙ f) in
        let first : one (in_row r.row r) ≡ 1 = ap₂ (λ (g q : Bool). one (pick g false q)) e (eq-eqb r.row r.row refl) in
        absurd (omega (arith, h r.row))
    go false false e f k = k

-- no record breaks a rule on its fields
pub formed_none : (next : ℕ) (t : List Node) → all_formed next t ≡ true → tally (ill_formed next) t ≡ 0
unfolding all_formed tally
formed_none next [] h = refl
formed_none next (r ∷ l) h =
    let w = both_true (fields_formed next r) (all_formed next l) h in
    let first : one (ill_formed next r) ≡ 0 = ap (λ (b : Bool). one (pick b false true)) w.0 in
    omega (arith, formed_none next l w.1)

pub none_formed : (next : ℕ) (t : List Node) → tally (ill_formed next) t ≡ 0 → all_formed next t ≡ true
unfolding all_formed tally
none_formed next [] h = refl
none_formed next (r ∷ l) h = go (fields_formed next r) refl (none_formed next l (omega arith))
  where
    go : (b : Bool) → fields_formed next r ≡ b → all_formed next l ≡ true → both b (all_formed next l) ≡ true
    go true e k = k
    go false e k = let first : one (ill_formed next r) ≡ 1 = ap (λ (b : Bool). one (pick b false true)) e in absurd (omega arith)

-- the rules are kept where there is no more of anything
module _ {after before : List Node} (w : Within after before) where
  pub within_apart : apart before ≡ true → apart after ≡ true
  within_apart h = few_apart after (λ m. omega (arith, w.sum (numbered m) (λ d r. refl), apart_few before h m))

  pub within_rows : rows_apart before ≡ true → rows_apart after ≡ true
  within_rows h = few_rows after (λ k. omega (arith, w.sum (in_row k) (λ d r. refl), rows_few before h k))

  pub within_formed : (next : ℕ) → all_formed next before ≡ true → all_formed next after ≡ true
  within_formed next h = none_formed next after (omega (arith, w.sum (ill_formed next) (λ d r. refl), formed_none next before h))

-- and where one new node comes in: its number does not live, and if it is a synth, its row is free
module _ {after before : List Node} (x : Node) (g : Grown (x ∷ []) after before) where
  pub grown_apart : lives x.number before ≡ false → apart before ≡ true → apart after ≡ true
  unfolding tally
  grown_apart new h = few_apart after (λ m. go m (eqb x.number m) refl)
    where
      go : (m : ℕ) (b : Bool) → eqb x.number m ≡ b → tally (numbered m) after ≤ 1
      go m true e =
          let none : tally (numbered m) before ≡ 0 = none_of (tally (numbered m) before) (sym (lives_some m before) ∙ ap (λ (j : ℕ). lives j before) (sym (eqb-true x.number m e)) ∙ new) in
          let first : one (numbered m x) ≡ 1 = ap one e in
          omega (arith, g.sum (numbered m) (λ d r. refl))
      go m false e =
          let first : one (numbered m x) ≡ 0 = ap one e in
          omega (arith, g.sum (numbered m) (λ d r. refl), apart_few before h m)

  pub grown_rows : (is_group x ≡ false → row_taken x.row before ≡ false) → rows_apart before ≡ true → rows_apart after ≡ true
  unfolding tally
  grown_rows free h = few_rows after (λ k. go k (is_group x) (eqb x.row k) refl refl)
    where
      go : (k : ℕ) (b q : Bool) → is_group x ≡ b → eqb x.row k ≡ q → tally (in_row k) after ≤ 1
      go k true q e f =
          let first : one (in_row k x) ≡ 0 = ap (λ (b : Bool). one (pick b false (eqb x.row k))) e in
          omega (arith, g.sum (in_row k) (λ d r. refl), rows_few before h k)
      go k false true e f =
          let none : tally (in_row k) before ≡ 0 = none_of (tally (in_row k) before) (sym (row_taken_some k before) ∙ ap (λ (j : ℕ). row_taken j before) (sym (eqb-true x.row k f)) ∙ free e) in
          let first : one (in_row k x) ≡ 1 = ap₂ (λ (b q : Bool). one (pick b false q)) e f in
          omega (arith, g.sum (in_row k) (λ d r. refl))
      go k false false e f =
          let first : one (in_row k x) ≡ 0 = ap₂ (λ (b q : Bool). one (pick b false q)) e f in
          omega (arith, g.sum (in_row k) (λ d r. refl), rows_few before h k)

  pub grown_formed : (next : ℕ) → fields_formed next x ≡ true → all_formed next before ≡ true → all_formed next after ≡ true
  unfolding tally
  grown_formed next e h =
      let first : one (ill_formed next x) ≡ 0 = ap (λ (b : Bool). one (pick b false true)) e in
      none_formed next after (omega (arith, g.sum (ill_formed next) (λ d r. refl), formed_none next before h))

-- a lower next number: what was given stays given
module _ (next lower : ℕ) (fall : lower ≤ next) where
  fields_next : (r : Node) → fields_formed next r ≡ true → fields_formed lower r ≡ true
  fields_next r h = go (ltb next r.number) refl (ltb r.number last_given) (leb r.number first_given) (is_group r) h
    where
      go : (p : Bool) → ltb next r.number ≡ p → (u v g : Bool)
          → both (either u (both v (both p (pick g false true)))) (both (leb r.run 1) (both (leb r.slot group_slot) (row_formed r))) ≡ true
          → both (either u (both v (both (ltb lower r.number) (pick g false true)))) (both (leb r.run 1) (both (leb r.slot group_slot) (row_formed r))) ≡ true
      go true e u v g k =
          let less : next < r.number = ltb-true next r.number e in
          rw (lt-ltb lower r.number (omega arith)) k
      go false e true v g k = k
      go false e false true g k = cc
      go false e false false g k = cc

  pub formed_next : (t : List Node) → all_formed next t ≡ true → all_formed lower t ≡ true
  unfolding all_formed
  formed_next [] h = refl
  formed_next (r ∷ l) h =
      let w = both_true (fields_formed next r) (all_formed next l) h in
      ap₂ (λ (a b : Bool). both a b) (fields_next r w.0) (formed_next l w.1)

-- a run flag
module _ (n flag : ℕ) (t : List Node) where
  pub set_run-apart : apart t ≡ true → apart (set_run n flag t) ≡ true
  set_run-apart h = few_apart (set_run n flag t) (λ m. omega (arith, tally-set_run (numbered m) n flag t (λ r e. e), apart_few t h m))

  pub set_run-rows : rows_apart t ≡ true → rows_apart (set_run n flag t) ≡ true
  set_run-rows h = few_rows (set_run n flag t) (λ k. omega (arith, tally-set_run (in_row k) n flag t (λ r e. e), rows_few t h k))

  pub set_run_formed : (next : ℕ) → flag ≤ 1 → all_formed next t ≡ true → all_formed next (set_run n flag t) ≡ true
  set_run_formed next low h = none_formed next (set_run n flag t) (omega (arith, tally-set_run (ill_formed next) n flag t still, formed_none next t h))
    where
      go : (a b c : Bool) → pick (both a (both b c)) false true ≡ false → pick (both a c) false true ≡ false
      go true true c e = e
      go true false c e = cc
      go false b c e = e

      still : (r : Node) → ill_formed next r ≡ false → ill_formed next (with_run flag r) ≡ false
      still r e = rw (le-leb flag 1 low) (go (number_formed next r) (leb r.run 1) (both (leb r.slot group_slot) (row_formed r)) e)

  -- nothing comes or goes by it
  turned_test : (test : List Node → Bool) (p : Node → Bool) → ((r : Node) → p (with_run flag r) ≡ p r) → ((l : List Node) → test l ≡ some p l) → test (set_run n flag t) ≡ test t
  turned_test test p g means = means (set_run n flag t) ∙ ap (λ (k : ℕ). ltb 0 k) (tally-set_run_same p n flag t g) ∙ sym (means t)

  pub set_run-lives : (m : ℕ) → lives m (set_run n flag t) ≡ lives m t
  set_run-lives m = turned_test (lives m) (numbered m) (λ r. refl) (lives_some m)

  pub set_run-row_taken : (k : ℕ) → row_taken k (set_run n flag t) ≡ row_taken k t
  set_run-row_taken k = turned_test (row_taken k) (in_row k) (λ r. refl) (row_taken_some k)

  pub set_run-synth_lives : (m : ℕ) → synth_lives m (set_run n flag t) ≡ synth_lives m t
  set_run-synth_lives m = turned_test (synth_lives m) (synth_numbered m) (λ r. refl) (synth_lives_some m)

  pub set_run-length : length (set_run n flag t) ≡ length t
  set_run-length = sym (tally-length (set_run n flag t)) ∙ tally-set_run_same (λ r. true) n flag t (λ r. refl) ∙ tally-length t
