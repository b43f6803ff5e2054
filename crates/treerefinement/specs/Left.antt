-- Nodes that an edit neither adds, moves nor frees keep their records, depths included, and their order among themselves.
use Rattle.std.specs.Prelude.{ℕ, ◌+◌, ◌<◌, Bool, ◌≡◌, ltb, eqb}
use Rattle.std.proofs.Math.Bool.{true, false}
use Rattle.std.proofs.Math.Path.{refl, sym, ap}
use Rattle.std.proofs.Common.{◌∙◌, arith}
use mathlib.Core.List.{List, [], ◌∷◌, ◌++◌}
use borrow.Author.Tests.{lt-ltb, ltb-true, eqb-true, eq-eqb, ne_eqb}
use Rattle.words.specs.Choice.{pick, either}
use Rattle.nodes.specs.declared.Node.{Node}
use Rattle.nodes.specs.Place.{is_group, lives}
use Rattle.nodes.specs.Edit.{with_run, lift, sink, take_deeper, drop_deeper, only_groups, run_of, is_below, edit_rows, cut, cut_below, deep_free, set_run, add_head, add_tail, add_before, add_after, add_over, move_before, move_after, move_head, move_tail}
use Rattle.nodes.specs.Split.{edit_none, lives-sink}
use Rattle.nodes.specs.Formed.{apart, synth_lives}
use Rattle.treerefinement.specs.Tally.{one, tally, tally-append}
use Rattle.treerefinement.specs.Keep.{numbered, synth_numbered, lives_some, synth_lives_some, apart_few}
use Rattle.treerefinement.specs.Latest.{kinds}
use Rattle.nodes.specs.Table.{numbers}

-- the records whose numbers fail a test: the test says which nodes are touched
unfoldable pub left : (ℕ → Bool) → List Node → List Node
left test [] = []
left test (r ∷ l) = pick (test r.number) (left test l) (r ∷ left test l)

-- the record of a node that lives, what stands before it and what behind it
pub record RecordFound (n : ℕ) (t : List Node) : Type 0 where
  pub front : List Node
  pub self : Node
  pub rest : List Node
  pub whole : t ≡ front ++ self ∷ rest
  pub number : self.number ≡ n
  pub edited : (H : Node → List Node → List Node) → edit_rows n H t ≡ front ++ H self rest
  pub run : run_of n t ≡ sink self.depth (self ∷ take_deeper self.depth rest)

pub found : (n : ℕ) (t : List Node) → lives n t ≡ true → RecordFound n t
unfolding lives edit_rows run_of
found n [] h = absurd (let z : ◌≡◌ {A = ℕ} 0 1 = cc in omega arith)
found n (r ∷ l) h = go (eqb r.number n) refl h (found n l)
  where
    go : (b : Bool) → eqb r.number n ≡ b → pick b true (lives n l) ≡ true → (lives n l ≡ true → RecordFound n l) → RecordFound n (r ∷ l)
    go true e k ih = record {
      front = [];
      self = r;
      rest = l;
      whole = refl;
      number = eqb-true r.number n e;
      edited = λ H. rw e;
      run = rw e;
    }
    go false e k ih =
        let w = ih k in
        record {
          front = r ∷ w.front;
          self = w.self;
          rest = w.rest;
          whole = ap (λ (m : List Node). r ∷ m) w.whole;
          number = w.number;
          edited = λ H. rw e (ap (λ (m : List Node). r ∷ m) (w.edited H));
          run = rw e w.run;
        }

lives-lift : (m k : ℕ) (l : List Node) → lives m (lift k l) ≡ lives m l
unfolding lives lift
lives-lift m k [] = refl
lives-lift m k (r ∷ l) = ap (λ (b : Bool). pick (eqb r.number m) true b) (lives-lift m k l)

parts : (d : ℕ) (l : List Node) → take_deeper d l ++ drop_deeper d l ≡ l
unfolding take_deeper drop_deeper
parts d [] = refl
parts d (r ∷ l) = go (ltb d r.depth) (parts d l)
  where
    go : (b : Bool) → take_deeper d l ++ drop_deeper d l ≡ l → pick b (r ∷ take_deeper d l) [] ++ pick b (drop_deeper d l) (r ∷ l) ≡ r ∷ l
    go true ih = ap (λ (m : List Node). r ∷ m) ih
    go false ih = refl

-- a table's records, by the parts that the node n makes of it
found_tally : {n : ℕ} {t : List Node} (p : Node → Bool) (w : RecordFound n t)
    → tally p t ≡ tally p w.front + (one (p w.self) + (tally p (take_deeper w.self.depth w.rest) + tally p (drop_deeper w.self.depth w.rest)))
unfolding tally
found_tally {n} {t} p w =
    ap (λ (l : List Node). tally p l) w.whole
    ∙ tally-append p w.front (w.self ∷ w.rest)
    ∙ ap (λ (k : ℕ). tally p w.front + (one (p w.self) + k))
    (ap (λ (l : List Node). tally p l) (sym (parts w.self.depth w.rest)) ∙ tally-append p (take_deeper w.self.depth w.rest) (drop_deeper w.self.depth w.rest))

below_found : {n : ℕ} {t : List Node} (m : ℕ) (w : RecordFound n t) → lives m (take_deeper w.self.depth w.rest) ≡ true → is_below m n t ≡ true
unfolding lives
below_found {n} {t} m w h =
    ap (λ (l : List Node). lives m l) w.run
    ∙ lives-sink m w.self.depth (w.self ∷ take_deeper w.self.depth w.rest)
    ∙ rw h (go (eqb w.self.number m))
  where
    go : (b : Bool) → pick b true true ≡ true
    go true = refl
    go false = refl

-- every node of xs is touched
abbrev pub Covers : (ℕ → Bool) → List Node → Type 0
Covers test xs = (m : ℕ) → lives m xs ≡ true → test m ≡ true

module _ (test : ℕ → Bool) where
  pub left_append : (a b : List Node) → left test (a ++ b) ≡ left test a ++ left test b
  unfolding left
  left_append [] b = refl
  left_append (r ∷ a) b = ap (λ (l : List Node). pick (test r.number) l (r ∷ l)) (left_append a b) ∙ go (test r.number)
    where
      go : (p : Bool) → pick p (left test a ++ left test b) (r ∷ (left test a ++ left test b)) ≡ pick p (left test a) (r ∷ left test a) ++ left test b
      go true = refl
      go false = refl

  pub covered : (xs : List Node) → Covers test xs → left test xs ≡ []
  unfolding left lives
  covered [] c = refl
  covered (r ∷ l) c =
      let here : test r.number ≡ true = c r.number (ap (λ (b : Bool). pick b true (lives r.number l)) (eq-eqb r.number r.number refl)) in
      rw here (covered l (λ m h. c m (rw h (go (eqb r.number m)))))
    where
      go : (b : Bool) → pick b true true ≡ true
      go true = refl
      go false = refl

  covered_lift : (k : ℕ) (xs : List Node) → Covers test xs → left test (lift k xs) ≡ []
  covered_lift k xs c = covered (lift k xs) (λ m h. c m (sym (lives-lift m k xs) ∙ h))

  -- an edit that leaves what follows as it is, but for what is touched
  left_edit : (n : ℕ) (H : Node → List Node → List Node) → ((r : Node) (l : List Node) → left test (H r l) ≡ left test (r ∷ l)) → (t : List Node) → left test (edit_rows n H t) ≡ left test t
  unfolding left edit_rows
  left_edit n H g [] = refl
  left_edit n H g (r ∷ l) = go (eqb r.number n) (left_edit n H g l)
    where
      go : (b : Bool) → left test (edit_rows n H l) ≡ left test l → left test (pick b (H r l) (r ∷ edit_rows n H l)) ≡ left test (r ∷ l)
      go true ih = g r l
      go false ih = ap (λ (m : List Node). pick (test r.number) m (r ∷ m)) ih

  -- the same where only the record that is found matters
  left_found : (n : ℕ) (H : Node → List Node → List Node) (t : List Node) → ((w : RecordFound n t) → left test (H w.self w.rest) ≡ left test (w.self ∷ w.rest)) → left test (edit_rows n H t) ≡ left test t
  left_found n H t g = go (lives n t) refl
    where
      go : (b : Bool) → lives n t ≡ b → left test (edit_rows n H t) ≡ left test t
      go false e = ap (λ (l : List Node). left test l) (edit_none n H t e)
      go true e =
          let w = found n t e in
          ap (λ (l : List Node). left test l) (w.edited H)
          ∙ left_append w.front (H w.self w.rest)
          ∙ ap (λ (l : List Node). left test w.front ++ l) (g w)
          ∙ sym (left_append w.front (w.self ∷ w.rest))
          ∙ ap (λ (l : List Node). left test l) (sym w.whole)

  -- nodes put in
  module _ (xs : List Node) (c : Covers test xs) (n : ℕ) (t : List Node) where
    amid : (ys zs : List Node) (k : ℕ) → left test (ys ++ (lift k xs ++ zs)) ≡ left test (ys ++ zs)
    amid ys zs k =
        left_append ys (lift k xs ++ zs)
        ∙ ap (λ (l : List Node). left test ys ++ l) (left_append (lift k xs) zs ∙ ap (λ (l : List Node). l ++ left test zs) (covered_lift k xs c))
        ∙ sym (left_append ys zs)

    pub left_add_head : left test (add_head xs n t) ≡ left test t
    left_add_head = left_edit n (λ r l. r ∷ (lift (r.depth + 1) xs ++ l)) (λ r l. amid (r ∷ []) l (r.depth + 1)) t

    pub left_add_before : left test (add_before xs n t) ≡ left test t
    left_add_before = left_edit n (λ r l. lift r.depth xs ++ r ∷ l) (λ r l. amid [] (r ∷ l) r.depth) t

    behind : (k : Node → ℕ) → left test (edit_rows n (λ r l. r ∷ (take_deeper r.depth l ++ (lift (k r) xs ++ drop_deeper r.depth l))) t) ≡ left test t
    behind k =
        left_edit n (λ r l. r ∷ (take_deeper r.depth l ++ (lift (k r) xs ++ drop_deeper r.depth l))) (λ r l.
        amid (r ∷ take_deeper r.depth l) (drop_deeper r.depth l) (k r) ∙ ap (λ (m : List Node). left test (r ∷ m)) (parts r.depth l)) t

    pub left_add_tail : left test (add_tail xs n t) ≡ left test t
    left_add_tail = behind (λ r. r.depth + 1)

    pub left_add_after : left test (add_after xs n t) ≡ left test t
    left_add_after = behind (λ r. r.depth)

  -- a run that goes
  module _ (n : ℕ) (t : List Node) (c : Covers test (run_of n t)) where
    gone : (w : RecordFound n t) → left test (drop_deeper w.self.depth w.rest) ≡ left test (w.self ∷ w.rest)
    gone w =
        let d = w.self.depth in
        let run = w.self ∷ take_deeper d w.rest in
        let all : Covers test run = λ m h. c m (ap (λ (l : List Node). lives m l) w.run ∙ lives-sink m d run ∙ h) in
        sym (ap (λ (l : List Node). left test (w.self ∷ l)) (sym (parts d w.rest))
        ∙ left_append run (drop_deeper d w.rest)
        ∙ ap (λ (l : List Node). l ++ left test (drop_deeper d w.rest)) (covered run all))

    pub left_cut : left test (cut n t) ≡ left test t
    left_cut = left_found n (λ r l. drop_deeper r.depth l) t gone

    pub left_add_over : (xs : List Node) → Covers test xs → left test (add_over xs n t) ≡ left test t
    left_add_over xs k =
        left_found n (λ r l. lift r.depth xs ++ drop_deeper r.depth l) t (λ w.
        left_append (lift w.self.depth xs) (drop_deeper w.self.depth w.rest)
        ∙ ap (λ (l : List Node). l ++ left test (drop_deeper w.self.depth w.rest)) (covered_lift w.self.depth xs k)
        ∙ gone w)

  -- a run that moves
  module _ (m n : ℕ) (t : List Node) (c : Covers test (run_of m t)) where
    pub left_move_head : left test (move_head m n t) ≡ left test t
    left_move_head = left_add_head (run_of m t) c n (cut m t) ∙ left_cut m t c

    pub left_move_tail : left test (move_tail m n t) ≡ left test t
    left_move_tail = left_add_tail (run_of m t) c n (cut m t) ∙ left_cut m t c

    pub left_move_before : left test (move_before m n t) ≡ left test t
    left_move_before = left_add_before (run_of m t) c n (cut m t) ∙ left_cut m t c

    pub left_move_after : left test (move_after m n t) ≡ left test t
    left_move_after = left_add_after (run_of m t) c n (cut m t) ∙ left_cut m t c

  -- a node whose run flag changes; its number stands where it stood
  pub left_set_run : (n flag : ℕ) (t : List Node) → test n ≡ true → left test (set_run n flag t) ≡ left test t
  unfolding left
  left_set_run n flag t h =
      left_found n (λ r l. with_run flag r ∷ l) t (λ w.
      let here : test w.self.number ≡ true = ap test w.number ∙ h in
      rw here)

  pub numbers_set_run : (n flag : ℕ) (t : List Node) → numbers (left test (set_run n flag t)) ≡ numbers (left test t)
  unfolding left numbers edit_rows
  numbers_set_run n flag [] = refl
  numbers_set_run n flag (r ∷ l) = go (eqb r.number n) (numbers_set_run n flag l)
    where
      push : (b : Bool) (x : Node) (m : List Node) → numbers (pick b m (x ∷ m)) ≡ pick b (numbers m) (x.number ∷ numbers m)
      push true x m = refl
      push false x m = refl

      go : (b : Bool) → numbers (left test (set_run n flag l)) ≡ numbers (left test l) → numbers (left test (pick b (with_run flag r ∷ l) (r ∷ set_run n flag l))) ≡ numbers (left test (r ∷ l))
      go true ih = push (test r.number) (with_run flag r) (left test l) ∙ sym (push (test r.number) r (left test l))
      go false ih =
          push (test r.number) r (left test (set_run n flag l))
          ∙ ap (λ (m : List ℕ). pick (test r.number) m (r.number ∷ m)) ih
          ∙ sym (push (test r.number) r (left test l))

  -- what follows the node, with part of what is below it gone
  shrink : (r : Node) (l ys : List Node) → left test ys ≡ left test (take_deeper r.depth l) → left test (r ∷ (ys ++ drop_deeper r.depth l)) ≡ left test (r ∷ l)
  unfolding left
  shrink r l ys e =
      ap (λ (m : List Node). pick (test r.number) m (r ∷ m))
      (left_append ys (drop_deeper r.depth l)
      ∙ ap (λ (m : List Node). m ++ left test (drop_deeper r.depth l)) e
      ∙ sym (left_append (take_deeper r.depth l) (drop_deeper r.depth l))
      ∙ ap (λ (m : List Node). left test m) (parts r.depth l))

  -- all below a node go
  pub left_cut_below : (n : ℕ) (t : List Node) → apart t ≡ true → ((m : ℕ) → is_below m n t ≡ true → eqb m n ≡ false → test m ≡ true) → left test (cut_below n t) ≡ left test t
  unfolding left tally
  left_cut_below n t a c = left_found n (λ r l. r ∷ drop_deeper r.depth l) t (λ w. shrink w.self w.rest [] (sym (covered (take_deeper w.self.depth w.rest) (all w))))
    where
      all : (w : RecordFound n t) → Covers test (take_deeper w.self.depth w.rest)
      all w m h =
          let ys = take_deeper w.self.depth w.rest in
          let some : 0 < tally (numbered m) ys = ltb-true 0 (tally (numbered m) ys) (sym (lives_some m ys) ∙ h) in
          let first : one (numbered n w.self) ≡ 1 = ap one (eq-eqb w.self.number n w.number) in
          let other : m ≡ n → ⊥ = λ e. let same : tally (numbered m) ys ≡ tally (numbered n) ys = ap (λ (k : ℕ). tally (numbered k) ys) e in omega (arith, apart_few t a n, found_tally (numbered n) w) in
          c m (below_found m w h) (ne_eqb m n other)

  -- the synths below a node go
  synths : (l : List Node) → ((m : ℕ) → synth_lives m l ≡ true → test m ≡ true) → left test (only_groups l) ≡ left test l
  unfolding left only_groups synth_lives
  synths [] c = refl
  synths (r ∷ l) c = go (is_group r) refl (synths l (λ m h. c m (rw h (right (pick (is_group r) false (eqb r.number m))))))
    where
      right : (b : Bool) → either b true ≡ true
      right true = refl
      right false = refl

      go : (g : Bool) → is_group r ≡ g → left test (only_groups l) ≡ left test l → left test (pick g (r ∷ only_groups l) (only_groups l)) ≡ left test (r ∷ l)
      go true e ih = ap (λ (m : List Node). pick (test r.number) m (r ∷ m)) ih
      go false e ih =
          let here : test r.number ≡ true = c r.number (rw (e, eq-eqb r.number r.number refl)) in
          rw here ih

  pub left_deep_free : (n : ℕ) (t : List Node) → ((m : ℕ) → is_below m n t ≡ true → synth_lives m t ≡ true → test m ≡ true) → left test (deep_free n t) ≡ left test t
  left_deep_free n t c =
      left_found n (λ r l. r ∷ (only_groups (take_deeper r.depth l) ++ drop_deeper r.depth l)) t (λ w.
      shrink w.self w.rest (only_groups (take_deeper w.self.depth w.rest)) (synths (take_deeper w.self.depth w.rest) (all w)))
    where
      all : (w : RecordFound n t) (m : ℕ) → synth_lives m (take_deeper w.self.depth w.rest) ≡ true → test m ≡ true
      all w m h =
          let ys = take_deeper w.self.depth w.rest in
          let some : 0 < tally (synth_numbered m) ys = ltb-true 0 (tally (synth_numbered m) ys) (sym (synth_lives_some m ys) ∙ h) in
          let there : lives m ys ≡ true = lives_some m ys ∙ lt-ltb 0 (tally (numbered m) ys) (omega (arith, kinds m ys)) in
          c m (below_found m w there) (synth_lives_some m t ∙ lt-ltb 0 (tally (synth_numbered m) t) (omega (arith, found_tally (synth_numbered m) w)))
