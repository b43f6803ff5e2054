-- A set of nodes taken out of the table: of those from one place up to another the synths.
use Prim.Native.Nat.{ℕ, zero, suc, ◌+◌, ◌*◌, ◌≤◌, ◌<◌}
use Rattle.std.specs.Prelude.{Bool, ◌≡◌, take, set, replicate, ltb, leb, eqb}
use Rattle.std.proofs.Math.Bool.{true, false}
use Rattle.std.proofs.Math.Path.{refl, sym, ap}
use Rattle.std.proofs.Common.{◌∙◌, length-set, length-append, get_or-set_same, get_or-set_other, drop-cons}
use mathlib.Core.List.{List, [], ◌∷◌, ◌++◌, append_assoc, append-nil}
use native.Mathlib.Omega.{arith}
use borrow.Author.Tests.{ltb-true, ltb-false, eqb-true, eqb-false, lt-ltb, le-ltb, le-leb, lt-leb}
use Rattle.std.proofs.Math.ListN.{length, drop, get_or, get_or-eq_default, get_or-append}
use Rattle.std.proofs.lemmas.List.{length-replicate, get_or-replicate}
use Rattle.std.proofs.Math.Seq.{get_or_at}
use Rattle.words.specs.Choice.{pick}
use Rattle.nodes.specs.declared.Node.{Node}
use Rattle.nodes.specs.Table.{width, node_from, rows, numbers}
use Rattle.nodes.specs.TableLaws.{rows-length, rows_end, row-from}
use Rattle.nodes.specs.Place.{is_group}
use Rattle.nodes.specs.Edit.{only_groups}
use Rattle.index.specs.Index.{number_at}
use Rattle.index.specs.Words.{number_word}
use Rattle.reindex.specs.Numbers.{numbers_length, numbers_append}
use Rattle.reindex.specs.Follow.{gone, Carries, PlaceOfNode}

-- whether the node r at the place i stays
abbrev pub stays : ℕ → ℕ → ℕ → Node → Bool
stays from to i r = pick (ltb i from) true (pick (leb to i) true (is_group r))

-- what is left of the nodes from the place i on
unfoldable pub sift : ℕ → ℕ → ℕ → List Node → List Node
sift from to i [] = []
sift from to i (r ∷ l) = pick (stays from to i r) (r ∷ sift from to (suc i) l) (sift from to (suc i) l)

-- the new place of a node, as words tell it
abbrev pub place_in : List ℕ → ℕ → ℕ
place_in ps p = get_or ps p gone

pub place_word : (ps : List ℕ) (p : ℕ) → p < length ps → get_or ps p 0 ≡ place_in ps p
place_word ps p h =
    let a = drop-cons ps p 0 h in
    let b = drop-cons ps p gone h in
    cc

pub place-past : (ps : List ℕ) (p : ℕ) → length ps ≤ p → gone ≡ place_in ps p
place-past ps p h = sym (get_or-eq_default ps gone {n = p} h)

-- what is left, by parts
module _ (from to : ℕ) where
  sift_past : (i : ℕ) (t : List Node) → to ≤ i → sift from to i t ≡ t
  unfolding sift
  sift_past i [] h = refl
  sift_past i (r ∷ l) h = go (ltb i from) (sift_past (suc i) l (omega arith))
    where
      go : (b : Bool) → sift from to (suc i) l ≡ l → pick (pick b true (pick (leb to i) true (is_group r))) (r ∷ sift from to (suc i) l) (sift from to (suc i) l) ≡ r ∷ l
      go true ih = ap (λ (m : List Node). r ∷ m) ih
      go false ih = rw (le-leb to i h) (ap (λ (m : List Node). r ∷ m) ih)

  sift_run : (k i : ℕ) (t : List Node) → from ≤ i → i + k ≡ to → sift from to i t ≡ only_groups (take k t) ++ drop k t
  unfolding sift only_groups
  sift_run zero i t h e = sift_past i t (omega arith)
  sift_run (suc k) i [] h e = refl
  sift_run (suc k) i (r ∷ l) h e = go (is_group r) (sift_run k (suc i) l (omega arith) (omega arith))
    where
      go : (b : Bool) → sift from to (suc i) l ≡ only_groups (take k l) ++ drop k l
          → pick (pick (ltb i from) true (pick (leb to i) true b)) (r ∷ sift from to (suc i) l) (sift from to (suc i) l) ≡ pick b (r ∷ only_groups (take k l)) (only_groups (take k l)) ++ drop k l
      go true ih = rw (le-ltb i from h, lt-leb to i (omega arith)) (ap (λ (m : List Node). r ∷ m) ih)
      go false ih = rw (le-ltb i from h, lt-leb to i (omega arith)) ih

  sift_front : (k i : ℕ) (t : List Node) → i + k ≡ from → sift from to i t ≡ take k t ++ sift from to from (drop k t)
  unfolding sift
  sift_front zero i t e = ap (λ (j : ℕ). sift from to j t) (omega arith)
  sift_front (suc k) i [] e = refl
  sift_front (suc k) i (r ∷ l) e =
      rw (lt-ltb i from (omega arith)) (ap (λ (m : List Node). r ∷ m) (sift_front k (suc i) l (omega arith)))

  pub sift_parts : (k : ℕ) (t : List Node) → from + k ≡ to → sift from to 0 t ≡ take from t ++ (only_groups (take k (drop from t)) ++ drop k (drop from t))
  sift_parts k t e = sift_front from 0 t (omega arith) ∙ ap (λ (m : List Node). take from t ++ m) (sift_run k from (drop from t) (omega arith) e)

-- the new place q is that of a node of the first i places
pub record From (ps : List ℕ) (i q : ℕ) : Type 0 where
  pub from : ℕ
  pub live : from < i
  pub here : place_in ps from ≡ q

-- the nodes of the first i places sifted: `done` is left of them
pub record Sifted (from to : ℕ) (t : List Node) (i next : ℕ) (ps : List ℕ) : Type 0 where
  pub done : List Node
  pub joined : done ++ sift from to i (drop i t) ≡ sift from to 0 t
  pub many : length done ≡ next
  pub long : length ps ≡ 256
  pub live : (p : ℕ) → p < i → place_in ps p < gone → place_in ps p < next
  pub same : (p : ℕ) → p < i → place_in ps p < gone → number_at (numbers done) (place_in ps p) ≡ number_at (numbers t) p
  pub came : (q : ℕ) → q < next → From ps i q
  pub rest : (p : ℕ) → i ≤ p → place_in ps p ≡ gone

-- the places of all are told
pub record PlacesTold (from to : ℕ) (t : List Node) (ps : List ℕ) : Type 0 where
  pub carries : Carries (place_in ps) t (sift from to 0 t)
  pub came : (q : ℕ) → q < length (sift from to 0 t) → PlaceOfNode (place_in ps) t q

module _ (from to : ℕ) where
  all_gone : (n p : ℕ) → place_in (replicate n gone) p ≡ gone
  all_gone n p = go (ltb p n) refl
    where
      go : (b : Bool) → ltb p n ≡ b → place_in (replicate n gone) p ≡ gone
      go true e = get_or-replicate n p gone gone (ltb-true p n e)
      go false e = get_or-eq_default (replicate n gone) gone {n = p} (rw (length-replicate n gone) (ltb-false p n e))

  pub sifted_none : (t : List Node) (n : ℕ) → n ≡ 256 → Sifted from to t 0 0 (replicate n gone)
  sifted_none t n e = record {
    done = [];
    joined = refl;
    many = refl;
    long = length-replicate n gone ∙ e;
    live = λ p h k. absurd (omega arith);
    same = λ p h k. absurd (omega arith);
    came = λ q h. absurd (omega arith);
    rest = λ p h. all_gone n p;
  }

  module _ (count : ℕ) (us : List ℕ) (few : count ≤ 256) where
    abbrev t : List Node
    t = rows count us

    -- one node more
    module _ (i next : ℕ) (ps : List ℕ) (h : i < count) (low : next ≤ i) (s : Sifted from to t i next ps) where
      abbrev r : Node
      r = node_from us (width * i)

      opened : sift from to i (drop i t) ≡ pick (stays from to i r) (r ∷ sift from to (i + 1) (drop (i + 1) t)) (sift from to (i + 1) (drop (i + 1) t))
      unfolding sift
      opened =
          let on : suc i ≡ i + 1 = omega arith in
          ap (λ (l : List Node). sift from to i l) (row-from count us i h)
          ∙ ap (λ (j : ℕ). pick (stays from to i r) (r ∷ sift from to j (drop (i + 1) t)) (sift from to j (drop (i + 1) t))) on

      -- that is gone
      pub sifted_gone : stays from to i r ≡ false → Sifted from to t (i + 1) next ps
      sifted_gone e = record {
        done = s.done;
        joined = ap (λ (l : List Node). s.done ++ l) (sym (rw e at opened)) ∙ s.joined;
        many = s.many;
        long = s.long;
        live = λ p l k. live p l k (eqb p i) refl;
        same = λ p l k. same p l k (eqb p i) refl;
        came = λ q l. let f = s.came q l in record { from = f.from; live = omega (arith, f.live); here = f.here };
        rest = λ p l. s.rest p (omega arith);
      }
        where
          none : (p : ℕ) → p ≡ i → place_in ps p < gone → ⊥
          none p x k = omega (arith, s.rest p (omega arith))

          live : (p : ℕ) → p < i + 1 → place_in ps p < gone → (b : Bool) → eqb p i ≡ b → place_in ps p < next
          live p l k true x = absurd (none p (eqb-true p i x) k)
          live p l k false x = let o = eqb-false p i x in s.live p (omega arith) k

          same : (p : ℕ) → p < i + 1 → place_in ps p < gone → (b : Bool) → eqb p i ≡ b → number_at (numbers s.done) (place_in ps p) ≡ number_at (numbers t) p
          same p l k true x = absurd (none p (eqb-true p i x) k)
          same p l k false x = let o = eqb-false p i x in s.same p (omega arith) k

      -- that stays
      abbrev longer : List Node
      longer = s.done ++ r ∷ []

      here : place_in (set ps i next) i ≡ next
      here = get_or-set_same ps i next gone (omega (arith, s.long))

      other : (p : ℕ) → (p ≡ i → ⊥) → place_in (set ps i next) p ≡ place_in ps p
      other p o = get_or-set_other ps i p next gone o

      was : (q : ℕ) → q < next → number_at (numbers longer) q ≡ number_at (numbers s.done) q
      was q l =
          ap (λ (ks : List ℕ). get_or ks q 0) (numbers_append s.done (r ∷ []))
          ∙ get_or-append (numbers s.done) (numbers (r ∷ [])) 0 q (omega (arith, numbers_length s.done, s.many))

      new : number_at (numbers longer) next ≡ number_at (numbers t) i
      unfolding numbers
      new =
          ap (λ (ks : List ℕ). get_or ks next 0) (numbers_append s.done (r ∷ []))
          ∙ get_or_at (numbers s.done) r.number [] 0 next (numbers_length s.done ∙ s.many)
          ∙ sym (number_word count us i h)

      pub sifted_kept : stays from to i r ≡ true → Sifted from to t (i + 1) (next + 1) (set ps i next)
      sifted_kept e = record {
        done = longer;
        joined = append_assoc s.done (r ∷ []) (sift from to (i + 1) (drop (i + 1) t)) ∙ ap (λ (l : List Node). s.done ++ l) (sym (rw e at opened)) ∙ s.joined;
        many = length-append s.done (r ∷ []) ∙ ap (λ (k : ℕ). k + 1) s.many;
        long = length-set ps i next ∙ s.long;
        live = λ p l k. live p l k (eqb p i) refl;
        same = λ p l k. same p l k (eqb p i) refl;
        came = λ q l. came q l (eqb q next) refl;
        rest = λ p l. other p (omega arith) ∙ s.rest p (omega arith);
      }
        where
          live : (p : ℕ) → p < i + 1 → place_in (set ps i next) p < gone → (b : Bool) → eqb p i ≡ b → place_in (set ps i next) p < next + 1
          live p l k true x = rw (eqb-true p i x, here) (omega arith)
          live p l k false x =
              let o = eqb-false p i x in
              let kept = other p o in
              omega (arith, kept, s.live p (omega arith) (rw kept at k))

          same : (p : ℕ) → p < i + 1 → place_in (set ps i next) p < gone → (b : Bool) → eqb p i ≡ b → number_at (numbers longer) (place_in (set ps i next) p) ≡ number_at (numbers t) p
          same p l k true x = rw (eqb-true p i x, here) new
          same p l k false x =
              let o = eqb-false p i x in
              let kept = other p o in
              rw kept (was (place_in ps p) (s.live p (omega arith) (rw kept at k)) ∙ s.same p (omega arith) (rw kept at k))

          came : (q : ℕ) → q < next + 1 → (b : Bool) → eqb q next ≡ b → From (set ps i next) (i + 1) q
          came q l true x = record { from = i; live = omega arith; here = here ∙ sym (eqb-true q next x) }
          came q l false x =
              let o = eqb-false q next x in
              let f = s.came q (omega arith) in
              record { from = f.from; live = omega (arith, f.live); here = other f.from (omega (arith, f.live)) ∙ f.here }

    pub sifted_all : (i next : ℕ) (ps : List ℕ) → count ≤ i → i ≤ count → next ≤ i → Sifted from to t i next ps → PlacesTold from to t ps
    unfolding sift
    sifted_all i next ps h l low s = record {
      carries = record {
        few = omega (arith, many);
        live = λ p b k. omega (arith, many, s.live p (omega (arith, size)) k);
        same = λ p b k. rw (sym whole) (s.same p (omega (arith, size)) k);
      };
      came = λ q b. let f = s.came q (omega (arith, many)) in record { from = f.from; live = omega (arith, size, f.live); here = f.here };
    }
      where
        size : length t ≡ count
        size = rows-length count us

        whole : s.done ≡ sift from to 0 t
        whole = sym (append-nil s.done) ∙ ap (λ (l : List Node). s.done ++ sift from to i l) (sym (rows_end count us i h)) ∙ s.joined

        many : length (sift from to 0 t) ≡ next
        many = ap (λ (l : List Node). length l) (sym whole) ∙ s.many
