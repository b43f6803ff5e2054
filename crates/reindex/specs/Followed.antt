-- The index after an edit.
use Rattle.std.specs.Prelude.{ℕ, ◌+◌, ◌*◌, ◌≤◌, ◌<◌, Bool, true, false, ◌≡◌, refl, List, [], ◌∷◌, ◌++◌, length, take, drop, get_or, ltb}
use Rattle.std.proofs.Common.{sym, ap, ap₂, ◌∙◌, arith, ltb-true, ltb-false, drop-drop, get_or-take, length-take-le}
use Rattle.std.proofs.Math.ListN.{get_or-append}
use Rattle.std.proofs.Math.Seq.{drop-append-add}
use Rattle.nodes.specs.declared.Node.{Node}
use Rattle.nodes.specs.Table.{width, rows, numbers}
use Rattle.nodes.specs.TableLaws.{rows-length}
use Rattle.nodes.specs.Place.{lives}
use Rattle.nodes.specs.Formed.{apart}
use Rattle.index.specs.Index.{number_at, indexed, put_in, index_of}
use Rattle.index.specs.Rising.{Rising, entry, higher}
use Rattle.index.specs.Afresh.{put_length}
use Rattle.index.specs.Nodes.{indexed_parts, indexed-apart, indexed_afresh}
use Rattle.index.specs.Words.{number_word}
use Rattle.reindex.specs.declared.edit.Edit.{Edit}
use Rattle.reindex.specs.declared.edit.Edit.TheVariants.{Cut, Put, Swap}
use Rattle.reindex.specs.Follow.{followed, Carries, PlaceOfNode, follow_below, follow_higher, follow_indexed, insert_indexed}
use Rattle.reindex.specs.FollowWords.{Entries, Followed, followed_entries}
use Rattle.reindex.specs.Spot.{Reads}
use Rattle.reindex.specs.Edits.{closed, swapped, Bounded, Replaced, OneNew, Exchanged, Does, replaced_size, at_new, replaced_carries, came_front, came_back, exchanged_carries, exchanged_came}
use Rattle.reindex.specs.Kept.{place_in}

-- the entries in ws are the index of the table t; the words us hold the table after
pub record IndexBefore (ws : List ℕ) (before : ℕ) (us : List ℕ) (count : ℕ) (t : List Node) : Type 0 where
  pub size : length t ≡ before
  pub few : before ≤ 256
  pub rule : indexed (take before ws) t ≡ true
  pub entries : length ws ≡ 256
  pub room : width * count ≤ length us
  pub few_after : count ≤ 256

-- which an edit took there
pub record Edited (ws : List ℕ) (before : ℕ) (edit : Edit) (us : List ℕ) (count : ℕ) : Type 0 where
  pub old : List Node
  pub ground : IndexBefore ws before us count old
  pub does : Does edit old (rows count us)

-- or one of which these places tell where each node went, and none came
pub record Moved (ws : List ℕ) (before : ℕ) (ps us : List ℕ) (count : ℕ) : Type 0 where
  pub old : List Node
  pub ground : IndexBefore ws before us count old
  pub carries : Carries (place_in ps) old (rows count us)
  pub came : (q : ℕ) → q < length (rows count us) → PlaceOfNode (place_in ps) old q

module _ (ws : List ℕ) (before : ℕ) (us : List ℕ) (count : ℕ) (t : List Node) (g : IndexBefore ws before us count t) where
  abbrev s : List Node
  s = rows count us

  size : length s ≡ count
  size = rows-length count us

  risen : Rising (numbers t) (length t) 0 (take before ws)
  risen = (indexed_parts (take before ws) t g.rule).1

  long : length (take before ws) ≡ before
  long = length-take-le before ws (omega (arith, g.few, g.entries))

  -- the entries are places, each once
  pub ground_entries : Entries ws before
  ground_entries = record {
    many = omega (arith, g.few, g.entries);
    few = g.few;
    below = λ i h. omega (arith, (entry risen i (omega (arith, long))).0, get_or-take before ws i 0 h, g.size);
    differ = λ i j h k e.
        let same : get_or (take before ws) i 0 ≡ get_or (take before ws) j 0 = get_or-take before ws i 0 (omega arith) ∙ e ∙ sym (get_or-take before ws j 0 k) in
        omega (arith, higher risen i j h (omega (arith, long)), ap (λ (p : ℕ). number_at (numbers t) p) same);
  }

  module _ (to : ℕ → ℕ) (carries : Carries to t s) where
    abbrev kept : List ℕ
    kept = followed to (take before ws)

    -- no node is new
    module _ (came : (q : ℕ) → q < length s → PlaceOfNode to t q) where
      rule : indexed kept s ≡ true
      rule = follow_indexed to t s carries (take before ws) g.rule came

      pub follow_apart : apart s ≡ true
      follow_apart = indexed-apart kept s rule

      pub follow_none : (out : List ℕ) (left : ℕ) → Followed to ws before out left → out ≡ index_of s ++ drop count ws
      follow_none out left f =
          let many : left ≡ count = f.size ∙ (indexed_parts kept s rule).0 ∙ size in
          f.words ∙ ap₂ (λ (ix : List ℕ) (n : ℕ). ix ++ drop n ws) (indexed_afresh kept s rule) many

    -- one is, at the place `new`
    module _ (new : ℕ) (near : new < count) (fresh : lives (number_at (numbers s) new) t ≡ false) (came : (q : ℕ) → q < length s → (q ≡ new → ⊥) → PlaceOfNode to t q) where
      entered : indexed (put_in (numbers s) new kept) s ≡ true
      entered = insert_indexed to t s carries (take before ws) g.rule new (omega (arith, size)) fresh came

      pub insert_apart : apart s ≡ true
      insert_apart = indexed-apart (put_in (numbers s) new kept) s entered

      module _ (out : List ℕ) (left : ℕ) (f : Followed to ws before out left) where
        many : left + 1 ≡ count
        many =
            let a = put_length (numbers s) new kept in
            let b = (indexed_parts (put_in (numbers s) new kept) s entered).0 in
            omega (arith, f.size, size)

        held : take left out ≡ kept
        held = followed_entries to ws before out left f

        here : (i : ℕ) → i < left → get_or out i 0 ≡ get_or kept i 0
        here i h = ap (λ (l : List ℕ). get_or l i 0) f.words ∙ get_or-append kept (drop left ws) 0 i (omega (arith, f.size))

        low : (i : ℕ) → i < left → get_or out i 0 < count
        low i h = omega (arith, here i h, size, follow_below to t s carries (take before ws) g.rule i (omega (arith, f.size)))

        word : (i : ℕ) → i < left → get_or us (width * get_or out i 0) 0 ≡ number_at (numbers s) (get_or kept i 0)
        word i h = sym (number_word count us (get_or out i 0) (low i h)) ∙ ap (λ (p : ℕ). number_at (numbers s) p) (here i h)

        pub one_reads : length out ≡ length ws → Reads us out left
        one_reads long = record {
          room = omega (arith, g.room, many);
          few = omega (arith, g.few_after, many);
          entries = omega (arith, g.entries, g.few_after, many);
          below = λ i h. omega (arith, low i h, many);
          rises = λ i j h k. omega (arith, word i (omega arith), word j k, follow_higher to t s carries (take before ws) g.rule i j h (omega (arith, f.size)));
        }

        pub one_near : new ≤ left
        one_near = omega (arith, many)

        pub follow_one : (last : List ℕ) → last ≡ put_in (numbers (rows (left + 1) us)) new (take left out) ++ drop (left + 1) out → last ≡ index_of s ++ drop count ws
        follow_one last l =
            let on : left + 1 ≡ length kept + 1 = omega (arith, f.size) in
            let past : drop (left + 1) out ≡ drop count ws =
            ap₂ (λ (n : ℕ) (x : List ℕ). drop n x) on f.words ∙ drop-append-add kept (drop left ws) 1 ∙ drop-drop 1 left ws ∙ ap (λ (n : ℕ). drop n ws) many in
            l
            ∙ ap₂ (λ (n : ℕ) (x : List ℕ). put_in (numbers (rows n us)) new x ++ drop (left + 1) out) many held
            ∙ ap₂ (λ (x y : List ℕ). x ++ y) (indexed_afresh (put_in (numbers s) new kept) s entered) past

-- each kind of edit
module _ (ws : List ℕ) (before : ℕ) (us : List ℕ) (count : ℕ) (t : List Node) (g : IndexBefore ws before us count t) where
  few-after : length (rows count us) ≤ 256
  few-after = omega (arith, rows-length count us, g.few_after)

  pub edit_bounds : (edit : Edit) → Does edit t (rows count us) → Bounded edit before
  edit_bounds (Cut from to) d = (d.order, omega (arith, d.end, g.size))
  edit_bounds (Put from to) d =
      let r = d.replaced in
      (r.order, (omega (arith, r.end, g.size), omega (arith, r.order, r.end, g.size, few-after, replaced_size from to (d.number ∷ []) t (rows count us) r)))
  edit_bounds (Swap a b c) d = (d.first, (d.second, omega (arith, d.end, g.size)))

  module _ (from to : ℕ) (d : Replaced from to [] t (rows count us)) where
    cut_came : (q : ℕ) → q < length (rows count us) → PlaceOfNode (closed from to 0) t q
    cut_came q h = go (ltb q from) refl
      where
        go : (b : Bool) → ltb q from ≡ b → PlaceOfNode (closed from to 0) t q
        go true e = came_front from to [] t (rows count us) d q (ltb-true q from e)
        go false e = came_back from to [] t (rows count us) d q h (omega (arith, ltb-false q from e))

    pub cut_apart : apart (rows count us) ≡ true
    cut_apart = follow_apart ws before us count t g (closed from to 0) (replaced_carries from to [] t (rows count us) d few-after) cut_came

    pub cut_follows : (out : List ℕ) (left : ℕ) → Followed (closed from to 0) ws before out left → out ≡ index_of (rows count us) ++ drop count ws
    cut_follows = follow_none ws before us count t g (closed from to 0) (replaced_carries from to [] t (rows count us) d few-after) cut_came

  module _ (a b c : ℕ) (d : Exchanged a b c t (rows count us)) where
    pub swap_apart : apart (rows count us) ≡ true
    swap_apart = follow_apart ws before us count t g (swapped a b c) (exchanged_carries a b c t (rows count us) d few-after) (exchanged_came a b c t (rows count us) d)

    pub swap_follows : (out : List ℕ) (left : ℕ) → Followed (swapped a b c) ws before out left → out ≡ index_of (rows count us) ++ drop count ws
    swap_follows = follow_none ws before us count t g (swapped a b c) (exchanged_carries a b c t (rows count us) d few-after) (exchanged_came a b c t (rows count us) d)

  module _ (from to : ℕ) (d : OneNew from to t (rows count us)) where
    abbrev xs : List ℕ
    xs = d.number ∷ []

    put_carries : Carries (closed from to 1) t (rows count us)
    put_carries = replaced_carries from to xs t (rows count us) d.replaced few-after

    put_near : from < count
    put_near = omega (arith, replaced_size from to xs t (rows count us) d.replaced, rows-length count us)

    put_fresh : lives (number_at (numbers (rows count us)) from) t ≡ false
    put_fresh = ap (λ (k : ℕ). lives k t) (at_new from to xs t (rows count us) d.replaced (omega arith)) ∙ d.fresh

    put_came : (q : ℕ) → q < length (rows count us) → (q ≡ from → ⊥) → PlaceOfNode (closed from to 1) t q
    put_came q h o = go (ltb q from) refl
      where
        go : (b : Bool) → ltb q from ≡ b → PlaceOfNode (closed from to 1) t q
        go true e = came_front from to xs t (rows count us) d.replaced q (ltb-true q from e)
        go false e = came_back from to xs t (rows count us) d.replaced q h (omega (arith, ltb-false q from e))

    pub put_apart : apart (rows count us) ≡ true
    put_apart = insert_apart ws before us count t g (closed from to 1) put_carries from put_near put_fresh put_came

    module _ (out : List ℕ) (left : ℕ) (f : Followed (closed from to 1) ws before out left) where
      pub put_reads : length out ≡ length ws → Reads us out left
      put_reads = one_reads ws before us count t g (closed from to 1) put_carries from put_near put_fresh put_came out left f

      pub put_place : from ≤ left
      put_place = one_near ws before us count t g (closed from to 1) put_carries from put_near put_fresh put_came out left f

      pub put_follows : (last : List ℕ) → last ≡ put_in (numbers (rows (left + 1) us)) from (take left out) ++ drop (left + 1) out → last ≡ index_of (rows count us) ++ drop count ws
      put_follows = follow_one ws before us count t g (closed from to 1) put_carries from put_near put_fresh put_came out left f

  pub edit-apart : (edit : Edit) → Does edit t (rows count us) → apart (rows count us) ≡ true
  edit-apart (Cut from to) d = cut_apart from to d
  edit-apart (Put from to) d = put_apart from to d
  edit-apart (Swap a b c) d = swap_apart a b c d
