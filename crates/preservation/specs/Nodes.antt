-- The rules on nodes are kept by an edit that leaves no more of anything, by a run flag, and by one new node.
use Rattle.std.specs.Prelude.{ℕ, ◌≤◌, ◌<◌, Bool, ◌≡◌, List, [], ◌∷◌, length, eqb}
use Rattle.std.proofs.Math.Bool.{true, false}
use Rattle.std.proofs.Math.Path.{refl, ap}
use Rattle.std.proofs.Common.{sym, ◌∙◌, arith}
use borrow.Author.Tests.{le-ltb, ltb-false, eqb-true, eq-eqb}
use Rattle.words.specs.Choice.{pick, either}
use Rattle.nodes.specs.declared.Node.{Node}
use Rattle.nodes.specs.Place.{is_group, lives}
use Rattle.nodes.specs.Edit.{set_run}
use Rattle.nodes.specs.Formed.{most_nodes, rooted, fields_formed, row_taken, next_formed, synth_lives, latest_formed}
use Rattle.treerefinement.specs.Tally.{tally, Within, Grown}
use Rattle.treerefinement.specs.Keep.{numbered, synth_numbered, lives_some, synth_lives_some, within_lives, grown_lives, grown_synth_lives, within_length, grown_length, within_apart, within_rows, within_formed, grown_apart, grown_rows, grown_formed, formed_next, set_run-apart, set_run-rows, set_run_formed, set_run-synth_lives, set_run-length}
use Rattle.treerefinement.specs.Rooted.{rooted-set_run}
use Rattle.treerefinement.specs.Latest.{kinds, latest_within, latest_grown}
use Rattle.state.specs.Known.{Tree}
use Rattle.model.specs.Effects.{latest_among}
use Rattle.preservation.specs.Rows.{order-short}

-- a table with a root is not empty
rooted_some : (t : List Node) → rooted t ≡ true → 1 ≤ length t
rooted_some t h = omega (arith, order-short t h)

-- a synth that lives is a node that lives
pub no-synth : (n : ℕ) (t : List Node) → lives n t ≡ false → synth_lives n t ≡ false
no-synth n t h =
    let none = ltb-false 0 (tally (numbered n) t) (sym (lives_some n t) ∙ h) in
    synth_lives_some n t ∙ le-ltb 0 (tally (synth_numbered n) t) (omega (arith, kinds n t))

-- one new node, at most after a subtree was freed: in the table after, which was t, and was before when the new node came
pub record Added (x : Node) (after before t : List Node) : Type 0 where
  pub grown : Grown (x ∷ []) after before
  pub within : Within before t
  pub root : rooted after ≡ true
  pub room : length before < most_nodes

module _ (next latest : ℕ) (t : List Node) (k : Tree next latest t) where
  pub tree_within : (after : List Node) → Within after t → rooted after ≡ true → Tree next (latest_among after latest) after
  tree_within after w r = record {
    some = rooted_some after r;
    few = omega (arith, within_length w, k.few);
    root = r;
    distinct = within_apart w k.distinct;
    fields = within_formed w next k.fields;
    rows_differ = within_rows w k.rows_differ;
    next_right = k.next_right;
    latest_right = latest_within w latest k.distinct k.latest_right;
  }

  pub tree_run : (n flag : ℕ) → flag ≤ 1 → Tree next (latest_among (set_run n flag t) latest) (set_run n flag t)
  tree_run n flag low =
      let r : rooted (set_run n flag t) ≡ true = rooted-set_run t k.root n flag in
      record {
        some = rooted_some (set_run n flag t) r;
        few = omega (arith, set_run-length n flag t, k.few);
        root = r;
        distinct = set_run-apart n flag t k.distinct;
        fields = set_run_formed n flag t next low k.fields;
        rows_differ = set_run-rows n flag t k.rows_differ;
        next_right = k.next_right;
        latest_right = go (lives latest (set_run n flag t));
      }
    where
      go : (p : Bool) → latest_formed (pick p latest 0) (set_run n flag t) ≡ true
      go true = ap (λ (b : Bool). either (eqb latest 0) b) (set_run-synth_lives n flag t latest) ∙ k.latest_right
      go false = refl

  module _ (x : Node) (after before : List Node) (a : Added x after before t) (new : lives x.number t ≡ false) where
    -- the next number may have fallen, and the latest synth is a live synth or none
    pub tree_added : (lower newest : ℕ) → lower ≤ next → next_formed lower ≡ true → fields_formed lower x ≡ true
        → (is_group x ≡ false → row_taken x.row before ≡ false) → latest_formed newest after ≡ true → Tree lower newest after
    tree_added lower newest fall n f free l = record {
      some = rooted_some after a.root;
      few = omega (arith, grown_length a.grown, a.room);
      root = a.root;
      distinct = grown_apart x a.grown (within_lives x.number a.within new) (within_apart a.within k.distinct);
      fields = grown_formed x a.grown lower f (formed_next next lower fall before (within_formed a.within next k.fields));
      rows_differ = grown_rows x a.grown free (within_rows a.within k.rows_differ);
      next_right = n;
      latest_right = l;
    }

    -- a new synth is the latest
    pub latest_new : is_group x ≡ false → latest_formed x.number after ≡ true
    unfolding synth_lives
    latest_new e =
        let here : synth_lives x.number (x ∷ []) ≡ true = rw (e, eq-eqb x.number x.number refl) in
        ap (λ (b : Bool). either (eqb x.number 0) b) (grown_synth_lives x.number a.grown ∙ ap (λ (b : Bool). either (synth_lives x.number before) b) here)
        ∙ go (eqb x.number 0) (synth_lives x.number before)
      where
        go : (p q : Bool) → either p (either q true) ≡ true
        go true q = refl
        go false true = refl
        go false false = refl

    -- beside a new group the latest stays one, or becomes none where it was freed
    pub latest_added : latest_formed (latest_among after latest) after ≡ true
    unfolding lives
    latest_added = go (lives latest before) (eqb x.number latest) refl refl (grown_lives latest a.grown)
      where
        none : (p q : Bool) → q ≡ false → either p q ≡ true → p ≡ true
        none p true e h = cc
        none true false e h = refl
        none false false e h = h

        go : (p q : Bool) → lives latest before ≡ p → eqb x.number latest ≡ q → lives latest after ≡ either (lives latest before) (pick (eqb x.number latest) true false)
            → latest_formed (latest_among after latest) after ≡ true
        go true q e f g =
            let still : latest_formed latest before ≡ true = rw e at (latest_within a.within latest k.distinct k.latest_right) in
            rw (g, e) (latest_grown a.grown latest still)
        go false true e f g =
            let gone : lives latest t ≡ false = rw (eqb-true x.number latest f) at new in
            let zero : eqb latest 0 ≡ true = none (eqb latest 0) (synth_lives latest t) (no-synth latest t gone) k.latest_right in
            rw (g, e, f) (rw zero)
        go false false e f g = rw (g, e, f) refl
