-- An accepted command of the tree kind: nodes outside the subtrees that it adds, moves, frees or turns on or off keep their records and their
-- parents.
use Rattle.std.specs.Prelude.{ℕ, zero, suc, Bool, ◌≡◌, List, [], ◌∷◌}
use Rattle.std.proofs.Math.Bool.{true, false}
use Rattle.std.proofs.Math.Path.{refl, ap}
use Rattle.std.proofs.Common.{sym, ◌∙◌, arith, ltb-false, eqb-true, eq-eqb}
use Rattle.std.proofs.Math.Dec.{eqb}
use Rattle.words.specs.Choice.{pick, both, either}
use Rattle.nodes.specs.declared.Node.{Node}
use Rattle.nodes.specs.Place.{is_group, lives}
use Rattle.nodes.specs.Edit.{sink, take_deeper, run_of, is_below, add_by}
use Rattle.nodes.specs.Forest.{single}
use Rattle.nodes.specs.Formed.{rooted, apart, synth_lives}
use Rattle.treerefinement.specs.Rooted.{single-flatten}
use Rattle.treerefinement.specs.Latest.{group_nosynth}
use Rattle.treerefinement.specs.Left.{Covers}
use Rattle.treerefinement.specs.Untouched.{Untouched, untouched_cut, untouched_cut_below, untouched_deep_free, untouched_set_run, untouched_add_head, untouched_add_tail, untouched_add_before, untouched_add_after, untouched_add_over, untouched_move_head, untouched_move_tail, untouched_move_before, untouched_move_after}
use Rattle.model.specs.declared.TreeCommand.{TreeCommand}
use Rattle.model.specs.declared.TreeCommand.TheVariants as tree
use Rattle.model.specs.Engine.{Engine}
use Rattle.model.specs.Meaning.{meant, node_named}
use Rattle.model.specs.Checks.{bad_action}
use Rattle.model.specs.Effects.{new_group, number_for, tree_effect}
use Rattle.model.specs.Frame.{displaced_by, turned_by}
use Rattle.state.specs.Accepted.{TreeAccepted, known_lives}
use Rattle.preservation.specs.Groups.{group-named}
use Rattle.preservation.specs.TreeSteps.{synth_for}

-- a node that lives is in its own subtree
self_below : (n : ℕ) (t : List Node) → lives n t ≡ true → is_below n n t ≡ true
unfolding lives run_of sink
self_below n [] h = h
self_below n (r ∷ l) h = go (eqb r.number n) refl h (self_below n l)
  where
    go : (b : Bool) → eqb r.number n ≡ b → pick b true (lives n l) ≡ true → (lives n l ≡ true → lives n (run_of n l) ≡ true)
        → lives n (pick b (sink r.depth (r ∷ take_deeper r.depth l)) (run_of n l)) ≡ true
    go true e k ih = rw e
    go false e k ih = ih k

-- a number that a synth has is not a group's
synth_no_group : (m : ℕ) (t : List Node) → apart t ≡ true → synth_lives m t ≡ true → is_group (node_named m t) ≡ false
synth_no_group m t d s = go (is_group (node_named m t)) refl
  where
    go : (b : Bool) → is_group (node_named m t) ≡ b → b ≡ false
    go true e = let z : synth_lives m t ≡ false = group_nosynth m t d (group-named m t ∙ e) in sym s ∙ z
    go false e = refl

-- one new node: it is touched, and with action 4 the subtree of the target is
module _ (test : ℕ → Bool) (t : List Node) (root : rooted t ≡ true) (x : Node) (flat : x.depth ≡ 0) (own : test x.number ≡ true) (n : ℕ) where
  alone : Covers test (x ∷ [])
  unfolding lives
  alone m h = go (eqb x.number m) refl h
    where
      go : (b : Bool) → eqb x.number m ≡ b → pick b true false ≡ true → test m ≡ true
      go true e k = ap test (sym (eqb-true x.number m e)) ∙ own
      go false e k = cc

  untouched_add : (action : ℕ) → bad_action action ≡ false → (eqb action 4 ≡ true → Covers test (run_of n t)) → Untouched test (add_by action x n t) t
  untouched_add zero bad over = untouched_add_head test t root (single x) (x ∷ []) (single-flatten x flat) alone n
  untouched_add (suc zero) bad over = untouched_add_tail test t root (single x) (x ∷ []) (single-flatten x flat) alone n
  untouched_add (suc (suc zero)) bad over = untouched_add_before test t root (single x) (x ∷ []) (single-flatten x flat) alone n
  untouched_add (suc (suc (suc zero))) bad over = untouched_add_after test t root (single x) (x ∷ []) (single-flatten x flat) alone n
  untouched_add (suc (suc (suc (suc zero)))) bad over = untouched_add_over test t root (single x) (x ∷ []) (single-flatten x flat) alone n (over refl)
  untouched_add (suc (suc (suc (suc (suc k))))) bad over =
      let low = ltb-false 4 (suc (suc (suc (suc (suc k))))) bad in
      absurd (omega arith)

module _ (e : Engine) (root : rooted e.nodes ≡ true) (distinct : apart e.nodes ≡ true) (test : ℕ → Bool) where
  -- the test of a new node with the number k
  fresh : (action n k : ℕ) → ((m : ℕ) → either (either (eqb k m) (both (eqb action 4) (is_below m n e.nodes))) false ≡ true → test m ≡ true)
      → (test k ≡ true) × (eqb action 4 ≡ true → Covers test (run_of n e.nodes))
  fresh action n k c = (c k (rw (eq-eqb k k refl)), λ q m b. c m (go (eqb k m) (both (eqb action 4) (is_below m n e.nodes)) (rw (q, b))))
    where
      go : (p q : Bool) → q ≡ true → either (either p q) false ≡ true
      go true q h = refl
      go false true h = refl
      go false false h = h

  pub tree_untouched : (c : TreeCommand) (bytes : List ℕ) → TreeAccepted c bytes e → ((m : ℕ) → either (displaced_by c e m) (turned_by c e m) ≡ true → test m ≡ true)
      → Untouched test (tree_effect c bytes e).nodes e.nodes
  tree_untouched (tree.NewSynth number action target) bytes h c =
      let w = fresh action (meant target e) (number_for number e.next) c in
      untouched_add test e.nodes root (synth_for number action target bytes e) refl w.0 (meant target e) action h.place.good_action w.1
  tree_untouched (tree.NewGroup number action target) bytes h c =
      let w = fresh action (meant target e) number c in
      untouched_add test e.nodes root (new_group number) refl w.0 (meant target e) action h.place.good_action w.1
  tree_untouched (tree.Free a) bytes h c = untouched_cut test e.nodes root (meant a e) (λ m b. c m (rw b))
  tree_untouched (tree.FreeAll g) bytes h c = untouched_cut_below test e.nodes root (meant g e) distinct (λ m b q. c m (rw (b, q)))
  tree_untouched (tree.DeepFree g) bytes h c = untouched_deep_free test e.nodes root (meant g e) (λ m b s. c m (rw (b, synth_no_group m e.nodes distinct s)))
  tree_untouched (tree.Before a b) bytes h c = untouched_move_before test e.nodes root (meant a e) (meant b e) (λ m b. c m (rw b))
  tree_untouched (tree.After a b) bytes h c = untouched_move_after test e.nodes root (meant a e) (meant b e) (λ m b. c m (rw b))
  tree_untouched (tree.Head g a) bytes h c = untouched_move_head test e.nodes root (meant a e) (meant g e) (λ m b. c m (rw b))
  tree_untouched (tree.Tail g a) bytes h c = untouched_move_tail test e.nodes root (meant a e) (meant g e) (λ m b. c m (rw b))
  tree_untouched (tree.Run a flag) bytes h c =
      untouched_set_run test e.nodes root (meant a e) flag (c (meant a e) (self_below (meant a e) e.nodes (known_lives a e h.node_known)))
