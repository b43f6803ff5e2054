-- Each add action brings in one new node; with action 4 a subtree is freed first.
use Rattle.std.specs.Prelude.{ℕ, zero, suc, ◌≤◌, ◌<◌, Bool, true, false, not, ◌≡◌, refl, List, [], ◌∷◌, length, ltb, leb, eqb}
use Rattle.std.proofs.Common.{arith, ltb-false, leb-false}
use Rattle.words.specs.Choice.{pick, both}
use Rattle.nodes.specs.declared.Node.{Node}
use Rattle.nodes.specs.Place.{lives}
use Rattle.nodes.specs.Edit.{sink, take_deeper, run_of, cut, add_by}
use Rattle.nodes.specs.Forest.{single}
use Rattle.nodes.specs.Formed.{most_nodes, rooted, synth_lives}
use Rattle.treerefinement.specs.Tally.{tally-length, tally_cut, Within, cut_within, add_head_grown, add_tail_grown, add_before_grown, add_after_grown, add_over_grown}
use Rattle.treerefinement.specs.Leaves.{leaves_single}
use Rattle.treerefinement.specs.Rooted.{single-flatten, rooted-add_head, rooted-add_tail, rooted-add_before, rooted-add_after, rooted-add_over}
use Rattle.model.specs.Checks.{bad_action}
use Rattle.model.specs.Effects.{staying_nodes}
use Rattle.preservation.specs.Nodes.{Added}

-- a node that lives has a run
run_some : (n : ℕ) (t : List Node) → lives n t ≡ true → 1 ≤ length (run_of n t)
unfolding lives run_of sink
run_some n [] h = absurd (let z : ◌≡◌ {A = ℕ} 0 1 = cc in omega arith)
run_some n (r ∷ l) h = go (eqb r.number n) h (run_some n l)
  where
    go : (b : Bool) → pick b true (lives n l) ≡ true → (lives n l ≡ true → 1 ≤ length (run_of n l)) → 1 ≤ length (pick b (sink r.depth (r ∷ take_deeper r.depth l)) (run_of n l))
    go true e ih = omega arith
    go false e ih = ih e

cut_room : (n : ℕ) (t : List Node) → lives n t ≡ true → length (cut n t) < length t
cut_room n t h =
    omega (
      arith,
      tally_cut (λ r. true) (λ d r. refl) n t,
      tally-length (cut n t),
      tally-length (run_of n t),
      tally-length t,
      run_some n t h,
    )

self_within : (t : List Node) → Within t t
self_within t = record { sum = λ p b. omega arith }

module _ (x : Node) (flat : x.depth ≡ 0) (n : ℕ) (t : List Node) (h : lives n t ≡ true) (r : rooted t ≡ true) (few : length t ≤ most_nodes) where
  -- by the action: into a group, or beside or over another node than the root
  pub added : (action : ℕ) → bad_action action ≡ false → both (not (eqb action 4)) (leb most_nodes (length t)) ≡ false → (ltb action 2 ≡ true → synth_lives n t ≡ false) → (ltb action 2 ≡ false → eqb n 0 ≡ false)
      → Added x (add_by action x n t) (staying_nodes action n t) t
  added zero bad room group other = record {
    grown = add_head_grown (x ∷ []) n t h;
    within = self_within t;
    root = rooted-add_head t r n (single x) (x ∷ []) (single-flatten x flat) (leaves_single x) (group refl);
    room = leb-false most_nodes (length t) room;
  }
  added (suc zero) bad room group other = record {
    grown = add_tail_grown (x ∷ []) n t h;
    within = self_within t;
    root = rooted-add_tail t r n (single x) (x ∷ []) (single-flatten x flat) (leaves_single x) (group refl);
    room = leb-false most_nodes (length t) room;
  }
  added (suc (suc zero)) bad room group other = record {
    grown = add_before_grown (x ∷ []) n t h;
    within = self_within t;
    root = rooted-add_before t r n (single x) (x ∷ []) (single-flatten x flat) (leaves_single x) (other refl);
    room = leb-false most_nodes (length t) room;
  }
  added (suc (suc (suc zero))) bad room group other = record {
    grown = add_after_grown (x ∷ []) n t h;
    within = self_within t;
    root = rooted-add_after t r n (single x) (x ∷ []) (single-flatten x flat) (leaves_single x) (other refl);
    room = leb-false most_nodes (length t) room;
  }
  added (suc (suc (suc (suc zero)))) bad room group other = record {
    grown = add_over_grown (x ∷ []) n t h;
    within = cut_within n t;
    root = rooted-add_over t r n (single x) (x ∷ []) (single-flatten x flat) (leaves_single x) (other refl);
    room = omega (arith, cut_room n t h);
  }
  added (suc (suc (suc (suc (suc k))))) bad room group other =
      let low = ltb-false 4 (suc (suc (suc (suc (suc k))))) bad in
      absurd (omega arith)
