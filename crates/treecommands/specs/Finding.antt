-- What the place of a node that was found tells of it.
use Rattle.std.specs.Prelude.{ℕ, suc, ◌<◌, Bool, true, false, not, ◌≡◌, refl, List, [], ◌∷◌, Option, Some, None, IfSome, unwrap_or}
use Rattle.std.specs.Option.{is_some}
use Rattle.std.proofs.Common.{sym, ◌∙◌, arith, eq-eqb, ne_eqb, eqb-true}
use Rattle.std.proofs.Math.Path.{ap}
use Rattle.std.proofs.Math.Dec.{eqb}
use Rattle.std.proofs.lemmas.Bool.{eqb-false}
use Rattle.words.specs.Choice.{pick}
use Rattle.words.specs.ChoiceLaws.{both_true}
use Rattle.nodes.specs.declared.Node.{Node}
use Rattle.nodes.specs.Table.{rows}
use Rattle.nodes.specs.Place.{place, lives, is_group}
use Rattle.nodes.specs.PlaceLaws as nodes
use Rattle.nodes.specs.Formed.{rooted}
use Rattle.values.specs.declared.NodeArgument.{NodeArgument}
use Rattle.model.specs.Layout.{count_in, nodes_in, record_in, node_words}
use Rattle.model.specs.Engine.{decode}
use Rattle.model.specs.Meaning.{meant}
use Rattle.model.specs.Checks.{is_root, not_group}
use Rattle.tree.specs.Sizes.{Placed}
use Rattle.names.specs.Judged.{meant_in, NodeFound}
use Rattle.names.specs.Here.{node_here}
use Rattle.treecommands.specs.Ready.{Ready, words_long}

-- a number lives where a place was found for it
pub lives_found : (n count : ℕ) (us : List ℕ) (o : Option ℕ) → unwrap_or o count ≡ place n (rows count us) → IfSome o (λ at. at < count) → is_some o ≡ lives n (rows count us)
lives_found n count us (Some at) here below = sym (nodes.found count us n (omega arith))
lives_found n count us None here below = sym (nodes.not_found count us n (omega arith))

-- the root stands first, and no other node does
root_first : (n : ℕ) (t : List Node) → rooted t ≡ true → eqb n 0 ≡ eqb (place n t) 0
unfolding rooted place
root_first n [] h = cc
root_first n (r ∷ l) h = go (eqb r.number n) refl
  where
    zero : r.number ≡ 0
    zero = eqb-true r.number 0 (both_true (eqb r.number 0) _ h).0

    go : (b : Bool) → eqb r.number n ≡ b → eqb n 0 ≡ eqb (pick b 0 (suc (place n l))) 0
    go true e = eq-eqb n 0 (sym (eqb-true r.number n e) ∙ zero)
    go false e = ne_eqb n 0 (λ q. eqb-false r.number n e (zero ∙ sym q)) ∙ sym (ne_eqb (suc (place n l)) 0 (λ q. omega arith))

module _ (a : NodeArgument) (ws : List ℕ) (k : Ready ws) (at : ℕ) (f : NodeFound a ws at) where
  pub group-there : (bs : List ℕ) → not_group a (decode ws bs) ≡ not (is_group (record_in ws at))
  group-there bs = ap (λ (r : Node). not (is_group r)) (node_here a ws at f bs)

  pub root_there : (bs : List ℕ) → is_root (meant a (decode ws bs)) ≡ eqb at 0
  unfolding decode
  root_there bs = root_first (meant_in a ws) (nodes_in ws) k.tree.root ∙ ap (λ (i : ℕ). eqb i 0) (sym f.here)

  pub placed : (count : ℕ) → count ≡ count_in ws → Placed (node_words ws) count at
  placed count same = record {
    room = rw (words_long ws k.size) (omega (arith, k.few));
    few = omega (arith, k.few);
    live = omega (arith, f.live);
  }
