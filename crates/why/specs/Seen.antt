-- What is seen on the way along the rows, one row at a time.
use Rattle.std.specs.Prelude.{ℕ, ◌+◌, ◌*◌, ◌≤◌, ◌<◌, true, ◌≡◌, refl, length, leb}
use Rattle.std.proofs.Common.{sym, ap₂, ◌∙◌, arith, length-append, take-append-drop}
use Rattle.std.proofs.Math.Path.{ap}
use mathlib.Core.List.{List, [], ◌∷◌, ◌++◌}
use borrow.Author.Tests.{le-leb, lt-leb, eq-eqb, ne_eqb}
use Rattle.nodes.specs.declared.Node.{Node}
use Rattle.nodes.specs.Table.{width, node_from, rows}
use Rattle.nodes.specs.TableLaws.{rows_take, rows_end, row-from}
use Rattle.nodes.specs.Place.{group_slot}
use Rattle.nodes.specs.Order.{order_from}
use Rattle.why.specs.declared.sight.SeenSoFar.{SeenSoFar}
use Rattle.why.specs.Rows.{see, sight, sight_to}
use Rattle.why.specs.Sight.{sight-append, order_on}

-- what was seen is what the rows before a place show, and neither number is larger than there are rows
pub record SeenBefore (us : List ℕ) (at : ℕ) (seen : SeenSoFar) : Type 0 where
  pub limit : seen.limit ≡ (sight_to us at).0
  pub many : seen.many ≡ length (order_from 0 (rows at us))
  pub named : seen.named ≡ (sight_to us at).1
  pub limit_most : seen.limit ≤ at
  pub many_most : seen.many ≤ at

-- before the first row
pub seen_start : (us : List ℕ) → SeenBefore us 0 (record { limit = 0; many = 0; named = 0 })
unfolding rows sight order_from
seen_start us = record { limit = refl; many = refl; named = refl; limit_most = omega arith; many_most = omega arith }

-- one row later
module _ (us : List ℕ) (i : ℕ) where
  abbrev this : Node
  this = node_from us (width * i)

  one_more : rows (i + 1) us ≡ rows i us ++ node_from us (width * i) ∷ []
  one_more =
      sym (take-append-drop i (rows (i + 1) us))
      ∙ ap₂ (λ (a b : List Node). a ++ b) (rows_take i (i + 1) us (omega arith))
      (row-from (i + 1) us i (omega arith) ∙ ap (λ (l : List Node). this ∷ l) (rows_end (i + 1) us (i + 1) (omega arith)))

  sight_more : sight_to us (i + 1) ≡ see (sight_to us i) (node_from us (width * i))
  unfolding sight
  sight_more = ap (λ (l : List Node). sight (0, 0) l) one_more ∙ sight-append (0, 0) (rows i us) (this ∷ [])

  order_more : length (order_from 0 (rows (i + 1) us)) ≡ length (order_from 0 (rows i us)) + length (order_from (sight_to us i).0 (node_from us (width * i) ∷ []))
  order_more =
      ap (λ (l : List Node). length (order_from 0 l)) one_more
      ∙ ap length (order_on (0, 0) (rows i us) (this ∷ []))
      ∙ length-append (order_from 0 (rows i us)) (order_from (sight_to us i).0 (this ∷ []))

  -- by what the row is: the next sight, and how many synths it adds
  module _ (so : SeenSoFar) (s : SeenBefore us i so) where
    later : (next : SeenSoFar) → (next.limit, next.named) ≡ see (sight_to us i) (node_from us (width * i)) → next.many ≡ so.many + length (order_from (sight_to us i).0 (node_from us (width * i) ∷ []))
        → next.limit ≤ i + 1 → next.many ≤ i + 1 → SeenBefore us (i + 1) next
    later next saw ran few many = record {
      limit = ap (λ (p : ℕ × ℕ). p.0) (saw ∙ sym sight_more);
      many = ran ∙ ap (λ (n : ℕ). n + length (order_from (sight_to us i).0 (this ∷ []))) s.many ∙ sym order_more;
      named = ap (λ (p : ℕ × ℕ). p.1) (saw ∙ sym sight_more);
      limit_most = few;
      many_most = many;
    }

    -- below one that is off
    pub seen_under : so.limit < (node_from us (width * i)).depth → SeenBefore us (i + 1) so
    unfolding order_from
    seen_under under =
        let deep = lt-leb this.depth (sight_to us i).0 (let e = s.limit in omega arith) in
        later so (rw deep (ap₂ (λ (a b : ℕ). (a, b)) s.limit s.named)) (rw deep (omega arith)) (let m = s.limit_most in omega arith) (let m = s.many_most in omega arith)

    module _ (near : (node_from us (width * i)).depth ≤ so.limit) where
      high : leb (node_from us (width * i)).depth (sight_to us i).0 ≡ true
      high = le-leb this.depth (sight_to us i).0 (let e = s.limit in omega arith)

      -- off itself
      pub seen-off : ((node_from us (width * i)).run ≡ 1 → ⊥) → SeenBefore us (i + 1) (record { limit = (node_from us (width * i)).depth; many = so.many; named = (node_from us (width * i)).number })
      unfolding order_from
      seen-off off =
          let o = ne_eqb this.run 1 off in
          later _ (rw (high, o)) (rw (high, o) (omega arith)) (let m = s.limit_most in omega arith) (let m = s.many_most in omega arith)

      module _ (on : (node_from us (width * i)).run ≡ 1) where
        -- a group
        pub seen_group : (node_from us (width * i)).slot ≡ group_slot → SeenBefore us (i + 1) (record { limit = (node_from us (width * i)).depth + 1; many = so.many; named = (node_from us (width * i)).number })
        unfolding order_from
        seen_group group =
            let o = eq-eqb this.run 1 on in
            let g = eq-eqb this.slot group_slot group in
            later _ (rw (high, o)) (rw (high, o, g) (omega arith)) (let m = s.limit_most in omega arith) (let m = s.many_most in omega arith)

        -- a synth that runs
        pub seen_synth : ((node_from us (width * i)).slot ≡ group_slot → ⊥) → SeenBefore us (i + 1) (record { limit = (node_from us (width * i)).depth + 1; many = so.many + 1; named = (node_from us (width * i)).number })
        unfolding order_from
        seen_synth synth =
            let o = eq-eqb this.run 1 on in
            let g = ne_eqb this.slot group_slot synth in
            later _ (rw (high, o)) (rw (high, o, g)) (let m = s.limit_most in omega arith) (let m = s.many_most in omega arith)
