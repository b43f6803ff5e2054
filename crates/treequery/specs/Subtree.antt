-- /g_queryTree: the rows below the group, its checks and its reply.
use Rattle.std.specs.Prelude.{ℕ, suc, ◌+◌, ◌*◌, ◌-◌, ◌≤◌, ◌<◌, Bool, true, false, not, ◌≡◌, refl, length, take, drop, get_or, ltb, eqb}
use Rattle.std.proofs.Math.Path.{sym, ap₂}
use Rattle.std.proofs.Common.{ap, ◌∙◌, arith, length-drop, take-add, drop_at, length-take-le, eqb-true, ltb-true, eq-eqb, ne_eqb}
use mathlib.Core.List.{List, [], ◌∷◌}
use Rattle.std.proofs.lemmas.Bool.{eqb-false}
use Rattle.words.specs.Choice.{pick}
use Rattle.words.specs.Parts.{region}
use Rattle.refusals.specs.declared.Refusal.{Refusal}
use Rattle.refusals.specs.declared.Refusal.TheVariants.{WrongKind}
use Rattle.nodes.specs.declared.Node.{Node}
use Rattle.nodes.specs.Table.{width, rows, depth_field}
use Rattle.nodes.specs.TableLaws.{rows-length, rows_take}
use Rattle.nodes.specs.Place.{deeper, is_group}
use Rattle.nodes.specs.PlaceLaws.{deeper_most}
use Rattle.nodes.specs.Structure.{child_count}
use Rattle.nodes.specs.Sizes.{end_at}
use Rattle.osc.specs.Message.{int, message}
use Rattle.values.specs.declared.NodeArgument.{NodeArgument}
use Rattle.model.specs.declared.Query.TheVariants as query
use Rattle.model.specs.Answers.{Answer}
use Rattle.model.specs.Answers.{Refused}
use Rattle.model.specs.Layout.{count_in, nodes_in, nodes_place, nodes_words, controls_in, record_in}
use Rattle.model.specs.Engine.{Slot, decode}
use Rattle.model.specs.View.{Row, view, view_rows, view_of}
use Rattle.model.specs.Meaning.{meant}
use Rattle.model.specs.Checks.{first_of, query_checks}
use Rattle.model.specs.Replies.{reply, reply_to, tree_reply, tree_address, flag_number, tree_arguments, subtree_rows, rows_below, rows_at}
use Rattle.tree.specs.Around.{child_numbers, children_of-at}
use Rattle.names.specs.Judged.{NodeFound, NodeRefused}
use Rattle.names.specs.Here.{node_here}
use Rattle.queries.specs.Held.{At}
use Rattle.queries.specs.Shape.{count_same}
use Rattle.queries.specs.Found.{subtree_found}
use Rattle.queries.specs.Info.{here, number_here, here_number}
use Rattle.queries.specs.Status.{view_from, view-from}
use Rattle.treequery.specs.RowArguments.{view_to, children_at}
use Rattle.treequery.specs.Rows.{tree_message}

-- the rows below a depth are the run of deeper records
below_rows : (slots : List Slot) (cs : List ℕ) (d : ℕ) (l : List Node) → rows_below d (view_rows slots cs l) ≡ view_rows slots cs (take (deeper d l) l)
unfolding rows_below view_rows deeper
below_rows slots cs d [] = refl
below_rows slots cs d (r ∷ l) = go (below_rows slots cs d l) (ltb d r.depth)
  where
    row : Row
    row = record { depth = r.depth; node = view_of slots cs r }

    go : rows_below d (view_rows slots cs l) ≡ view_rows slots cs (take (deeper d l) l) → (b : Bool)
        → pick b (row ∷ rows_below d (view_rows slots cs l)) [] ≡ view_rows slots cs (take (pick b (suc (deeper d l)) 0) (r ∷ l))
    go ih true = ap (λ (m : List Row). row ∷ m) ih
    go ih false = refl

below_twice : (d : ℕ) (l : List Row) → rows_below d (rows_below d l) ≡ rows_below d l
unfolding rows_below
below_twice d [] = refl
below_twice d (r ∷ l) = go (below_twice d l) (ltb d r.depth) refl
  where
    go : rows_below d (rows_below d l) ≡ rows_below d l → (b : Bool) → ltb d r.depth ≡ b → rows_below d (pick b (r ∷ rows_below d l) []) ≡ pick b (r ∷ rows_below d l) []
    go ih true e = rw e (ap (λ (m : List Row). r ∷ m) ih)
    go ih false e = refl

-- the children among them
child_rows : (slots : List Slot) (cs : List ℕ) (d : ℕ) (l : List Node) → rows_at (d + 1) (rows_below d (view_rows slots cs l)) ≡ length (child_numbers d l)
unfolding rows_at rows_below view_rows child_numbers
child_rows slots cs d [] = refl
child_rows slots cs d (r ∷ l) = go (child_rows slots cs d l) (ltb d r.depth) (eqb (r.depth - d) 1) refl refl
  where
    row : Row
    row = record { depth = r.depth; node = view_of slots cs r }

    go : rows_at (d + 1) (rows_below d (view_rows slots cs l)) ≡ length (child_numbers d l) → (a b : Bool) → ltb d r.depth ≡ a → eqb (r.depth - d) 1 ≡ b
        → rows_at (d + 1) (pick a (row ∷ rows_below d (view_rows slots cs l)) []) ≡ length (pick a (pick b (r.number ∷ child_numbers d l) (child_numbers d l)) [])
    go ih true true p q =
        let one : r.depth - d ≡ 1 = eqb-true (r.depth - d) 1 q in
        rw (eq-eqb r.depth (d + 1) (omega arith)) (ap suc ih)
    go ih true false p q =
        let deep : d < r.depth = ltb-true d r.depth p in
        rw (ne_eqb r.depth (d + 1) (λ e. eqb-false (r.depth - d) 1 q (omega arith))) ih
    go ih false b p q = refl

-- a run of a table, as the end of a shorter table
run_part : (n at k : ℕ) (us : List ℕ) → at + k ≤ n → take k (drop at (rows n us)) ≡ drop at (rows (at + k) us)
run_part n at k us h =
    let size : length (rows n us) ≡ n = rows-length n us in
    sym (ap (λ (l : List Node). drop at l) (sym (rows_take (at + k) n us h) ∙ take-add at k (rows n us))
    ∙ drop_at (take at (rows n us)) (take k (drop at (rows n us))) at (length-take-le at (rows n us) (omega arith)))

pub end_most : (n at : ℕ) (us : List ℕ) → at < n → end_at n us at ≤ n
end_most n at us h =
    let most = deeper_most (get_or us (width * at + depth_field) 0) (drop (at + 1) (rows n us)) in
    let size : length (drop (at + 1) (rows n us)) ≡ n - (at + 1) = length-drop (at + 1) (rows n us) ∙ ap (λ (k : ℕ). k - (at + 1)) (rows-length n us) in
    omega arith

pub tree_unknown : (argument : NodeArgument) (bytes ws bs : List ℕ) (flag : ℕ) (r : Refusal) → NodeRefused argument ws r
    → (b : Answer) → first_of (query_checks (query.Tree argument flag) bytes (decode ws bs)) b ≡ Refused r
unfolding first_of
tree_unknown argument bytes ws bs flag r n b = rw (n.fires bs) (n.answer bs)

module _ (argument : NodeArgument) (bytes ws bs : List ℕ) (at : ℕ) (n : NodeFound argument ws at) (a : At ws bs at) where
  pub tree_synth : (flag : ℕ) → is_group (record_in ws at) ≡ false → (b : Answer) → first_of (query_checks (query.Tree argument flag) bytes (decode ws bs)) b ≡ Refused WrongKind
  unfolding first_of
  tree_synth flag h b = rw (n.passes bs, node_here argument ws at n bs, h)

  pub tree_passes : (flag : ℕ) → is_group (record_in ws at) ≡ true → (b : Answer) → first_of (query_checks (query.Tree argument flag) bytes (decode ws bs)) b ≡ b
  unfolding first_of
  tree_passes flag h b = rw (n.passes bs, node_here argument ws at n bs, h)

  abbrev run : List Node
  run = drop (at + 1) (nodes_in ws)

  abbrev slots : List Slot
  slots = (decode ws bs).slots

  -- the rows below the group
  run_rows : (end : ℕ) → end ≡ end_at (count_in ws) (region nodes_place nodes_words ws) at → rows_below (record_in ws at).depth (view_rows slots (controls_in ws) run) ≡ view_to ws bs end (at + 1)
  run_rows end e =
      let us = region nodes_place nodes_words ws in
      let d = (record_in ws at).depth in
      let fits : at + 1 + deeper d run ≤ count_in ws = end_most (count_in ws) at us a.live in
      below_rows slots (controls_in ws) d run
      ∙ ap (view_rows slots (controls_in ws)) (run_part (count_in ws) (at + 1) (deeper d run) us fits)
      ∙ ap (λ (k : ℕ). view_rows slots (controls_in ws) (drop (at + 1) (rows k us))) (sym e)

  subtree-rows : (end : ℕ) → end ≡ end_at (count_in ws) (region nodes_place nodes_words ws) at → subtree_rows (meant argument (decode ws bs)) (view_from ws bs 0) ≡ view_to ws bs end (at + 1)
  subtree-rows end e =
      subtree_found slots (controls_in ws) (meant argument (decode ws bs)) (nodes_in ws) (record_in ws at) run (here argument ws bs at n a) ∙ run_rows end e

  -- its children
  group_children : (end : ℕ) → end ≡ end_at (count_in ws) (region nodes_place nodes_words ws) at → children_at ws bs end at ≡ child_count (record_in ws at).number (nodes_in ws)
  group_children end e =
      let us = region nodes_place nodes_words ws in
      let d = (record_in ws at).depth in
      ap (λ (l : List Row). rows_at (d + 1) (rows_below d l)) (sym (run_rows end e))
      ∙ ap (rows_at (d + 1)) (below_twice d (view_rows slots (controls_in ws) run))
      ∙ child_rows slots (controls_in ws) d run
      ∙ ap (length {A = ℕ}) (sym (children_of-at (count_in ws) us (record_in ws at).number at (here_number argument ws bs at n a) a.live))

  pub tree-reply : (flag end : ℕ) (shown : Bool) → shown ≡ not (eqb flag 0) → end ≡ end_at (count_in ws) (region nodes_place nodes_words ws) at
      → tree_message shown ws bs end at ≡ reply (query.Tree argument flag) bytes (decode ws bs)
  unfolding reply_to
  tree-reply flag end shown f e =
      let m = (record_in ws at).number in
      let same : m ≡ meant argument (decode ws bs) = number_here argument ws bs at n a in
      sym (ap (λ (k : ℕ). tree_reply k (not (eqb flag 0)) (view (decode ws bs))) (sym same)
      ∙ ap₂ (λ (b : Bool) (v : List Row). tree_reply m b v) (sym f) (view-from ws bs)
      ∙ ap₂ (λ (k : ℕ) (v : List Row). message tree_address (int (flag_number shown) ∷ (int m ∷ (int k ∷ tree_arguments shown v))))
      (count_same slots (controls_in ws) m (nodes_in ws) ∙ sym (group_children end e))
      (ap (λ (k : ℕ). subtree_rows k (view_from ws bs 0)) same ∙ subtree-rows end e))
