use Prim.Native.Nat.{ℕ, ◌+◌, ◌*◌, ◌<◌}
use mathlib.Core.Bool.{false≢true}
use mathlib.Core.Path.{◌≡◌, sym, ap, ap₂, ◌∙◌, subst}
use mathlib.Core.List.{List, ◌++◌}
use native.Mathlib.Omega.{arith}
use borrow.Author.Rules.{rules}
use lib.ListN.{length, get_or}
use Rattle.refusals.specs.declared.Refusal.TheVariants.{NoRoom}
use Rattle.osc.specs.Message.{tags, arguments}
use Rattle.words.specs.Parts.{over}
use Rattle.osc.specs.Lengths.{tags_size}
use Rattle.model.specs.Answers.{Refused, Replied}
use Rattle.model.specs.Layout.{nodes_place, record_in}
use Rattle.model.specs.Replies.{flag_number}
use Rattle.replies.specs.Sent.{Sends, sends_none, sends_all}
use Rattle.nodes.specs.Table.{width}
use Rattle.treequery.specs.RowArguments.{children_at}
use Rattle.treequery.specs.Nested.{nested}
use Rattle.treequery.specs.Shapes.{Shapes}
use Rattle.treequery.specs.LookUp.{fact_none}
use Rattle.treequery.specs.Rows.{number_fact, left_rows, run_at}
use Rattle.treequery.specs.TreeMessage.{tree_head, tree_body, tree-message, front_at, tree_front, message_size, tree_put}
use Rattle.treequery.proofs.send.send_tree.Goals as goal
use Rattle.treequery.proofs.send.send_tree.Goals.{then-shown, else-shown}

pub overflow_add-from : goal.overflow_add-from
overflow_add-from c = omega (arith, c.requires.order, c.requires.ends, c.requires.state.few)

pub tree_shapes-requires : goal.tree_shapes-requires
tree_shapes-requires c =
    (c.requires, fact_none c.args.words.now c.args.arena.now)

pub count_tree-size-requires : goal.count_tree-size-requires
count_tree-size-requires c =
    record {
      run = c.requires;
      fact = λ on.
          elim c.if-shown.branch [
            | then-shown b ↦ subst (λ (l : List ℕ). Shapes c.args.words.now c.args.arena.now (c.args.at + 1) c.args.end l) (sym b.shapes-is) b.tree_shapes.ensures
            | else-shown b ↦ absurd (false≢true (sym b.if-shown.false ∙ on))
          ];
    }

pub returns-then-out-whole : goal.returns-then-out-whole
returns-then-out-whole c =
    let a = c.args in
    let ws = a.words.now in
    let bs = a.arena.now in
    let flag = flag_number a.shown in
    let left = left_rows a.shown ws bs a.end (a.at + 1) in
    let many = c.count_tree-size.result.tag in
    let b = c.count_tree-size.ensures.byte in
    let front = 20 + c.padded_length-front.result in
    let f : front ≡ front_at many = ap (λ (k : ℕ). 20 + k) c.padded_length-front.ensures in
    let message = tree_head (tags left) ++ tree_body flag (record_in ws a.at).number (children_at ws bs a.end a.at) (arguments left) in
    let whole : length message ≡ front_at many + 12 + length (arguments left) = message_size (tags left) (arguments left) many flag (record_in ws a.at).number (children_at ws bs a.end a.at) c.count_tree-size.ensures.tag in
    subst (λ (l : List ℕ). Sends l a.out.now (Refused NoRoom) a.out.now) (tree-message flag (record_in ws a.at).number (children_at ws bs a.end a.at) left)
    (sends_none message a.out.now (omega (arith, c.if-out-whole.true)))

pub tree_children-children-requires : goal.tree_children-children-requires
tree_children-children-requires c = nested c.args.words.now c.args.arena.now c.requires.state c.args.at c.args.end (omega (arith, c.requires.order)) c.requires.ends

pub overflow_mul-number : goal.overflow_mul-number
overflow_mul-number c = omega (arith, c.requires.order, c.requires.ends, c.requires.state.few)

pub overflow_add-number : goal.overflow_add-number
overflow_add-number c = omega (arith, c.requires.order, c.requires.ends, c.requires.state.few)

pub offset_bounds-words-at : goal.offset_bounds-words-at
offset_bounds-words-at c = omega (arith, c.requires.order, c.requires.ends, c.requires.state.few)

pub bounds-words-at : goal.bounds-words-at
bounds-words-at c = omega (arith, c.requires.order, c.requires.ends, c.requires.state.few, c.requires.state.size)

pub bounds-children-at : goal.bounds-children-at
bounds-children-at c = omega (arith, c.requires.order, c.requires.ends, c.requires.state.few)

pub put_front-requires : goal.put_front-requires
put_front-requires c =
    let a = c.args in
    let ws = a.words.now in
    let bs = a.arena.now in
    let flag = flag_number a.shown in
    let left = left_rows a.shown ws bs a.end (a.at + 1) in
    let many = c.count_tree-size.result.tag in
    let b = c.count_tree-size.ensures.byte in
    let front = 20 + c.padded_length-front.result in
    let f : front ≡ front_at many = ap (λ (k : ℕ). 20 + k) c.padded_length-front.ensures in
    record { few = c.count_tree-size.ensures.few; is = f; room = omega (arith, c.if-out-whole.false) }

pub put_tree-requires : goal.put_tree-requires
put_tree-requires c =
    let a = c.args in
    let ws = a.words.now in
    let bs = a.arena.now in
    let flag = flag_number a.shown in
    let left = left_rows a.shown ws bs a.end (a.at + 1) in
    let many = c.count_tree-size.result.tag in
    let b = c.count_tree-size.ensures.byte in
    let front = 20 + c.padded_length-front.result in
    let f : front ≡ front_at many = ap (λ (k : ℕ). 20 + k) c.padded_length-front.ensures in
    let e = c.count_tree-size.ensures.tag in
    let long : length c.tree_children-children.result ≡ 256 = search rules in (
      record {
        run = c.requires;
        fact = λ on.
            elim c.if-shown.branch [
              | then-shown b ↦ subst (λ (l : List ℕ). Shapes c.args.words.now c.args.arena.now (c.args.at + 1) c.args.end l) (sym b.shapes-is) b.tree_shapes.ensures
              | else-shown b ↦ absurd (false≢true (sym b.if-shown.false ∙ on))
            ];
      },
      omega (arith, c.requires.ends, c.requires.state.few),
      λ i h l. c.tree_children-children.ensures bs i (omega arith) l,
      record { apart = omega (arith, tags_size left); room = omega (arith, c.if-out-whole.false) },
    )

pub returns : goal.returns
returns c =
    let a = c.args in
    let ws = a.words.now in
    let bs = a.arena.now in
    let flag = flag_number a.shown in
    let left = left_rows a.shown ws bs a.end (a.at + 1) in
    let many = c.count_tree-size.result.tag in
    let b = c.count_tree-size.ensures.byte in
    let front = 20 + c.padded_length-front.result in
    let f : front ≡ front_at many = ap (λ (k : ℕ). 20 + k) c.padded_length-front.ensures in
    let message = tree_head (tags left) ++ tree_body flag (record_in ws a.at).number (children_at ws bs a.end a.at) (arguments left) in
    let whole : length message ≡ front_at many + 12 + length (arguments left) = message_size (tags left) (arguments left) many flag (record_in ws a.at).number (children_at ws bs a.end a.at) c.count_tree-size.ensures.tag in
    let live : a.at < a.end = omega (arith, c.requires.order) in
    let fitted = c.if-out-whole.false in
    let numbers : tree_front many front flag (get_or ws (nodes_place + width * a.at) 0) (get_or c.tree_children-children.result a.at 0) a.out.now ≡ tree_front many front flag (record_in ws a.at).number (children_at ws bs a.end a.at) a.out.now =
    ap₂ (λ (x y : ℕ). tree_front many front flag x y a.out.now) (number_fact ws bs a.at (run_at ws bs (a.at + 1) a.end a.at c.requires live)) (c.tree_children-children.ensures bs a.at (omega arith) live) in
    let written : c.put_tree.new.out ≡ over 0 message a.out.now =
    c.put_tree.ensures.buffer
    ∙ ap (λ (l : List ℕ). over (front + 12) (arguments left) (over 24 (tags left) l)) (c.put_front.ensures ∙ numbers)
    ∙ tree_put (tags left) (arguments left) a.out.now many front flag (record_in ws a.at).number (children_at ws bs a.end a.at) c.count_tree-size.ensures.tag f (omega (arith, fitted)) in
    subst (λ (l : List ℕ). Sends l a.out.now (Replied (front + 12 + c.count_tree-size.result.byte)) c.put_tree.new.out) (tree-message flag (record_in ws a.at).number (children_at ws bs a.end a.at) left)
    (sends_all message a.out.now (front + 12 + c.count_tree-size.result.byte) c.put_tree.new.out (omega arith) (omega (arith, fitted)) written)
