use Prim.Native.Nat.{suc, ◌+◌, ◌*◌}
use mathlib.Core.Path.{◌≡◌, sym, ◌∙◌}
use native.Mathlib.Omega.{arith}
use lib.ListN.{drop, get_or}
use Rattle.nodes.specs.Table.{width, rows, depth_field}
use Rattle.nodes.specs.Place.{deeper}
use Rattle.nodes.specs.PlaceLaws.{deeper_turn, deeper_end}
use Rattle.tree.proofs.search.subtree_end.Goals as goal

pub returns-then-not-is_deeper : goal.returns-then-not-is_deeper
returns-then-not-is_deeper c =
    let a = c.args in
    let d = get_or a.nodes.now (width * a.at + depth_field) 0 in
    let i = c.loop-i.i in
    let here : deeper d (drop i (rows a.count a.nodes.now)) ≡ 0 =
    rw (sym c.is_deeper.ensures ∙ c.if-not-is_deeper.true) at (deeper_turn a.count a.nodes.now d i (omega arith)) in
    omega arith

pub loop-i-preserved : goal.loop-i-preserved
loop-i-preserved c =
    let a = c.args in
    let d = get_or a.nodes.now (width * a.at + depth_field) 0 in
    let i = c.loop-i.i in
    let on : deeper d (drop i (rows a.count a.nodes.now)) ≡ suc (deeper d (drop (i + 1) (rows a.count a.nodes.now))) =
    rw (sym c.is_deeper.ensures ∙ c.if-not-is_deeper.false) at (deeper_turn a.count a.nodes.now d i (omega arith)) in
    omega arith

pub returns : goal.returns
returns c =
    let a = c.args in
    let d = get_or a.nodes.now (width * a.at + depth_field) 0 in
    let i = c.loop-i.i in
    let none : deeper d (drop i (rows a.count a.nodes.now)) ≡ 0 = deeper_end a.count a.nodes.now d i (omega arith) in
    omega arith
