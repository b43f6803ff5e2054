-- `treecommands::group::group_spot` meets its contract: each refusal by the check that fires.
use native.Mathlib.Omega.{arith}
use mathlib.Core.Bool.{true, false}
use mathlib.Core.Path.{◌≡◌, sym, ◌∙◌}
use Rattle.std.proofs.lemmas.Result.{err_from_is_err_and}
use Rattle.nodes.specs.Place.{lives}
use Rattle.model.specs.Layout.{count_in, nodes_in, node_words}
use Rattle.treecommands.specs.Finding.{lives_found}
use Rattle.treecommands.specs.Grouping.{group_negative, group_live, group_unknown, group_kind, group_full, group_ground}
use Rattle.treecommands.proofs.group.group_spot.Goals as goal

pub returns-then-number-ge2147483648 : goal.returns-then-number-ge2147483648
returns-then-number-ge2147483648 c =
    let a = c.args in
    group_negative a.number a.action a.target a.words.now c.if-number-ge2147483648.true

pub returns-then-is_some : goal.returns-then-is_some
returns-then-is_some c =
    let a = c.args in
    let ws = a.words.now in
    let seen = lives_found a.number (count_in ws) (node_words ws) c.place_of.result c.place_of.ensures.place c.place_of.ensures.below in
    let there : lives a.number (nodes_in ws) ≡ true = cc in
    group_live a.number a.action a.target ws (omega arith) there

pub returns-in_err-at : goal.returns-in_err-at
returns-in_err-at c =
    let a = c.args in
    let ws = a.words.now in
    let seen = lives_found a.number (count_in ws) (node_words ws) c.place_of.result c.place_of.ensures.place c.place_of.ensures.below in
    let fresh : lives a.number (nodes_in ws) ≡ false = cc in
    let p = err_from_is_err_and c.from_residual.result c.from_residual.ensures.1 in
    rw (p.1, p.2) (group_unknown a.number a.action a.target ws (omega arith) fresh _ c.in_err-at.ensures)

pub returns-then-bad_target : goal.returns-then-bad_target
returns-then-bad_target c =
    let a = c.args in
    let ws = a.words.now in
    let seen = lives_found a.number (count_in ws) (node_words ws) c.place_of.result c.place_of.ensures.place c.place_of.ensures.below in
    let fresh : lives a.number (nodes_in ws) ≡ false = cc in
    group_kind a.number a.action a.target ws (omega arith) fresh c.requires _ c.in_ok-at.ensures (sym c.bad_target.ensures ∙ c.if-bad_target.true)

pub returns-then-is_full : goal.returns-then-is_full
returns-then-is_full c =
    let a = c.args in
    let ws = a.words.now in
    let seen = lives_found a.number (count_in ws) (node_words ws) c.place_of.result c.place_of.ensures.place c.place_of.ensures.below in
    let fresh : lives a.number (nodes_in ws) ≡ false = cc in
    let kind = sym c.bad_target.ensures ∙ c.if-bad_target.false in
    group_full a.number a.action a.target ws (omega arith) fresh c.requires _ c.in_ok-at.ensures kind c.wide-count.result c.wide-count.ensures (sym c.is_full.ensures ∙ c.if-is_full.true)

pub returns : goal.returns
returns c =
    let a = c.args in
    let ws = a.words.now in
    let seen = lives_found a.number (count_in ws) (node_words ws) c.place_of.result c.place_of.ensures.place c.place_of.ensures.below in
    let fresh : lives a.number (nodes_in ws) ≡ false = cc in
    let kind = sym c.bad_target.ensures ∙ c.if-bad_target.false in
    group_ground a.number a.action a.target ws (omega arith) fresh c.requires _ c.in_ok-at.ensures kind c.wide-count.result c.wide-count.ensures (sym c.is_full.ensures ∙ c.if-is_full.false)
