-- `statecheck::well_formed` meets its contract: each part tested is what its function ensures.
use mathlib.Core.Bool.{true, false}
use mathlib.Core.Path.{◌≡◌, sym, ◌∙◌}
use native.Mathlib.Omega.{arith}
use Rattle.statecheck.specs.Parts.{tree_part, slots_part, bad_size, bad_room, bad_tree, good_tree, few, ready}
use Rattle.statecheck.proofs.well_formed.Goals as goal

pub returns-then-words-ne-WORDS : goal.returns-then-words-ne-WORDS
returns-then-words-ne-WORDS c =
    let a = c.args in
    sym (bad_size a.words.now a.arena.now c.if-words-ne-WORDS.true)

pub returns-then-arena-ne-ARENA : goal.returns-then-arena-ne-ARENA
returns-then-arena-ne-ARENA c =
    let a = c.args in
    sym (bad_room a.words.now a.arena.now (omega arith) c.if-arena-ne-ARENA.true)

pub returns-then-not-tree_formed : goal.returns-then-not-tree_formed
returns-then-not-tree_formed c =
    let a = c.args in
    sym (bad_tree a.words.now a.arena.now (omega arith) (omega arith) (sym c.tree_formed.ensures ∙ c.if-not-tree_formed.true))

pub slots_hold-requires : goal.slots_hold-requires
slots_hold-requires c =
    let a = c.args in
    let tree : tree_part a.words.now ≡ true = sym c.tree_formed.ensures ∙ c.if-not-tree_formed.false in
    ((omega arith), ((omega arith), few a.words.now a.arena.now (omega arith) (omega arith) tree))

pub returns-then-not-slots_hold : goal.returns-then-not-slots_hold
returns-then-not-slots_hold c =
    let a = c.args in
    let tree : tree_part a.words.now ≡ true = sym c.tree_formed.ensures ∙ c.if-not-tree_formed.false in
    sym (good_tree a.words.now a.arena.now (omega arith) (omega arith) false tree (sym c.slots_hold.ensures ∙ c.if-not-slots_hold.true))

pub controls_formed-requires : goal.controls_formed-requires
controls_formed-requires c =
    let a = c.args in
    let tree : tree_part a.words.now ≡ true = sym c.tree_formed.ensures ∙ c.if-not-tree_formed.false in
    let slots : slots_part a.words.now a.arena.now ≡ true = sym c.slots_hold.ensures ∙ c.if-not-slots_hold.false in
    ready a.words.now a.arena.now (omega arith) (omega arith) tree slots

pub returns : goal.returns
returns c =
    let a = c.args in
    let tree : tree_part a.words.now ≡ true = sym c.tree_formed.ensures ∙ c.if-not-tree_formed.false in
    let slots : slots_part a.words.now a.arena.now ≡ true = sym c.slots_hold.ensures ∙ c.if-not-slots_hold.false in
    c.controls_formed.ensures ∙ sym (good_tree a.words.now a.arena.now (omega arith) (omega arith) true tree slots)
