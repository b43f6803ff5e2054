use Rattle.std.proofs.Common.{ℕ, ◌≡◌, ◌+◌, List, [], ◌∷◌, length, take, sym, ap, ◌∙◌, arith}
use Rattle.osc.specs.Message.{tag_of, tags, Argument}
use Rattle.words.specs.Parts.{over}
use Rattle.osc.specs.Over.{over_length}
use Rattle.replies.specs.Words.{over_none}
use Rattle.messages.specs.Table.{give, give_all}
use Rattle.messages.specs.Rows.{slots_of}
use Rattle.messagewrite.specs.Codes.{given}
use Rattle.messagewrite.specs.Slots.{next_tag, tags_taken, taken_all}
use Rattle.messagewrite.specs.Pieces.{two_parts}
use Rattle.messagewrite.proofs.put.put_tags.Goals as goal
use Rattle.std.proofs.Common.{refl}

pub loop-k-init : goal.loop-k-init
unfolding tags
loop-k-init c = ((λ bytes. sym (over_none c.args.at c.args.out.now)), refl)

pub loop-k-preserved : goal.loop-k-preserved
loop-k-preserved c =
    let a = c.args in
    let us = a.out.now in
    let slots = slots_of a.numbers.op in
    let k = c.loop-k.k in
    let o = c.put_byte.new.out in
    let more : (bytes : List ℕ) → o ≡ over a.at (tags (take (k + 1) (give_all slots (given a.numbers bytes)))) us =
    λ bytes.
    (let g = given a.numbers bytes in
    let tag = tag_of (give c.slot.result g) in
    let done = tags (take k (give_all slots g)) in
    let put : o ≡ over (a.at + k) (tag ∷ []) c.loop-k.out = c.put_byte.ensures ∙ ap (λ (b : ℕ). over (a.at + k) (b ∷ []) c.loop-k.out) (c.argument_tag.ensures bytes) in
    two_parts a.at done (tag ∷ []) us c.loop-k.out o (a.at + k) (omega (arith, tags_taken slots g k (omega arith))) (c.loop-k.invariant.0 bytes) put (omega arith)
    ∙ ap (λ (p : List ℕ). over a.at p us) (sym (next_tag slots g k c.slot.result c.slot.ensures))) in
    let g = given a.numbers [] in
    (more, ap length (more []) ∙ over_length a.at (tags (take (k + 1) (give_all slots g))) us (omega (arith, tags_taken slots g (k + 1) (omega arith))))

pub returns : goal.returns
returns c =
    let a = c.args in
    let slots = slots_of a.numbers.op in
    let e : c.loop-k.k ≡ length slots = omega arith in
    λ bytes. c.loop-k.invariant.0 bytes ∙ ap (λ (l : List Argument). over a.at (tags l) a.out.now) (taken_all slots (given a.numbers bytes) c.loop-k.k e)
