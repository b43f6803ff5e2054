use Rattle.std.proofs.Common.{ℕ, ◌≡◌, ◌+◌, ◌*◌, List, length, take, refl, sym, ap, ◌∙◌, arith, length-take-le}
use Rattle.words.specs.Parts.{over}
use Rattle.osc.specs.Over.{over_length}
use Rattle.replies.specs.Words.{word_bytes, over_none, word_bytes_none, word_bytes_size, next_word}
use Rattle.replies.proofs.put_words.Goals as goal

pub loop-i-init : goal.loop-i-init
loop-i-init c =
    let a = c.args in
    (sym (ap (λ (l : List ℕ). over a.at l a.out.now) word_bytes_none ∙ over_none a.at a.out.now), refl)

pub loop-i-preserved : goal.loop-i-preserved
loop-i-preserved c =
    let a = c.args in
    let i = c.loop-i.i in
    let inv = c.loop-i.invariant in
    let more : c.put_int.new.out ≡ over a.at (word_bytes (take (i + 1) a.words.now)) a.out.now = rw inv.0 at c.put_int.ensures ∙ next_word a.at i a.words.now a.out.now (omega arith) (omega arith) in
    let size : length (word_bytes (take (i + 1) a.words.now)) ≡ 4 * (i + 1) = word_bytes_size (take (i + 1) a.words.now) ∙ ap (λ (k : ℕ). 4 * k) (length-take-le (i + 1) a.words.now (omega arith)) in
    (more, ap length more ∙ over_length a.at (word_bytes (take (i + 1) a.words.now)) a.out.now (omega arith))
