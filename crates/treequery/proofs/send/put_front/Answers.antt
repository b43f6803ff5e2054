use Prim.Native.Nat.{ℕ, ◌+◌}
use mathlib.Core.Path.{ap, ◌∙◌}
use mathlib.Core.List.{List, [], ◌∷◌}
use Rattle.words.specs.Parts.{over}
use Rattle.replies.specs.Words.{word_bytes}
use Rattle.treequery.specs.TreeMessage.{first_tags, tag_zeros, tree_front}
use Rattle.treequery.proofs.send.put_front.Goals as goal

pub returns : goal.returns
returns c =
    let a = c.args in
    let fact = c.flag_number.result ∷ (a.number ∷ (a.children ∷ [])) in
    c.put_words.ensures
    ∙ ap (λ (l : List ℕ). over a.front (word_bytes fact) l) c.put_zeros.ensures
    ∙ ap (λ (l : List ℕ). over a.front (word_bytes fact) (over (24 + a.many) (tag_zeros a.many) l)) c.put_bytes.ensures
    ∙ ap (λ (l : List ℕ). over a.front (word_bytes fact) (over (24 + a.many) (tag_zeros a.many) (over 20 first_tags l))) c.put_padded.ensures
    ∙ ap (λ (k : ℕ). tree_front a.many a.front k a.number a.children a.out.now) c.flag_number.ensures
