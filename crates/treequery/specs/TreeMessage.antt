-- /g_queryTree's reply, by the pieces that are written.
use Rattle.std.specs.Prelude.{ℕ, ◌+◌, ◌-◌, ◌%◌, ◌≤◌, ◌≡◌, refl, List, [], ◌∷◌, ◌++◌, length, replicate}
use Rattle.std.proofs.Common.{sym, ap, ap₂, ◌∙◌, append_assoc, arith, length-append}
use Rattle.std.proofs.lemmas.List.{length-replicate}
use Rattle.osc.specs.Message.{Argument, int, message, padded, tags, arguments}
use Rattle.words.specs.Parts.{over}
use Rattle.osc.specs.Over.{over_length, over_over}
use Rattle.osc.specs.Lengths.{padded_size}
use Rattle.model.specs.Replies.{tree_address}
use Rattle.replies.specs.Words.{word_bytes, word_bytes_size}
use Rattle.treequery.specs.Places.{most_tags}
use Rattle.treequery.specs.Apart.{over_before, over_swap}

-- the tags of the flag, the group and the number of its children
abbrev pub first_tags : List ℕ
first_tags = 44 ∷ (105 ∷ (105 ∷ (105 ∷ [])))

abbrev pub tree_head : List ℕ → List ℕ
tree_head ts = padded tree_address ++ padded (first_tags ++ ts)

abbrev pub tree_body : ℕ → ℕ → ℕ → List ℕ → List ℕ
tree_body flag number children values = word_bytes (flag ∷ (number ∷ (children ∷ []))) ++ values

pub tree-message : (flag number children : ℕ) (l : List Argument)
    → tree_head (tags l) ++ tree_body flag number children (arguments l) ≡ message tree_address (int flag ∷ (int number ∷ (int children ∷ l)))
unfolding word_bytes tags arguments
tree-message flag number children l = append_assoc (padded tree_address) (padded (first_tags ++ tags l)) (tree_body flag number children (arguments l))

pub head-size : (ts : List ℕ) → length (tree_head ts) ≡ 20 + (length ts + 4 + (4 - (length ts + 4) % 4))
head-size ts =
    let four : length (first_tags ++ ts) ≡ length ts + 4 = omega arith in
    length-append (padded tree_address) (padded (first_tags ++ ts))
    ∙ ap (λ (k : ℕ). 20 + k) (padded_size (first_tags ++ ts) ∙ ap (λ (k : ℕ). k + (4 - k % 4)) four)

pub body_size : (flag number children : ℕ) (values : List ℕ) → length (tree_body flag number children values) ≡ 12 + length values
body_size flag number children values =
    length-append (word_bytes (flag ∷ (number ∷ (children ∷ [])))) values ∙ ap (λ (k : ℕ). k + length values) (word_bytes_size (flag ∷ (number ∷ (children ∷ []))))

-- the zeros behind so many tags
abbrev pub tag_zeros : ℕ → List ℕ
tag_zeros many = replicate (4 - (many + 4) % 4) 0

-- where the arguments start
abbrev pub front_at : ℕ → ℕ
front_at many = 20 + (many + 4 + (4 - (many + 4) % 4))

-- what stands before and between the rows' tags and arguments
abbrev pub tree_front : ℕ → ℕ → ℕ → ℕ → ℕ → List ℕ → List ℕ
tree_front many front flag number children us =
    over front (word_bytes (flag ∷ (number ∷ (children ∷ [])))) (over (24 + many) (tag_zeros many) (over 20 first_tags (over 0 (padded tree_address) us)))

pub message_size : (ts vs : List ℕ) (many flag number children : ℕ) → many ≡ length ts → length (tree_head ts ++ tree_body flag number children vs) ≡ front_at many + 12 + length vs
message_size ts vs many flag number children m =
    length-append (tree_head ts) (tree_body flag number children vs)
    ∙ ap₂ (λ (x y : ℕ). x + y) (head-size ts ∙ ap front_at (sym m)) (body_size flag number children vs)
    ∙ omega arith

pub record FrontRoom (many front : ℕ) (out : List ℕ) : Type 0 where
  pub few : many ≤ most_tags
  pub is : front ≡ front_at many
  pub room : front + 12 ≤ length out

-- the whole, as it is written: the rows' tags and arguments last
module _ (ts vs us : List ℕ) (many front flag number children : ℕ) (m : many ≡ length ts) (f : front ≡ front_at many) (room : front + 12 + length vs ≤ length us) where
  abbrev a : List ℕ
  a = padded tree_address

  abbrev b : List ℕ
  b = word_bytes (flag ∷ (number ∷ (children ∷ [])))

  abbrev z : List ℕ
  z = tag_zeros many

  zeros : length z ≡ 4 - (many + 4) % 4
  zeros = length-replicate (4 - (many + 4) % 4) 0

  twelve : length b ≡ 12
  twelve = word_bytes_size (flag ∷ (number ∷ (children ∷ [])))

  tagged : length (ts ++ z) ≡ many + (4 - (many + 4) % 4)
  tagged = length-append ts z ∙ omega (arith, zeros)

  first : over 20 first_tags (over 0 a us) ≡ over 0 (a ++ first_tags) us
  first = over_over 0 20 a first_tags us refl (omega arith)

  head : over 24 ts (tree_front many front flag number children us) ≡ over 0 (a ++ first_tags ++ (ts ++ z) ++ b) us
  head =
      let o = over 0 (a ++ first_tags) us in
      let long : length o ≡ length us = over_length 0 (a ++ first_tags) us (omega arith) in
      let zeroed : length (over (24 + many) z o) ≡ length o = over_length (24 + many) z o (omega (arith, zeros)) in
      ap (λ (l : List ℕ). over 24 ts (over front b (over (24 + many) z l))) first
      ∙ sym (over_swap 24 front ts b (over (24 + many) z o) (omega arith) (omega (arith, twelve)))
      ∙ ap (λ (l : List ℕ). over front b l)
      (over_before 24 (24 + many) ts z o (omega arith) (omega (arith, zeros))
      ∙ over_over 0 24 (a ++ first_tags) (ts ++ z) us refl (omega (arith, tagged)))
      ∙ over_over 0 front (a ++ first_tags ++ (ts ++ z)) b us (simp length-append (omega (arith, zeros))) (omega (arith, twelve))

  pub tree_put : over (front + 12) vs (over 24 ts (tree_front many front flag number children us)) ≡ over 0 (tree_head ts ++ tree_body flag number children vs) us
  tree_put =
      let four : many + 4 ≡ length (first_tags ++ ts) = omega arith in
      let same : z ≡ replicate {A = ℕ} (4 - length (first_tags ++ ts) % 4) 0 = ap (λ (k : ℕ). replicate {A = ℕ} (4 - k % 4) 0) four in
      ap (λ (l : List ℕ). over (front + 12) vs l) head
      ∙ over_over 0 (front + 12) (a ++ first_tags ++ (ts ++ z) ++ b) vs us (simp length-append (omega (arith, zeros, twelve))) (omega arith)
      ∙ ap (λ (l : List ℕ). over 0 (a ++ first_tags ++ l) us) (append_assoc (ts ++ z) b vs)
      ∙ ap (λ (l : List ℕ). over 0 (a ++ first_tags ++ (ts ++ l ++ (b ++ vs))) us) same
