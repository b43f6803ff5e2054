-- The few words of a fresh engine that are no zeros.
use Rattle.std.specs.Prelude.{ℕ, ◌+◌, ◌≡◌, refl, List, [], ◌∷◌, ◌++◌, set, replicate}
use Rattle.std.proofs.Common.{sym, ap, ◌∙◌}
use Rattle.std.proofs.lemmas.List.{replicate-append-replicate}
use Rattle.nodes.specs.Table.{run_field, slot_field, encode}
use Rattle.nodes.specs.Place.{group_slot}
use Rattle.nodes.specs.Formed.{first_given}
use Rattle.model.specs.Layout.{slot_count, nodes_place, words_length}
use Rattle.model.specs.After.{root, root_end, behind_root, fresh_state}

-- what `fresh` sets in words that are zeros: the count, the next number, and the root's run flag and slot
abbrev pub rooted : List ℕ → List ℕ
rooted ws = set (set (set (set ws 0 1) 2 first_given) (nodes_place + run_field) 1) (nodes_place + slot_field) group_slot

fresh_front : (rest : List ℕ) → rooted (replicate root_end 0 ++ rest) ≡ 1 ∷ (0 ∷ (first_given ∷ (0 ∷ (replicate (slot_count + slot_count) 0 ++ (encode (root ∷ []) ++ rest)))))
unfolding encode
fresh_front rest = refl

pub fresh-words : (ws : List ℕ) → ws ≡ replicate words_length 0 → rooted ws ≡ fresh_state
fresh-words ws h =
    ap rooted (h ∙ sym (replicate-append-replicate root_end behind_root 0)) ∙ fresh_front (replicate behind_root 0)
