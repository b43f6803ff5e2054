-- The lengths of messages, by the lengths of their parts.
use Rattle.std.specs.Prelude.{ℕ, suc, ◌+◌, ◌-◌, ◌%◌, ◌≡◌, refl, List, [], ◌∷◌, ◌++◌, length, replicate}
use Rattle.std.proofs.Common.{sym, ap, ap₂, ◌∙◌, append_assoc, arith, length-append}
use Rattle.std.proofs.lemmas.List.{length-replicate}
use Rattle.osc.specs.Message.{Argument, padded, argument_bytes, tag_of, tags, arguments, message}

pub padded_size : (s : List ℕ) → length (padded s) ≡ length s + (4 - length s % 4)
padded_size s = length-append s (replicate (4 - length s % 4) 0) ∙ ap (λ (k : ℕ). length s + k) (length-replicate (4 - length s % 4) 0)

pub tags_size : (args : List Argument) → length (tags args) ≡ length args
unfolding tags
tags_size [] = refl
tags_size (a ∷ args) = ap suc (tags_size args)

pub tags-append : (l m : List Argument) → tags (l ++ m) ≡ tags l ++ tags m
unfolding tags
tags-append [] m = refl
tags-append (a ∷ l) m = ap (λ (k : List ℕ). tag_of a ∷ k) (tags-append l m)

pub arguments_append : (l m : List Argument) → arguments (l ++ m) ≡ arguments l ++ arguments m
unfolding arguments
arguments_append [] m = refl
arguments_append (a ∷ l) m =
    ap (λ (k : List ℕ). argument_bytes a ++ k) (arguments_append l m) ∙ sym (append_assoc (argument_bytes a) (arguments l) (arguments m))

-- the bytes of a message before its arguments
abbrev pub front_size : ℕ → ℕ → ℕ
front_size address args = address + (4 - address % 4) + (args + 1 + (4 - (args + 1) % 4))

pub message_size : (address : List ℕ) (args : List Argument) → length (message address args) ≡ front_size (length address) (length args) + length (arguments args)
message_size address args =
    let t : length (44 ∷ tags args) ≡ length args + 1 = let e : length (tags args) ≡ length args = tags_size args in omega arith in
    length-append (padded address) (padded (44 ∷ tags args) ++ arguments args)
    ∙ ap₂ (λ (a b : ℕ). a + b) (padded_size address)
    (length-append (padded (44 ∷ tags args)) (arguments args)
    ∙ ap (λ (k : ℕ). k + length (arguments args)) (padded_size (44 ∷ tags args) ∙ ap (λ (k : ℕ). k + (4 - k % 4)) t))
    ∙ omega arith
