use Rattle.std.proofs.Common.{ℕ, Bool, List, [], ◌∷◌, ◌≡◌, refl, ◌∙◌, leb, arith, rules}
use borrow.Author.Tests.{tests}
use Rattle.std.specs.List.{list_all}
use Rattle.std.proofs.lemmas.Iterator.{YieldsList-from_slice}
use Rattle.std.proofs.lemmas.Iterator.Search.{all_from_yields_List}
use Rattle.words.specs.Choice.{both}
use Rattle.format.specs.Fields.{name_bytes}
use Rattle.fields.proofs.name.is_name.Goals as goal

-- a byte of a name
abbrev in_name : ℕ → Bool
in_name b = both (leb 1 b) (leb b 127)

each : (bs : List ℕ) → list_all in_name bs ≡ name_bytes bs
unfolding name_bytes
each [] = refl
each (b ∷ bs) = grind (arith, each bs)

pub returns : goal.returns
returns c =
    all_from_yields_List in_name _ _ _ c.all.ensures.ran (YieldsList-from_slice c.args.bytes.now cc) (λ x b q k. search (rules, tests))
    ∙ each c.args.bytes.now
