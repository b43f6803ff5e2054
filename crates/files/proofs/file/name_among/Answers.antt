use Rattle.std.proofs.Common.{ℕ, List, [], ◌∷◌, ◌≡◌, refl, ◌∙◌, arith, rules}
use borrow.Author.Tests.{tests}
use Rattle.std.specs.List.{list_any}
use Rattle.std.proofs.lemmas.Iterator.{YieldsList-from_slice}
use Rattle.std.proofs.lemmas.Iterator.Search.{any_from_yields_List}
use Rattle.format.specs.Fields.{string_at}
use Rattle.format.specs.Reader.{same_name, among}
use Rattle.files.specs.File.{names_from}
use Rattle.files.proofs.file.name_among.Goals as goal

some_same : (n s starts : List ℕ) → list_any (λ m. same_name (string_at s m) n) starts ≡ among n (names_from s starts)
unfolding among
some_same n s [] = refl
some_same n s (m ∷ starts) = grind (arith, some_same n s starts)

pub returns : goal.returns
returns c =
    let a = c.args in
    any_from_yields_List (λ m. same_name (string_at a.s.now m) (string_at a.s.now a.at)) _ _ _ c.any.ensures.ran (YieldsList-from_slice a.starts.now cc) (λ x b q k. search (rules, tests))
    ∙ some_same (string_at a.s.now a.at) a.s.now a.starts.now
