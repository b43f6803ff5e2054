-- `store::find::holds_name` meets its contract.
use mathlib.Core.Path.{ap, ◌∙◌}
use mathlib.Core.List.{List}
use Prim.Native.Nat.{ℕ, ◌+◌, ◌-◌}
use Rattle.words.specs.Parts.{region}
use Rattle.format.specs.Reader.{same_name}
use Rattle.tagged.specs.Fields.{head_size}
use Rattle.store.specs.FindLaws.{contents_at}
use Rattle.store.proofs.find.holds_name.Goals as goal

pub returns : goal.returns
returns c =
    let a = c.args in
    c.same_name.ensures
    ∙ ap (λ (l : List ℕ). same_name l a.name.now)
    (ap (λ (k : ℕ). region (a.at + head_size) (k - (a.at + head_size)) a.store.now) c.past_field-end.ensures
    ∙ contents_at a.store.now a.at)
