-- The worked examples of lists are of calls: in a fresh engine a list ends as it is worked out.
use Rattle.std.specs.Prelude.{true, ◌≡◌}
use Rattle.std.proofs.Common.{ap, ◌∙◌}
use Rattle.model.specs.Formed.{formed}
use Rattle.model.specs.Chain.{State, engine_in, Fresh}
use Rattle.model.specs.Fresh.{fresh_engine}
use Rattle.lists.specs.OneByOne.{list_number}
use Rattle.lists.specs.OnEngine.{list_on, list-on}
use Rattle.demands.specs.FreshState.{fresh-state, fresh_formed}
use Rattle.demands.specs.Session.{Listed, list, Promised}

pub fresh_lists : (s : State) → Fresh s → (m : Listed) → Promised (list m) s → list_number m.outcome ≡ list_number (list_on m.items m.bytes fresh_engine)
fresh_lists s f m p =
    let same = fresh-state s f in
    let whole : formed s.words s.arena ≡ true = ap (λ (x : State). formed x.words x.arena) same ∙ fresh_formed in
    ap list_number (p.ends ∙ list-on m.items m.bytes s p.lent_bytes whole ∙ ap (λ (x : State). list_on m.items m.bytes (engine_in x)) same)
