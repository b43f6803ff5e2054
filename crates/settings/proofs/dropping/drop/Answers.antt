-- `settings::dropping::drop` meets its contract.
use mathlib.Core.Path.{sym, ◌∙◌}
use borrow.Author.Rules.{rules}
use Rattle.settings.specs.Dropping.{drop-unformed, drop_done, drop_none}
use Rattle.settings.proofs.dropping.drop.Goals as goal

pub returns-then-not-store_formed : goal.returns-then-not-store_formed
returns-then-not-store_formed c =
    let a = c.args in
    drop-unformed a.name.now a.number a.store.now (λ i. search rules) (sym c.store_formed.ensures ∙ c.if-not-store_formed.true)

pub returns-then-drop_version : goal.returns-then-drop_version
returns-then-drop_version c =
    let a = c.args in
    drop_done a.name.now a.number a.store.now (λ i. search rules) (sym c.store_formed.ensures ∙ c.if-not-store_formed.false) _ c.drop_version.result c.if-drop_version.true c.drop_version.ensures

pub returns-else-drop_version : goal.returns-else-drop_version
returns-else-drop_version c =
    let a = c.args in
    drop_none a.name.now a.number a.store.now (λ i. search rules) (sym c.store_formed.ensures ∙ c.if-not-store_formed.false) _ c.drop_version.result c.if-drop_version.false c.drop_version.ensures
