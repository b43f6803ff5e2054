use mathlib.Core.Path.{ap, ◌∙◌}
use mathlib.Core.Option.{Option}
use borrow.Author.Rules.{rules}
use Rattle.format.specs.Names.{Covered}
use Rattle.controls.specs.Encoded.{front_only}
use Rattle.controls.specs.Cover.{asked_in, cover_within}
use Rattle.controls.proofs.definition.asked_of.Goals as goal

pub key_cover-requires : goal.key_cover-requires
key_cover-requires c = search rules

pub asked_by-requires : goal.asked_by-requires
asked_by-requires c =
    let a = c.args in
    (c.requires, cover_within a.key a.name.now a.definition.now c.key_cover.result c.key_cover.ensures)

pub returns : goal.returns
returns c =
    let a = c.args in
    c.asked_by.ensures ∙ ap (λ (o : Option Covered). asked_in o a.count (front_only a.definition.now)) c.key_cover.ensures
