use mathlib.Core.Path.{◌≡◌, sym, ap, ◌∙◌}
use Rattle.std.specs.Prelude.{Some}
use Rattle.readable.specs.declared.cover.Cover.{Cover}
use Rattle.readable.specs.Lookup.{cover_at}
use Rattle.values.specs.declared.Key.{Key}
use Rattle.values.specs.declared.Key.TheVariants.{Name}
use Rattle.model.specs.Meaning.{cover_of}
use Rattle.controls.specs.Encoded.{front_only, cover-fact}
use Rattle.controls.proofs.definition.key_cover.Goals as goal

pub returns-in-Index : goal.returns-in-Index
returns-in-Index c =
    let a = c.args in
    ap (λ (o : Cover). cover_at (Some o)) c.index_cover.ensures
    ∙ sym (ap (λ (k : Key). cover_of k a.name.now (front_only a.definition.now)) c.in-Index.is)

pub returns-in-Name : goal.returns-in-Name
returns-in-Name c =
    let a = c.args in
    let named : a.key ≡ Name = cc in
    c.name_cover.ensures
    ∙ cover-fact a.name.now a.definition.now
    ∙ sym (ap (λ (k : Key). cover_of k a.name.now (front_only a.definition.now)) named)
