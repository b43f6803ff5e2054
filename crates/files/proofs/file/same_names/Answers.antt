use Rattle.std.proofs.Common.{sym, ◌∙◌}
use Rattle.files.specs.FileLaws.{names-apart}
use Rattle.files.proofs.file.same_names.Goals as goal

pub returns-then-name_key : goal.returns-then-name_key
returns-then-name_key c =
    let a = c.args in
    sym (names-apart a.s.now a.other a.at c.requires c.if-other-at.true (λ same. c.if-name_key.true (c.name_key.ensures ∙ same ∙ sym c.name_key-then-other-at.ensures)))
