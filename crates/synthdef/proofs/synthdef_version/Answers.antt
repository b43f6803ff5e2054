use Rattle.std.proofs.Common.{sym, ap, ◌∙◌}
use Rattle.format.specs.Writer.{version_of}
use Rattle.synthdef.specs.Reading.{accepted, refused, version_accepted, version_refused}
use Rattle.synthdef.proofs.synthdef_version.Goals as goal

pub returns-in-Ok : goal.returns-in-Ok
returns-in-Ok c =
    let s = c.args.file.now in
    c.version_of.ensures ∙ ap version_of c.width_of.ensures ∙ version_accepted s (accepted s (sym c.in-Ok.ensures))

pub returns-in-Err : goal.returns-in-Err
returns-in-Err c =
    let s = c.args.file.now in
    version_refused s (refused s (sym c.in-Err.ensures))
