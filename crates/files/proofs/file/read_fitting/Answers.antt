use Rattle.std.proofs.Common.{sym, ◌∙◌}
use Rattle.format.specs.Reader.{definition_by}
use Rattle.format.specs.Endings.{mapped_got}
use Rattle.encoding.specs.Encoding.{fields_in}
use Rattle.files.specs.File.{names_from}
use Rattle.files.specs.FileLaws.{fitting_read, definition_named}
use Rattle.files.proofs.file.read_fitting.Goals as goal

pub name_among-requires : goal.name_among-requires
name_among-requires c =
    let a = c.args in
    definition_named a.width a.s.now a.cursor.at (mapped_got fields_in (definition_by a.width a.s.now a.cursor.at) (sym c.in_ok-fields.ensures.0)).read

pub returns-then-name_among : goal.returns-then-name_among
returns-then-name_among c =
    let a = c.args in
    let names = names_from a.s.now a.starts.now in
    let read = (mapped_got fields_in (definition_by a.width a.s.now a.cursor.at) (sym c.in_ok-fields.ensures.0)).read in
    (rw (fitting_read a.width a.s.now names a.cursor.at read, sym (c.too_long.ensures _ read) ∙ c.if-too_long.false, sym c.name_among.ensures ∙ c.if-name_among.true), c.next_definition.ensures.1)

pub returns : goal.returns
returns c =
    let a = c.args in
    let names = names_from a.s.now a.starts.now in
    let read = (mapped_got fields_in (definition_by a.width a.s.now a.cursor.at) (sym c.in_ok-fields.ensures.0)).read in
    (rw (fitting_read a.width a.s.now names a.cursor.at read, sym (c.too_long.ensures _ read) ∙ c.if-too_long.false, sym c.name_among.ensures ∙ c.if-name_among.false), c.next_definition.ensures.1)
