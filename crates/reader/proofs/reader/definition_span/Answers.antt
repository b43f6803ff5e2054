use Rattle.std.proofs.Common.{◌∙◌, ap}
use Rattle.reader.specs.declared.reader.Opened.{Opened}
use Rattle.reader.specs.Walk.{spanned, past}
use Rattle.reader.specs.SpanLaws.{span_there}
use Rattle.reader.proofs.reader.definition_span.Goals as goal

-- the reader that `open` answers is past its first place by so many, where `span_there` says what stands
pub returns : goal.returns
returns c =
    let i = c.args.index in
    c.span.ensures
    ∙ ap spanned c.skip.ensures
    ∙ ap (λ (o : Opened). spanned (past i o.reader)) c.open.ensures.opens
    ∙ span_there c.args.file.now i
