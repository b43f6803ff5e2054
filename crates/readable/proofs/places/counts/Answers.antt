use Rattle.std.proofs.Common.{◌∙◌, refl, arith}
use Rattle.readable.specs.Readable.{parts, constants_fact, parameters_fact, names_fact, counts_fact}
use Rattle.readable.proofs.places.counts.Goals as goal

pub bounds-s-0 : goal.bounds-s-0
bounds-s-0 c =
    let w = parts c.args.s.now c.requires.reads in
    omega (arith, w.within)

pub word_at-constants-requires : goal.word_at-constants-requires
word_at-constants-requires c =
    let w = parts c.args.s.now c.requires.reads in
    omega (arith, w.named, w.within)

pub word_at-parameters-requires : goal.word_at-parameters-requires
word_at-parameters-requires c =
    let w = parts c.args.s.now c.requires.reads in
    let k = c.word_at-constants.ensures ∙ constants_fact w in
    omega (arith, w.named, w.within)

pub word_at-names-requires : goal.word_at-names-requires
word_at-names-requires c =
    let w = parts c.args.s.now c.requires.reads in
    let k = c.word_at-constants.ensures ∙ constants_fact w in
    let p = c.word_at-parameters.ensures ∙ parameters_fact w c.word_at-constants.result k in
    omega (arith, w.named, w.within)

pub returns : goal.returns
returns c f end e =
    let w = parts c.args.s.now e in
    let k = c.word_at-constants.ensures ∙ constants_fact w in
    let p = c.word_at-parameters.ensures ∙ parameters_fact w c.word_at-constants.result k in
    let n = c.word_at-names.ensures ∙ names_fact w c.word_at-constants.result c.word_at-parameters.result k p in
    counts_fact w c.word_at-constants.result c.word_at-constants.result c.word_at-parameters.result c.word_at-parameters.result c.word_at-names.result k refl p refl n
