use mathlib.Core.Path.{◌≡◌, sym, ap, ◌∙◌}
use native.Mathlib.Omega.{arith}
use Rattle.format.specs.declared.Width.TheVariants.{Short, Long}
use Rattle.format.specs.RepeatLaws.{got_value}
use Rattle.encoding.specs.Encoding.{fields_in}
use Rattle.encoding.specs.Lengths.{definition_longer, file-length, sized}
use Rattle.encoding.proofs.encoded_length.Goals as goal

pub overflow_sub-size : goal.overflow_sub-size
overflow_sub-size c =
    let a = c.args in
    let p = c.requires in
    let z = sized a.width a.s.now p.bytes a.at a.end p.definition p.read in
    z.forward

pub overflow_mul-result : goal.overflow_mul-result
overflow_mul-result c =
    let a = c.args in
    let p = c.requires in
    let z = sized a.width a.s.now p.bytes a.at a.end p.definition p.read in
    omega (arith, z.inside, z.few, p.counted)

pub overflow_add-result : goal.overflow_add-result
overflow_add-result c =
    let a = c.args in
    let p = c.requires in
    let z = sized a.width a.s.now p.bytes a.at a.end p.definition p.read in
    omega (arith, z.inside, z.few, p.counted)

pub returns-in-Long : goal.returns-in-Long
returns-in-Long c =
    λ d h.
    let a = c.args in
    let p = c.requires in
    sym (file-length Long a.s.now p.bytes a.at (rw c.in-Long.is at h))

pub returns-in-Short : goal.returns-in-Short
returns-in-Short c =
    λ d h.
    let a = c.args in
    let p = c.requires in
    let one : p.definition ≡ d = got_value (sym p.read ∙ h) in
    let count : a.fields ≡ fields_in d = p.counted ∙ ap fields_in one in
    let short = file-length Short a.s.now p.bytes a.at (rw c.in-Short.is at h) in
    omega (arith, definition_longer d)
