use Prim.Native.Nat.{◌-◌}
use mathlib.Core.Path.{◌≡◌}
use native.Mathlib.Omega.{arith}
use lib.ListN.{length, length-set}
use Rattle.format.specs.Writer.{write_definition}
use Rattle.model.specs.Layout.{start_of}
use Rattle.definitions.proofs.place.Goals as goal

pub widen-past-requires : goal.widen-past-requires
widen-past-requires c =
    let p = c.requires in
    let h = p.1.1 in
    let size = p.0.arena_size in
    let start = c.start_of-start.ensures in
    let small = h.small in
    record { readable = record { definition = h.definition; read = h.read }; room = omega arith }

pub overflow_sub-table : goal.overflow_sub-table
overflow_sub-table c =
    let h = c.requires.1.1 in
    let w = c.widen-past.ensures h.definition h.read in
    omega (arith, w.end)

pub overflow_cast-table : goal.overflow_cast-table
overflow_cast-table c =
    let h = c.requires.1.1 in
    let w = c.widen-past.ensures h.definition h.read in
    omega (arith, w.end, h.small)

pub bounds-table-k-2 : goal.bounds-table-k-2
bounds-table-k-2 c = simp length-set (omega arith)

pub returns : goal.returns
returns c =
    λ d e.
    let w = c.widen-past.ensures d e in
    let a = c.args in
    let p = c.requires in
    let start : c.start_of-start.result ≡ start_of a.k = omega (arith, c.start_of-start.ensures, p.0.arena_size, p.1.0) in
    let size : c.widen-past.result - c.start_of-start.result ≡ length (write_definition d) = omega (arith, w.end) in
    (rw size, rw start at w.bytes)
