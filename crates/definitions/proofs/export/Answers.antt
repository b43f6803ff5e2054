use Rattle.definitions.specs.Exporting.{head_of}
use Rattle.words.specs.Parts.{put}
use Rattle.definitions.specs.Retiring.{whole-size}
use Rattle.slots.specs.Slots.{count_few}
use Rattle.definitions.specs.Exporting.{export_size, exporting_first, exporting_next, exporting_room, exporting_within, exporting_skip, exporting_whole}
use Prim.{tt}
use Prim.Native.Nat.{ℕ, ◌+◌, ◌<◌}
use mathlib.Core.Path.{◌≡◌, ap, ◌∙◌}
use native.Mathlib.Omega.{arith}
use borrow.Author.Tests.{eq-eqb, ne_eqb}
use lib.ListN.{length, get_or}
use Rattle.definitions.proofs.export.Goals as goal
use Rattle.definitions.proofs.export.Goals.{then-table-k-eq1, else-table-k-eq1}

pub resident_count-requires : goal.resident_count-requires
resident_count-requires c = c.requires.0.sized.table_size

pub overflow_cast-resident_count : goal.overflow_cast-resident_count
overflow_cast-resident_count c =
    let a = c.args in
    let n = c.resident_count.ensures a.arena.now in
    omega (arith, count_few a.table.now a.arena.now)

pub write_head-requires : goal.write_head-requires
write_head-requires c =
    let a = c.args in
    let room = c.requires.1 in
    omega (arith, export_size a.table.now a.arena.now)

pub loop-k-init : goal.loop-k-init
loop-k-init c =
    let a = c.args in
    let count = c.resident_count.ensures a.arena.now in
    exporting_first a.table.now a.arena.now a.out.now c.write_head.new.out c.requires.1 (c.write_head.ensures ∙ ap (λ (n : ℕ). put 0 10 (head_of n) a.out.now) count)

pub bytes_on-bytes-requires : goal.bytes_on-bytes-requires
bytes_on-bytes-requires c = tt

pub copy_in-requires : goal.copy_in-requires
copy_in-requires c =
    let a = c.args in
    let table = a.table.now in
    let arena = a.arena.now in
    let less = c.loop-k-test.true in
    let in-slot = eq-eqb (get_or table (32 + c.loop-k.k) 0) 1 c.if-table-k-eq1.true in
    let part : length c.bytes_on-bytes.result.now ≡ get_or table c.loop-k.k 0 =
    ap length c.bytes_on-bytes.ensures ∙ whole-size table arena c.loop-k.k c.requires.0.sized less (c.requires.0.resident c.loop-k.k less in-slot) in
    let room = exporting_room table arena c.write_head.new.out c.loop-k.k c.loop-k.at c.loop-k.out (λ i. (c.type_inv.arena i).fits) c.requires.0 c.loop-k.invariant less in-slot in
    omega arith

pub overflow_add-at : goal.overflow_add-at
overflow_add-at c =
    let a = c.args in
    let table = a.table.now in
    let arena = a.arena.now in
    let less = c.loop-k-test.true in
    let in-slot = eq-eqb (get_or table (32 + c.loop-k.k) 0) 1 c.if-table-k-eq1.true in
    let part : length c.bytes_on-bytes.result.now ≡ get_or table c.loop-k.k 0 =
    ap length c.bytes_on-bytes.ensures ∙ whole-size table arena c.loop-k.k c.requires.0.sized less (c.requires.0.resident c.loop-k.k less in-slot) in
    let within = exporting_within table arena c.write_head.new.out c.loop-k.k c.loop-k.at c.loop-k.out (λ i. (c.type_inv.arena i).fits) c.requires.0 c.loop-k.invariant less in-slot in
    let room = c.requires.1 in
    record { fits = omega (arith, c.well_formed.1.1.0.0) }

pub loop-k-preserved : goal.loop-k-preserved
loop-k-preserved c =
    let a = c.args in
    let table = a.table.now in
    let arena = a.arena.now in
    let less = c.loop-k-test.true in
    let start = c.write_head.new.out in
    let b : (i : ℕ) → get_or arena i 0 < 256 = λ i. (c.type_inv.arena i).fits in
    elim c.if-table-k-eq1.branch [
      | then-table-k-eq1 case ↦ let in-slot = eq-eqb (get_or table (32 + c.loop-k.k) 0) 1 case.if-table-k-eq1.true in
          let size : length case.bytes_on-bytes.result.now ≡ get_or table c.loop-k.k 0 = ap length case.bytes_on-bytes.ensures ∙ whole-size table arena c.loop-k.k c.requires.0.sized less (c.requires.0.resident c.loop-k.k less in-slot) in
          let at : c.if-table-k-eq1.at ≡ c.loop-k.at + get_or table c.loop-k.k 0 = case.at-is ∙ ap (λ (n : ℕ). c.loop-k.at + n) size in
          rw (at, case.out-is ∙ case.copy_in.ensures)
          (exporting_next table arena start c.loop-k.k c.loop-k.at c.loop-k.out b c.requires.0 c.loop-k.invariant less in-slot case.bytes_on-bytes.result.now case.bytes_on-bytes.ensures)
      | else-table-k-eq1 case ↦ let out = ne_eqb (get_or table (32 + c.loop-k.k) 0) 1 case.if-table-k-eq1.false in rw (case.out-is, case.at-is) (exporting_skip table arena start c.loop-k.k c.loop-k.at c.loop-k.out b c.requires.0 c.loop-k.invariant less out)
    ]

pub returns : goal.returns
returns c =
    let a = c.args in
    let count = c.resident_count.ensures a.arena.now in
    exporting_whole a.table.now a.arena.now a.out.now c.write_head.new.out c.loop-k.out c.loop-k.k c.loop-k.at c.requires.1
    (c.write_head.ensures ∙ ap (λ (n : ℕ). put 0 10 (head_of n) a.out.now) count) c.loop-k.invariant (omega arith)
