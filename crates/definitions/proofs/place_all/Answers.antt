use Rattle.definitions.specs.Slots.{found_slot, found_none}
use Rattle.definitions.specs.Holders.{holders}
use Rattle.slots.specs.Slots.{slots_on}
use Rattle.model.specs.Effects.{free_from}
use Rattle.definitions.specs.Naming.{run_next}
use Rattle.definitions.specs.Loading.{loading_first, loading_next, loading_skip, loading_last}
use Rattle.definitions.specs.Files.{accepted_run}
use mathlib.Core.Path.{refl, ◌≡◌, sym, ◌∙◌}
use native.Mathlib.Omega.{arith}
use Rattle.definitions.proofs.place_all.Goals as goal

pub loop-at-init : goal.loop-at-init
loop-at-init c =
    let a = c.args in
    loading_first a.table.now a.arena.now a.file.now a.held c.requires.0 (accepted_run a.file.now (λ i. (c.type_inv.file i).fits) c.requires.1)

pub place-requires : goal.place-requires
place-requires c =
    let n = run_next c.loop-at.invariant.run c.loop-at-test.true in
    let end = c.definition_end-next.ensures n.first n.next n.here.read in
    let read = rw (sym c.width_of.ensures, sym end) at n.here.read in
    (c.loop-at.invariant.sized, ((found_slot _ _ (sym (c.lowest_free.ensures c.loop-at.arena) ∙ c.in-Some.is)).1, record { definition = n.first; read = read; small = n.here.small }))

pub loop-at-preserved-in-Some : goal.loop-at-preserved-in-Some
loop-at-preserved-in-Some c =
    let a = c.args in
    let n = run_next c.loop-at.invariant.run c.loop-at-test.true in
    let end : c.definition_end-next.result ≡ n.next = c.definition_end-next.ensures n.first n.next n.here.read in
    let read = rw (sym c.width_of.ensures, sym end) at n.here.read in
    let p = c.place.ensures n.first read in
    let f = found_slot _ _ (sym (c.lowest_free.ensures c.loop-at.arena) ∙ c.in-Some.is) in
    rw (end, p.0, p.1)
    (loading_next a.table.now a.arena.now a.file.now a.held c.loop-at.at c.loop-at.table c.loop-at.arena c.requires.0.sized.arena_size c.loop-at.invariant n c.in-Some.k (sym f.0) f.1)

pub loop-at-preserved : goal.loop-at-preserved
loop-at-preserved c =
    let a = c.args in
    let n = run_next c.loop-at.invariant.run c.loop-at-test.true in
    let end : c.definition_end-next.result ≡ n.next = c.definition_end-next.ensures n.first n.next n.here.read in
    let k = free_from 0 (slots_on c.loop-at.table c.loop-at.arena) (holders a.held) in
    rw end
    (loading_skip a.table.now a.arena.now a.file.now a.held c.loop-at.at c.loop-at.table c.loop-at.arena c.requires.0.sized.arena_size c.loop-at.invariant n k refl (found_none k (sym (c.lowest_free.ensures c.loop-at.arena) ∙ c.in_default.is)))

pub returns : goal.returns
returns c =
    let a = c.args in
    loading_last a.table.now a.arena.now a.file.now a.held c.loop-at.at c.loop-at.table c.loop-at.arena c.loop-at.invariant (omega arith)
