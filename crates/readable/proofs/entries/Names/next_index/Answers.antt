use Rattle.std.proofs.Common.{ap, sym, ◌∙◌, ℕ, ◌+◌, ◌-◌, ltb, arith}
use Rattle.words.specs.Choice.{pick, both}
use Rattle.format.specs.Names.{next_index}
use Rattle.format.specs.Reader.{most_parameters}
use Rattle.readable.specs.Entries.{entry_end, entries_from, entries_turn, next_turn, next_none}
use Rattle.readable.proofs.entries.Names.next_index.Goals as goal

pub loop-preserved : goal.loop-preserved
loop-preserved c =
    let a = c.args in
    let t = entries_turn a.self.s.now most_parameters a.self.places.names c.loop.counter c.loop.at (omega arith) c.loop.invariant.0 in (
      t.more,
      ap (λ (n : ℕ). next_index a.i n (entries_from a.self.s.now (a.self.places.names - (c.loop.counter + 1)) (entry_end a.self.s.now c.loop.at)))
          (c.lower-next.ensures ∙ ap (λ (j : ℕ). pick (both (ltb a.i j) (ltb j c.loop.next)) j c.loop.next) c.word_at.ensures)
          ∙ sym (next_turn a.self.s.now a.self.places.names c.loop.counter c.loop.at a.i c.loop.next t)
          ∙ c.loop.invariant.1,
    )

pub returns : goal.returns
returns c =
    let a = c.args in
    sym (next_none a.self.s.now a.self.places.names c.loop.counter c.loop.at a.i c.loop.next (omega arith)) ∙ c.loop.invariant.1
