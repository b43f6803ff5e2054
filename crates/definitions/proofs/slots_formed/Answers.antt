use Rattle.definitions.specs.Checking.{flags_told, check_formed}
use Rattle.slots.specs.Slots.{flags_on}
use Rattle.definitions.specs.Holders.{holders}
use Rattle.model.specs.Formed.{flags_formed}
use mathlib.Core.Path.{◌≡◌, sym, ◌∙◌}
use Rattle.definitions.proofs.slots_formed.Goals as goal
use Rattle.definitions.proofs.slots_formed.Goals.{then-flags_formed, else-flags_formed}

pub names_apart-requires : goal.names_apart-requires
names_apart-requires c =
    let a = c.args in
    let told : c.flags_formed.result ≡ flags_formed (flags_on a.table.now) = flags_told (flags_on a.table.now) c.flags_formed.result (rw c.requires.table_size at c.flags_formed.ensures) in
    elim c.if-flags_formed.branch [
      | then-flags_formed w ↦ check_formed a.table.now a.arena.now (holders a.held) c.requires (sym told ∙ w.if-flags_formed.true) (sym w.each_formed.ensures ∙ sym w.value-is ∙ c.if-each_formed.true)
      | else-flags_formed w ↦ let v = w.value-is in let t = c.if-each_formed.true in absurd cc
    ]

pub returns-then-each_formed : goal.returns-then-each_formed
returns-then-each_formed c =
    let a = c.args in
    let told : c.flags_formed.result ≡ flags_formed (flags_on a.table.now) = flags_told (flags_on a.table.now) c.flags_formed.result (rw c.requires.table_size at c.flags_formed.ensures) in
    elim c.if-flags_formed.branch [
      | then-flags_formed w ↦ rw (sym told ∙ w.if-flags_formed.true, sym w.each_formed.ensures ∙ sym w.value-is ∙ c.if-each_formed.true) c.names_apart.ensures
      | else-flags_formed w ↦ let v = w.value-is in let t = c.if-each_formed.true in absurd cc
    ]

pub returns-else-each_formed : goal.returns-else-each_formed
returns-else-each_formed c =
    let a = c.args in
    let told : c.flags_formed.result ≡ flags_formed (flags_on a.table.now) = flags_told (flags_on a.table.now) c.flags_formed.result (rw c.requires.table_size at c.flags_formed.ensures) in
    elim c.if-flags_formed.branch [
      | then-flags_formed w ↦ rw (sym told ∙ w.if-flags_formed.true, sym w.each_formed.ensures ∙ sym w.value-is, c.if-each_formed.false)
      | else-flags_formed w ↦ rw (sym told ∙ w.if-flags_formed.false) c.if-each_formed.false
    ]
