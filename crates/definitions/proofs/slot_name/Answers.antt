use mathlib.Core.Path.{sym, ap, ◌∙◌}
use mathlib.Core.List.{List}
use Prim.Native.Nat.{ℕ}
use Rattle.format.specs.Fields.{string_at}
use Rattle.definitions.specs.Names.{named_there}
use Rattle.definitions.proofs.slot_name.Goals as goal

pub name_at-requires : goal.name_at-requires
name_at-requires c =
    let a = c.args in
    let w = c.requires.0.resident a.k c.requires.1 c.requires.2 in
    rw c.bytes_on.ensures (named_there a.table.now a.arena.now a.k w).inside

pub returns : goal.returns
returns c =
    let a = c.args in
    let w = c.requires.0.resident a.k c.requires.1 c.requires.2 in
    c.name_at.ensures
    ∙ ap (λ (l : List ℕ). string_at l 0) c.bytes_on.ensures
    ∙ sym (named_there a.table.now a.arena.now a.k w).same
