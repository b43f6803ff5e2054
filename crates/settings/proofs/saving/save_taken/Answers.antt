-- `settings::saving::save_taken` meets its contract: each refusal by the check that fires, and the version that is written.
use Rattle.std.specs.Prelude.{Err, Ok}
use Prim.Native.Nat.{ℕ, ◌+◌, ◌-◌, ◌≤◌, ◌<◌}
use mathlib.Core.Path.{subst, ◌∙◌}
use mathlib.Core.List.{List}
use native.Mathlib.Omega.{arith}
use lib.ListN.{length}
use Rattle.refusals.specs.declared.Refusal.TheVariants.{VersionsFull, StoreFull}
use Rattle.words.specs.Parts.{put}
use Rattle.settings.specs.OwnFields.{taken_in}
use Rattle.settings.specs.Saving.{SavesTaken}
use Rattle.settings.specs.SavingLaws.{taken_many, taken_last, taken_long, taken_done, part_filled}
use Rattle.settings.specs.NameStored.{definition-name}
use Rattle.settings.proofs.saving.save_taken.Goals as goal

pub measure-known-requires : goal.measure-known-requires
measure-known-requires c =
    (c.requires.2, (definition-name c.args.definition.now (λ i. (c.type_inv.definition i).fits) c.requires.0 c.name-name.ensures).short)

pub returns-then-known-ge-MOST_VERSIONS : goal.returns-then-known-ge-MOST_VERSIONS
returns-then-known-ge-MOST_VERSIONS c =
    let a = c.args in
    let cs = taken_in a.definition.now a.row.now in
    let store = a.store.now in
    subst (λ (l : List ℕ). SavesTaken l cs store (Err VersionsFull) store) c.name-name.ensures (taken_many _ cs store _ _ _ c.measure-known.ensures (omega arith))

pub returns-then-known : goal.returns-then-known
returns-then-known c =
    let a = c.args in
    let cs = taken_in a.definition.now a.row.now in
    let store = a.store.now in
    subst (λ (l : List ℕ). SavesTaken l cs store (Err StoreFull) store) c.name-name.ensures (taken_last _ cs store _ _ _ c.measure-known.ensures (omega arith) (omega arith))

pub returns-then-store-known : goal.returns-then-store-known
returns-then-store-known c =
    let a = c.args in
    let cs = taken_in a.definition.now a.row.now in
    let store = a.store.now in
    let long : length store < c.measure-known.result.length + c.settings_size-size.result = grind arith in
    subst (λ (l : List ℕ). SavesTaken l cs store (Err StoreFull) store) c.name-name.ensures
    (taken_long _ cs store _ _ _ c.measure-known.ensures (omega arith) c.settings_size-size.result (c.settings_size-size.ensures a.row.now) long)

pub open_version-at-requires : goal.open_version-at-requires
open_version-at-requires c =
    let m = c.measure-known.ensures in
    let stored = definition-name c.args.definition.now (λ i. (c.type_inv.definition i).fits) c.requires.0 c.name-name.ensures in
    record {
      formed = c.requires.2;
      full = stored.full;
      named = stored.named;
      given = λ e. c.if-known.false (m.given ∙ e);
      measure = c.measure-known.result.length;
      measured = m.room;
      room = grind arith;
    }

pub returns : goal.returns
returns c =
    let a = c.args in
    let cs = taken_in a.definition.now a.row.now in
    let store = a.store.now in
    let known = c.measure-known.result in
    let at = c.open_version-at.result in
    let size = c.settings_size-size.result in
    let room : known.length + size ≤ length store = grind arith in
    subst (λ (l : List ℕ). SavesTaken l cs store (Ok (known.highest + 1)) (put at (at + size - at) c.write_settings.new.out c.open_version-at.new.store)) c.name-name.ensures
    (taken_done _ cs store _ _ _ c.measure-known.ensures (omega arith) c.if-known.false size (c.settings_size-size.ensures a.row.now) room at c.open_version-at.ensures
    (part_filled at size c.open_version-at.new.store c.write_settings.new.out cs c.write_settings.ensures))
