-- Every accepted command leaves a well-formed state, which decodes to the command's effect.
use Rattle.std.specs.Prelude.{ℕ, true, ◌≡◌, refl, List}
use Rattle.words.specs.Bytes.{AreBytes}
use Rattle.model.specs.declared.Command.{Command}
use Rattle.model.specs.declared.Command.TheVariants as command
use Rattle.model.specs.Engine.{decode}
use Rattle.model.specs.Formed.{formed}
use Rattle.model.specs.Effects.{effect}
use Rattle.model.specs.After.{words_after, arena_after}
use Rattle.model.specs.Apply.{answer_in, is_accepted}
use Rattle.state.specs.Accepted.{accepted}
use Rattle.preservation.specs.TreeKept.{tree_kept, tree-effect}
use Rattle.refinement.specs.BusesKept.{buses_kept, buses_effect}
use Rattle.refinement.specs.ControlsKept.{controls_kept, controls_effect}
use Rattle.refinement.specs.DefinitionsKept.{definitions_kept, definitions_effect}

-- what both laws are of
pub record Stepped (c : Command) (bytes ws bs : List ℕ) : Type 0 where
  pub kept : formed (words_after c bytes ws bs) (arena_after c bytes ws bs) ≡ true
  pub effected : decode (words_after c bytes ws bs) (arena_after c bytes ws bs) ≡ effect c bytes (decode ws bs)

pub stepped : (c : Command) (bytes ws bs : List ℕ) → AreBytes bytes → formed ws bs ≡ true → (room : ℕ) → is_accepted (answer_in c bytes (decode ws bs) room) ≡ true → Stepped c bytes ws bs
unfolding answer_in words_after arena_after effect
stepped (command.Definitions c) bytes ws bs b h room a =
    let d = accepted bytes (decode ws bs) (command.Definitions c) room a in
    record { kept = definitions_kept c bytes ws bs b h d; effected = definitions_effect c bytes ws bs b h d }
stepped (command.Tree c) bytes ws bs b h room a =
    let d = accepted bytes (decode ws bs) (command.Tree c) room a in
    record { kept = tree_kept c bytes ws bs h d; effected = tree-effect c bytes ws bs h d }
stepped (command.Controls c) bytes ws bs b h room a =
    let d = accepted bytes (decode ws bs) (command.Controls c) room a in
    record { kept = controls_kept c bytes ws bs h d; effected = controls_effect c bytes ws bs h d }
stepped (command.Buses c) bytes ws bs b h room a =
    let d = accepted bytes (decode ws bs) (command.Buses c) room a in
    record { kept = buses_kept c bytes ws bs h d; effected = buses_effect c bytes ws bs h d }
stepped (command.Query q) bytes ws bs b h room a = record { kept = h; effected = refl }

pub kept : (c : Command) (bytes ws bs : List ℕ) → AreBytes bytes → formed ws bs ≡ true → (room : ℕ) → is_accepted (answer_in c bytes (decode ws bs) room) ≡ true
    → formed (words_after c bytes ws bs) (arena_after c bytes ws bs) ≡ true
kept c bytes ws bs b h room a = (stepped c bytes ws bs b h room a).kept

pub effected : (c : Command) (bytes ws bs : List ℕ) → AreBytes bytes → formed ws bs ≡ true → (room : ℕ) → is_accepted (answer_in c bytes (decode ws bs) room) ≡ true
    → decode (words_after c bytes ws bs) (arena_after c bytes ws bs) ≡ effect c bytes (decode ws bs)
effected c bytes ws bs b h room a = (stepped c bytes ws bs b h room a).effected
