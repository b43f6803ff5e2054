-- A save by its parts: behind the checks of the state, the store and the node it looks at a name and at settings alone.
use Rattle.std.specs.Prelude.{ℕ, ◌+◌, ◌≡◌, List, [], ◌∷◌, length, leb}
use Rattle.words.specs.Choice.{pick}
use Rattle.refusals.specs.declared.Refusal.TheVariants.{VersionsFull, StoreFull}
use Rattle.model.specs.Answers.{Answer}
use Rattle.model.specs.Answers.{Done}
use Rattle.model.specs.Checks.{Check, check, first_of}
use Rattle.model.specs.Apply.{is_accepted}
use Rattle.store.specs.Store.{Setting, most_versions, entries_of}
use Rattle.store.specs.Writing.{laid, saved, versions_for, highest_for, no_room_for}
use Rattle.settings.specs.Settings.{Saved, saved_by}

-- 30 and 33
abbrev pub room_checks : List ℕ → List Setting → List ℕ → List Check
room_checks name cs store =
    check VersionsFull (leb most_versions (length (versions_for name (entries_of store))))
    ∷ (check StoreFull (no_room_for name cs (length store) (entries_of store)) ∷ [])

abbrev pub room_judged : List ℕ → List Setting → List ℕ → Answer
room_judged name cs store = first_of (room_checks name cs store) Done

-- settings saved under a name: the answer, and the store afterwards
pub record SavesTaken (name : List ℕ) (cs : List Setting) (store : List ℕ) (r : Saved) (store' : List ℕ) : Type 0 where
  pub answers : r ≡ saved_by (room_judged name cs store) (highest_for name (entries_of store) + 1)
  pub kept : store' ≡ pick (is_accepted (room_judged name cs store)) (laid (length store) (saved name cs (entries_of store))) store
