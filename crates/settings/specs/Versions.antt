-- Saves and drops in a row, each in the store that the one before left, with any engine states between. Paper 02, 8/14: "Version numbers rise from 1
-- for each name and are never given again, even after a version is dropped."
use Prim.{Unit}
use Rattle.std.specs.Prelude.{ℕ, zero, suc, ◌+◌, true, ◌≡◌, List, [], ◌∷◌, ◌++◌, length, Ok, Err}
use Rattle.words.specs.Choice.{pick}
use Rattle.format.specs.Reader.{same_name}
use Rattle.values.specs.declared.NodeArgument.{NodeArgument}
use Rattle.model.specs.Answers.{Answer}
use Rattle.model.specs.Engine.{decode}
use Rattle.model.specs.Meaning.{node}
use Rattle.store.specs.Store.{store_formed, entries_of}
use Rattle.store.specs.Writing.{highest_for}
use Rattle.settings.specs.Settings.{Saved, name_of, Saves, Drops}

-- a call on a store as it was made: a save of a node in a lent state and what it answered, or a drop of a version; and the store that it left
pub data StoreCall : Type 0 where
  saves : NodeArgument → (ws bs : List ℕ) → Saved → List ℕ → StoreCall
  drops : List ℕ → ℕ → Answer → List ℕ → StoreCall

abbrev pub store_left : StoreCall → List ℕ
store_left (saves a ws bs r store') = store'
store_left (drops name number r store') = store'

-- what `settings::save` and `settings::drop` promise of it
abbrev pub PromisedOn : StoreCall → List ℕ → Type 0
PromisedOn (saves a ws bs r store') store = Saves a ws bs store r store'
PromisedOn (drops name number r store') store = Drops name number store r store'

unfoldable pub StoreSession : List StoreCall → List ℕ → Type 0
StoreSession [] store = Unit {0}
StoreSession (c ∷ cs) store = PromisedOn c store × StoreSession cs (store_left c)

unfoldable pub store_after : List StoreCall → List ℕ → List ℕ
store_after [] store = store
store_after (c ∷ cs) store = store_after cs (store_left c)

-- the versions that saves gave under a name, in the order of the calls
abbrev pub given_to : List ℕ → List ℕ → Saved → List ℕ
given_to name own (Ok v) = pick (same_name own name) (v ∷ []) []
given_to name own (Err r) = []

abbrev pub given_by : List ℕ → StoreCall → List ℕ
given_by name (saves a ws bs r store') = given_to name (name_of (node a (decode ws bs)) (decode ws bs)) r
given_by name (drops other number r store') = []

unfoldable pub given : List ℕ → List StoreCall → List ℕ
given name [] = []
given name (c ∷ cs) = given_by name c ++ given name cs

-- so many numbers, each one more than the one before
unfoldable pub rising : ℕ → ℕ → List ℕ
rising first zero = []
rising first (suc n) = first ∷ rising (first + 1) n

-- "each new version is one more than the highest ever given for that name, 1 where there was none, and none is given again": the versions given under
-- a name rise by one from the highest that the store knew; a formed store stays formed and knows the last of them
pub record VersionsRise (name : List ℕ) (cs : List StoreCall) (store : List ℕ) : Type 0 where
  pub rises : given name cs ≡ rising (highest_for name (entries_of store) + 1) (length (given name cs))
  pub known : highest_for name (entries_of (store_after cs store)) ≡ highest_for name (entries_of store) + length (given name cs)
  pub formed : store_formed store ≡ true → store_formed (store_after cs store) ≡ true
