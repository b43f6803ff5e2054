-- Entries that fields can hold: names that are names, and numbers and floats of 32 bits.
use Prim.{Unit}
use Rattle.std.specs.Prelude.{ℕ, ◌<◌, true, ◌≡◌, List, [], ◌∷◌, length}
use Rattle.store.specs.Store.{Version, Entry, is_name}
use Rattle.store.specs.Places.{AreSettings}

abbrev pub word_limit : ℕ
word_limit = 4294967296

unfoldable pub AreVersions : List Version → Type 0
AreVersions [] = Unit {0}
AreVersions (v ∷ vs) = (v.number < word_limit) × (AreSettings v.settings × AreVersions vs)

-- an entry by itself: its name is not empty
pub record EntrySized (e : Entry) : Type 0 where
  pub full : 0 < length e.name
  pub named : is_name e.name ≡ true
  pub highest : e.highest < word_limit
  pub versions : AreVersions e.versions

unfoldable pub AreEntries : List Entry → Type 0
AreEntries [] = Unit {0}
AreEntries (e ∷ es) = EntrySized e × AreEntries es
