-- Laws of `Saving`: a law for each refusal of a save, and one for its end.
use Rattle.std.specs.Prelude.{ℕ, ◌+◌, ◌-◌, ◌≤◌, ◌<◌, Bool, ◌≡◌, refl, List, length, take, drop, ltb, leb, Err, Ok}
use Rattle.std.proofs.Math.Bool.{true, false}
use Rattle.std.proofs.Common.{sym, ap, ◌∙◌, arith, lt-ltb, le-ltb, le-leb, eq-eqb, ne_eqb}
use Rattle.std.proofs.lemmas.Bool.{lt-leb}
use Rattle.words.specs.Choice.{pick, either}
use Rattle.words.specs.Parts.{put}
use Rattle.words.specs.PartsLaws.{region-length}
use Rattle.refusals.specs.declared.Refusal.{Refusal}
use Rattle.refusals.specs.declared.Refusal.TheVariants.{VersionsFull, StoreFull}
use Rattle.model.specs.Answers.{Done, Refused}
use Rattle.model.specs.Checks.{first_of}
use Rattle.store.specs.Store.{Setting, most_versions, entries_of}
use Rattle.store.specs.Writing.{writing, saved, versions_for, highest_for, last_version, no_room_for}
use Rattle.store.specs.Places.{Measured, Opened}
use Rattle.settings.specs.OwnFields.{setting_bytes}
use Rattle.settings.specs.Saving.{room_judged, SavesTaken}

-- by the answer: a refusal leaves the store
taken_refused : (name : List ℕ) (cs : List Setting) (store : List ℕ) (r : Refusal) → room_judged name cs store ≡ Refused r
    → SavesTaken name cs store (Err r) store
taken_refused name cs store r e = record { answers = rw e; kept = rw e }

either_true : (a b : Bool) → b ≡ true → either a b ≡ true
either_true true b e = refl
either_true false b e = e

-- a part that came back filled
pub part_filled : (at n : ℕ) (bytes ys : List ℕ) (cs : List Setting) → ys ≡ setting_bytes cs → put at (at + n - at) ys bytes ≡ put at n (setting_bytes cs) bytes
part_filled at n bytes ys cs e = let size : at + n - at ≡ n = omega arith in rw (size, e)

pub part_size : (at n : ℕ) (bytes : List ℕ) → at + n ≤ length bytes → length (take (at + n - at) (drop at bytes)) ≡ n
part_size at n bytes h = let size : at + n - at ≡ n = omega arith in rw size (region-length at n bytes h)

-- by what is measured of the name
module _ (name : List ℕ) (cs : List Setting) (store : List ℕ) (size count highest : ℕ) (m : Measured name store size count highest) where
  counted : (b : Bool) → leb most_versions count ≡ b → leb most_versions (length (versions_for name (entries_of store))) ≡ b
  counted b e = ap (leb most_versions) (sym m.versions) ∙ e

  judged : leb most_versions count ≡ false → (b : Bool) → no_room_for name cs (length store) (entries_of store) ≡ b
      → room_judged name cs store ≡ pick b (Refused StoreFull) Done
  unfolding first_of
  judged few b e = rw (counted false few, e)

  pub taken_many : most_versions ≤ count → SavesTaken name cs store (Err VersionsFull) store
  unfolding first_of
  taken_many h = taken_refused name cs store VersionsFull (rw (counted true (le-leb most_versions count h)))

  module _ (few : count < most_versions) where
    pub taken_last : highest ≡ last_version → SavesTaken name cs store (Err StoreFull) store
    taken_last h =
        taken_refused name cs store StoreFull
        (judged (lt-leb most_versions count few) true
        (either_true (ltb (length store) (length (writing (saved name cs (entries_of store))))) _
        (eq-eqb (highest_for name (entries_of store)) last_version (sym m.given ∙ h))))

    pub taken_long : (n : ℕ) → n ≡ length (setting_bytes cs) → length store < size + n → SavesTaken name cs store (Err StoreFull) store
    taken_long n told h =
        let long : length store < length (writing (saved name cs (entries_of store))) = let room = m.room cs in omega arith in
        taken_refused name cs store StoreFull (judged (lt-leb most_versions count few) true (rw (lt-ltb (length store) _ long)))

    pub taken_done : (highest ≡ last_version → ⊥) → (n : ℕ) → n ≡ length (setting_bytes cs) → size + n ≤ length store
        → (at : ℕ) {opened filled : List ℕ} → Opened name n store at opened → filled ≡ put at n (setting_bytes cs) opened
        → SavesTaken name cs store (Ok (highest + 1)) filled
    taken_done not_last n told h at {opened} {filled} o e =
        let short : length (writing (saved name cs (entries_of store))) ≤ length store = let room = m.room cs in omega arith in
        let done : room_judged name cs store ≡ Done =
        judged (lt-leb most_versions count few) false
        (rw (le-ltb (length store) _ short, sym m.given) (ne_eqb highest last_version not_last)) in
        record { answers = rw (done, m.given); kept = rw done (e ∙ o.filled cs (sym told)) }
