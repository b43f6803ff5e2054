-- A drop by its checks.
use Rattle.std.specs.Prelude.{ℕ, Bool, ◌≡◌, List}
use Rattle.std.proofs.Math.Bool.{true, false}
use Rattle.std.proofs.Common.{sym, arith}
use Rattle.std.proofs.Math.Option.{Option, none, some}
use Rattle.words.specs.Bytes.{AreBytes}
use Rattle.words.specs.Choice.{pick}
use Rattle.words.specs.Bytes.{AreBytes}
use Rattle.refusals.specs.declared.Refusal.TheVariants.{StoreUnformed, NoVersion}
use Rattle.model.specs.Answers.{Done, Refused}
use Rattle.model.specs.Checks.{first_of}
use Rattle.store.specs.Store.{Version, store_formed, entries_of}
use Rattle.store.specs.Writing.{version_in}
use Rattle.store.specs.Places.{Dropped, is_some}
use Rattle.settings.specs.Settings.{is_none, drop_answer, Drops}

clash : ◌≡◌ {A = Bool} false true → ⊥
clash h = let z : ◌≡◌ {A = ℕ} 0 1 = cc in omega arith

some_not_none : (o : Option Version) (b : Bool) → b ≡ is_some o → is_none o ≡ pick b false true
some_not_none none b h = rw h
some_not_none (some v) b h = rw h

module _ (name : List ℕ) (number : ℕ) (store : List ℕ) (lent : AreBytes store) where
  pub drop-unformed : store_formed store ≡ false → Drops name number store (Refused StoreUnformed) store
  unfolding drop_answer first_of
  drop-unformed h = record { answers = rw h; kept = rw h; lent_store = lent }

  module _ (formed : store_formed store ≡ true) (store' : List ℕ) where
    none_is : (b : Bool) → Dropped name number store b store' → is_none (version_in name number (entries_of store)) ≡ pick b false true
    none_is b d = some_not_none (version_in name number (entries_of store)) b d.there

    pub drop_done : (b : Bool) → b ≡ true → Dropped name number store b store' → Drops name number store Done store'
    unfolding drop_answer first_of
    drop_done true h d = record { answers = rw (formed, none_is true d); kept = rw (formed, none_is true d) d.store; lent_store = lent }
    drop_done false h d = absurd (clash h)

    pub drop_none : (b : Bool) → b ≡ false → Dropped name number store b store' → Drops name number store (Refused NoVersion) store'
    unfolding drop_answer first_of
    drop_none true h d = absurd (clash (sym h))
    drop_none false h d = record { answers = rw (formed, none_is false d); kept = rw (formed, none_is false d) d.store; lent_store = lent }
