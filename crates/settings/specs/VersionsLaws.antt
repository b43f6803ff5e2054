-- "each new version is one more than the highest ever given for that name, 1 where there was none, and none is given again", over every sequence of
-- saves and drops.
use Rattle.std.specs.Prelude.{ℕ, zero, suc, ◌+◌, Bool, true, false, ◌≡◌, refl, List, [], ◌∷◌, ◌++◌, length, Ok, Err}
use Rattle.std.proofs.Common.{sym, ap, ap₂, ◌∙◌, subst, arith, add-zero, length-append}
use Rattle.words.specs.Choice.{pick}
use Rattle.format.specs.Reader.{same_name}
use Rattle.values.specs.declared.NodeArgument.{NodeArgument}
use Rattle.model.specs.declared.Accepted.TheVariants as accepted
use Rattle.model.specs.declared.Denied.TheVariants as denied
use Rattle.model.specs.Answers.{Answer}
use Rattle.model.specs.Apply.{is_accepted}
use Rattle.store.specs.Store.{store_formed, entries_of}
use Rattle.store.specs.Writing.{laid, saved, dropped, highest_by, highest_for}
use Rattle.store.specs.NameLaws.{same_equal}
use Rattle.store.specs.VersionLaws.{saved_other, highest_saved, highest_dropped}
use Rattle.store.specs.StoreKeptLaws.{StoreKept}
use Rattle.settings.specs.Settings.{Saved, save_judged, drop_answer, saved_by, Saves, Drops, Lent}
use Rattle.settings.specs.Versions.{StoreCall, saves, drops, store_left, PromisedOn, StoreSession, store_after, given_to, given_by, given, rising, VersionsRise}
use Rattle.settings.specs.Restoring.{own_name, own_settings}
use Rattle.settings.specs.SavedLaws.{save_left, save_answered, drop_left}

-- numbers that rise, and more of them
rising_more : (first m n : ℕ) → rising first (m + n) ≡ rising first m ++ rising (first + m) n
unfolding rising
rising_more first zero n =
    let nothing : 0 + n ≡ n = omega arith in
    rw (nothing, add-zero)
rising_more first (suc m) n =
    let one : suc m + n ≡ suc (m + n) = omega arith in
    let place : first + suc m ≡ first + 1 + m = omega arith in
    rw (one, place) (ap (λ (l : List ℕ). first ∷ l) (rising_more (first + 1) m n))

-- what one call gives under a name, and the store that it leaves
record CallRises (name store given store' : List ℕ) : Type 0 where
  rises : given ≡ rising (highest_for name (entries_of store) + 1) (length given)
  known : highest_for name (entries_of store') ≡ highest_for name (entries_of store) + length given
  formed : store_formed store ≡ true → store_formed store' ≡ true

nothing_given : (name store : List ℕ) → CallRises name store [] store
unfolding rising
nothing_given name store = record { rises = refl; known = omega arith; formed = λ h. h }

-- a refused save gives nothing
refused_gives : (name own : List ℕ) (v : ℕ) (x : Answer) → is_accepted x ≡ false → given_to name own (saved_by x v) ≡ []
refused_gives name own v (Ok accepted.Done) h = cc
refused_gives name own v (Ok (accepted.Replied n)) h = cc
refused_gives name own v (Err (denied.Refused r)) h = refl
refused_gives name own v (Err (denied.RefusedAt r at)) h = refl

save_rises : (name : List ℕ) (a : NodeArgument) (ws bs store : List ℕ) (r : Saved) (store' : List ℕ) → Saves a ws bs store r store' → Lent ws bs
    → CallRises name store (given_to name (own_name a ws bs) r) store'
unfolding rising
save_rises name a ws bs store r store' s lent = go (is_accepted (save_judged a ws bs store)) refl
  where
    by_name : StoreKept store' (saved (own_name a ws bs) (own_settings a ws bs) (entries_of store)) → (b : Bool) → same_name (own_name a ws bs) name ≡ b
        → CallRises name store (pick b ((highest_for (own_name a ws bs) (entries_of store) + 1) ∷ []) []) store'
    by_name k true e =
        let same : own_name a ws bs ≡ name = same_equal (own_name a ws bs) name e in
        record {
          rises = ap (λ (n : List ℕ). (highest_for n (entries_of store) + 1) ∷ []) same;
          known = ap (highest_for name) k.entries
              ∙ ap (λ (n : List ℕ). highest_for name (saved n (own_settings a ws bs) (entries_of store))) same
              ∙ highest_saved name (own_settings a ws bs) (entries_of store);
          formed = λ h. k.formed;
        }
    by_name k false e = record {
      rises = refl;
      known = ap (highest_for name) k.entries
          ∙ ap highest_by (saved_other (own_name a ws bs) name (own_settings a ws bs) (entries_of store) e)
          ∙ sym (add-zero (highest_for name (entries_of store)));
      formed = λ h. k.formed;
    }

    go : (b : Bool) → is_accepted (save_judged a ws bs store) ≡ b → CallRises name store (given_to name (own_name a ws bs) r) store'
    go true h =
        subst (λ (x : Saved). CallRises name store (given_to name (own_name a ws bs) x) store') (sym (save_answered a ws bs store r store' s h))
        (by_name (save_left a ws bs store r store' lent s h) (same_name (own_name a ws bs) name) refl)
    go false h =
        let none : given_to name (own_name a ws bs) r ≡ [] =
        ap (given_to name (own_name a ws bs)) s.answers ∙ refused_gives name (own_name a ws bs) (highest_for (own_name a ws bs) (entries_of store) + 1) (save_judged a ws bs store) h in
        let left : store' ≡ store = s.kept ∙ ap (λ (b : Bool). pick b (laid (length store) (saved (own_name a ws bs) (own_settings a ws bs) (entries_of store))) store) h in
        subst (λ (g : List ℕ). CallRises name store g store') (sym none) (subst (λ (l : List ℕ). CallRises name store [] l) (sym left) (nothing_given name store))

drop-rises : (name other : List ℕ) (number : ℕ) (store : List ℕ) (r : Answer) (store' : List ℕ) → Drops other number store r store' → CallRises name store [] store'
unfolding rising
drop-rises name other number store r store' d = go (is_accepted (drop_answer other number store)) refl
  where
    go : (b : Bool) → is_accepted (drop_answer other number store) ≡ b → CallRises name store [] store'
    go true h =
        let k = drop_left other number store r store' d h in
        record {
          rises = refl;
          known = ap (highest_for name) k.entries ∙ highest_dropped other name number (entries_of store) ∙ sym (add-zero (highest_for name (entries_of store)));
          formed = λ f. k.formed;
        }
    go false h =
        let left : store' ≡ store = d.kept ∙ ap (λ (b : Bool). pick b (laid (length store) (dropped other number (entries_of store))) store) h in
        subst (λ (l : List ℕ). CallRises name store [] l) (sym left) (nothing_given name store)

call_rises : (name : List ℕ) (c : StoreCall) (store : List ℕ) → PromisedOn c store → CallRises name store (given_by name c) (store_left c)
call_rises name (saves a ws bs r store') store s = save_rises name a ws bs store r store' s s.lent
call_rises name (drops other number r store') store d = drop-rises name other number store r store' d

-- one call, and the calls behind it
rises_more : (name : List ℕ) (store store' : List ℕ) (here more : List ℕ) → CallRises name store here store'
    → more ≡ rising (highest_for name (entries_of store') + 1) (length more) → here ++ more ≡ rising (highest_for name (entries_of store) + 1) (length (here ++ more))
rises_more name store store' here more c e =
    let first = highest_for name (entries_of store) + 1 in
    let next : highest_for name (entries_of store') + 1 ≡ highest_for name (entries_of store) + 1 + length here = let k = c.known in omega arith in
    ap₂ (λ (x y : List ℕ). x ++ y) c.rises (e ∙ ap (λ (n : ℕ). rising n (length more)) next)
    ∙ sym (rising_more first (length here) (length more))
    ∙ ap (rising first) (sym (length-append here more))

pub versions_rise : (cs : List StoreCall) (store : List ℕ) → StoreSession cs store → (name : List ℕ) → VersionsRise name cs store
unfolding StoreSession store_after given rising
versions_rise [] store s name = record { rises = refl; known = omega arith; formed = λ h. h }
versions_rise (c ∷ cs) store s name =
    let here = call_rises name c store s.0 in
    let more = versions_rise cs (store_left c) s.1 name in
    record {
      rises = rises_more name store (store_left c) (given_by name c) (given name cs) here more.rises;
      known = let a = here.known in let b = more.known in let l = length-append (given_by name c) (given name cs) in omega arith;
      formed = λ h. more.formed (here.formed h);
    }
