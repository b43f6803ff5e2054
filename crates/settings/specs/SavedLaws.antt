-- What an accepted save and an accepted drop passed, and the stores that they leave.
use Rattle.std.specs.Prelude.{ℕ, ◌+◌, ◌≤◌, ◌<◌, Bool, true, false, ◌≡◌, refl, List, [], length, leb, ltb, eqb, Ok, Err}
use Rattle.std.proofs.Common.{sym, ap, ◌∙◌, subst, arith, leb-false, ltb-false}
use Rattle.std.proofs.lemmas.Bool.{not-false, eqb-false}
use Rattle.words.specs.Choice.{pick}
use Rattle.words.specs.ChoiceLaws.{either_false}
use Rattle.refusals.specs.declared.Refusal.TheVariants.{BadState, VersionsFull, StoreFull}
use Rattle.nodes.specs.Place.{is_group}
use Rattle.values.specs.declared.NodeArgument.{NodeArgument}
use Rattle.model.specs.declared.Accepted.TheVariants as accepted
use Rattle.model.specs.declared.Denied.TheVariants as denied
use Rattle.model.specs.Answers.{Answer}
use Rattle.model.specs.Answers.{Done, Refused}
use Rattle.model.specs.Engine.{decode}
use Rattle.model.specs.Meaning.{known, node}
use Rattle.model.specs.Formed.{formed}
use Rattle.model.specs.Checks.{check, first_of, node_check}
use Rattle.model.specs.Apply.{is_accepted}
use Rattle.store.specs.Store.{most_versions, store_formed, entries_of}
use Rattle.store.specs.Writing.{writing, laid, saved, dropped, versions_for, highest_for, last_version, no_room_for}
use Rattle.store.specs.StoreKeptLaws.{StoreKept, save_kept, drop_kept}
use Rattle.settings.specs.Settings.{Saved, store_check, synth_check, save_checks, save_judged, drop_answer, saved_by, Saves, Drops, Lent}
use Rattle.settings.specs.RecallLaws.{first_passed}
use Rattle.settings.specs.Restoring.{own_name, own_settings}
use Rattle.settings.specs.TakenLaws.{save_taken}

-- what acceptance of a save gives
pub record SaveAccepted (a : NodeArgument) (ws bs store : List ℕ) : Type 0 where
  pub whole : formed ws bs ≡ true
  pub read : store_formed store ≡ true
  pub node_known : known a (decode ws bs) ≡ true
  pub node_kind : is_group (node a (decode ws bs)) ≡ false
  pub few : length (versions_for (own_name a ws bs) (entries_of store)) < most_versions
  pub room : length (writing (saved (own_name a ws bs) (own_settings a ws bs) (entries_of store))) ≤ length store
  pub not_last : highest_for (own_name a ws bs) (entries_of store) ≡ last_version → ⊥

behind_whole : (b : Bool) (x : Answer) → is_accepted (pick b x (Refused BadState)) ≡ true → b ≡ true
behind_whole true x h = refl
behind_whole false x h = h

pub save_accepted : (a : NodeArgument) (ws bs store : List ℕ) → is_accepted (save_judged a ws bs store) ≡ true → SaveAccepted a ws bs store
unfolding save_judged
save_accepted a ws bs store h =
    let e = decode ws bs in
    let name = own_name a ws bs in
    let whole : formed ws bs ≡ true = behind_whole (formed ws bs) (first_of (save_checks a store e) Done) h in
    let judged : is_accepted (first_of (save_checks a store e) Done) ≡ true = rw whole at h in
    let stored = first_passed (store_check store) _ Done refl judged in
    let found = first_passed (node_check a e) _ Done refl stored.1 in
    let kind = first_passed (synth_check a e) _ Done refl found.1 in
    let many = leb most_versions (length (versions_for name (entries_of store))) in
    let full = no_room_for name (own_settings a ws bs) (length store) (entries_of store) in
    let count = first_passed (check VersionsFull many) _ Done refl kind.1 in
    let last = first_passed (check StoreFull full) [] Done refl count.1 in
    let free = either_false (ltb (length store) (length (writing (saved name (own_settings a ws bs) (entries_of store)))))
    (eqb (highest_for name (entries_of store)) last_version) last.0 in
    record {
      whole = whole;
      read = not-false (store_formed store) stored.0;
      node_known = not-false (known a e) found.0;
      node_kind = kind.0;
      few = leb-false most_versions (length (versions_for name (entries_of store))) count.0;
      room = ltb-false (length store) (length (writing (saved name (own_settings a ws bs) (entries_of store)))) free.0;
      not_last = eqb-false (highest_for name (entries_of store)) last_version free.1;
    }

-- the store that it leaves is formed and holds the entries after it
pub save_left : (a : NodeArgument) (ws bs store : List ℕ) (r : Saved) (store' : List ℕ) → Lent ws bs → Saves a ws bs store r store'
    → is_accepted (save_judged a ws bs store) ≡ true → StoreKept store' (saved (own_name a ws bs) (own_settings a ws bs) (entries_of store))
save_left a ws bs store r store' lent s h =
    let p = save_accepted a ws bs store h in
    let t = save_taken ws bs p.whole lent a p.node_known p.node_kind in
    let es = saved (own_name a ws bs) (own_settings a ws bs) (entries_of store) in
    let left : store' ≡ laid (length store) es = s.kept ∙ ap (λ (b : Bool). pick b (laid (length store) es) store) h in
    subst (λ (l : List ℕ). StoreKept l es) (sym left)
    (save_kept store (own_name a ws bs) (own_settings a ws bs) (length store) s.lent_store p.read t.full t.named t.settings t.apart p.few p.not_last)

-- the version that it answers is one more than the highest
pub save_answered : (a : NodeArgument) (ws bs store : List ℕ) (r : Saved) (store' : List ℕ) → Saves a ws bs store r store'
    → is_accepted (save_judged a ws bs store) ≡ true → r ≡ Ok (highest_for (own_name a ws bs) (entries_of store) + 1)
save_answered a ws bs store r store' s h = s.answers ∙ by (save_judged a ws bs store) h
  where
    by : (x : Answer) → is_accepted x ≡ true
        → saved_by x (highest_for (own_name a ws bs) (entries_of store) + 1) ≡ Ok (highest_for (own_name a ws bs) (entries_of store) + 1)
    by (Ok accepted.Done) q = refl
    by (Ok (accepted.Replied n)) q = refl
    by (Err (denied.Refused x)) q = let z : ◌≡◌ {A = ℕ} 0 1 = cc in absurd (omega arith)
    by (Err (denied.RefusedAt x at)) q = let z : ◌≡◌ {A = ℕ} 0 1 = cc in absurd (omega arith)

-- .. and only an accepted save answers a version
pub version_accepted : (a : NodeArgument) (ws bs store : List ℕ) (v : ℕ) (store' : List ℕ) → Saves a ws bs store (Ok v) store'
    → is_accepted (save_judged a ws bs store) ≡ true
version_accepted a ws bs store v store' s = by (save_judged a ws bs store) s.answers
  where
    by : (x : Answer) → Ok v ≡ saved_by x (highest_for (own_name a ws bs) (entries_of store) + 1) → is_accepted x ≡ true
    by (Ok accepted.Done) q = refl
    by (Ok (accepted.Replied n)) q = refl
    by (Err (denied.Refused x)) q = cc
    by (Err (denied.RefusedAt x at)) q = cc

-- an accepted drop
pub drop_accepted : (name : List ℕ) (number : ℕ) (store : List ℕ) → is_accepted (drop_answer name number store) ≡ true → store_formed store ≡ true
unfolding drop_answer
drop_accepted name number store h = not-false (store_formed store) (first_passed (store_check store) _ Done refl h).0

pub drop_left : (name : List ℕ) (number : ℕ) (store : List ℕ) (r : Answer) (store' : List ℕ) → Drops name number store r store'
    → is_accepted (drop_answer name number store) ≡ true → StoreKept store' (dropped name number (entries_of store))
drop_left name number store r store' d h =
    let es = dropped name number (entries_of store) in
    let left : store' ≡ laid (length store) es = d.kept ∙ ap (λ (b : Bool). pick b (laid (length store) es) store) h in
    subst (λ (l : List ℕ). StoreKept l es) (sym left) (drop_kept store name number (length store) d.lent_store (drop_accepted name number store h))
