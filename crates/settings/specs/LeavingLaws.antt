-- What saves and drops leave of a store: every other name and version, and the names in the order of their first saves.
use Rattle.std.specs.Prelude.{ℕ, ◌+◌, Bool, true, false, ◌≡◌, refl, List, [], ◌∷◌, ◌++◌, length, Ok, Err}
use Rattle.std.proofs.Common.{sym, ap, ◌∙◌}
use Rattle.std.proofs.Math.Option.{none}
use Rattle.words.specs.Choice.{pick, either}
use Rattle.format.specs.Reader.{same_name, among}
use Rattle.values.specs.declared.NodeArgument.{NodeArgument}
use Rattle.model.specs.declared.Accepted.TheVariants as accepted
use Rattle.model.specs.declared.Denied.TheVariants as denied
use Rattle.model.specs.Answers.{Answer}
use Rattle.model.specs.Apply.{is_accepted}
use Rattle.store.specs.Store.{Setting, Entry, entries_of}
use Rattle.store.specs.Writing.{laid, with_version, saved, without_version, dropped, version_in, highest_for}
use Rattle.store.specs.VersionLaws.{versions_saved, version_dropped, versions_dropped}
use Rattle.store.specs.ReadingLaws.{store_stands}
use Rattle.settings.specs.Settings.{Saved, save_judged, drop_answer, saved_by, Saves, Drops}
use Rattle.settings.specs.Versions.{StoreCall, saves, drops, store_left, PromisedOn, StoreSession, store_after}
use Rattle.settings.specs.Restoring.{own_name, own_settings, LeavesOthers, entry_names, with_name, names_saved, names_after, first_saved}
use Rattle.settings.specs.SavedLaws.{save_left, save_answered, drop_accepted, drop_left}

-- a refusal leaves the store
save_stays : (a : NodeArgument) (ws bs store : List ℕ) (r : Saved) (store' : List ℕ) → Saves a ws bs store r store' → is_accepted (save_judged a ws bs store) ≡ false
    → store' ≡ store
save_stays a ws bs store r store' s h =
    s.kept ∙ ap (λ (b : Bool). pick b (laid (length store) (saved (own_name a ws bs) (own_settings a ws bs) (entries_of store))) store) h

drop-stays : (name : List ℕ) (number : ℕ) (store : List ℕ) (r : Answer) (store' : List ℕ) → Drops name number store r store'
    → is_accepted (drop_answer name number store) ≡ false → store' ≡ store
drop-stays name number store r store' d h = d.kept ∙ ap (λ (b : Bool). pick b (laid (length store) (dropped name number (entries_of store))) store) h

-- all versions but the new one are as they were
pub save_others : (a : NodeArgument) (ws bs store : List ℕ) (r : Saved) (store' : List ℕ) → Saves a ws bs store r store'
    → LeavesOthers (own_name a ws bs) (highest_for (own_name a ws bs) (entries_of store) + 1) store store'
save_others a ws bs store r store' s other k differ = go (is_accepted (save_judged a ws bs store)) refl
  where
    go : (b : Bool) → is_accepted (save_judged a ws bs store) ≡ b → version_in other k (entries_of store') ≡ version_in other k (entries_of store)
    go true h =
        ap (version_in other k) (save_left a ws bs store r store' s.lent s h).entries
        ∙ versions_saved (own_name a ws bs) other k (own_settings a ws bs) (entries_of store) differ
    go false h = ap (λ (l : List ℕ). version_in other k (entries_of l)) (save_stays a ws bs store r store' s h)

-- all but the dropped one, which is gone
pub drop-others : (name : List ℕ) (number : ℕ) (store : List ℕ) (r : Answer) (store' : List ℕ) → Drops name number store r store'
    → LeavesOthers name number store store'
drop-others name number store r store' d other k differ = go (is_accepted (drop_answer name number store)) refl
  where
    go : (b : Bool) → is_accepted (drop_answer name number store) ≡ b → version_in other k (entries_of store') ≡ version_in other k (entries_of store)
    go true h = ap (version_in other k) (drop_left name number store r store' d h).entries ∙ versions_dropped name other number k (entries_of store) differ
    go false h = ap (λ (l : List ℕ). version_in other k (entries_of l)) (drop-stays name number store r store' d h)

pub drop_gone : (name : List ℕ) (number : ℕ) (store : List ℕ) (r : Answer) (store' : List ℕ) → Drops name number store r store'
    → is_accepted (drop_answer name number store) ≡ true → version_in name number (entries_of store') ≡ none
drop_gone name number store r store' d h =
    ap (version_in name number) (drop_left name number store r store' d h).entries
    ∙ version_dropped name number (entries_of store) (store_stands store d.lent_store (drop_accepted name number store h)).formed

-- names of entries: a save brings a new one last, a drop none
names-saved : (name : List ℕ) (cs : List Setting) (es : List Entry) → entry_names (saved name cs es) ≡ with_name name (entry_names es)
unfolding entry_names saved among
names-saved name cs [] = refl
names-saved name cs (e ∷ es) = go (same_name e.name name) (among name (entry_names es)) (names-saved name cs es)
  where
    go : (b q : Bool) → entry_names (saved name cs es) ≡ pick q (entry_names es) (entry_names es ++ (name ∷ []))
        → entry_names (pick b (with_version cs e ∷ es) (e ∷ saved name cs es))
        ≡ pick (either b q) (e.name ∷ entry_names es) ((e.name ∷ entry_names es) ++ (name ∷ []))
    go true q more = refl
    go false true more = ap (λ (l : List (List ℕ)). e.name ∷ l) more
    go false false more = ap (λ (l : List (List ℕ)). e.name ∷ l) more

names_dropped : (name : List ℕ) (number : ℕ) (es : List Entry) → entry_names (dropped name number es) ≡ entry_names es
unfolding entry_names dropped
names_dropped name number [] = refl
names_dropped name number (e ∷ es) = go (same_name e.name name) (names_dropped name number es)
  where
    go : (b : Bool) → entry_names (dropped name number es) ≡ entry_names es
        → entry_names (pick b (without_version number e ∷ es) (e ∷ dropped name number es)) ≡ e.name ∷ entry_names es
    go true more = refl
    go false more = ap (λ (l : List (List ℕ)). e.name ∷ l) more

refused_names : (own : List ℕ) (v : ℕ) (names : List (List ℕ)) (x : Answer) → is_accepted x ≡ false → names_saved own (saved_by x v) names ≡ names
refused_names own v names (Ok accepted.Done) h = cc
refused_names own v names (Ok (accepted.Replied n)) h = cc
refused_names own v names (Err (denied.Refused r)) h = refl
refused_names own v names (Err (denied.RefusedAt r at)) h = refl

save_names : (a : NodeArgument) (ws bs store : List ℕ) (r : Saved) (store' : List ℕ) → Saves a ws bs store r store'
    → entry_names (entries_of store') ≡ names_saved (own_name a ws bs) r (entry_names (entries_of store))
save_names a ws bs store r store' s = go (is_accepted (save_judged a ws bs store)) refl
  where
    go : (b : Bool) → is_accepted (save_judged a ws bs store) ≡ b → entry_names (entries_of store') ≡ names_saved (own_name a ws bs) r (entry_names (entries_of store))
    go true h =
        ap entry_names (save_left a ws bs store r store' s.lent s h).entries
        ∙ names-saved (own_name a ws bs) (own_settings a ws bs) (entries_of store)
        ∙ sym (ap (λ (x : Saved). names_saved (own_name a ws bs) x (entry_names (entries_of store))) (save_answered a ws bs store r store' s h))
    go false h =
        ap (λ (l : List ℕ). entry_names (entries_of l)) (save_stays a ws bs store r store' s h)
        ∙ sym (refused_names (own_name a ws bs) (highest_for (own_name a ws bs) (entries_of store) + 1) (entry_names (entries_of store)) (save_judged a ws bs store) h)
        ∙ sym (ap (λ (x : Saved). names_saved (own_name a ws bs) x (entry_names (entries_of store))) s.answers)

drop_names : (name : List ℕ) (number : ℕ) (store : List ℕ) (r : Answer) (store' : List ℕ) → Drops name number store r store'
    → entry_names (entries_of store') ≡ entry_names (entries_of store)
drop_names name number store r store' d = go (is_accepted (drop_answer name number store)) refl
  where
    go : (b : Bool) → is_accepted (drop_answer name number store) ≡ b → entry_names (entries_of store') ≡ entry_names (entries_of store)
    go true h = ap entry_names (drop_left name number store r store' d h).entries ∙ names_dropped name number (entries_of store)
    go false h = ap (λ (l : List ℕ). entry_names (entries_of l)) (drop-stays name number store r store' d h)

call_names : (c : StoreCall) (store : List ℕ) → PromisedOn c store → entry_names (entries_of (store_left c)) ≡ names_after c (entry_names (entries_of store))
call_names (saves a ws bs r store') store s = save_names a ws bs store r store' s
call_names (drops name number r store') store d = drop_names name number store r store' d

-- "names by first save": behind those that stood there, each new one where it was first saved
pub names_stand : (cs : List StoreCall) (store : List ℕ) → StoreSession cs store
    → entry_names (entries_of (store_after cs store)) ≡ first_saved cs (entry_names (entries_of store))
unfolding StoreSession store_after first_saved
names_stand [] store s = refl
names_stand (c ∷ cs) store s = names_stand cs (store_left c) s.1 ∙ ap (first_saved cs) (call_names c store s.0)

-- "from an empty store names stand by first save"
pub names_from_empty : (cs : List StoreCall) (store : List ℕ) → entries_of store ≡ [] → StoreSession cs store
    → entry_names (entries_of (store_after cs store)) ≡ first_saved cs []
unfolding entry_names
names_from_empty cs store empty s = names_stand cs store s ∙ ap (λ (es : List Entry). first_saved cs (entry_names es)) empty
