-- The answers of a recall and of a save: each is one of their refusals, or an acceptance; an accepted recall passed each of its checks.
use Rattle.std.specs.Prelude.{ℕ, Bool, true, false, ◌≡◌, refl, List, [], ◌∷◌}
use Rattle.std.proofs.Math.Option.{Option, none, some}
use Rattle.std.proofs.Common.{arith}
use Rattle.std.proofs.lemmas.Bool.{not-false}
use Rattle.words.specs.Choice.{pick}
use Rattle.refusals.specs.declared.Refusal.TheVariants.{NoNode, WrongKind, VersionsFull, StoreUnformed, NoVersion, StoreFull}
use Rattle.nodes.specs.Place.{is_group}
use Rattle.values.specs.declared.NodeArgument.{NodeArgument}
use Rattle.model.specs.Answers.{Answer}
use Rattle.model.specs.Answers.{Done, Refused}
use Rattle.model.specs.Engine.{Engine, decode}
use Rattle.model.specs.Meaning.{known, node}
use Rattle.model.specs.Formed.{formed}
use Rattle.model.specs.Checks.{Check, first_of, node_check}
use Rattle.model.specs.Apply.{is_accepted}
use Rattle.store.specs.Store.{Version, store_formed, entries_of}
use Rattle.store.specs.Writing.{version_in}
use Rattle.settings.specs.Settings.{is_none, store_check, synth_check, version_check, save_checks, recall_checks, recall_answer}

-- what holds of a check's answer and of the checks behind it
first_holds : (P : Answer → Type 0) (c : Check) (cs : List Check) (a : Answer) → P c.answer → P (first_of cs a) → P (first_of (c ∷ cs) a)
unfolding first_of
first_holds P c cs a here more = go c.fires
  where
    go : (b : Bool) → P (pick b c.answer (first_of cs a))
    go true = here
    go false = more

-- .. so what holds of each of the refusals of a recall, and of a save, and of an acceptance holds of the answer
module _ (P : Answer → Type 0) (done : P Done) (unformed : P (Refused StoreUnformed)) (unknown : P (Refused NoNode)) (group : P (Refused WrongKind))
    (a : NodeArgument) (store : List ℕ) (e : Engine) where
  ends : P (first_of [] Done)
  unfolding first_of
  ends = done

  pub recall_answers : P (Refused NoVersion) → (name : List ℕ) (number : ℕ) → P (first_of (recall_checks name number a store e) Done)
  recall_answers missing name number =
      first_holds P (store_check store) _ Done unformed
      (first_holds P (node_check a e) _ Done unknown
      (first_holds P (synth_check a e) _ Done group
      (first_holds P (version_check name number store) [] Done missing ends)))

  pub save_answers : P (Refused VersionsFull) → P (Refused StoreFull) → P (first_of (save_checks a store e) Done)
  save_answers versions full =
      first_holds P (store_check store) _ Done unformed
      (first_holds P (node_check a e) _ Done unknown
      (first_holds P (synth_check a e) _ Done group
      (first_holds P _ _ Done versions
      (first_holds P _ [] Done full ends))))

-- an accepted answer's first check did not fire
pub first_passed : (c : Check) (cs : List Check) (a : Answer) → is_accepted c.answer ≡ false → is_accepted (first_of (c ∷ cs) a) ≡ true
    → (c.fires ≡ false) × (is_accepted (first_of cs a) ≡ true)
unfolding first_of
first_passed c cs a refuses h = go c.fires refl h
  where
    go : (b : Bool) → c.fires ≡ b → is_accepted (pick b c.answer (first_of cs a)) ≡ true → (c.fires ≡ false) × (is_accepted (first_of cs a) ≡ true)
    go true f y = let z : ◌≡◌ {A = ℕ} 0 1 = cc in absurd (omega arith)
    go false f y = (f, y)

record Found (o : Option Version) : Type 0 where
  version : Version
  is : o ≡ some version

-- what acceptance gives
pub record RecallAccepted (name : List ℕ) (number : ℕ) (a : NodeArgument) (store : List ℕ) (e : Engine) : Type 0 where
  pub read : store_formed store ≡ true
  pub node_known : known a e ≡ true
  pub node_kind : is_group (node a e) ≡ false
  pub version : Version
  pub there : version_in name number (entries_of store) ≡ some version

pub recall_accepted : (name : List ℕ) (number : ℕ) (a : NodeArgument) (store ws bs : List ℕ) → formed ws bs ≡ true → is_accepted (recall_answer name number a store ws bs) ≡ true
    → RecallAccepted name number a store (decode ws bs)
unfolding recall_answer
recall_accepted name number a store ws bs h k =
    let e = decode ws bs in
    let stored = first_passed (store_check store) _ Done refl judged in
    let found = first_passed (node_check a e) _ Done refl stored.1 in
    let kind = first_passed (synth_check a e) _ Done refl found.1 in
    let last = first_passed (version_check name number store) [] Done refl kind.1 in
    let version = there (version_in name number (entries_of store)) last.0 in
    record {
      read = not-false (store_formed store) stored.0;
      node_known = not-false (known a e) found.0;
      node_kind = kind.0;
      version = version.version;
      there = version.is;
    }
  where
    judged : is_accepted (first_of (recall_checks name number a store (decode ws bs)) Done) ≡ true
    judged = rw h at k

    there : (o : Option Version) → is_none o ≡ false → Found o
    there none q = let z : ◌≡◌ {A = ℕ} 0 1 = cc in absurd (omega arith)
    there (some v) q = record { version = v; is = refl }
