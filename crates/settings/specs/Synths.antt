-- The checks that a save and a recall begin with: the place of the synth, or a refusal whatever they check after it.
use Rattle.std.specs.Prelude.{ℕ, true, false, ◌≡◌, List, ◌∷◌, Ok, Err, Result}
use Rattle.refusals.specs.declared.Refusal.{Refusal}
use Rattle.refusals.specs.declared.Refusal.TheVariants.{BadState, WrongKind, StoreUnformed}
use Rattle.nodes.specs.Place.{is_group}
use Rattle.values.specs.declared.NodeArgument.{NodeArgument}
use Rattle.model.specs.Answers.{Done, Refused}
use Rattle.model.specs.Layout.{record_in}
use Rattle.model.specs.Engine.{decode}
use Rattle.model.specs.Formed.{formed}
use Rattle.model.specs.Checks.{Check, first_of, node_check}
use Rattle.names.specs.Judged.{NodeFound, NodeRefused}
use Rattle.names.specs.Here.{node_here}
use Rattle.store.specs.Store.{store_formed}
use Rattle.settings.specs.Settings.{store_check, synth_check, behind_state}

pub record SynthFound (a : NodeArgument) (ws bs store : List ℕ) (at : ℕ) : Type 0 where
  pub whole : formed ws bs ≡ true
  pub stands : store_formed store ≡ true
  pub found : NodeFound a ws at
  pub single : is_group (record_in ws at) ≡ false

pub record SynthRefused (a : NodeArgument) (ws bs store : List ℕ) (r : Refusal) : Type 0 where
  pub answer : (more : List Check)
      → behind_state (formed ws bs) (first_of (store_check store ∷ (node_check a (decode ws bs) ∷ (synth_check a (decode ws bs) ∷ more))) Done) ≡ Refused r

abbrev pub SynthJudged : NodeArgument → List ℕ → List ℕ → List ℕ → Result ℕ Refusal → Type 0
SynthJudged a ws bs store (Ok at) = SynthFound a ws bs store at
SynthJudged a ws bs store (Err r) = SynthRefused a ws bs store r

module _ (a : NodeArgument) (ws bs store : List ℕ) where
  pub synth_bad_state : formed ws bs ≡ false → SynthRefused a ws bs store BadState
  synth_bad_state e = record { answer = λ more. rw e }

  module _ (whole : formed ws bs ≡ true) where
    pub synth_unformed : store_formed store ≡ false → SynthRefused a ws bs store StoreUnformed
    unfolding first_of
    synth_unformed e = record { answer = λ more. rw (whole, e) }

    module _ (stands : store_formed store ≡ true) where
      pub synth_unknown : (r : Refusal) → NodeRefused a ws r → SynthRefused a ws bs store r
      unfolding first_of
      synth_unknown r n = record { answer = λ more. rw (whole, stands, n.fires bs) (n.answer bs) }

      pub synth_group : (at : ℕ) → NodeFound a ws at → is_group (record_in ws at) ≡ true → SynthRefused a ws bs store WrongKind
      unfolding first_of
      synth_group at n g = record { answer = λ more. rw (whole, stands, n.passes bs, node_here a ws at n bs, g) }
