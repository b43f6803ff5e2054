-- The refusal table: a check that fires refuses, and never with 1. So a command is answered by a refusal, or each of its checks passed.
use Prim.{Unit, tt}
use Rattle.std.specs.Prelude.{ℕ, Bool, not, ◌≡◌, eqb, Ok, Err}
use Rattle.std.proofs.Math.Bool.{true, false}
use Rattle.std.proofs.Math.Path.{refl}
use mathlib.Core.List.{List, [], ◌∷◌}
use Rattle.std.proofs.Common.{arith}
use Rattle.words.specs.Choice.{pick, either}
use Rattle.words.specs.ChoiceLaws.{both_true}
use Rattle.refusals.specs.Refusals.{number_of}
use Rattle.format.specs.Read.{Read, got, bad}
use Rattle.format.specs.Definition.{Definition}
use Rattle.format.specs.Reader.{read_file}
use Rattle.format.specs.Bounds.{every}
use Rattle.model.specs.declared.DefinitionCommand.TheVariants as definitions
use Rattle.model.specs.declared.TreeCommand.TheVariants as tree
use Rattle.model.specs.declared.ControlCommand.TheVariants as controls
use Rattle.model.specs.declared.BusCommand.TheVariants as buses
use Rattle.model.specs.declared.Query.TheVariants as query
use Rattle.model.specs.declared.Command.{Command}
use Rattle.model.specs.declared.Command.TheVariants as command
use Rattle.model.specs.declared.Accepted.TheVariants as accepted
use Rattle.model.specs.declared.Denied.TheVariants as denied
use Rattle.model.specs.Answers.{Answer}
use Rattle.model.specs.Answers.{Done, Replied, Refused, RefusedAt}
use Rattle.model.specs.Engine.{Engine}
use Rattle.model.specs.Checks.{Check, first_of, fault_of, definition_checks, tree_checks, control_checks, bus_checks, query_checks}
use Rattle.model.specs.Apply.{is_accepted}

-- a refusal that is not 1
abbrev pub is_refusal : Answer → Bool
is_refusal (Ok accepted.Done) = false
is_refusal (Ok (accepted.Replied n)) = false
is_refusal (Err (denied.Refused r)) = not (eqb (number_of r) 1)
is_refusal (Err (denied.RefusedAt r at)) = true

-- a check that refuses where it fires
abbrev refuses : Check → Bool
refuses c = either (is_refusal c.answer) (not c.fires)

abbrev pub checks_of : Command → List ℕ → Engine → List Check
checks_of (command.Definitions c) bytes e = definition_checks c bytes e
checks_of (command.Tree c) bytes e = tree_checks c bytes e
checks_of (command.Controls c) bytes e = control_checks c bytes e
checks_of (command.Buses c) bytes e = bus_checks c e
checks_of (command.Query q) bytes e = query_checks q bytes e

file-refuses : (r : Read (List Definition)) → refuses (fault_of r) ≡ true
file-refuses (got ds end) = refl
file-refuses (bad r at) = refl

all_refuse : (c : Command) (bytes : List ℕ) (e : Engine) → every refuses (checks_of c bytes e) ≡ true
unfolding every
all_refuse (command.Definitions definitions.Receive) bytes e = rw (file-refuses (read_file bytes))
all_refuse (command.Definitions definitions.Free) bytes e = refl
all_refuse (command.Tree (tree.NewSynth number action target)) bytes e = refl
all_refuse (command.Tree (tree.NewGroup number action target)) bytes e = refl
all_refuse (command.Tree (tree.Free n)) bytes e = refl
all_refuse (command.Tree (tree.FreeAll g)) bytes e = refl
all_refuse (command.Tree (tree.DeepFree g)) bytes e = refl
all_refuse (command.Tree (tree.Before a b)) bytes e = refl
all_refuse (command.Tree (tree.After a b)) bytes e = refl
all_refuse (command.Tree (tree.Head g a)) bytes e = refl
all_refuse (command.Tree (tree.Tail g a)) bytes e = refl
all_refuse (command.Tree (tree.Run n flag)) bytes e = refl
all_refuse (command.Controls (controls.Set n key value)) bytes e = refl
all_refuse (command.Controls (controls.Fill n key count value)) bytes e = refl
all_refuse (command.Controls (controls.Map n key bus)) bytes e = refl
all_refuse (command.Buses (buses.Set bus value)) bytes e = refl
all_refuse (command.Buses (buses.Fill start count value)) bytes e = refl
all_refuse (command.Query (query.Node n)) bytes e = refl
all_refuse (command.Query (query.Control n key)) bytes e = refl
all_refuse (command.Query (query.Bus bus)) bytes e = refl
all_refuse (command.Query (query.Tree g flag)) bytes e = refl
all_refuse (command.Query query.Status) bytes e = refl
all_refuse (command.Query query.Export) bytes e = refl

-- none of the checks fired
unfoldable pub Passed : List Check → Type 0
Passed [] = Unit {0}
Passed (c ∷ cs) = (c.fires ≡ false) × Passed cs

module _ (P : Answer → Type 0) (refused : (a : Answer) → is_refusal a ≡ true → P a) where
  first_either : (cs : List Check) (a : Answer) → every refuses cs ≡ true → (Passed cs → P a) → P (first_of cs a)
  unfolding every first_of Passed
  first_either [] a h passed = passed tt
  first_either (c ∷ cs) a h passed =
      let w = both_true (refuses c) (every refuses cs) h in
      go c.fires refl w.0 (first_either cs a w.1)
    where
      go : (b : Bool) → c.fires ≡ b → either (is_refusal c.answer) (not b) ≡ true → ((Passed cs → P a) → P (first_of cs a)) → P (pick b c.answer (first_of cs a))
      go true fires r ih = refused c.answer (plain (is_refusal c.answer) r)
        where
          plain : (b : Bool) → either b false ≡ true → b ≡ true
          plain true q = refl
          plain false q = q
      go false fires r ih = ih (λ k. passed (fires, k))

  -- what holds of every refusal, and of a where each check passed, holds of the answer
  pub by_checks : (c : Command) (bytes : List ℕ) (e : Engine) (a : Answer) → (Passed (checks_of c bytes e) → P a) → P (first_of (checks_of c bytes e) a)
  by_checks c bytes e a passed = first_either (checks_of c bytes e) a (all_refuse c bytes e) passed

-- an accepted command passed each of its checks
pub all_passed : (c : Command) (bytes : List ℕ) (e : Engine) (a : Answer) → is_accepted (first_of (checks_of c bytes e) a) ≡ true → Passed (checks_of c bytes e)
all_passed c bytes e a h = by_checks (λ x. is_accepted x ≡ true → Passed (checks_of c bytes e)) (λ x r q. absurd (never x r q)) c bytes e a (λ p q. p) h
  where
    never : (x : Answer) → is_refusal x ≡ true → is_accepted x ≡ true → ⊥
    never (Ok accepted.Done) r q = let z : ◌≡◌ {A = ℕ} 0 1 = cc in omega arith
    never (Ok (accepted.Replied n)) r q = let z : ◌≡◌ {A = ℕ} 0 1 = cc in omega arith
    never (Err (denied.Refused f)) r q = let z : ◌≡◌ {A = ℕ} 0 1 = cc in omega arith
    never (Err (denied.RefusedAt f at)) r q = let z : ◌≡◌ {A = ℕ} 0 1 = cc in omega arith
