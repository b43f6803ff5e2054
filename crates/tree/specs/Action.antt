-- "Add actions: 0 head, 1 tail of the target group; 2 before, 3 after the target; 4 replaces the target, whose subtree is freed."
use Rattle.std.specs.Prelude.{ℕ, zero, suc, ◌≤◌, ◌<◌, ◌≡◌, refl, List, [], ◌∷◌, Result, Ok, Err}
use Rattle.std.proofs.Common.{ap, arith}
use Rattle.refusals.specs.declared.Refusal.{Refusal}
use Rattle.refusals.specs.declared.Refusal.TheVariants.{BadFlag}
use Rattle.nodes.specs.declared.Node.{Node}
use Rattle.nodes.specs.Edit.{head_here, tail_here, before_here, after_here, over_here, edit_rows, add_by}
use Rattle.tree.specs.declared.action.Position.{Position}
use Rattle.tree.specs.declared.action.Position.TheVariants.{Head, Tail, Before, After}
use Rattle.tree.specs.declared.action.Action.{Action}
use Rattle.tree.specs.declared.action.Action.TheVariants.{Put, Replace}

-- the number of each action
abbrev pub number_of : Action → ℕ
number_of (Put Head) = 0
number_of (Put Tail) = 1
number_of (Put Before) = 2
number_of (Put After) = 3
number_of Replace = 4

-- what a number asks for; 13: "add action not 0 to 4"
unfoldable pub action_of : ℕ → Result Action Refusal
action_of zero = Ok (Put Head)
action_of (suc zero) = Ok (Put Tail)
action_of (suc (suc zero)) = Ok (Put Before)
action_of (suc (suc (suc zero))) = Ok (Put After)
action_of (suc (suc (suc (suc zero)))) = Ok Replace
action_of (suc (suc (suc (suc (suc n))))) = Err BadFlag

-- what stands in the place of the record r and of the records l that follow it, once the records xs are put in at a position there
abbrev pub put_here : Position → List Node → Node → List Node → List Node
put_here Head xs r l = head_here xs r l
put_here Tail xs r l = tail_here xs r l
put_here Before xs r l = before_here xs r l
put_here After xs r l = after_here xs r l

-- and by an add action
abbrev pub add_here : Action → List Node → Node → List Node → List Node
add_here (Put p) xs r l = put_here p xs r l
add_here Replace xs r l = over_here xs r l

-- a number that asks for an action is the action's
pub asked_number : (n : ℕ) (a : Action) → action_of n ≡ Ok a → n ≡ number_of a
unfolding action_of
asked_number zero a h = let same : Put Head ≡ a = cc in ap number_of same
asked_number (suc zero) a h = let same : Put Tail ≡ a = cc in ap number_of same
asked_number (suc (suc zero)) a h = let same : Put Before ≡ a = cc in ap number_of same
asked_number (suc (suc (suc zero))) a h = let same : Put After ≡ a = cc in ap number_of same
asked_number (suc (suc (suc (suc zero)))) a h = let same : Replace ≡ a = cc in ap number_of same
asked_number (suc (suc (suc (suc (suc n))))) a h = let z : ◌≡◌ {A = ℕ} 0 1 = cc in absurd (omega arith)

-- one that is refused is more than 4, and its refusal is 13
pub asked_refused : (n : ℕ) (why : Refusal) → action_of n ≡ Err why → (4 < n) × (why ≡ BadFlag)
unfolding action_of
asked_refused zero why h = let z : ◌≡◌ {A = ℕ} 0 1 = cc in absurd (omega arith)
asked_refused (suc zero) why h = let z : ◌≡◌ {A = ℕ} 0 1 = cc in absurd (omega arith)
asked_refused (suc (suc zero)) why h = let z : ◌≡◌ {A = ℕ} 0 1 = cc in absurd (omega arith)
asked_refused (suc (suc (suc zero))) why h = let z : ◌≡◌ {A = ℕ} 0 1 = cc in absurd (omega arith)
asked_refused (suc (suc (suc (suc zero)))) why h = let z : ◌≡◌ {A = ℕ} 0 1 = cc in absurd (omega arith)
asked_refused (suc (suc (suc (suc (suc n))))) why h = (omega arith, cc)

pub number_most : (a : Action) → number_of a ≤ 4
number_most (Put Head) = omega arith
number_most (Put Tail) = omega arith
number_most (Put Before) = omega arith
number_most (Put After) = omega arith
number_most Replace = omega arith

-- an action at the node n is the one with its number
pub add_number : (a : Action) (r : Node) (n : ℕ) (t : List Node) → edit_rows n (add_here a (r ∷ [])) t ≡ add_by (number_of a) r n t
add_number (Put Head) r n t = refl
add_number (Put Tail) r n t = refl
add_number (Put Before) r n t = refl
add_number (Put After) r n t = refl
add_number Replace r n t = refl
