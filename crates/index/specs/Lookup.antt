-- "ten steps, each given one stored node number, always settle a lookup"
use Rattle.std.specs.Prelude.{ℕ, zero, suc, ◌+◌, ◌-◌, ◌/◌, Bool, true, ◌≡◌, List, length, get_or, ltb, leb, eqb, Option, Some, None}
use Rattle.words.specs.Choice.{pick}
use Rattle.nodes.specs.declared.Node.{Node}
use Rattle.nodes.specs.Place.{place}
use Rattle.index.specs.declared.step.Known.{Known}
use Rattle.index.specs.declared.step.Known.TheVariants.{Between, Found}
use Rattle.nodes.specs.Table.{numbers}
use Rattle.index.specs.Index.{number_at}

-- settled: found, or no entry is left
abbrev pub settled : Known → Bool
settled (Between low high) = leb high low
settled (Found p) = true

-- what is answered then: the place, or the count
abbrev pub answer : ℕ → Known → ℕ
answer count (Between low high) = count
answer count (Found p) = p

-- and as the code says it: the place, if there is one
abbrev pub found_place : Known → Option ℕ
found_place (Between low high) = None
found_place (Found p) = Some p

-- how many entries a step leaves out, of those from one on and below another: half of them; and the entry behind so many, the middle one
abbrev pub half : ℕ → ℕ → ℕ
half low high = (high - low) / 2

abbrev pub halfway : ℕ → ℕ → ℕ
halfway low high = low + half low high

-- the entry that a step looks at
abbrev pub middle : Known → ℕ
middle (Between low high) = halfway low high
middle (Found p) = 0

-- a step at the one entry that is left: found, or no entry is left, behind it or before it
abbrev pub compared : ℕ → ℕ → ℕ → ℕ → ℕ → Known
compared n p stored low high = pick (eqb stored n) (Found p) (pick (ltb stored n) (Between high high) (Between low low))

-- a step at several: half of them are left out, the first ones or the last ones, so that how many are left does not depend on what is stored
abbrev pub halved : ℕ → ℕ → ℕ → ℕ → Known
halved n stored low high = pick (leb stored n) (Between (halfway low high) high) (Between low (high - half low high))

-- one step: what is known after it, of the number asked for, the place at that entry and ONE stored node number, that of the node there
unfoldable pub step : ℕ → ℕ → ℕ → Known → Known
step n p stored (Found q) = Found q
step n p stored (Between low high) = pick (leb high low) (Between low high) (pick (leb high (low + 1)) (compared n p stored low high) (halved n stored low high))

-- so many steps over the entries ix, where the stored node numbers are ks
unfoldable pub after_steps : ℕ → ℕ → List ℕ → List ℕ → Known → Known
after_steps zero n ix ks k = k
after_steps (suc m) n ix ks k = after_steps m n ix ks (step n (get_or ix (middle k) 0) (number_at ks (get_or ix (middle k) 0)) k)

-- a lookup: any of the entries can be it at first
abbrev pub lookup : ℕ → ℕ → List ℕ → List Node → Known
lookup m n ix t = after_steps m n ix (numbers t) (Between 0 (length t))

abbrev pub most_steps : ℕ
most_steps = 10

-- so many steps settle the lookup of n in a table with this index: nothing is open then, and what they say is r, the node's place
pub record SettledBy (m n : ℕ) (ix : List ℕ) (t : List Node) (r : ℕ) : Type 0 where
  pub settles : settled (lookup m n ix t) ≡ true
  pub answers : r ≡ answer (length t) (lookup m n ix t)
  pub right : r ≡ place n t
