-- The answer of a reading: the value and the place past it, or a refusal and its place.
use Prim.{Unit, tt}
use Rattle.std.specs.Prelude.{ℕ, zero, suc, Bool, List, [], ◌∷◌}
use Rattle.words.specs.Choice.{pick}
use Rattle.faults.specs.declared.Fault.{Fault}

pub data Read (A : Type 0) : Type 0 where
  got : A → ℕ → Read A
  bad : Fault → ℕ → Read A

module _ {A B : Type 0} where
  -- a reading that goes on where the first one ends
  abbrev pub and_then : Read A → (A → ℕ → Read B) → Read B
  and_then (got x next) more = more x next
  and_then (bad r at) more = bad r at

  -- what is kept of the value, where one was read
  abbrev pub map_read : (A → B) → Read A → Read B
  map_read keep (got x next) = got (keep x) next
  map_read keep (bad r at) = bad r at

  -- what is asked of a value that was read, and the answer where none was
  abbrev pub on_read : Read A → B → (A → ℕ → B) → B
  on_read (got x next) nothing ask = ask x next
  on_read (bad r at) nothing ask = nothing

module _ {A : Type 0} where
  -- the value read from a place on, if it passes a test; else a refusal at that place
  abbrev pub checked : Fault → (A → Bool) → ℕ → Read A → Read A
  checked r test at read = and_then read (λ x next. pick (test x) (got x next) (bad r at))

  -- so many values, one after the other
  unfoldable pub repeat : (ℕ → Read A) → ℕ → ℕ → Read (List A)
  repeat read zero at = got [] at
  repeat read (suc n) at = and_then (read at) (λ x next. and_then (repeat read n next) (λ xs end. got (x ∷ xs) end))

  -- where a reading ends, the value left out
  abbrev pub ending : Read A → Read (Unit {0})
  ending (got x next) = got tt next
  ending (bad r at) = bad r at
