-- A choice by a test, and what it tells.
use Rattle.std.specs.Prelude.{Bool, true, false}

abbrev pub pick {ℓ} : {A : Type ℓ} → Bool → A → A → A
pick true a b = a
pick false a b = b

-- both tests hold
abbrev pub both : Bool → Bool → Bool
both a b = pick a b false

-- one of two tests holds
abbrev pub either : Bool → Bool → Bool
either a b = pick a true b
