-- The definitions of the index at a table of three nodes: the root, a synth with a generated number, and group 1000.
use Rattle.std.specs.Prelude.{true, false, ◌≡◌, refl, List, [], ◌∷◌}
use Rattle.nodes.specs.declared.Node.{Node}
use Rattle.nodes.specs.Table.{numbers}
use Rattle.index.specs.Index.{rises, indexed, put_in, by_number, index_of}
use Rattle.index.specs.declared.step.Known.TheVariants.{Between, Found}
use Rattle.index.specs.Lookup.{step, after_steps, lookup}

three : List Node
three =
    record { number = 0; depth = 0; run = 1; slot = 32; row = 0 }
    ∷ (record { number = 4294967288; depth = 1; run = 1; slot = 0; row = 0 } ∷ (record { number = 1000; depth = 1; run = 1; slot = 32; row = 0 } ∷ []))

afresh : index_of three ≡ 0 ∷ (2 ∷ (1 ∷ []))
unfolding three numbers put_in by_number
afresh = refl

kept : indexed (0 ∷ (2 ∷ (1 ∷ []))) three ≡ true
unfolding three numbers rises
kept = refl

-- not rising; too few; no place
broken : (indexed (0 ∷ (1 ∷ (2 ∷ []))) three ≡ false) × ((indexed (0 ∷ (2 ∷ [])) three ≡ false) × (indexed (0 ∷ (2 ∷ (3 ∷ []))) three ≡ false))
unfolding three numbers rises
broken = (refl, (refl, refl))

-- of three entries a step leaves two, then one, and the third compares: it finds 1000, and leaves no entry for 1
looked : (lookup 1 1000 (0 ∷ (2 ∷ (1 ∷ []))) three ≡ Between 1 3)
    × ((lookup 2 1000 (0 ∷ (2 ∷ (1 ∷ []))) three ≡ Between 1 2)
    × ((lookup 3 1000 (0 ∷ (2 ∷ (1 ∷ []))) three ≡ Found 2) × ((lookup 2 1 (0 ∷ (2 ∷ (1 ∷ []))) three ≡ Between 0 1) × (lookup 3 1 (0 ∷ (2 ∷ (1 ∷ []))) three ≡ Between 1 1))))
unfolding three numbers step after_steps
looked = (refl, (refl, (refl, (refl, refl))))
