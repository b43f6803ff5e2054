-- What a command's arguments mean in the engine: the node, the control, the bus, the value.
use Rattle.std.specs.Prelude.{ℕ, ◌+◌, ◌-◌, Bool, false, not, List, [], ◌∷◌, length, ltb, leb, eqb}
use Rattle.std.proofs.Math.Option.{Option, none, some}
use Rattle.words.specs.Choice.{pick, both}
use Rattle.format.specs.Definition.{Definition}
use Rattle.nodes.specs.declared.Node.{Node}
use Rattle.nodes.specs.Place.{lives}
use Rattle.values.specs.declared.NodeArgument.{NodeArgument}
use Rattle.values.specs.declared.Target.{Target}
use Rattle.values.specs.declared.Target.TheVariants.{Latest, Number, Reserved}
use Rattle.values.specs.declared.Key.{Key}
use Rattle.values.specs.declared.Key.TheVariants.{Index, Name}
use Rattle.values.specs.declared.Mapping.{Mapping}
use Rattle.values.specs.declared.Mapping.TheVariants.{Unmapped, Bus}
use Rattle.values.specs.Targets.{target_of}
use Rattle.model.specs.Layout.{bus_count}
use Rattle.format.specs.Names.{Covered, covered_by}
use Rattle.model.specs.Engine.{Engine}
use Rattle.words.specs.Patterns.{minus_one}

-- the first pattern that is negative
abbrev pub first_negative : ℕ
first_negative = 2147483648

abbrev pub is_negative : ℕ → Bool
is_negative n = leb first_negative n

-- "Where a command names an existing node, -1 means the latest synth made by `/s_new` while that very synth lives, else refusal 17 .. Below -1 no
-- command can name a node (17)."
abbrev pub meant_by : Target → ℕ → ℕ
meant_by Latest latest = latest
meant_by (Number n) latest = n
meant_by Reserved latest = 0

abbrev pub known_by : Target → ℕ → List Node → Bool
known_by Latest latest t = both (not (eqb latest 0)) (lives latest t)
known_by (Number n) latest t = lives n t
known_by Reserved latest t = false

-- the number of the node that an argument names, and whether there is such a node
abbrev pub meant : NodeArgument → Engine → ℕ
meant a e = meant_by (target_of a.number) e.latest

abbrev pub known : NodeArgument → Engine → Bool
known a e = known_by (target_of a.number) e.latest e.nodes

-- a node of the table by its number
abbrev pub no_record : Node
no_record = record { number = 0; depth = 0; run = 0; slot = 0; row = 0 }

unfoldable pub node_named : ℕ → List Node → Node
node_named n [] = no_record
node_named n (r ∷ l) = pick (eqb r.number n) r (node_named n l)

abbrev pub node : NodeArgument → Engine → Node
node a e = node_named (meant a e) e.nodes

-- the controls that a key covers, in a definition: an index all from there on, a name those from its index up to its width
abbrev pub cover_of : Key → List ℕ → Definition → Option Covered
cover_of (Index i) name d = some (record { index = i; width = length d.front.values - i })
cover_of Name name d = covered_by name (length d.front.values) d.front.names

-- "`/n_fill` start, count needs both at least 0 and, on a synth, start plus count at most P": the controls that are asked for are there
abbrev pub has_controls : Option Covered → ℕ → Definition → Bool
has_controls none count d = false
has_controls (some c) count d = leb (c.index + count) (length d.front.values)

-- paper 02, 6/14: "`/n_fill` by name past that width": more controls are asked for than the key covers
abbrev pub past_width : Option Covered → ℕ → Bool
past_width none count = false
past_width (some c) count = ltb c.width count

-- "Negative indices are always refused."
abbrev pub negative_key : Key → Bool
negative_key (Index i) = is_negative i
negative_key Name = false

-- "no such bus or bus range": 0 to 4,095
abbrev pub is_bus : ℕ → Bool
is_bus b = ltb b bus_count

-- "(count 0 allowed up to start 4,096)"; neither is negative
abbrev pub is_bus_range : ℕ → ℕ → Bool
is_bus_range start count = both (not (is_negative count)) (leb (start + count) bus_count)

-- "`/n_map` to -1 unmaps"
abbrev pub mapping_to : ℕ → Mapping
mapping_to bus = pick (eqb bus minus_one) Unmapped (Bus bus)
