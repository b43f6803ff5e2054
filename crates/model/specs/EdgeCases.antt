-- The paper's other examples, and the points of the paper that are easy to get wrong, as a second table, by computation.
use Rattle.std.specs.Prelude.{ℕ, zero, suc, ◌+◌, ◌-◌, ◌*◌, Bool, true, false, ◌≡◌, refl, List, [], ◌∷◌, ◌++◌, map, length, take, drop, replicate}
use Rattle.std.proofs.Common.{ap, ◌∙◌}
use Rattle.format.specs.Read.{repeat}
use Rattle.format.specs.Fields.{name_bytes}
use Rattle.format.specs.Reader.{front_by, unit_by, units_by, definition_by, read_definitions, read_file, same_name, among}
use Rattle.format.specs.Writer.{write_all, write_definition_by, write_file}
use Rattle.nodes.specs.Place.{lives}
use Rattle.nodes.specs.Edit.{lift, sink, take_deeper, drop_deeper, only_groups, run_of, edit_rows}
use Rattle.nodes.specs.Order.{order_from}
use Rattle.nodes.specs.Formed.{row_taken, free_row_from}
use Rattle.std.specs.Float.Ieee.{to_bits, of_int}
use Rattle.words.specs.Choice.{pick}
use Rattle.osc.specs.Message.{tags, arguments}
use Rattle.values.specs.declared.Key.TheVariants.{Index, Name}
use Rattle.values.specs.declared.Value.TheVariants.{Float, Integer}
use Rattle.values.specs.declared.NodeArgument.{NodeArgument}
use Rattle.values.specs.Targets.{argument, target_of}
use Rattle.values.specs.Values.{in_bounds, pattern}
use Rattle.model.specs.declared.DefinitionCommand.TheVariants as definitions
use Rattle.model.specs.declared.TreeCommand.{TreeCommand}
use Rattle.model.specs.declared.TreeCommand.TheVariants.{NewSynth, NewGroup, Free, FreeAll, DeepFree, Before, After, Head, Tail, Run}
use Rattle.model.specs.declared.ControlCommand.TheVariants.{Set, Fill, Map}
use Rattle.model.specs.declared.BusCommand.TheVariants as buses
use Rattle.model.specs.declared.Query.{Query}
use Rattle.model.specs.declared.Query.TheVariants as query
use Rattle.model.specs.declared.Command.TheVariants.{Definitions, Tree, Controls, Buses, Query as Asked}
use Rattle.nodes.specs.Structure.{first_or, last_or, at_depth, depth_of, last_above, last_beside, first_beside, next_of}
use Rattle.format.specs.Names.{first_index, next_index, first_name}
use Rattle.model.specs.Engine.{Engine, held, residents, resident_from, controls_from}
use Rattle.model.specs.View.{view_rows, shape}
use Rattle.words.specs.Patterns.{minus_one}
use Rattle.model.specs.Meaning.{node_named}
use Rattle.model.specs.Checks.{first_of, names_of, staying}
use Rattle.model.specs.Effects.{retired, free_from, loaded, initial_words, change_words, change_all, effect}
use Rattle.model.specs.Replies.{plain_named, control_arguments, rows_below, rows_at, tree_arguments, subtree_rows, unit_count, group_count, synth_count, definitions_in, reply_to}
use Rattle.model.specs.Apply.{query_answer, answer_in, answer_number}
use Rattle.model.specs.Examples.{header, int, file_of, one_name, ping, ping_name, load}
use Rattle.model.specs.Fresh.{fresh_engine, fresh_parts, fresh-parts}
use Rattle.model.specs.Script.{Line, line, played, answers_of, replied, order_after, verdict, Example, example, agrees}

abbrev rain : List ℕ
rain =
    83 ∷ 67 ∷ 103 ∷ 102 ∷ 0 ∷ 0 ∷ 0 ∷ 2 ∷ 0 ∷ 1 ∷ 4 ∷ 114 ∷ 97 ∷ 105 ∷ 110 ∷ 0 ∷ 0 ∷ 0 ∷ 0 ∷ 0 ∷ 0 ∷ 0 ∷ 3 ∷ 63 ∷ 128 ∷ 0 ∷ 0 ∷ 64 ∷ 0 ∷ 0 ∷ 0 ∷ 64 ∷ 64 ∷ 0 ∷ 0 ∷ 0 ∷ 0 ∷ 0 ∷ 3 ∷ 3 ∷ 97 ∷ 109 ∷ 112 ∷ 0 ∷ 0 ∷ 0 ∷ 0 ∷ 3 ∷ 112 ∷ 97 ∷ 110 ∷ 0 ∷ 0 ∷ 0 ∷ 1 ∷ 4 ∷ 116 ∷ 111 ∷ 110 ∷ 101 ∷ 0 ∷ 0 ∷ 0 ∷ 2 ∷ 0 ∷ 0 ∷ 0 ∷ 0 ∷ 0 ∷ 0 ∷ []

abbrev other_rain : List ℕ
other_rain =
    83 ∷ 67 ∷ 103 ∷ 102 ∷ 0 ∷ 0 ∷ 0 ∷ 2 ∷ 0 ∷ 1 ∷ 4 ∷ 114 ∷ 97 ∷ 105 ∷ 110 ∷ 0 ∷ 0 ∷ 0 ∷ 0 ∷ 0 ∷ 0 ∷ 0 ∷ 2 ∷ 64 ∷ 160 ∷ 0 ∷ 0 ∷ 64 ∷ 192 ∷ 0 ∷ 0 ∷ 0 ∷ 0 ∷ 0 ∷ 3 ∷ 3 ∷ 112 ∷ 97 ∷ 110 ∷ 0 ∷ 0 ∷ 0 ∷ 0 ∷ 3 ∷ 97 ∷ 109 ∷ 112 ∷ 0 ∷ 0 ∷ 0 ∷ 1 ∷ 3 ∷ 97 ∷ 109 ∷ 112 ∷ 0 ∷ 0 ∷ 0 ∷ 0 ∷ 0 ∷ 0 ∷ 0 ∷ 0 ∷ 0 ∷ 0 ∷ []

abbrev twice : List ℕ
twice =
    83 ∷ 67 ∷ 103 ∷ 102 ∷ 0 ∷ 0 ∷ 0 ∷ 2 ∷ 0 ∷ 2 ∷ 4 ∷ 112 ∷ 105 ∷ 110 ∷ 103 ∷ 0 ∷ 0 ∷ 0 ∷ 0 ∷ 0 ∷ 0 ∷ 0 ∷ 1 ∷ 67 ∷ 220 ∷ 0 ∷ 0 ∷ 0 ∷ 0 ∷ 0 ∷ 1 ∷ 4 ∷ 102 ∷ 114 ∷ 101 ∷ 113 ∷ 0 ∷ 0 ∷ 0 ∷ 0 ∷ 0 ∷ 0 ∷ 0 ∷ 0 ∷ 0 ∷ 0 ∷ 4 ∷ 112 ∷ 105 ∷ 110 ∷ 103 ∷ 0 ∷ 0 ∷ 0 ∷ 0 ∷ 0 ∷ 0 ∷ 0 ∷ 0 ∷ 0 ∷ 0 ∷ 0 ∷ 0 ∷ 0 ∷ 0 ∷ 0 ∷ 0 ∷ 0 ∷ 0 ∷ []

abbrev rain_name : List ℕ
rain_name = 114 ∷ 97 ∷ 105 ∷ 110 ∷ []

abbrev amp_name : List ℕ
amp_name = 97 ∷ 109 ∷ 112 ∷ []

abbrev pan_name : List ℕ
pan_name = 112 ∷ 97 ∷ 110 ∷ []

abbrev a_name : List ℕ
a_name = 97 ∷ []

abbrev no_name : List ℕ
no_name = 122 ∷ 122 ∷ []

-- a definition of 510 constants, longer than 2,048 bytes: the header, `big`, 510, zeros up to the last field
abbrev long : List ℕ
long = take 10 ping ++ (3 ∷ 98 ∷ 105 ∷ 103 ∷ 0 ∷ 0 ∷ 1 ∷ 254 ∷ []) ++ replicate 2040 0 ++ replicate 12 0 ++ (0 ∷ 0 ∷ [])

-- one unit, `U`, of a rate, with no inputs and one output of a rate
abbrev rated : ℕ → ℕ → List ℕ
rated rate output = file_of 0 (int 0) (int 1 ++ (1 ∷ 85 ∷ rate ∷ []) ++ int 0 ++ int 1 ++ (0 ∷ 0 ∷ output ∷ []))

-- the head's first eight bytes, of a version
abbrev versioned : ℕ → List ℕ
versioned v = take 4 ping ++ (0 ∷ 0 ∷ 0 ∷ v ∷ [])

-- "ping" in version 1: its counts and its index in two bytes each
abbrev narrow_ping : List ℕ
narrow_ping =
    versioned 1 ++ (0 ∷ 1 ∷ 4 ∷ 112 ∷ 105 ∷ 110 ∷ 103 ∷ 0 ∷ 0 ∷ 0 ∷ 1 ∷ 67 ∷ 220 ∷ 0 ∷ 0 ∷ 0 ∷ 1 ∷ 4 ∷ 102 ∷ 114 ∷ 101 ∷ 113 ∷ 0 ∷ 0 ∷ 0 ∷ 0 ∷ 0 ∷ 0 ∷ [])

-- in version 1 a definition of one constant and one unit, whose one input has a unit index of two bytes and the constant index 0
abbrev narrow_input : ℕ → ℕ → List ℕ
narrow_input high low =
    versioned 1 ++ (0 ∷ 1 ∷ 1 ∷ 97 ∷ 0 ∷ 1 ∷ 0 ∷ 0 ∷ 0 ∷ 0 ∷ 0 ∷ 0 ∷ 0 ∷ 0 ∷ 0 ∷ 1 ∷ [])
    ++ (1 ∷ 85 ∷ 0 ∷ 0 ∷ 1 ∷ 0 ∷ 0 ∷ 0 ∷ 0 ∷ high ∷ low ∷ 0 ∷ 0 ∷ 0 ∷ 0 ∷ [])

-- so many parameter names `a` of the index 0, in version 1
unfoldable pub short_names : ℕ → List ℕ
short_names zero = []
short_names (suc n) = 1 ∷ 97 ∷ 0 ∷ 0 ∷ short_names n

-- in version 1 a definition of one parameter and so many names, of which the count is given by its bytes
abbrev narrow_names : ℕ → ℕ → ℕ → List ℕ
narrow_names high low n =
    versioned 1 ++ (0 ∷ 1 ∷ 1 ∷ 97 ∷ 0 ∷ 0 ∷ 0 ∷ 1 ∷ 0 ∷ 0 ∷ 0 ∷ 0 ∷ high ∷ low ∷ []) ++ short_names n ++ (0 ∷ 0 ∷ 0 ∷ 0 ∷ [])

-- patterns of -2, of -8 and of the lowest number
abbrev minus_two : ℕ
minus_two = 4294967294

abbrev minus_eight : ℕ
minus_eight = 4294967288

abbrev lowest : ℕ
lowest = 2147483648

abbrev pub synth : ℕ → ℕ → ℕ → Line
synth number action target = line (Tree (NewSynth number action (argument target))) ping_name

abbrev group : ℕ → ℕ → ℕ → Line
group number action target = line (Tree (NewGroup number action (argument target))) []

-- "ping" 1000 in group 1
abbrev one : List Line
one = load ping ∷ group 1 1 0 ∷ synth 1000 1 1 ∷ []

-- an old `rain` 10, the name reloaded with its controls in another order, and a new `rain` 11
abbrev rains : List Line
rains =
    load rain
    ∷ line (Tree (NewSynth 10 1 (argument 0))) rain_name
    ∷ load other_rain
    ∷ line (Tree (NewSynth 11 1 (argument 0))) rain_name
    ∷ []

-- the answer of the last line of a script
abbrev last : Engine → List Line → List ℕ
last e ls = drop (length ls - 1) (answers_of e ls)

-- the value bytes of a reply to `/s_get` by index
abbrev value : Engine → List Line → ℕ → ℕ → List ℕ
value e ls n i = drop 24 (replied e ls (line (Asked (query.Control (argument n) (Index i))) []))

-- the four numbers of `/status`
abbrev status : Engine → List Line → List ℕ
status e ls = drop 24 (replied e ls (line (Asked query.Status) []))

-- so many groups, numbered from n on
unfoldable pub groups : ℕ → ℕ → List Line
groups zero n = []
groups (suc k) n = group n 1 0 ∷ groups k (n + 1)

-- a file of 32 definitions with one byte to a name, from n on
unfoldable pub bodies : ℕ → ℕ → List ℕ
bodies zero n = []
bodies (suc k) n = 1 ∷ n ∷ (replicate 18 0 ++ bodies k (n + 1))

abbrev thirty_two : ℕ → List ℕ
thirty_two n = header 32 ++ bodies 32 n

-- "ping" in slot 0, held by 1000 and retired; "rain" in slot 1
abbrev retired_ping : List Line
retired_ping = load ping ∷ synth 1000 1 0 ∷ load rain ∷ line (Definitions definitions.Free) ping_name ∷ []

-- the answer to `/g_queryTree` 0 0 behind `one`, with so much room for the reply
abbrev room_for : ℕ → Engine → ℕ
room_for room e = answer_number (answer_in (Asked (query.Tree (argument 0) 0)) [] (played one e) room)

-- the engine with one number left to give
abbrev with_last_number : Engine → Engine
with_last_number e = record { slots = e.slots; nodes = e.nodes; order = e.order; controls = e.controls; buses = e.buses; next = lowest; latest = e.latest }

abbrev files_and_replies : Engine → List Example
files_and_replies e =
    -- a file of 3 bytes is truncated at its first field
    example (verdict (read_file (take 3 ping))) (2 ∷ 0 ∷ [])
    -- a pstring is one field: cut anywhere, its place is its length byte
    ∷ example (verdict (read_file (take 13 ping))) (2 ∷ 10 ∷ [])
    -- "a repeated name (place: the later name)"
    ∷ example (verdict (read_file twice)) (10 ∷ 46 ∷ [])
    -- "The 2,048 limit (place: start of the definition)"
    ∷ example (verdict (read_file long)) (9 ∷ 10 ∷ [])
    -- a fault before its end decides first
    ∷ example (verdict (read_file (take (length long - 1) long))) (2 ∷ 2070 ∷ [])
    -- "bytes after the end (place: the first of them)"
    ∷ example (verdict (read_file (ping ++ (0 ∷ [])))) (11 ∷ 46 ∷ [])
    -- "Allow 0 to 3 in both places; 7 is for the rest": at a unit and at its output
    ∷ example (verdict (read_file (rated 3 0))) (0 ∷ 1 ∷ [])
    ∷ example (verdict (read_file (rated 4 0))) (7 ∷ 30 ∷ [])
    ∷ example (verdict (read_file (rated 0 3))) (0 ∷ 1 ∷ [])
    ∷ example (verdict (read_file (rated 0 4))) (7 ∷ 41 ∷ [])
    -- paper 02, 4/14: "Refusal 4 is now for versions other than 1 and 2": "ping" in version 1, and versions 0 and 3
    ∷ example (verdict (read_file narrow_ping)) (0 ∷ 1 ∷ [])
    ∷ example (verdict (read_file (versioned 0 ++ drop 8 narrow_ping))) (4 ∷ 4 ∷ [])
    ∷ example (verdict (read_file (versioned 3 ++ drop 8 ping))) (4 ∷ 4 ∷ [])
    -- the bytes of version 1 are none of version 2, nor the other way round
    ∷ example (verdict (read_file (versioned 2 ++ drop 8 narrow_ping))) (5 ∷ 23 ∷ [])
    ∷ example (verdict (read_file (versioned 1 ++ drop 8 ping))) (2 ∷ 23 ∷ [])
    -- "-1 staying -1": an input that names a constant; a count of -1
    ∷ example (verdict (read_file (narrow_input 255 255))) (0 ∷ 1 ∷ [])
    ∷ example (verdict (read_file (narrow_input 255 254))) (8 ∷ 33 ∷ [])
    ∷ example (verdict (read_file (take 15 narrow_ping ++ (255 ∷ 255 ∷ []) ++ drop 17 narrow_ping))) (5 ∷ 15 ∷ [])
    -- "The 2,048 limit is measured on the version 2 encoding": 337 names make 2,046 bytes there and 338 make 2,052, though in version 1 they are
    -- far fewer
    ∷ example (verdict (read_file (narrow_names 1 81 337))) (0 ∷ 1 ∷ [])
    ∷ example (verdict (read_file (narrow_names 1 82 338))) (9 ∷ 10 ∷ [])
    -- "export always writes version 2 .. a version 1 file must load as its widened twin does"
    ∷ example (replied e (load narrow_ping ∷ []) (line (Asked query.Export) [])) ping
    -- "not "SCgf""
    ∷ example (verdict (read_file (84 ∷ drop 1 ping))) (3 ∷ 0 ∷ [])
    -- an empty definition name
    ∷ example (verdict (read_file (take 10 ping ++ (0 ∷ []) ++ replicate 18 0))) (6 ∷ 10 ∷ [])
    -- a byte of 128 in a name
    ∷ example (verdict (read_file (take 10 ping ++ (1 ∷ 128 ∷ []) ++ replicate 18 0))) (6 ∷ 10 ∷ [])
    -- "Root holding group 1 holding only "ping" 1000, flag 0, whole reply of 68 bytes"
    ∷ example (length (replied e one (line (Asked (query.Tree (argument 0) 0)) [])) ∷ []) (68 ∷ [])
    -- its bytes
    ∷ example (replied e one (line (Asked (query.Tree (argument 0) 0)) [])) (47 ∷ 103 ∷ 95 ∷ 113 ∷ 117 ∷ 101 ∷ 114 ∷ 121 ∷ 84 ∷ 114 ∷ 101 ∷ 101 ∷ 46 ∷ 114 ∷ 101 ∷ 112 ∷ 108 ∷ 121 ∷ 0 ∷ 0 ∷ 44 ∷ 105 ∷ 105 ∷ 105 ∷ 105 ∷ 105 ∷ 105 ∷ 105 ∷ 115 ∷ 0 ∷ 0 ∷ 0 ∷ 0 ∷ 0 ∷ 0 ∷ 0 ∷ 0 ∷ 0 ∷ 0 ∷ 0 ∷ 0 ∷ 0 ∷ 0 ∷ 1 ∷ 0 ∷ 0 ∷ 0 ∷ 1 ∷ 0 ∷ 0 ∷ 0 ∷ 1 ∷ 0 ∷ 0 ∷ 3 ∷ 232 ∷ 255 ∷ 255 ∷ 255 ∷ 255 ∷ 112 ∷ 105 ∷ 110 ∷ 103 ∷ 0 ∷ 0 ∷ 0 ∷ 0 ∷ [])
    -- "With flag 1: 88 bytes."
    ∷ example (length (replied e one (line (Asked (query.Tree (argument 0) 1)) [])) ∷ []) (88 ∷ [])
    -- its bytes
    ∷ example (replied e one (line (Asked (query.Tree (argument 0) 1)) [])) (47 ∷ 103 ∷ 95 ∷ 113 ∷ 117 ∷ 101 ∷ 114 ∷ 121 ∷ 84 ∷ 114 ∷ 101 ∷ 101 ∷ 46 ∷ 114 ∷ 101 ∷ 112 ∷ 108 ∷ 121 ∷ 0 ∷ 0 ∷ 44 ∷ 105 ∷ 105 ∷ 105 ∷ 105 ∷ 105 ∷ 105 ∷ 105 ∷ 115 ∷ 105 ∷ 115 ∷ 102 ∷ 0 ∷ 0 ∷ 0 ∷ 0 ∷ 0 ∷ 0 ∷ 0 ∷ 1 ∷ 0 ∷ 0 ∷ 0 ∷ 0 ∷ 0 ∷ 0 ∷ 0 ∷ 1 ∷ 0 ∷ 0 ∷ 0 ∷ 1 ∷ 0 ∷ 0 ∷ 0 ∷ 1 ∷ 0 ∷ 0 ∷ 3 ∷ 232 ∷ 255 ∷ 255 ∷ 255 ∷ 255 ∷ 112 ∷ 105 ∷ 110 ∷ 103 ∷ 0 ∷ 0 ∷ 0 ∷ 0 ∷ 0 ∷ 0 ∷ 0 ∷ 1 ∷ 102 ∷ 114 ∷ 101 ∷ 113 ∷ 0 ∷ 0 ∷ 0 ∷ 0 ∷ 67 ∷ 220 ∷ 0 ∷ 0 ∷ [])
    -- "Any nonzero flag is 1."
    ∷ example (replied e one (line (Asked (query.Tree (argument 0) 7)) [])) (replied e one (line (Asked (query.Tree (argument 0) 1)) []))
    ∷ []

abbrev making : Engine → List Example
making e =
    -- a new number 0 is live
    example (last e (one ++ (synth 0 1 0 ∷ []))) (15 ∷ [])
    -- 14 comes before 15: below -1
    ∷ example (last e (one ++ (synth minus_two 1 0 ∷ []))) (14 ∷ [])
    -- -1 for a group
    ∷ example (last e (one ++ (group minus_one 1 0 ∷ []))) (14 ∷ [])
    -- "add action not 0 to 4" comes first
    ∷ example (last e (one ++ (synth 0 5 99 ∷ []))) (13 ∷ [])
    -- "For -1 the engine gives -8, then -9": answersFrom by `/n_query`
    ∷ example (drop 16 (take 20 (replied e (one ++ (synth minus_one 1 0 ∷ synth minus_one 1 0 ∷ [])) (line (Asked (query.Node (argument minus_one))) [])))) (255 ∷ 255 ∷ 255 ∷ 247 ∷ [])
    -- "Below -1 no command can name a node (17)", even a live one
    ∷ example (last e (one ++ (synth minus_one 1 0 ∷ line (Tree (Free (argument minus_eight))) [] ∷ []))) (17 ∷ [])
    -- -1 is the latest while it lives
    ∷ example (last e (one ++ (line (Tree (Free (argument minus_one))) [] ∷ []))) (0 ∷ [])
    -- "even if its number lives again"
    ∷ example (last e (one ++ (line (Tree (Free (argument 1000))) [] ∷ group 1000 1 0 ∷ line (Tree (Free (argument minus_one))) [] ∷ []))) (17 ∷ [])
    -- no resident of that name, before no such node
    ∷ example (last e (one ++ (line (Tree (NewSynth 5 1 (argument 99))) no_name ∷ []))) (16 ∷ [])
    -- no such target
    ∷ example (last e (one ++ (synth 5 1 99 ∷ []))) (17 ∷ [])
    -- into a synth
    ∷ example (last e (one ++ (synth 5 1 1000 ∷ []))) (18 ∷ [])
    -- beside the root
    ∷ example (last e (one ++ (synth 5 2 0 ∷ []))) (18 ∷ [])
    ∷ []

abbrev numbers_and_moves : Engine → List Example
numbers_and_moves e =
    -- over the root
    example (last e (one ++ (synth 5 4 0 ∷ []))) (18 ∷ [])
    -- action 4 with a number that it would free
    ∷ example (last e (one ++ (synth 1000 4 1 ∷ []))) (15 ∷ [])
    -- action 4 frees the whole subtree
    ∷ example (order_after e (one ++ (synth 5 4 1 ∷ []))) (5 ∷ [])
    -- `/g_freeAll` and `/g_deepFree` take the root
    ∷ example (answers_of e (one ++ (line (Tree (DeepFree (argument 0))) [] ∷ line (Tree (FreeAll (argument 0))) [] ∷ []))) (0 ∷ 0 ∷ 0 ∷ 0 ∷ 0 ∷ [])
    -- `/g_deepFree` leaves groups: two, and no synth
    ∷ example (status e (one ++ (line (Tree (DeepFree (argument 0))) [] ∷ []))) (0 ∷ 0 ∷ 0 ∷ 0 ∷ 0 ∷ 0 ∷ 0 ∷ 0 ∷ 0 ∷ 0 ∷ 0 ∷ 2 ∷ 0 ∷ 0 ∷ 0 ∷ 1 ∷ [])
    -- `/n_free` of a group frees its children: the root is left
    ∷ example (status e (one ++ (line (Tree (Free (argument 1))) [] ∷ []))) (0 ∷ 0 ∷ 0 ∷ 0 ∷ 0 ∷ 0 ∷ 0 ∷ 0 ∷ 0 ∷ 0 ∷ 0 ∷ 1 ∷ 0 ∷ 0 ∷ 0 ∷ 1 ∷ [])
    -- a synth as a group for `/g_freeAll`
    ∷ example (last e (one ++ (line (Tree (FreeAll (argument 1000))) [] ∷ []))) (18 ∷ [])
    -- `/n_run` takes the root: all is silent
    ∷ example (order_after e (one ++ (line (Tree (Run (argument 0) 0)) [] ∷ []))) ([])
    -- a run flag of 2
    ∷ example (last e (one ++ (line (Tree (Run (argument 0) 2)) [] ∷ []))) (13 ∷ [])
    -- 17 of both arguments before 18
    ∷ example (last e (one ++ (line (Tree (Before (argument 0) (argument 99))) [] ∷ []))) (17 ∷ [])
    -- a group below itself
    ∷ example (last e (one ++ (group 2 1 1 ∷ line (Tree (Tail (argument 2) (argument 1))) [] ∷ []))) (19 ∷ [])
    -- `/n_set` on a group of a control that no synth has
    ∷ example (last e (one ++ (line (Controls (Set (argument 1) Name (Float 0))) no_name ∷ []))) (0 ∷ [])
    ∷ []

abbrev controls_and_buses : Engine → List Example
controls_and_buses e =
    -- .. and on the synth itself
    example (last e (one ++ (line (Controls (Set (argument 1000) Name (Float 0))) no_name ∷ []))) (21 ∷ [])
    -- a negative index on a group
    ∷ example (last e (one ++ (line (Controls (Set (argument 1) (Index minus_one) (Float 0))) [] ∷ []))) (21 ∷ [])
    -- 23 comes before 21
    ∷ example (last e (one ++ (line (Controls (Set (argument 1000) (Index 9) (Integer 16777217))) [] ∷ []))) (23 ∷ [])
    -- an integer becomes the equal float
    ∷ example (value e (one ++ (line (Controls (Set (argument 1000) (Index 0) (Integer 440))) [] ∷ [])) 1000 0) (67 ∷ 220 ∷ 0 ∷ 0 ∷ [])
    -- integer 0 has all bits zero
    ∷ example (value e (one ++ (line (Controls (Set (argument 1000) (Index 0) (Integer 0))) [] ∷ [])) 1000 0) (0 ∷ 0 ∷ 0 ∷ 0 ∷ [])
    -- a NaN is kept bit for bit
    ∷ example (value e (one ++ (line (Controls (Set (argument 1000) (Index 0) (Float 2143294737))) [] ∷ [])) 1000 0) (127 ∷ 192 ∷ 21 ∷ 17 ∷ [])
    -- `/n_fill` with count 0 at start P
    ∷ example (last e (one ++ (line (Controls (Fill (argument 1000) (Index 1) 0 (Float 0))) [] ∷ []))) (0 ∷ [])
    -- .. one past P
    ∷ example (last e (one ++ (line (Controls (Fill (argument 1000) (Index 2) 0 (Float 0))) [] ∷ []))) (21 ∷ [])
    -- .. by a name that it lacks
    ∷ example (last e (one ++ (line (Controls (Fill (argument 1000) Name 0 (Float 0))) no_name ∷ []))) (21 ∷ [])
    -- start plus count past 32 bits, on a group
    ∷ example (last e (one ++ (line (Controls (Fill (argument 1) (Index 2147483647) 2147483647 (Float 0))) [] ∷ []))) (0 ∷ [])
    -- `/c_fill` with count 0 at 4,096
    ∷ example (last e (line (Buses (buses.Fill 4096 0 (Float 0))) [] ∷ [])) (0 ∷ [])
    -- a negative count of buses
    ∷ example (last e (line (Buses (buses.Fill 0 minus_one (Float 0))) [] ∷ [])) (22 ∷ [])
    -- 23 is asked even where nothing would be set
    ∷ example (last e (line (Buses (buses.Fill 0 0 (Integer 16777217))) [] ∷ [])) (23 ∷ [])
    -- setting unmaps
    ∷ example (value e (one ++ (line (Controls (Map (argument 1000) (Index 0) 7)) [] ∷ line (Controls (Set (argument 1000) (Index 0) (Integer 1))) [] ∷ [])) 1000 0) (63 ∷ 128 ∷ 0 ∷ 0 ∷ [])
    ∷ []

-- one parameter name and its index
abbrev entry : List ℕ → ℕ → List ℕ
entry name i = length name ∷ (name ++ int i)

abbrev amps_name : List ℕ
amps_name = 97 ∷ 109 ∷ 112 ∷ 115 ∷ []

-- paper 02, 6/14: "Students fill "amps" and run into "pan"": `amps` is 0 to 3, `pan` is 4
abbrev choir : List ℕ
choir = file_of 5 (int 2 ++ entry amps_name 0 ++ entry pan_name 4) (int 0)

-- six controls, their names out of order: 0 has none, `amps` is 1 and 2, since its second entry names 3
abbrev scattered : List ℕ
scattered = file_of 6 (int 3 ++ entry pan_name 4 ++ entry amps_name 1 ++ entry amps_name 3) (int 0)

-- two names on one control
abbrev shared : List ℕ
shared = file_of 3 (int 3 ++ entry amps_name 0 ++ entry pan_name 0 ++ entry a_name 2) (int 0)

-- the synth 1000 of a file's "a", in group 1
abbrev sung : List ℕ → List Line
sung file = load file ∷ group 1 1 0 ∷ line (Tree (NewSynth 1000 1 (argument 1))) a_name ∷ []

-- `/n_fill` by name with 1.0
abbrev fill : ℕ → List ℕ → ℕ → Line
fill n name count = line (Controls (Fill (argument n) Name count (Integer 1))) name

-- how `/n_fill` of so many by name is answered on the synth
abbrev filled : Engine → List ℕ → List ℕ → ℕ → List ℕ
filled e file name count = last e (sung file ++ (fill 1000 name count ∷ []))

-- five of `amps` asked for on the group
abbrev on_group : List Line
on_group = sung choir ++ (fill 1 amps_name 5 ∷ [])

abbrev widths : Engine → List Example
widths e =
    -- "amps" 0 to 3 and "pan" 4: filling 4 is accepted, 5 refused with 28; past P it is 21, "after 21"; a count of 0
    example (filled e choir amps_name 4 ++ filled e choir amps_name 5 ++ filled e choir amps_name 6 ++ filled e choir amps_name 0) (0 ∷ 28 ∷ 21 ∷ 0 ∷ [])
    -- the last name covers up to P
    ∷ example (filled e choir pan_name 1 ++ filled e choir pan_name 2) (0 ∷ 21 ∷ [])
    -- 23 before 28
    ∷ example (last e (sung choir ++ (line (Controls (Fill (argument 1000) Name 5 (Integer 16777217))) amps_name ∷ []))) (23 ∷ [])
    -- "By index nothing changes."
    ∷ example (last e (sung choir ++ (line (Controls (Fill (argument 1000) (Index 0) 5 (Integer 1))) [] ∷ []))) (0 ∷ [])
    -- "on a group that synth is filled to the width only": it is accepted, the last of `amps` is set, and `pan` is as it was
    ∷ example (last e on_group ++ value e on_group 1000 3 ++ value e on_group 1000 4) (0 ∷ 63 ∷ 128 ∷ 0 ∷ 0 ∷ 0 ∷ 0 ∷ 0 ∷ 0 ∷ [])
    -- .. by index it is filled to P
    ∷ example (value e (sung choir ++ (line (Controls (Fill (argument 1) (Index 0) 9 (Integer 1))) [] ∷ [])) 1000 4) (63 ∷ 128 ∷ 0 ∷ 0 ∷ [])
    -- a repeated name ends the width, though it means its first entry alone
    ∷ example (filled e scattered amps_name 2 ++ filled e scattered amps_name 3) (0 ∷ 28 ∷ [])
    -- another name of the same index does not
    ∷ example (filled e shared amps_name 2 ++ filled e shared amps_name 3 ++ filled e shared pan_name 2) (0 ∷ 28 ∷ 0 ∷ [])
    ∷ []

abbrev old_shapes : Engine → List Example
old_shapes e =
    -- 22 before 21 in `/n_map`
    example (last e (one ++ (line (Controls (Map (argument 1000) (Index 9) 4096)) [] ∷ []))) (22 ∷ [])
    -- a name means its entry in the synth's own definition: `pan` of the old rain is 1, of the new one 0
    ∷ example (value e (rains ++ (line (Controls (Set (argument 0) Name (Integer 9))) pan_name ∷ [])) 10 1) (65 ∷ 16 ∷ 0 ∷ 0 ∷ [])
    -- .. and the new one
    ∷ example (value e (rains ++ (line (Controls (Set (argument 0) Name (Integer 9))) pan_name ∷ [])) 11 0) (65 ∷ 16 ∷ 0 ∷ 0 ∷ [])
    -- the first entry: `amp` of the new rain is 1
    ∷ example (value e (rains ++ (line (Controls (Set (argument 11) Name (Integer 9))) amp_name ∷ [])) 11 1) (65 ∷ 16 ∷ 0 ∷ 0 ∷ [])
    -- the old rain's other control is as it was
    ∷ example (value e (rains ++ (line (Controls (Set (argument 0) Name (Integer 9))) pan_name ∷ [])) 10 0) (63 ∷ 128 ∷ 0 ∷ 0 ∷ [])
    -- a retired definition is no resident: `/status` counts one
    ∷ example (drop 12 (status e rains)) (0 ∷ 0 ∷ 0 ∷ 1 ∷ [])
    -- `/d_free` of it, and again
    ∷ example (answers_of e (rains ++ (line (Definitions definitions.Free) rain_name ∷ line (Definitions definitions.Free) rain_name ∷ []))) (0 ∷ 0 ∷ 0 ∷ 0 ∷ 0 ∷ 16 ∷ [])
    -- export is the file that a fresh engine loaded
    ∷ example (replied e (load ping ∷ []) (line (Asked query.Export) [])) (ping)
    -- `/s_get` of a group
    ∷ example (last e (one ++ (line (Asked (query.Control (argument 1) (Index 0))) [] ∷ []))) (18 ∷ [])
    -- "255 new nodes fit; one more is 20, but by action 4 it goes in."
    ∷ example (drop 255 (answers_of e (groups 255 1 ++ (group 256 1 0 ∷ group 256 4 255 ∷ [])))) (20 ∷ 0 ∷ [])
    ∷ []

-- commands in a row and their answers
pub record Sides : Type 0 where
  pub lines : List Line
  pub answers : List ℕ

abbrev sides : List Line → List ℕ → Sides
sides ls answers = record { lines = ls; answers = answers }

-- group 2 in `one`'s group 1: of the rows below, 99 is no node, 0 the root, 1 and 2 groups, 1000 a synth; 2 and 1000 lie in 1
abbrev pub two : List Line
two = one ++ (group 2 1 1 ∷ [])

abbrev edit : TreeCommand → Line
edit c = line (Tree c) []

-- `/n_before` and `/n_after`: each argument absent, each the root; the place is the moved node, and below it
abbrev beside_of : (NodeArgument → NodeArgument → TreeCommand) → List Line
beside_of move =
    edit (move (argument 99) (argument 2))
    ∷ edit (move (argument 2) (argument 99))
    ∷ edit (move (argument 0) (argument 2))
    ∷ edit (move (argument 2) (argument 0))
    ∷ edit (move (argument 2) (argument 2))
    ∷ edit (move (argument 1) (argument 2))
    ∷ edit (move (argument 1000) (argument 2))
    ∷ []

-- `/g_head` and `/g_tail`: each argument absent; a synth as the group, the root moved; the group is the moved node, and below it
abbrev into_of : (NodeArgument → NodeArgument → TreeCommand) → List Line
into_of move =
    edit (move (argument 99) (argument 1000))
    ∷ edit (move (argument 2) (argument 99))
    ∷ edit (move (argument 1000) (argument 2))
    ∷ edit (move (argument 2) (argument 0))
    ∷ edit (move (argument 2) (argument 2))
    ∷ edit (move (argument 2) (argument 1))
    ∷ edit (move (argument 2) (argument 1000))
    ∷ []

-- 17, 18 and 19, given here and not given there
abbrev pub places : List Sides
places =
    -- `/s_new` and `/g_new`: no target; a synth as the group; the root with a sibling or replaced; then each action
    sides (synth 5 0 99 ∷ synth 5 0 1000 ∷ synth 5 1 1000 ∷ synth 5 2 0 ∷ synth 5 3 0 ∷ synth 5 4 0 ∷ synth 5 0 0 ∷ synth 6 1 2 ∷ synth 7 2 5 ∷ synth 8 3 5 ∷ synth 9 4 2 ∷ [])
    (17 ∷ 18 ∷ 18 ∷ 18 ∷ 18 ∷ 18 ∷ 0 ∷ 0 ∷ 0 ∷ 0 ∷ 0 ∷ [])
    ∷ sides (group 5 0 99 ∷ group 5 0 1000 ∷ group 5 1 1000 ∷ group 5 2 0 ∷ group 5 3 0 ∷ group 5 4 0 ∷ group 5 0 0 ∷ group 6 1 2 ∷ group 7 2 5 ∷ group 8 3 5 ∷ group 9 4 2 ∷ [])
    (17 ∷ 18 ∷ 18 ∷ 18 ∷ 18 ∷ 18 ∷ 0 ∷ 0 ∷ 0 ∷ 0 ∷ 0 ∷ [])
    ∷ sides (edit (Free (argument 99)) ∷ edit (Free (argument 0)) ∷ edit (Free (argument 1000)) ∷ []) (17 ∷ 18 ∷ 0 ∷ [])
    ∷ sides (edit (FreeAll (argument 99)) ∷ edit (FreeAll (argument 1000)) ∷ edit (FreeAll (argument 1)) ∷ []) (17 ∷ 18 ∷ 0 ∷ [])
    ∷ sides (edit (DeepFree (argument 99)) ∷ edit (DeepFree (argument 1000)) ∷ edit (DeepFree (argument 1)) ∷ []) (17 ∷ 18 ∷ 0 ∷ [])
    ∷ sides (beside_of Before) (17 ∷ 17 ∷ 18 ∷ 18 ∷ 19 ∷ 19 ∷ 0 ∷ [])
    ∷ sides (beside_of After) (17 ∷ 17 ∷ 18 ∷ 18 ∷ 19 ∷ 19 ∷ 0 ∷ [])
    ∷ sides (into_of Head) (17 ∷ 17 ∷ 18 ∷ 18 ∷ 19 ∷ 19 ∷ 0 ∷ [])
    ∷ sides (into_of Tail) (17 ∷ 17 ∷ 18 ∷ 18 ∷ 19 ∷ 19 ∷ 0 ∷ [])
    ∷ sides (edit (Run (argument 99) 0) ∷ edit (Run (argument 1000) 0) ∷ []) (17 ∷ 0 ∷ [])
    ∷ sides (line (Controls (Set (argument 99) (Index 0) (Float 0))) [] ∷ line (Controls (Set (argument 1000) (Index 0) (Float 0))) [] ∷ []) (17 ∷ 0 ∷ [])
    ∷ sides (line (Controls (Fill (argument 99) (Index 0) 1 (Float 0))) [] ∷ line (Controls (Fill (argument 1000) (Index 0) 1 (Float 0))) [] ∷ []) (17 ∷ 0 ∷ [])
    ∷ sides (line (Controls (Map (argument 99) (Index 0) 7)) [] ∷ line (Controls (Map (argument 1000) (Index 0) 7)) [] ∷ []) (17 ∷ 0 ∷ [])
    ∷ []

-- the other refusals that the plain tree has reasons for
abbrev pub others : List Sides
others =
    -- an action and a run flag that there aren't; numbers that no new node can have; numbers that live
    sides (synth 5 5 0 ∷ group 5 5 0 ∷ edit (Run (argument 1) 2) ∷ edit (Run (argument 1) 1) ∷ []) (13 ∷ 13 ∷ 13 ∷ 0 ∷ [])
    ∷ sides (synth minus_two 1 0 ∷ group minus_one 1 0 ∷ synth minus_one 1 0 ∷ []) (14 ∷ 14 ∷ 0 ∷ [])
    ∷ sides (synth 1000 1 0 ∷ group 0 1 0 ∷ group 1000 4 1 ∷ []) (15 ∷ 15 ∷ 15 ∷ [])
    -- names that mean nothing, and a file that can't be read
    ∷ sides (line (Tree (NewSynth 5 1 (argument 0))) no_name ∷ line (Definitions definitions.Free) no_name ∷ line (Definitions definitions.Free) ping_name ∷ synth 5 1 0 ∷ []) (16 ∷ 16 ∷ 0 ∷ 16 ∷ [])
    ∷ sides (load (take 45 ping) ∷ load ping ∷ []) ((2 + 256 * 44) ∷ 0 ∷ [])
    -- controls that a synth lacks; negative ones on a group; past a name's width
    ∷ sides (line (Controls (Set (argument 1000) (Index 1) (Float 0))) [] ∷ line (Controls (Map (argument 1000) Name 7)) no_name ∷ line (Controls (Fill (argument 1000) (Index 0) 2 (Float 0))) [] ∷ []) (21 ∷ 21 ∷ 21 ∷ [])
    ∷ sides (line (Controls (Set (argument 1) (Index minus_one) (Float 0))) [] ∷ line (Controls (Fill (argument 1) (Index 0) minus_one (Float 0))) [] ∷ line (Controls (Fill (argument 1) (Index 0) 9 (Float 0))) [] ∷ []) (21 ∷ 21 ∷ 0 ∷ [])
    ∷ sides (load choir ∷ line (Tree (NewSynth 5 1 (argument 0))) a_name ∷ fill 5 amps_name 5 ∷ fill 5 amps_name 4 ∷ []) (0 ∷ 0 ∷ 28 ∷ 0 ∷ [])
    -- buses that there aren't, and values out of bounds
    ∷ sides (line (Controls (Map (argument 1) (Index 0) 4096)) [] ∷ line (Controls (Map (argument 1) (Index 0) minus_one)) [] ∷ []) (22 ∷ 0 ∷ [])
    ∷ sides (line (Buses (buses.Set 4096 (Float 0))) [] ∷ line (Buses (buses.Fill 4096 1 (Float 0))) [] ∷ line (Buses (buses.Fill 4096 0 (Float 0))) [] ∷ []) (22 ∷ 22 ∷ 0 ∷ [])
    ∷ sides (line (Controls (Set (argument 1) (Index 0) (Integer 16777217))) [] ∷ line (Buses (buses.Set 0 (Integer 16777217))) [] ∷ []) (23 ∷ 23 ∷ [])
    ∷ []

abbrev ask : Query → Line
ask q = line (Asked q) []

-- `/n_query`, `/s_get`, `/g_queryTree`: an accepted one answers 256 times its reply's length
abbrev asked : List Sides
asked =
    sides (ask (query.Node (argument 99)) ∷ ask (query.Node (argument 1)) ∷ []) (17 ∷ (256 * 48) ∷ [])
    ∷ sides (ask (query.Control (argument 99) (Index 0)) ∷ ask (query.Control (argument 1) (Index 0)) ∷ ask (query.Control (argument 1000) (Index 0)) ∷ []) (17 ∷ 18 ∷ (256 * 28) ∷ [])
    ∷ sides (ask (query.Tree (argument 99) 0) ∷ ask (query.Tree (argument 1000) 0) ∷ ask (query.Tree (argument 2) 0) ∷ []) (17 ∷ 18 ∷ (256 * 40) ∷ [])
    ∷ []

abbrev kinds_and_places : Engine → List Example
kinds_and_places e = map (λ (r : Sides). example (drop (length two) (answers_of e (two ++ r.lines))) r.answers) (places ++ (others ++ asked))

abbrev names_and_shapes : Engine → List Example
names_and_shapes e = widths e ++ old_shapes e

abbrev shown_and_refused : Engine → List Example
shown_and_refused e =
    -- "a mapped control shows 'c' and the decimal bus"
    example (replied e (one ++ (line (Controls (Map (argument 1000) (Index 0) 7)) [] ∷ [])) (line (Asked (query.Tree (argument 0) 1)) [])) (47 ∷ 103 ∷ 95 ∷ 113 ∷ 117 ∷ 101 ∷ 114 ∷ 121 ∷ 84 ∷ 114 ∷ 101 ∷ 101 ∷ 46 ∷ 114 ∷ 101 ∷ 112 ∷ 108 ∷ 121 ∷ 0 ∷ 0 ∷ 44 ∷ 105 ∷ 105 ∷ 105 ∷ 105 ∷ 105 ∷ 105 ∷ 105 ∷ 115 ∷ 105 ∷ 115 ∷ 115 ∷ 0 ∷ 0 ∷ 0 ∷ 0 ∷ 0 ∷ 0 ∷ 0 ∷ 1 ∷ 0 ∷ 0 ∷ 0 ∷ 0 ∷ 0 ∷ 0 ∷ 0 ∷ 1 ∷ 0 ∷ 0 ∷ 0 ∷ 1 ∷ 0 ∷ 0 ∷ 0 ∷ 1 ∷ 0 ∷ 0 ∷ 3 ∷ 232 ∷ 255 ∷ 255 ∷ 255 ∷ 255 ∷ 112 ∷ 105 ∷ 110 ∷ 103 ∷ 0 ∷ 0 ∷ 0 ∷ 0 ∷ 0 ∷ 0 ∷ 0 ∷ 1 ∷ 102 ∷ 114 ∷ 101 ∷ 113 ∷ 0 ∷ 0 ∷ 0 ∷ 0 ∷ 99 ∷ 55 ∷ 0 ∷ 0 ∷ [])
    -- "a control shows its first name or else its index": the control 0 of "a" has no name, 1 is `x`
    ∷ example (replied e (load (file_of 2 (one_name 1) (int 0)) ∷ line (Tree (NewSynth 1000 1 (argument 0))) a_name ∷ []) (line (Asked (query.Tree (argument 0) 1)) [])) (47 ∷ 103 ∷ 95 ∷ 113 ∷ 117 ∷ 101 ∷ 114 ∷ 121 ∷ 84 ∷ 114 ∷ 101 ∷ 101 ∷ 46 ∷ 114 ∷ 101 ∷ 112 ∷ 108 ∷ 121 ∷ 0 ∷ 0 ∷ 44 ∷ 105 ∷ 105 ∷ 105 ∷ 105 ∷ 105 ∷ 115 ∷ 105 ∷ 105 ∷ 102 ∷ 115 ∷ 102 ∷ 0 ∷ 0 ∷ 0 ∷ 0 ∷ 0 ∷ 0 ∷ 0 ∷ 1 ∷ 0 ∷ 0 ∷ 0 ∷ 0 ∷ 0 ∷ 0 ∷ 0 ∷ 1 ∷ 0 ∷ 0 ∷ 3 ∷ 232 ∷ 255 ∷ 255 ∷ 255 ∷ 255 ∷ 97 ∷ 0 ∷ 0 ∷ 0 ∷ 0 ∷ 0 ∷ 0 ∷ 2 ∷ 0 ∷ 0 ∷ 0 ∷ 0 ∷ 0 ∷ 0 ∷ 0 ∷ 0 ∷ 120 ∷ 0 ∷ 0 ∷ 0 ∷ 0 ∷ 0 ∷ 0 ∷ 0 ∷ [])
    -- the whole `/n_info` of a group between two others: its parent, previous, next, head and tail
    ∷ example (replied e (groups 3 1 ++ (group 4 1 2 ∷ group 5 1 2 ∷ [])) (line (Asked (query.Node (argument 2))) [])) (47 ∷ 110 ∷ 95 ∷ 105 ∷ 110 ∷ 102 ∷ 111 ∷ 0 ∷ 44 ∷ 105 ∷ 105 ∷ 105 ∷ 105 ∷ 105 ∷ 105 ∷ 105 ∷ 0 ∷ 0 ∷ 0 ∷ 0 ∷ 0 ∷ 0 ∷ 0 ∷ 2 ∷ 0 ∷ 0 ∷ 0 ∷ 0 ∷ 0 ∷ 0 ∷ 0 ∷ 1 ∷ 0 ∷ 0 ∷ 0 ∷ 3 ∷ 0 ∷ 0 ∷ 0 ∷ 1 ∷ 0 ∷ 0 ∷ 0 ∷ 4 ∷ 0 ∷ 0 ∷ 0 ∷ 5 ∷ [])
    -- "reply or export longer than its buffer": with room for 67 and for 68 bytes
    ∷ example (room_for 67 e ∷ room_for 68 e ∷ []) (24 ∷ (256 * 68) ∷ [])
    -- "Refusal 12 is given exactly if D is more than 32 minus the slots that stay taken": all are taken
    ∷ example (answers_of e (load (thirty_two 65) ∷ load ping ∷ [])) (0 ∷ 12 ∷ [])
    -- .. all are retired, but one is held
    ∷ example (answers_of e (load (thirty_two 65) ∷ line (Tree (NewSynth 1000 1 (argument 0))) (65 ∷ []) ∷ load (thirty_two 65) ∷ line (Tree (Free (argument 1000))) [] ∷ load (thirty_two 65) ∷ []))
    (0 ∷ 0 ∷ 12 ∷ 0 ∷ 0 ∷ [])
    -- a retired definition's slot is taken while a synth holds it, so that "a" stands last
    ∷ example (replied e (retired_ping ++ (load (file_of 0 (int 0) (int 0)) ∷ [])) (line (Asked query.Export) [])) (header 2 ++ drop 10 rain ++ drop 10 (file_of 0 (int 0) (int 0)))
    -- .. and free again when that synth is gone, so that it stands first
    ∷ example (replied e (retired_ping ++ (line (Tree (Free (argument 1000))) [] ∷ load (file_of 0 (int 0) (int 0)) ∷ [])) (line (Asked query.Export) []))
    (header 2 ++ drop 10 (file_of 0 (int 0) (int 0)) ++ drop 10 rain)
    -- "the last being -2,147,483,648", then "no number left for a new -1"; a number that the command gives is taken
    ∷ example (answers_of (with_last_number e) (load ping ∷ synth minus_one 1 0 ∷ synth minus_one 1 0 ∷ synth 7 1 0 ∷ [])) (0 ∷ 0 ∷ 25 ∷ 0 ∷ [])
    ∷ []

files_and_replies-agrees : agrees (files_and_replies fresh_parts) ≡ true
unfolding to_bits of_int groups residents definitions_in first_name first_or last_or at_depth depth_of last_above last_beside first_beside next_of shape subtree_rows rows_below rows_at tree_arguments control_arguments unit_count group_count synth_count repeat name_bytes front_by unit_by units_by definition_by read_definitions read_file same_name among write_all write_definition_by write_file lives lift sink take_deeper drop_deeper only_groups run_of edit_rows order_from row_taken tags arguments target_of in_bounds pattern held resident_from controls_from first_index next_index view_rows node_named first_of names_of staying retired free_from loaded free_row_from initial_words change_words change_all effect plain_named reply_to query_answer answer_in played answers_of agrees short_names
files_and_replies-agrees = refl

making-agrees : agrees (making fresh_parts) ≡ true
unfolding to_bits of_int groups residents definitions_in first_name first_or last_or at_depth depth_of last_above last_beside first_beside next_of shape subtree_rows rows_below rows_at tree_arguments control_arguments unit_count group_count synth_count repeat name_bytes front_by unit_by units_by definition_by read_definitions read_file same_name among write_all write_definition_by write_file lives lift sink take_deeper drop_deeper only_groups run_of edit_rows order_from row_taken tags arguments target_of in_bounds pattern held resident_from controls_from first_index next_index view_rows node_named first_of names_of staying retired free_from loaded free_row_from initial_words change_words change_all effect plain_named reply_to query_answer answer_in played answers_of agrees
making-agrees = refl

numbers_and_moves-agrees : agrees (numbers_and_moves fresh_parts) ≡ true
unfolding to_bits of_int groups residents definitions_in first_name first_or last_or at_depth depth_of last_above last_beside first_beside next_of shape subtree_rows rows_below rows_at tree_arguments control_arguments unit_count group_count synth_count repeat name_bytes front_by unit_by units_by definition_by read_definitions read_file same_name among write_all write_definition_by write_file lives lift sink take_deeper drop_deeper only_groups run_of edit_rows order_from row_taken tags arguments target_of in_bounds pattern held resident_from controls_from first_index next_index view_rows node_named first_of names_of staying retired free_from loaded free_row_from initial_words change_words change_all effect plain_named reply_to query_answer answer_in played answers_of agrees
numbers_and_moves-agrees = refl

kinds_and_places-agrees : agrees (kinds_and_places fresh_parts) ≡ true
unfolding to_bits of_int groups residents definitions_in first_name first_or last_or at_depth depth_of last_above last_beside first_beside next_of shape subtree_rows rows_below rows_at tree_arguments control_arguments unit_count group_count synth_count repeat name_bytes front_by unit_by units_by definition_by read_definitions read_file same_name among write_all write_definition_by write_file lives lift sink take_deeper drop_deeper only_groups run_of edit_rows order_from row_taken tags arguments target_of in_bounds pattern held resident_from controls_from first_index next_index view_rows node_named first_of names_of staying retired free_from loaded free_row_from initial_words change_words change_all effect plain_named reply_to query_answer answer_in played answers_of agrees
kinds_and_places-agrees = refl

controls_and_buses-agrees : agrees (controls_and_buses fresh_parts) ≡ true
unfolding to_bits of_int groups residents definitions_in first_name first_or last_or at_depth depth_of last_above last_beside first_beside next_of shape subtree_rows rows_below rows_at tree_arguments control_arguments unit_count group_count synth_count repeat name_bytes front_by unit_by units_by definition_by read_definitions read_file same_name among write_all write_definition_by write_file lives lift sink take_deeper drop_deeper only_groups run_of edit_rows order_from row_taken tags arguments target_of in_bounds pattern held resident_from controls_from first_index next_index view_rows node_named first_of names_of staying retired free_from loaded free_row_from initial_words change_words change_all effect plain_named reply_to query_answer answer_in played answers_of agrees
controls_and_buses-agrees = refl

names_and_shapes-agrees : agrees (names_and_shapes fresh_parts) ≡ true
unfolding to_bits of_int groups residents definitions_in first_name first_or last_or at_depth depth_of last_above last_beside first_beside next_of shape subtree_rows rows_below rows_at tree_arguments control_arguments unit_count group_count synth_count repeat name_bytes front_by unit_by units_by definition_by read_definitions read_file same_name among write_all write_definition_by write_file lives lift sink take_deeper drop_deeper only_groups run_of edit_rows order_from row_taken tags arguments target_of in_bounds pattern held resident_from controls_from first_index next_index view_rows node_named first_of names_of staying retired free_from loaded free_row_from initial_words change_words change_all effect plain_named reply_to query_answer answer_in played answers_of agrees
names_and_shapes-agrees = refl

shown_and_refused-agrees : agrees (shown_and_refused fresh_parts) ≡ true
unfolding to_bits of_int groups bodies residents definitions_in first_name first_or last_or at_depth depth_of last_above last_beside first_beside next_of shape subtree_rows rows_below rows_at tree_arguments control_arguments unit_count group_count synth_count repeat name_bytes front_by unit_by units_by definition_by read_definitions read_file same_name among write_all write_definition_by write_file lives lift sink take_deeper drop_deeper only_groups run_of edit_rows order_from row_taken tags arguments target_of in_bounds pattern held resident_from controls_from first_index next_index view_rows node_named first_of names_of staying retired free_from loaded free_row_from initial_words change_words change_all effect plain_named reply_to query_answer answer_in played answers_of agrees
shown_and_refused-agrees = refl

agrees-append : (a b : List Example) → agrees a ≡ true → agrees b ≡ true → agrees (a ++ b) ≡ true
unfolding agrees
agrees-append [] b p q = q
agrees-append (x ∷ a) b p q = go (same_name x.found x.wanted) p (λ k. agrees-append a b k q)
  where
    go : (c : Bool) → pick c (agrees a) false ≡ true → (agrees a ≡ true → agrees (a ++ b) ≡ true) → pick c (agrees (a ++ b)) false ≡ true
    go true k ih = ih k
    go false k ih = k

-- the rows, played from an engine
abbrev rows_from : Engine → List Example
rows_from e = files_and_replies e ++ (making e ++ (numbers_and_moves e ++ (kinds_and_places e ++ (controls_and_buses e ++ (names_and_shapes e ++ shown_and_refused e)))))

computed : agrees (rows_from fresh_parts) ≡ true
computed =
    agrees-append (files_and_replies fresh_parts) _ files_and_replies-agrees
    (agrees-append (making fresh_parts) _ making-agrees
    (agrees-append (numbers_and_moves fresh_parts) _ numbers_and_moves-agrees
    (agrees-append (kinds_and_places fresh_parts) _ kinds_and_places-agrees
    (agrees-append (controls_and_buses fresh_parts) _ controls_and_buses-agrees
    (agrees-append (names_and_shapes fresh_parts) (shown_and_refused fresh_parts) names_and_shapes-agrees shown_and_refused-agrees)))))

-- one table, played from a fresh engine, one statement
abbrev pub table : List Example
table = rows_from fresh_engine

pub agreed : agrees table ≡ true
agreed = ap (λ (e : Engine). agrees (rows_from e)) fresh-parts ∙ computed
