-- The examples that paper 01 marks "Proved", as one table with one proved statement.
use Rattle.std.specs.Prelude.{ℕ, ◌*◌, ◌+◌, true, ◌≡◌, refl, List, [], ◌∷◌, ◌++◌, length, take, drop, replicate}
use Rattle.std.proofs.Common.{ap, ◌∙◌}
use Rattle.format.specs.Read.{repeat}
use Rattle.format.specs.Fields.{name_bytes}
use Rattle.format.specs.Reader.{front_by, unit_by, units_by, definition_by, read_definitions, read_file, same_name, among}
use Rattle.format.specs.Writer.{write_all, write_definition_by, write_file}
use Rattle.nodes.specs.Place.{lives}
use Rattle.nodes.specs.Edit.{lift, sink, take_deeper, drop_deeper, only_groups, run_of, edit_rows}
use Rattle.nodes.specs.Order.{order_from}
use Rattle.nodes.specs.Formed.{row_taken, free_row_from}
use Rattle.osc.specs.Message.{tags, arguments}
use Rattle.values.specs.declared.Key.TheVariants.{Name}
use Rattle.values.specs.declared.Value.TheVariants.{Float}
use Rattle.values.specs.Targets.{argument, target_of}
use Rattle.values.specs.Values.{in_bounds, pattern}
use Rattle.model.specs.declared.DefinitionCommand.TheVariants as definitions
use Rattle.model.specs.declared.TreeCommand.TheVariants.{NewSynth, NewGroup, Free, Before, Head, Run}
use Rattle.model.specs.declared.ControlCommand.TheVariants.{Map}
use Rattle.model.specs.declared.BusCommand.TheVariants as buses
use Rattle.model.specs.declared.Query.TheVariants as query
use Rattle.model.specs.declared.Command.TheVariants.{Definitions, Tree, Controls, Buses, Query}
use Rattle.format.specs.Names.{first_index, next_index}
use Rattle.model.specs.Engine.{Engine, held, resident_from, controls_from}
use Rattle.model.specs.View.{view_rows}
use Rattle.words.specs.Patterns.{minus_one}
use Rattle.model.specs.Meaning.{node_named}
use Rattle.model.specs.Checks.{first_of, names_of, staying}
use Rattle.model.specs.Effects.{retired, free_from, loaded, initial_words, change_words, change_all, effect}
use Rattle.model.specs.Replies.{plain_named, reply_to}
use Rattle.model.specs.Apply.{query_answer, answer_in}
use Rattle.model.specs.Fresh.{fresh_engine, fresh_parts, fresh-parts}
use Rattle.model.specs.Script.{Line, line, played, answers_of, replied, order_after, Example, example, agrees}

-- the header of a file of so many definitions
abbrev pub header : ℕ → List ℕ
header n = 83 ∷ 67 ∷ 103 ∷ 102 ∷ 0 ∷ 0 ∷ 0 ∷ 2 ∷ 0 ∷ n ∷ []

-- four bytes of a small number
abbrev pub int : ℕ → List ℕ
int n = 0 ∷ 0 ∷ 0 ∷ n ∷ []

-- "a", no constants, so many parameters at 0.0, names, units, no variants
abbrev pub file_of : ℕ → List ℕ → List ℕ → List ℕ
file_of parameters names units =
    header 1 ++ (1 ∷ 97 ∷ []) ++ int 0 ++ int parameters ++ replicate (4 * parameters) 0 ++ names ++ units ++ (0 ∷ 0 ∷ [])

-- one parameter name, `x`, of the index i
abbrev pub one_name : ℕ → List ℕ
one_name i = int 1 ++ (1 ∷ 120 ∷ []) ++ int i

-- one unit, `U`, whose one input is output 0 of the unit u
abbrev one_unit : ℕ → List ℕ
one_unit u = int 1 ++ (1 ∷ 85 ∷ 0 ∷ []) ++ int 1 ++ int 1 ++ (0 ∷ 0 ∷ []) ++ int u ++ int 0 ++ (0 ∷ [])

-- "ping" with one parameter "freq", 440.0 (43 DC 00 00), no units
abbrev pub ping : List ℕ
ping =
    83 ∷ 67 ∷ 103 ∷ 102 ∷ 0 ∷ 0 ∷ 0 ∷ 2 ∷ 0 ∷ 1 ∷ 4 ∷ 112 ∷ 105 ∷ 110 ∷ 103 ∷ 0 ∷ 0 ∷ 0 ∷ 0 ∷ 0 ∷ 0 ∷ 0 ∷ 1 ∷ 67 ∷ 220 ∷ 0 ∷ 0 ∷ 0 ∷ 0 ∷ 0 ∷ 1 ∷ 4 ∷ 102 ∷ 114 ∷ 101 ∷ 113 ∷ 0 ∷ 0 ∷ 0 ∷ 0 ∷ 0 ∷ 0 ∷ 0 ∷ 0 ∷ 0 ∷ 0 ∷ []

abbrev pub ping_name : List ℕ
ping_name = 112 ∷ 105 ∷ 110 ∷ 103 ∷ []

abbrev pub freq_name : List ℕ
freq_name = 102 ∷ 114 ∷ 101 ∷ 113 ∷ []

abbrev pub load : List ℕ → Line
load file = line (Definitions definitions.Receive) file

-- group 1 at tail of 0, "ping" 1000 at tail of 1, "ping" 1001 before 1000
abbrev show : List Line
show =
    load ping
    ∷ line (Tree (NewGroup 1 1 (argument 0))) []
    ∷ line (Tree (NewSynth 1000 1 (argument 1))) ping_name
    ∷ line (Tree (NewSynth 1001 2 (argument 1000))) ping_name
    ∷ []

-- 440.0 and 2.0
abbrev float440 : ℕ
float440 = 1138491392

abbrev float2 : ℕ
float2 = 1073741824

-- bus 7 at 2.0, the control mapped to it, and then to -1
abbrev mapped : List Line
mapped = line (Buses (buses.Set 7 (Float float2))) [] ∷ line (Controls (Map (argument 1000) Name 7)) freq_name ∷ []

abbrev unmapped : List Line
unmapped = line (Controls (Map (argument 1000) Name minus_one)) freq_name ∷ []

-- the last four bytes of a reply to `/s_get` 1000 freq: the value read
abbrev value_read : Engine → List Line → List ℕ
value_read e ls = drop 28 (replied e ls (line (Query (query.Control (argument 1000) Name)) freq_name))

-- the answer to a load
abbrev loaded_by : Engine → List ℕ → List ℕ
loaded_by e file = answers_of e (load file ∷ [])

-- the rows, played from an engine; a file's refusal is its number and 256 times its place
abbrev rows_from : Engine → List Example
rows_from e =
    -- "no definitions, 10 bytes, loads; 9 bytes is 2. One definition "a" with every count 0: 30 bytes."
    example (loaded_by e (header 0)) (0 ∷ [])
    ∷ example (length (header 0) ∷ []) (10 ∷ [])
    ∷ example (loaded_by e (take 9 (header 0))) ((2 + 256 * 8) ∷ [])
    ∷ example (loaded_by e (file_of 0 (int 0) (int 0))) (0 ∷ [])
    ∷ example (length (file_of 0 (int 0) (int 0)) ∷ []) (30 ∷ [])
    -- "P 32 loads, 33 is 5; index P-1 loads, P is 8; a unit's input naming itself is 8."
    ∷ example (loaded_by e (file_of 32 (int 0) (int 0))) (0 ∷ [])
    ∷ example (loaded_by e (file_of 33 (int 0) (int 0))) ((5 + 256 * 16) ∷ [])
    ∷ example (loaded_by e (file_of 2 (one_name 1) (int 0))) (0 ∷ [])
    ∷ example (loaded_by e (file_of 2 (one_name 2) (int 0))) ((8 + 256 * 34) ∷ [])
    ∷ example (loaded_by e (file_of 0 (int 0) (one_unit 0))) ((8 + 256 * 41) ∷ [])
    -- ""ping" with one parameter "freq", 440.0 (43 DC 00 00), no units: 46 bytes."
    ∷ example (loaded_by e ping) (0 ∷ [])
    ∷ example (length ping ∷ []) (46 ∷ [])
    -- "running order 1001, 1000. Then run 1 off: empty."
    ∷ example (answers_of e show) (0 ∷ 0 ∷ 0 ∷ 0 ∷ [])
    ∷ example (order_after e show) (1001 ∷ 1000 ∷ [])
    ∷ example (order_after e (show ++ (line (Tree (Run (argument 1) 0)) [] ∷ []))) []
    -- "`/g_head` 1 with node 1 is 19; `/n_before` 1000 1000 is 19; `/n_free` 0 is 18."
    ∷ example (answers_of e (show ++ (line (Tree (Head (argument 1) (argument 1))) [] ∷ line (Tree (Before (argument 1000) (argument 1000))) [] ∷ line (Tree (Free (argument 0))) [] ∷ [])))
    (0 ∷ 0 ∷ 0 ∷ 0 ∷ 19 ∷ 19 ∷ 18 ∷ [])
    -- "own 440.0, mapped to bus 7 at 2.0, reads 2.0; mapped to -1, reads 440.0."
    ∷ example (value_read e show) (67 ∷ 220 ∷ 0 ∷ 0 ∷ [])
    ∷ example (value_read e (show ++ mapped)) (64 ∷ 0 ∷ 0 ∷ 0 ∷ [])
    ∷ example (value_read e (show ++ mapped ++ unmapped)) (67 ∷ 220 ∷ 0 ∷ 0 ∷ [])
    ∷ []

computed : agrees (rows_from fresh_parts) ≡ true
unfolding repeat name_bytes front_by unit_by units_by definition_by read_definitions read_file same_name among write_all write_definition_by write_file lives lift sink take_deeper drop_deeper only_groups run_of edit_rows order_from row_taken tags arguments target_of in_bounds pattern held resident_from controls_from first_index next_index view_rows node_named first_of names_of staying retired free_from loaded free_row_from initial_words change_words change_all effect plain_named reply_to query_answer answer_in played answers_of agrees
computed = refl

-- the table, played from a fresh engine
abbrev pub table : List Example
table = rows_from fresh_engine

pub proved : agrees table ≡ true
proved = ap (λ (e : Engine). agrees (rows_from e)) fresh-parts ∙ computed
