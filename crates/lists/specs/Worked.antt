-- Worked examples of lists, by computation: what each ends in on a fresh engine, as its one number.
use Rattle.std.specs.Prelude.{ℕ, zero, suc, ◌+◌, ◌*◌, true, ◌≡◌, refl, List, [], ◌∷◌, ◌++◌, take}
use Rattle.std.proofs.Common.{ap, ◌∙◌}
use Rattle.format.specs.Read.{repeat}
use Rattle.format.specs.Reader.{same_name, read_file, front_by, unit_by, units_by, definition_by, read_definitions, among}
use Rattle.nodes.specs.Place.{lives}
use Rattle.nodes.specs.Edit.{lift, sink, take_deeper, drop_deeper, only_groups, run_of, edit_rows}
use Rattle.nodes.specs.Order.{order_from}
use Rattle.values.specs.Targets.{target_of}
use Rattle.values.specs.Values.{in_bounds, pattern}
use Rattle.calls.specs.Ops as ops
use Rattle.calls.specs.Ops.{command_of}
use Rattle.model.specs.Engine.{Engine, held, resident_from, controls_from}
use Rattle.model.specs.Meaning.{node_named}
use Rattle.model.specs.Checks.{first_of, names_of, staying}
use Rattle.model.specs.Effects.{effect, retired, free_from, loaded, initial_words, change_words, change_all}
use Rattle.model.specs.Apply.{answer_in, query_answer}
use Rattle.model.specs.Examples.{header}
use Rattle.model.specs.Fresh.{fresh_engine, fresh_parts, fresh-parts}
use Rattle.format.specs.Fields.{name_bytes}
use Rattle.format.specs.Writer.{write_all, write_definition_by, write_file}
use Rattle.nodes.specs.Formed.{row_taken, free_row_from}
use Rattle.osc.specs.Message.{tags, arguments}
use Rattle.format.specs.Names.{first_index, next_index}
use Rattle.model.specs.View.{view_rows}
use Rattle.model.specs.Replies.{plain_named, reply_to}
use Rattle.model.specs.Script.{Example, example, agrees}
use Rattle.lists.specs.Lent.{items_from, zeros, every, verdict, lines_in}
use Rattle.lists.specs.OneByOne.{list_number}
use Rattle.lists.specs.OnEngine.{ending_on, list_on}

-- an item with its numbers, its part, and zeros for later
abbrev item : ℕ → ℕ → ℕ → ℕ → ℕ → ℕ → ℕ → ℕ → List ℕ
item op a b c d e start size = op ∷ (a ∷ (b ∷ (c ∷ (d ∷ (e ∷ (start ∷ (size ∷ (0 ∷ (0 ∷ (0 ∷ (0 ∷ [])))))))))))

-- `/g_new` number at the root's tail, `/n_run` 0 1, `/status`, export, `/c_set` 7 with a value of a kind
abbrev group : ℕ → List ℕ
group n = item ops.g_new n 1 0 0 0 0 0

abbrev run_root : List ℕ
run_root = item ops.n_run 0 1 0 0 0 0 0

abbrev status : List ℕ
status = item ops.status 0 0 0 0 0 0 0

abbrev export : List ℕ
export = item ops.export 0 0 0 0 0 0 0

abbrev recall : ℕ → List ℕ
recall size = item ops.recall 1 0 0 0 0 0 size

abbrev set_bus : ℕ → List ℕ
set_bus kind = item ops.c_set 7 0 0 kind 0 0 0

unfoldable pub times : ℕ → List ℕ → List ℕ
times zero l = []
times (suc n) l = l ++ times n l

abbrev ended : Engine → List ℕ → List ℕ → List ℕ
ended e us bytes = list_number (list_on us bytes e) ∷ []

abbrev rows_from : Engine → List Example
rows_from e =
    -- an empty list
    example (ended e [] []) (0 ∷ [])
    -- two commands; the second refused, and the third not tried
    ∷ example (ended e (group 1 ++ group 2) []) ((256 * 2) ∷ [])
    ∷ example (ended e (group 1 ++ (group 1 ++ group 2)) []) ((15 + 256 * 1) ∷ [])
    -- a query or an export inside, also behind one that would be refused
    ∷ example (ended e (group 1 ++ (status ++ group 2)) []) (34 ∷ [])
    ∷ example (ended e (group 0 ++ export) []) (34 ∷ [])
    -- a recall inside, and one that is not laid as an item is
    ∷ example (ended e (group 1 ++ recall 0) []) (34 ∷ [])
    ∷ example (ended e (group 1 ++ recall 1) []) (255 ∷ [])
    -- no list: words left over, an op that is none behind a query, a value's kind that is none, a word kept for later
    ∷ example (ended e (group 1 ++ (0 ∷ [])) []) (255 ∷ [])
    ∷ example (ended e (status ++ item (suc ops.recall) 0 0 0 0 0 0 0) []) (255 ∷ [])
    ∷ example (ended e (set_bus 1 ++ set_bus 2) []) (255 ∷ [])
    ∷ example (ended e (take 11 (group 1) ++ (1 ∷ [])) []) (255 ∷ [])
    -- words that an op doesn't take are not looked at
    ∷ example (ended e (item ops.g_new 1 1 0 9 9 0 0) []) ((256 * 1) ∷ [])
    -- a part: an empty one may start at the end of the bytes, and not past it, also where the op takes none
    ∷ example (ended e (item ops.g_new 1 1 0 0 0 1 0) (7 ∷ [])) ((256 * 1) ∷ [])
    ∷ example (ended e (item ops.g_new 1 1 0 0 0 2 0) (7 ∷ [])) (255 ∷ [])
    ∷ example (ended e (item ops.g_new 1 1 0 0 0 1 1) (7 ∷ [])) (255 ∷ [])
    -- a load that is cut, behind one that is accepted: its number, how many before it, its place
    ∷ example (ended e (group 1 ++ (item ops.d_recv 0 0 0 0 0 0 10 ++ item ops.d_recv 0 0 0 0 0 0 9)) (header 0)) ((2 + 256 * 2 + 16777216 * 8) ∷ [])
    -- 512 commands, and one more
    ∷ example (ended e (times 512 run_root) []) ((256 * 512) ∷ [])
    ∷ example (ended e (times 513 run_root) []) (34 ∷ [])
    ∷ []

computed : agrees (rows_from fresh_parts) ≡ true
unfolding repeat name_bytes front_by unit_by units_by definition_by read_definitions read_file same_name among write_all write_definition_by write_file lives lift sink take_deeper drop_deeper only_groups run_of edit_rows order_from row_taken tags arguments target_of in_bounds pattern held resident_from controls_from first_index next_index view_rows node_named first_of names_of staying retired free_from loaded free_row_from initial_words change_words change_all effect plain_named reply_to query_answer answer_in agrees command_of items_from zeros every verdict lines_in ending_on times
computed = refl

abbrev pub table : List Example
table = rows_from fresh_engine

pub agreed : agrees table ≡ true
agreed = ap (λ (e : Engine). agrees (rows_from e)) fresh-parts ∙ computed
