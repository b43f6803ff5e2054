-- The replies: paper 01, "Replies". Each but export's is a function of what the plain tree holds: the nodes as it knows them, the buses, and how
-- many names mean a definition.
use Rattle.std.specs.Prelude.{ℕ, suc, ◌+◌, Bool, true, false, not, List, [], ◌∷◌, ◌++◌, length, get_or, ltb, eqb}
use Rattle.std.proofs.Math.Option.{Option, none, some}
use Rattle.words.specs.Choice.{pick}
use Rattle.format.specs.Definition.{ParameterName, Definition}
use Rattle.format.specs.Writer.{write_file}
use Rattle.nodes.specs.Structure.{no_node, child_count, head_of, tail_of, parent_of, previous_of, next_of}
use Rattle.osc.specs.Message.{Argument, int, float, text, message, decimal}
use Rattle.values.specs.declared.Key.{Key}
use Rattle.values.specs.declared.Key.TheVariants.{Index, Name}
use Rattle.values.specs.declared.NodeArgument.{NodeArgument}
use Rattle.values.specs.declared.Mapping.{Mapping}
use Rattle.values.specs.declared.Mapping.TheVariants.{Unmapped, Bus}
use Rattle.values.specs.Controls.{ControlValue, shown_by}
use Rattle.model.specs.declared.Query.{Query}
use Rattle.model.specs.declared.Query.TheVariants as query
use Rattle.format.specs.Names.{Covered, first_name}
use Rattle.model.specs.Engine.{Slot, Engine, definition_in, residents}
use Rattle.model.specs.View.{Kind, group, synth, PlainNode, Row, is_group_kind, shape, view}
use Rattle.model.specs.Meaning.{meant, cover_of}

-- the addresses, byte by byte
-- "/n_info"
abbrev pub info_address : List ℕ
info_address = 47 ∷ (110 ∷ (95 ∷ (105 ∷ (110 ∷ (102 ∷ (111 ∷ []))))))

-- "/n_set"
abbrev pub set_address : List ℕ
set_address = 47 ∷ (110 ∷ (95 ∷ (115 ∷ (101 ∷ (116 ∷ [])))))

-- "/c_set"
abbrev pub bus_address : List ℕ
bus_address = 47 ∷ (99 ∷ (95 ∷ (115 ∷ (101 ∷ (116 ∷ [])))))

-- "/g_queryTree.reply"
abbrev pub tree_address : List ℕ
tree_address =
    47 ∷ (103 ∷ (95 ∷ (113 ∷ (117 ∷ (101 ∷ (114 ∷ (121 ∷ (84 ∷ (114 ∷ (101 ∷ (101 ∷ (46 ∷ (114 ∷ (101 ∷ (112 ∷ (108 ∷ (121 ∷ [])))))))))))))))))

-- "/status.reply"
abbrev pub status_address : List ℕ
status_address = 47 ∷ (115 ∷ (116 ∷ (97 ∷ (116 ∷ (117 ∷ (115 ∷ (46 ∷ (114 ∷ (101 ∷ (112 ∷ (108 ∷ (121 ∷ []))))))))))))

-- a node of the tree by its number
abbrev pub no_plain_node : PlainNode
no_plain_node = record { number = 0; run = 0; kind = group }

unfoldable pub plain_named : ℕ → List Row → PlainNode
plain_named n [] = no_plain_node
plain_named n (r ∷ l) = pick (eqb r.node.number n) r.node (plain_named n l)

-- "`/n_query` gives `/n_info`: number, parent (-1 for the root), previous, next, 1 for a group or 0, and for a group its head and tail; -1 where
-- none."
abbrev pub info_kind : ℕ → List Row → Bool → List Argument
info_kind n rows true = int 1 ∷ (int (head_of n (shape rows)) ∷ (int (tail_of n (shape rows)) ∷ []))
info_kind n rows false = int 0 ∷ []

abbrev pub info_reply : ℕ → List Row → List ℕ
info_reply n rows =
    message info_address
    (int n
    ∷ (int (parent_of n (shape rows))
    ∷ (int (previous_of n (shape rows))
    ∷ (int (next_of n (shape rows))
    ∷ info_kind n rows (is_group_kind (plain_named n rows).kind)))))

-- "`/s_get` gives `/n_set` with number, index or name as asked, value read."
abbrev pub key_argument : Key → List ℕ → Argument
key_argument (Index i) name = int i
key_argument Name name = text name

abbrev pub no_control : ControlValue
no_control = record { own = 0; mapping = Unmapped }

abbrev pub read_at : List ℕ → List ControlValue → Option Covered → ℕ
read_at buses cs none = 0
read_at buses cs (some c) = shown_by buses (get_or cs c.index no_control)

abbrev pub read_control : List ℕ → Key → List ℕ → Kind → ℕ
read_control buses key name group = 0
read_control buses key name (synth d cs) = read_at buses cs (cover_of key name d)

abbrev pub control_reply : ℕ → Key → List ℕ → List Row → List ℕ → List ℕ
control_reply n key name rows buses =
    message set_address (int n ∷ (key_argument key name ∷ (float (read_control buses key name (plain_named n rows).kind) ∷ [])))

-- "`/c_get` gives `/c_set`."
abbrev pub bus_reply : ℕ → List ℕ → List ℕ
bus_reply bus buses = message bus_address (int bus ∷ (float (get_or buses bus 0) ∷ []))

-- "a mapped control shows 'c' and the decimal bus"
abbrev pub mapping_argument : Mapping → ℕ → Argument
mapping_argument Unmapped own = float own
mapping_argument (Bus b) own = text (99 ∷ decimal b)

-- "a control shows its first name or else its index"
abbrev pub label_argument : Option (List ℕ) → ℕ → Argument
label_argument none i = int i
label_argument (some name) i = text name

-- the controls from the index i on
unfoldable pub control_arguments : ℕ → List ParameterName → List ControlValue → List Argument
control_arguments i names [] = []
control_arguments i names (c ∷ cs) =
    label_argument (first_name i names) i ∷ (mapping_argument c.mapping c.own ∷ control_arguments (i + 1) names cs)

-- "`/g_queryTree` as in 000": "node ID .. number of child nodes contained within this node. If -1 this is a synth, if >=0 it's a group .. then, if
-- this node is a synth: .. the
-- SynthDef name for this node. .. then, if flag (see above) is true: .. numControls for this synth (M)", and for each control its name or index and
-- its value or mapping
abbrev pub flagged : Bool → Definition → List ControlValue → List Argument
flagged true d cs = int (length cs) ∷ control_arguments 0 d.front.names cs
flagged false d cs = []

abbrev pub kind_arguments : Bool → ℕ → Kind → List Argument
kind_arguments flag children group = int children ∷ []
kind_arguments flag children (synth d cs) = int no_node ∷ (text d.front.name ∷ flagged flag d cs)

-- the rows, each with the number of its children: those one deeper in the run behind it
unfoldable pub rows_below : ℕ → List Row → List Row
rows_below d [] = []
rows_below d (r ∷ l) = pick (ltb d r.depth) (r ∷ rows_below d l) []

unfoldable pub rows_at : ℕ → List Row → ℕ
rows_at d [] = 0
rows_at d (r ∷ l) = pick (eqb r.depth d) (suc (rows_at d l)) (rows_at d l)

unfoldable pub tree_arguments : Bool → List Row → List Argument
tree_arguments flag [] = []
tree_arguments flag (r ∷ l) =
    (int r.node.number ∷ kind_arguments flag (rows_at (r.depth + 1) (rows_below r.depth l)) r.node.kind) ++ tree_arguments flag l

-- the rows below the node n
unfoldable pub subtree_rows : ℕ → List Row → List Row
subtree_rows n [] = []
subtree_rows n (r ∷ l) = pick (eqb r.node.number n) (rows_below r.depth l) (subtree_rows n l)

-- "flag: if synth control values are included 1, else 0 .. node ID of the requested group .. number of child nodes contained within the requested
-- group"; "Any nonzero flag is 1."
abbrev pub flag_number : Bool → ℕ
flag_number true = 1
flag_number false = 0

abbrev pub tree_reply : ℕ → Bool → List Row → List ℕ
tree_reply n flag rows =
    message tree_address (int (flag_number flag) ∷ (int n ∷ (int (child_count n (shape rows)) ∷ tree_arguments flag (subtree_rows n rows))))

-- "`/status` gives `/status.reply` with four integers only (H): units over live synths, synths, groups with the root, residents."
abbrev pub units_of : Kind → ℕ
units_of group = 0
units_of (synth d cs) = length d.units

unfoldable pub unit_count : List Row → ℕ
unit_count [] = 0
unit_count (r ∷ l) = units_of r.node.kind + unit_count l

unfoldable pub group_count : List Row → ℕ
group_count [] = 0
group_count (r ∷ l) = pick (is_group_kind r.node.kind) 1 0 + group_count l

unfoldable pub synth_count : List Row → ℕ
synth_count [] = 0
synth_count (r ∷ l) = pick (is_group_kind r.node.kind) 0 1 + synth_count l

abbrev pub status_reply : List Row → ℕ → List ℕ
status_reply rows names = message status_address (int (unit_count rows) ∷ (int (synth_count rows) ∷ (int (group_count rows) ∷ (int names ∷ []))))

-- "Export writes a version 2 file of all residents in slot order": of their definitions as read
unfoldable pub definitions_in : List Slot → List Definition
definitions_in [] = []
definitions_in (s ∷ more) = definition_in s ∷ definitions_in more

abbrev pub export_file : List Slot → List ℕ
export_file slots = write_file (definitions_in (residents slots))

-- the reply to a query about the node that its argument means
unfoldable pub reply_to : Query → (NodeArgument → ℕ) → List ℕ → List Row → List ℕ → ℕ → List ℕ → List ℕ
reply_to (query.Node n) means bytes rows buses names file = info_reply (means n) rows
reply_to (query.Control n key) means bytes rows buses names file = control_reply (means n) key bytes rows buses
reply_to (query.Bus bus) means bytes rows buses names file = bus_reply bus buses
reply_to (query.Tree g flag) means bytes rows buses names file = tree_reply (means g) (not (eqb flag 0)) rows
reply_to query.Status means bytes rows buses names file = status_reply rows names
reply_to query.Export means bytes rows buses names file = file

-- the engine's reply
abbrev pub reply : Query → List ℕ → Engine → List ℕ
reply q bytes e = reply_to q (λ a. meant a e) bytes (view e) e.buses (length (residents e.slots)) (export_file e.slots)
