-- The replies, of what the plain tree holds: paper 01, "Replies". All but export's, since the plain tree has no slots. Only how an address and
-- arguments become a
-- message is shared with the engine: it is the format's (`osc` `Message`).
use Rattle.std.specs.Prelude.{ℕ, zero, suc, ◌+◌, Bool, true, false, List, [], ◌∷◌, ◌++◌, length, get_or, ltb, eqb}
use Prim.Native.Char.{code}
use Prim.Native.String.{String, [] as end, ◌∷◌ as ◌then◌}
use Rattle.std.proofs.Math.Option.{Option, none, some}
use Rattle.words.specs.Choice.{pick}
use Rattle.format.specs.Definition.{ParameterName}
use Rattle.nodes.specs.Forest.{Forest, node, below}
use Rattle.nodes.specs.Forest as forest
use Rattle.nodes.specs.Structure.{tops, children, parent, previous, next, head, tail}
use Rattle.osc.specs.Message.{Argument, int, float, text, message, decimal}
use Rattle.values.specs.declared.Key.{Key}
use Rattle.values.specs.declared.Key.TheVariants.{Index, Name}
use Rattle.values.specs.declared.Mapping.{Mapping}
use Rattle.values.specs.declared.Mapping.TheVariants.{Unmapped, Bus}
use Rattle.values.specs.Controls.{ControlValue}
use Rattle.model.specs.declared.Query.{Query}
use Rattle.model.specs.declared.Query.TheVariants as query
use Rattle.model.specs.View.{Kind, group, synth, PlainNode}
use Rattle.model.specs.Plain.{Plain, buses_in_all, if_some, and_then, only_if, minus_one, number_in, named_in, asked_for}

-- the bytes of an address
unfoldable pub bytes_of : String → List ℕ
bytes_of end = []
bytes_of (c then s) = code c ∷ bytes_of s

-- "`/n_query` gives `/n_info`: number, parent (-1 for the root), previous, next, 1 for a group or 0, and for a group its head and tail; -1 where
-- none."
abbrev pub group_info : Forest PlainNode → ℕ → Kind → List Argument
group_info f n group = int 1 ∷ (int (head number_in n f) ∷ (int (tail number_in n f) ∷ []))
group_info f n (synth d cs) = int 0 ∷ []

abbrev pub node_info : Forest PlainNode → ℕ → Kind → List Argument
node_info f n kind = int n ∷ (int (parent number_in n f) ∷ (int (previous number_in n f) ∷ (int (next number_in n f) ∷ group_info f n kind)))

-- "Reading a mapped control gives the bus, otherwise the own float."
abbrev pub float_read : List ℕ → Mapping → ℕ → ℕ
float_read buses Unmapped own = own
float_read buses (Bus b) own = get_or buses b 0

-- the control at an index
unfoldable pub control_in : ℕ → List ControlValue → Option ControlValue
control_in i [] = none
control_in zero (c ∷ cs) = some c
control_in (suc i) (c ∷ cs) = control_in i cs

-- "`/s_get` gives `/n_set` with number, index or name as asked, value read."
abbrev pub key_shown : Key → List ℕ → Argument
key_shown (Index i) name = int i
key_shown Name name = text name

abbrev pub control_shown : Key → List ℕ → List ℕ → ℕ → Kind → Option (List ℕ)
control_shown key name buses n group = none
control_shown key name buses n (synth d cs) =
    if_some (asked_for key name d)
    (λ i. if_some (control_in i cs) (λ c. some (message (bytes_of "/n_set") (int n ∷ (key_shown key name ∷ (float (float_read buses c.mapping c.own) ∷ []))))) none) none

-- "a control shows its first name or else its index": the names of the entries that have an index
unfoldable pub names_at : ℕ → List ParameterName → List (List ℕ)
names_at i [] = []
names_at i (q ∷ more) = pick (eqb q.index i) (q.name ∷ names_at i more) (names_at i more)

abbrev pub label_shown : ℕ → List (List ℕ) → Argument
label_shown i [] = int i
label_shown i (name ∷ more) = text name

-- "a mapped control shows 'c' and the decimal bus"
abbrev pub mapping_shown : Mapping → ℕ → Argument
mapping_shown Unmapped own = float own
mapping_shown (Bus b) own = text (99 ∷ decimal b)

-- the controls from the index i on
unfoldable pub controls_shown : ℕ → List ParameterName → List ControlValue → List Argument
controls_shown i names [] = []
controls_shown i names (c ∷ cs) = label_shown i (names_at i names) ∷ (mapping_shown c.mapping c.own ∷ controls_shown (i + 1) names cs)

-- "`/g_queryTree` as in 000": "flag: if synth control values are included 1, else 0"; "Any nonzero flag is 1."
abbrev pub flag_shown : ℕ → ℕ
flag_shown zero = 0
flag_shown (suc flag) = 1

abbrev pub included : ℕ → List Argument → List Argument
included zero args = []
included (suc flag) args = args

-- "number of child nodes contained within this node. If -1 this is a synth, if >=0 it's a group .. the SynthDef name for this node. .. numControls
-- for this synth (M)"
abbrev pub kind_shown : ℕ → ℕ → Kind → List Argument
kind_shown flag children group = int children ∷ []
kind_shown flag children (synth d cs) = int minus_one ∷ (text d.front.name ∷ included flag (int (length cs) ∷ controls_shown 0 d.front.names cs))

-- each node of a list with the nodes below it, head to tail
unfoldable pub nodes_shown : ℕ → Forest PlainNode → List Argument
nodes_shown flag forest.none = []
nodes_shown flag (node x b a) = (int x.number ∷ kind_shown flag (length (tops number_in b)) x.kind) ++ (nodes_shown flag b ++ nodes_shown flag a)

-- "node ID of the requested group .. number of child nodes contained within the requested group"
abbrev pub tree_shown : ℕ → Forest PlainNode → ℕ → Kind → Option (List ℕ)
tree_shown flag f n group =
    some (message (bytes_of "/g_queryTree.reply") (int (flag_shown flag) ∷ (int n ∷ (int (length (children number_in n f)) ∷ nodes_shown flag (below number_in n f)))))
tree_shown flag f n (synth d cs) = none

-- "`/status` gives `/status.reply` with four integers only (H): units over live synths, synths, groups with the root, residents."
unfoldable pub sum_over : (Kind → ℕ) → Forest PlainNode → ℕ
sum_over count forest.none = 0
sum_over count (node x b a) = count x.kind + (sum_over count b + sum_over count a)

abbrev pub units_in : Kind → ℕ
units_in group = 0
units_in (synth d cs) = length d.units

abbrev pub one_synth : Kind → ℕ
one_synth group = 0
one_synth (synth d cs) = 1

abbrev pub one_group : Kind → ℕ
one_group group = 1
one_group (synth d cs) = 0

-- the reply to a query, where the plain tree has one; "A node asked for by -1 is shown by its real number."
abbrev pub plain_reply : Query → List ℕ → Plain → Option (List ℕ)
plain_reply (query.Node a) bytes p = and_then (named_in a p) (λ x. some (message (bytes_of "/n_info") (node_info p.tree x.number x.kind)))
plain_reply (query.Control a key) bytes p = and_then (named_in a p) (λ x. control_shown key bytes p.buses x.number x.kind)
plain_reply (query.Bus bus) bytes p = only_if (ltb bus buses_in_all) (message (bytes_of "/c_set") (int bus ∷ (float (get_or p.buses bus 0) ∷ [])))
plain_reply (query.Tree a flag) bytes p = and_then (named_in a p) (λ x. tree_shown flag p.tree x.number x.kind)
plain_reply query.Status bytes p =
    some (message (bytes_of "/status.reply") (int (sum_over units_in p.tree) ∷ (int (sum_over one_synth p.tree) ∷ (int (sum_over one_group p.tree) ∷ (int (length p.names) ∷ [])))))
plain_reply query.Export bytes p = none

abbrev pub is_export : Query → Bool
is_export (query.Node a) = false
is_export (query.Control a key) = false
is_export (query.Bus bus) = false
is_export (query.Tree a flag) = false
is_export query.Status = false
is_export query.Export = true
