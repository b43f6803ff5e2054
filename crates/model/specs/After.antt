-- The words and the arena after each accepted command: a few parts put in, each the part of the engine after it. What no part covers stays as it was.
use Rattle.std.specs.Prelude.{ℕ, ◌+◌, ◌-◌, List, [], ◌∷◌, ◌++◌, length, drop, get_or, replicate}
use Rattle.words.specs.Choice.{pick}
use Rattle.words.specs.Parts.{put}
use Rattle.nodes.specs.declared.Node.{Node}
use Rattle.nodes.specs.Table.{width, encode}
use Rattle.nodes.specs.Formed.{first_given}
use Rattle.nodes.specs.Place.{group_slot}
use Rattle.index.specs.Index.{index_of}
use Rattle.model.specs.declared.DefinitionCommand.TheVariants.{Receive, Free}
use Rattle.model.specs.declared.Command.{Command}
use Rattle.model.specs.declared.Command.TheVariants as command
use Rattle.model.specs.Layout.{slot_count, start_of, nodes_place, words_length, arena_length, lengths_in, put_nodes, put_order, put_index, put_controls, put_buses, put_lengths, put_resident, put_header}
use Rattle.model.specs.Engine.{Slot, Engine, decode}
use Rattle.model.specs.Effects.{effect}

-- the tree's parts: the first words, the nodes, the whole order region, the index of the nodes, the controls
abbrev pub put_tree : Engine → List ℕ → List ℕ
put_tree e ws =
    put_header (length e.nodes) (length e.order) e.next e.latest
    (put_controls e.controls (put_index (index_of e.nodes) (put_order e.order (put_nodes e.nodes ws))))

-- the flags of slots
unfoldable pub flags_of : List Slot → List ℕ
flags_of [] = []
flags_of (s ∷ more) = pick s.resident 1 0 ∷ flags_of more

-- the lengths of slots: of a resident its own, of another what was there
unfoldable pub lengths_of : List Slot → List ℕ → List ℕ
lengths_of [] sizes = []
lengths_of (s ∷ more) sizes = pick s.resident (length s.bytes) (get_or sizes 0 0) ∷ lengths_of more (drop 1 sizes)

abbrev pub put_slots : List Slot → List ℕ → List ℕ
put_slots slots ws = put_lengths (lengths_of slots (lengths_in ws)) (put_resident (flags_of slots) ws)

-- the arena: the bytes of a resident from its slot's start on, what lies past them and the slots of others as they were
abbrev pub put_bytes : ℕ → Slot → List ℕ → List ℕ
put_bytes k s arena = pick s.resident (put (start_of k) (length s.bytes) s.bytes arena) arena

unfoldable pub arena_from : ℕ → List Slot → List ℕ → List ℕ
arena_from k [] arena = arena
arena_from k (s ∷ more) arena = put_bytes k s (arena_from (k + 1) more arena)

abbrev pub arena_of : List Slot → List ℕ → List ℕ
arena_of slots arena = arena_from 0 slots arena

-- a load writes the lengths and the flags, and `/d_free` the flags
unfoldable pub words_after : Command → List ℕ → List ℕ → List ℕ → List ℕ
words_after (command.Definitions Receive) bytes ws arena = put_slots (effect (command.Definitions Receive) bytes (decode ws arena)).slots ws
words_after (command.Definitions Free) bytes ws arena = put_resident (flags_of (effect (command.Definitions Free) bytes (decode ws arena)).slots) ws
words_after (command.Tree c) bytes ws arena = put_tree (effect (command.Tree c) bytes (decode ws arena)) ws
words_after (command.Controls c) bytes ws arena = put_controls (effect (command.Controls c) bytes (decode ws arena)).controls ws
words_after (command.Buses c) bytes ws arena = put_buses (effect (command.Buses c) bytes (decode ws arena)).buses ws
words_after (command.Query q) bytes ws arena = ws

-- only a load writes the arena
unfoldable pub arena_after : Command → List ℕ → List ℕ → List ℕ → List ℕ
arena_after (command.Definitions Receive) bytes ws arena = arena_of (effect (command.Definitions Receive) bytes (decode ws arena)).slots arena
arena_after (command.Definitions Free) bytes ws arena = arena
arena_after (command.Tree c) bytes ws arena = arena
arena_after (command.Controls c) bytes ws arena = arena
arena_after (command.Buses c) bytes ws arena = arena
arena_after (command.Query q) bytes ws arena = arena

-- "Root: group 0, always live, running at first."
abbrev pub root : Node
root = record { number = 0; depth = 0; run = 1; slot = group_slot; row = 0 }

-- the end of the root's record, and how many words lie behind it
abbrev pub root_end : ℕ
root_end = nodes_place + width

abbrev pub behind_root : ℕ
behind_root = words_length - root_end

-- a fresh engine's words: the root alone, -8 next, no latest, and zeros, so that the one entry of the index is place 0: `fresh` writes every word
-- and byte
abbrev pub fresh_state : List ℕ
fresh_state =
    1 ∷ (0 ∷ (first_given ∷ (0 ∷ (replicate (slot_count + slot_count) 0 ++ (encode (root ∷ []) ++ replicate behind_root 0)))))

abbrev pub fresh_arena : List ℕ
fresh_arena = replicate arena_length 0
