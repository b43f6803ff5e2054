-- How a list of commands is lent, and what is judged of it as a whole: paper 02, 5/14, "a call with a list of up to 512 commands, none of a kind
-- that replies".
use Rattle.std.specs.Prelude.{ℕ, zero, suc, ◌+◌, ◌/◌, ◌%◌, Bool, true, false, List, [], ◌∷◌, ◌++◌, length, drop, get_or, eqb, leb, None, Option, Some}
use Rattle.words.specs.Choice.{pick, both}
use Rattle.words.specs.Parts.{region}
use Rattle.model.specs.declared.Command.{Command}
use Rattle.model.specs.declared.Command.TheVariants as command
use Rattle.model.specs.Script.{Line, line}
use Rattle.calls.specs.Ops.{recall, command_of}
use Rattle.lists.specs.declared.Verdict.{Verdict}
use Rattle.lists.specs.declared.Verdict.TheVariants.{NoList, Unfit, Fit}
use Rattle.lists.specs.declared.Kind.{Kind}
use Rattle.lists.specs.declared.Kind.TheVariants.{NoItem, Unlisted, Acts}

-- an item: the op and the numbers of its command, where its bytes lie, and four words that are kept for later
pub record Item : Type 0 where
  pub op : ℕ
  pub a : ℕ
  pub b : ℕ
  pub c : ℕ
  pub d : ℕ
  pub e : ℕ
  pub start : ℕ
  pub size : ℕ
  pub later : List ℕ

-- its words
abbrev pub item_words : ℕ
item_words = 12

-- the item that a run of words begins with
abbrev pub item_in : List ℕ → Item
item_in us = record {
  op = get_or us 0 0;
  a = get_or us 1 0;
  b = get_or us 2 0;
  c = get_or us 3 0;
  d = get_or us 4 0;
  e = get_or us 5 0;
  start = get_or us 6 0;
  size = get_or us 7 0;
  later = get_or us 8 0 ∷ (get_or us 9 0 ∷ (get_or us 10 0 ∷ (get_or us 11 0 ∷ [])));
}

unfoldable pub items_from : ℕ → List ℕ → List Item
items_from zero us = []
items_from (suc n) us = item_in us ∷ items_from n (drop item_words us)

abbrev pub count_in : List ℕ → ℕ
count_in us = length us / item_words

abbrev pub items_of : List ℕ → List Item
items_of us = items_from (count_in us) us

-- an item's command, or none: words that its op doesn't take are not looked at
abbrev pub parsed : Item → Option Command
parsed i = command_of i.op i.a i.b i.c i.d i.e

-- its bytes, of those that are lent beside the list
abbrev pub part_of : Item → List ℕ → List ℕ
part_of i bytes = region i.start i.size bytes

unfoldable pub zeros : List ℕ → Bool
zeros [] = true
zeros (n ∷ l) = both (eqb n 0) (zeros l)

-- the words that are kept for later are 0, and the part lies within so many lent bytes, whether or not its op takes bytes: an empty one starts at
-- their end at the latest
abbrev pub is_laid : ℕ → Item → Bool
is_laid room i = both (zeros i.later) (leb (i.start + i.size) room)

-- "none of a kind that replies": "a query or an export"; and a recall "goes in no list" (8/14)
abbrev pub of_command : Command → Kind
of_command (command.Definitions c) = Acts
of_command (command.Tree c) = Acts
of_command (command.Controls c) = Acts
of_command (command.Buses c) = Acts
of_command (command.Query q) = Unlisted

abbrev pub of_parsed : Option Command → Kind
of_parsed (Some c) = of_command c
of_parsed None = NoItem

abbrev pub kind_of : ℕ → Item → Kind
kind_of room i = pick (is_laid room i) (pick (eqb i.op recall) Unlisted (of_parsed (parsed i))) NoItem

abbrev pub is_item : Kind → Bool
is_item NoItem = false
is_item Unlisted = true
is_item Acts = true

abbrev pub acts : Kind → Bool
acts NoItem = false
acts Unlisted = false
acts Acts = true

-- every item is of a kind that passes
unfoldable pub every : (Kind → Bool) → ℕ → List Item → Bool
every pass room [] = true
every pass room (i ∷ is) = both (pass (kind_of room i)) (every pass room is)

-- whole items, and each is one: else it is no list
abbrev pub is_list : List ℕ → List ℕ → Bool
is_list us bytes = both (eqb (length us % item_words) 0) (every is_item (length bytes) (items_of us))

-- "up to 512 commands"
abbrev pub most_commands : ℕ
most_commands = 512

-- "A longer list, or one that holds a query or an export, is refused whole with 34"
abbrev pub is_fit : List ℕ → List ℕ → Bool
is_fit us bytes = both (leb (count_in us) most_commands) (every acts (length bytes) (items_of us))

unfoldable pub verdict : List ℕ → List ℕ → Verdict
verdict us bytes = pick (is_list us bytes) (pick (is_fit us bytes) Fit Unfit) NoList

-- the commands of a list, each with its bytes
abbrev pub line_by : Option Command → List ℕ → List Line
line_by (Some c) part = line c part ∷ []
line_by None part = []

unfoldable pub lines_in : List Item → List ℕ → List Line
lines_in [] bytes = []
lines_in (i ∷ is) bytes = line_by (parsed i) (part_of i bytes) ++ lines_in is bytes

abbrev pub lines_of : List ℕ → List ℕ → List Line
lines_of us bytes = lines_in (items_of us) bytes
