-- The table as it is lent from the engine's words: what is proved of the table, said of the engine.
use Rattle.std.specs.Prelude.{ℕ, ◌+◌, ◌≤◌, ◌<◌, Bool, true, false, ◌≡◌, refl, List, [], ◌∷◌, ◌++◌, length, take, drop, set}
use Rattle.std.proofs.Common.{sym, ap, ap₂, ◌∙◌, append_assoc, arith, length-set, take-append-drop, drop-drop, drop_at, length-take-le}
use Rattle.std.proofs.lemmas.List.{take-set-le}
use Rattle.words.specs.Choice.{both}
use Rattle.words.specs.Parts.{region, put}
use Rattle.words.specs.PartsLaws.{region-length, before_put}
use Rattle.format.specs.Definition.{Definition}
use Rattle.nodes.specs.declared.Node.{Node}
use Rattle.model.specs.Layout.{slot_count, lengths_place, resident_place, words_length, arena_length, lengths_in, flags_in, nodes_in, put_lengths, put_resident}
use Rattle.model.specs.Engine.{Slot, slot_at, decode, held, resident_of}
use Rattle.model.specs.Formed.{flags_formed, slots_formed, names_apart}
use Rattle.model.specs.Checks.{names_of, staying}
use Rattle.model.specs.Effects.{placed, loaded, retired, retire, effect}
use Rattle.model.specs.After.{flags_of, lengths_of, arena_of, put_slots, words_after, arena_after}
use Rattle.model.specs.declared.DefinitionCommand.TheVariants as definitions
use Rattle.model.specs.declared.Command.{Command}
use Rattle.model.specs.declared.Command.TheVariants as command
use Rattle.definitions.specs.Holders.{HeldBy, holders, SameHeld, same_held, free-held, staying-held, formed_held}
use Rattle.slots.specs.Slots.{table_words, lengths_on, flags_on, slots_on, slots_length, slots_lent, lengths_lent, flags_lent, drop-take}
use Rattle.definitions.specs.Slots.{SlotsFit, Formed}
use Rattle.definitions.specs.Files.{definitions_on}
use Rattle.slots.specs.Arena.{lengths_length}
use Rattle.definitions.specs.Storing.{table_of}
use Rattle.definitions.specs.Retiring.{retired_many, retire_table}
use Rattle.definitions.specs.Retired.{table_lengths}
use Rattle.definitions.specs.Loading.{Loaded, loaded_on, placed_many}
use Rattle.definitions.specs.Checking.{check_formed}

abbrev receive : Command
receive = command.Definitions definitions.Receive

abbrev free : Command
free = command.Definitions definitions.Free

-- the table in the words
abbrev pub table_in : List ℕ → List ℕ
table_in ws = region lengths_place table_words ws

pub sized_lent : (ws arena : List ℕ) → length ws ≡ words_length → length arena ≡ arena_length → SlotsFit (table_in ws) arena
sized_lent ws arena h l = record { table_size = region-length lengths_place table_words ws (omega arith); arena_size = l }

-- what passes the state check is well formed
pub formed_lent : (ws arena : List ℕ) → length ws ≡ words_length → length arena ≡ arena_length → flags_formed (flags_in ws) ≡ true
    → slots_formed 0 (lengths_in ws) (decode ws arena).slots (nodes_in ws) ≡ true → Formed (table_in ws) arena
formed_lent ws arena h l flags slots =
    check_formed (table_in ws) arena (nodes_in ws) (sized_lent ws arena h l) (rw (flags_lent ws) flags) (rw (slots_lent ws arena, lengths_lent ws) slots)

-- two parts side by side are one
put_two : (a k m : ℕ) (ys zs ws : List ℕ) → a + k + m ≤ length ws → length ys ≡ k → put a (k + m) (ys ++ zs) ws ≡ put a k ys (put (a + k) m zs ws)
put_two a k m ys zs ws h e =
    let w = put (a + k) m zs ws in
    let rest = zs ++ drop m (drop (a + k) ws) in
    let front : take a w ≡ take a ws = before_put (a + k) m a zs ws (omega arith) (omega arith) in
    let back : drop k (drop a w) ≡ rest = drop-drop k a w ∙ drop_at (take (a + k) ws) rest (a + k) (length-take-le (a + k) ws (omega arith)) in
    let tail : drop (k + m) (drop a ws) ≡ drop m (drop (a + k) ws) =
    drop-drop (k + m) a ws ∙ ap (λ (n : ℕ). drop n ws) sum ∙ sym (drop-drop m (a + k) ws) in
    ap (λ (l : List ℕ). take a ws ++ l) (append_assoc ys zs (drop (k + m) (drop a ws)) ∙ ap (λ (l : List ℕ). ys ++ (zs ++ l)) tail)
    ∙ sym (ap₂ (λ (x y : List ℕ). x ++ (ys ++ y)) front back)
  where
    sum : a + (k + m) ≡ a + k + m
    sum = omega arith

-- slots put into the table are put into the words
pub put-slots : (slots : List Slot) (ws : List ℕ) → length slots ≡ slot_count → length ws ≡ words_length
    → put lengths_place table_words (table_of slots (table_in ws)) ws ≡ put_slots slots ws
put-slots slots ws many h =
    put_two lengths_place slot_count slot_count (lengths_of slots (lengths_on (table_in ws))) (flags_of slots) ws (omega arith) (lengths_length slots (lengths_on (table_in ws)) ∙ many)
    ∙ ap (λ (l : List ℕ). put_lengths (lengths_of slots l) (put_resident (flags_of slots) ws)) (lengths_lent ws)

-- what the tests of held slots tell, fact of the nodes
loaded_held : (t u : List Node) → SameHeld t u → (ds : List Definition) (slots : List Slot) → length slots ≡ slot_count → loaded ds slots t ≡ loaded ds slots u
unfolding loaded
loaded_held t u same [] slots many = refl
loaded_held t u same (d ∷ ds) slots many =
    rw (free-held t u same 0 slots (omega arith)) (loaded_held t u same ds (placed d slots u) (placed_many d slots u many))

module _ (ws arena : List ℕ) (tests : List Bool) (h : HeldBy tests (nodes_in ws)) where
  many : length (decode ws arena).slots ≡ slot_count
  unfolding decode
  many = slots_length 0 slot_count (lengths_in ws) (flags_in ws) arena

  same : SameHeld (holders tests) (nodes_in ws)
  same = same_held h

  pub staying_lent : (names : List (List ℕ)) → staying 0 names (slots_on (table_in ws) arena) (holders tests) ≡ staying 0 names (decode ws arena).slots (nodes_in ws)
  staying_lent names =
      ap (λ (l : List Slot). staying 0 names l (holders tests)) (slots_lent ws arena)
      ∙ staying-held (holders tests) (nodes_in ws) same 0 names (decode ws arena).slots (omega (arith, many))

  pub check_lent : both (flags_formed (flags_on (table_in ws))) (both (slots_formed 0 (lengths_on (table_in ws)) (slots_on (table_in ws) arena) (holders tests)) (names_apart (slots_on (table_in ws) arena)))
      ≡ both (flags_formed (flags_in ws)) (both (slots_formed 0 (lengths_in ws) (decode ws arena).slots (nodes_in ws)) (names_apart (decode ws arena).slots))
  check_lent =
      rw (slots_lent ws arena, flags_lent ws, lengths_lent ws, formed_held (holders tests) (nodes_in ws) same 0 (lengths_in ws) (decode ws arena).slots (omega (arith, many)))

  pub loaded_lent : (file : List ℕ) → loaded_on (table_in ws) arena tests file ≡ loaded (definitions_on file) (retired (names_of (definitions_on file)) (decode ws arena).slots) (nodes_in ws)
  loaded_lent file =
      loaded_held (holders tests) (nodes_in ws) same (definitions_on file) (retired (names_of (definitions_on file)) (slots_on (table_in ws) arena)) (retired_many (table_in ws) arena (names_of (definitions_on file)))
      ∙ ap (λ (l : List Slot). loaded (definitions_on file) (retired (names_of (definitions_on file)) l) (nodes_in ws)) (slots_lent ws arena)

-- a load's slots are as many
loaded-many : (ds : List Definition) (slots : List Slot) (t : List Node) → length slots ≡ slot_count → length (loaded ds slots t) ≡ slot_count
unfolding loaded
loaded-many [] slots t many = many
loaded-many (d ∷ ds) slots t many = loaded-many ds (placed d slots t) t (placed_many d slots t many)

-- the words and the arena after an accepted `/d_recv`: what `load` leaves, with the table put back into the words
pub receive_lent : (ws arena file : List ℕ) (tests : List Bool) (table' arena' : List ℕ) → length ws ≡ words_length → HeldBy tests (nodes_in ws)
    → Loaded (table_in ws) arena table' arena' (loaded_on (table_in ws) arena tests file)
    → (put lengths_place table_words table' ws ≡ words_after receive file ws arena) × (arena' ≡ arena_after receive file ws arena)
unfolding words_after arena_after effect decode
receive_lent ws arena file tests table' arena' h held l =
    let slots = loaded_on (table_in ws) arena tests file in
    let names = names_of (definitions_on file) in
    let many : length slots ≡ slot_count = loaded-many (definitions_on file) (retired names (slots_on (table_in ws) arena)) (holders tests) (retired_many (table_in ws) arena names) in
    let same = loaded_lent ws arena tests held file in (
      ap (λ (x : List ℕ). put lengths_place table_words x ws) l.words ∙ put-slots slots ws many h ∙ ap (λ (s : List Slot). put_slots s ws) same,
      l.bytes ∙ ap (λ (s : List Slot). arena_of s arena) same,
    )

-- a part put over itself
put_own : (a k : ℕ) (ys ws : List ℕ) → region a k ws ≡ ys → put a k ys ws ≡ ws
put_own a k ys ws e =
    ap (λ (l : List ℕ). take a ws ++ (l ++ drop k (drop a ws))) (sym e)
    ∙ ap (λ (l : List ℕ). take a ws ++ l) (take-append-drop k (drop a ws))
    ∙ take-append-drop a ws

-- the flags put in leave the lengths
lengths_kept : (fs ws : List ℕ) → length ws ≡ words_length → lengths_in (put_resident fs ws) ≡ lengths_in ws
lengths_kept fs ws h =
    sym (drop-take lengths_place slot_count (put_resident fs ws))
    ∙ ap (λ (l : List ℕ). drop lengths_place l) (before_put resident_place slot_count resident_place fs ws (omega arith) (omega arith))
    ∙ drop-take lengths_place slot_count ws

-- the words and the arena after an accepted `/d_free`: what `retire` leaves
pub free_lent : (ws arena name table' : List ℕ) (k : ℕ) → length ws ≡ words_length → Formed (table_in ws) arena → k ≡ resident_of name (slots_on (table_in ws) arena) → k < slot_count
    → table' ≡ set (table_in ws) (slot_count + k) 0
    → (put lengths_place table_words table' ws ≡ words_after free name ws arena) × (arena ≡ arena_after free name ws arena)
unfolding words_after arena_after effect decode
free_lent ws arena name table' k h f found less e =
    let table = table_in ws in
    let slots = retire k (slots_on table arena) in
    let flags = flags_of slots in
    let many : length slots ≡ slot_count =
    length-set (slots_on table arena) k (record { bytes = (slot_at (slots_on table arena) k).bytes; resident = false }) ∙ slots_length 0 slot_count (lengths_on table) (flags_on table) arena in
    let left : set table (slot_count + k) 0 ≡ table_of slots table = retire_table table arena k f less in
    let lengths : lengths_of slots (lengths_on table) ≡ lengths_in ws =
    sym (table_lengths slots table many)
    ∙ ap (λ (l : List ℕ). lengths_on l) (sym left)
    ∙ take-set-le slot_count table (slot_count + k) 0 (omega arith)
    ∙ lengths_lent ws in
    let retired : flags ≡ flags_of (retire (resident_of name (decode ws arena).slots) (decode ws arena).slots) =
    ap (λ (j : ℕ). flags_of (retire j (slots_on table arena))) found
    ∙ ap (λ (s : List Slot). flags_of (retire (resident_of name s) s)) (slots_lent ws arena) in (
      ap (λ (x : List ℕ). put lengths_place table_words x ws) (e ∙ left)
          ∙ put_two lengths_place slot_count slot_count (lengths_of slots (lengths_on table)) flags ws (omega arith) (lengths_length slots (lengths_on table) ∙ many)
          ∙ put_own lengths_place slot_count (lengths_of slots (lengths_on table)) (put_resident flags ws) (lengths_kept flags ws h ∙ sym lengths)
          ∙ ap (λ (l : List ℕ). put_resident l ws) retired,
      refl,
    )
