-- The table of addresses and tags, which the reader and the writer both go by: a row for each op of a call that has an address (`calls` `Ops`),
-- from the first on.
use Rattle.std.specs.Prelude.{ℕ, ◌<◌, Bool, true, false, List, [], ◌∷◌, eqb}
use Rattle.words.specs.Choice.{pick, both, either}
use Rattle.osc.specs.Message.{Argument, int, float, text, blob, tag_of}
use Rattle.calls.specs.declared.Numbers.{Numbers}
use Rattle.messages.specs.declared.Slot.{Slot}
use Rattle.messages.specs.declared.Slot.TheVariants.{NumberA, NumberB, NumberC, Value, Name, File}

pub record Row : Type 0 where
  pub address : List ℕ
  pub slots : List Slot

abbrev pub row : List ℕ → List Slot → Row
row address slots = record { address = address; slots = slots }

abbrev pub table : List Row
table =
    -- /d_recv: b
    row (47 ∷ (100 ∷ (95 ∷ (114 ∷ (101 ∷ (99 ∷ (118 ∷ []))))))) (File ∷ [])
    -- /d_free: s
    ∷ (row (47 ∷ (100 ∷ (95 ∷ (102 ∷ (114 ∷ (101 ∷ (101 ∷ []))))))) (Name ∷ [])
    -- /s_new: siii
    ∷ (row (47 ∷ (115 ∷ (95 ∷ (110 ∷ (101 ∷ (119 ∷ [])))))) (Name ∷ (NumberA ∷ (NumberB ∷ (NumberC ∷ []))))
    -- /g_new: iii
    ∷ (row (47 ∷ (103 ∷ (95 ∷ (110 ∷ (101 ∷ (119 ∷ [])))))) (NumberA ∷ (NumberB ∷ (NumberC ∷ [])))
    -- /n_free: i
    ∷ (row (47 ∷ (110 ∷ (95 ∷ (102 ∷ (114 ∷ (101 ∷ (101 ∷ []))))))) (NumberA ∷ [])
    -- /g_freeAll: i
    ∷ (row (47 ∷ (103 ∷ (95 ∷ (102 ∷ (114 ∷ (101 ∷ (101 ∷ (65 ∷ (108 ∷ (108 ∷ [])))))))))) (NumberA ∷ [])
    -- /g_deepFree: i
    ∷ (row (47 ∷ (103 ∷ (95 ∷ (100 ∷ (101 ∷ (101 ∷ (112 ∷ (70 ∷ (114 ∷ (101 ∷ (101 ∷ []))))))))))) (NumberA ∷ [])
    -- /n_before: ii
    ∷ (row (47 ∷ (110 ∷ (95 ∷ (98 ∷ (101 ∷ (102 ∷ (111 ∷ (114 ∷ (101 ∷ []))))))))) (NumberA ∷ (NumberB ∷ []))
    -- /n_after: ii
    ∷ (row (47 ∷ (110 ∷ (95 ∷ (97 ∷ (102 ∷ (116 ∷ (101 ∷ (114 ∷ [])))))))) (NumberA ∷ (NumberB ∷ []))
    -- /g_head: ii
    ∷ (row (47 ∷ (103 ∷ (95 ∷ (104 ∷ (101 ∷ (97 ∷ (100 ∷ []))))))) (NumberA ∷ (NumberB ∷ []))
    -- /g_tail: ii
    ∷ (row (47 ∷ (103 ∷ (95 ∷ (116 ∷ (97 ∷ (105 ∷ (108 ∷ []))))))) (NumberA ∷ (NumberB ∷ []))
    -- /n_run: ii
    ∷ (row (47 ∷ (110 ∷ (95 ∷ (114 ∷ (117 ∷ (110 ∷ [])))))) (NumberA ∷ (NumberB ∷ []))
    -- /n_set: i, i, f or i
    ∷ (row (47 ∷ (110 ∷ (95 ∷ (115 ∷ (101 ∷ (116 ∷ [])))))) (NumberA ∷ (NumberB ∷ (Value ∷ [])))
    -- /n_set: i, s, f or i
    ∷ (row (47 ∷ (110 ∷ (95 ∷ (115 ∷ (101 ∷ (116 ∷ [])))))) (NumberA ∷ (Name ∷ (Value ∷ [])))
    -- /n_fill: i, i, i, f or i
    ∷ (row (47 ∷ (110 ∷ (95 ∷ (102 ∷ (105 ∷ (108 ∷ (108 ∷ []))))))) (NumberA ∷ (NumberB ∷ (NumberC ∷ (Value ∷ []))))
    -- /n_fill: i, s, i, f or i
    ∷ (row (47 ∷ (110 ∷ (95 ∷ (102 ∷ (105 ∷ (108 ∷ (108 ∷ []))))))) (NumberA ∷ (Name ∷ (NumberC ∷ (Value ∷ []))))
    -- /n_map: iii
    ∷ (row (47 ∷ (110 ∷ (95 ∷ (109 ∷ (97 ∷ (112 ∷ [])))))) (NumberA ∷ (NumberB ∷ (NumberC ∷ [])))
    -- /n_map: isi
    ∷ (row (47 ∷ (110 ∷ (95 ∷ (109 ∷ (97 ∷ (112 ∷ [])))))) (NumberA ∷ (Name ∷ (NumberC ∷ [])))
    -- /c_set: i, f or i
    ∷ (row (47 ∷ (99 ∷ (95 ∷ (115 ∷ (101 ∷ (116 ∷ [])))))) (NumberA ∷ (Value ∷ []))
    -- /c_fill: ii, f or i
    ∷ (row (47 ∷ (99 ∷ (95 ∷ (102 ∷ (105 ∷ (108 ∷ (108 ∷ []))))))) (NumberA ∷ (NumberC ∷ (Value ∷ [])))
    -- /s_get: ii
    ∷ (row (47 ∷ (115 ∷ (95 ∷ (103 ∷ (101 ∷ (116 ∷ [])))))) (NumberA ∷ (NumberB ∷ []))
    -- /s_get: is
    ∷ (row (47 ∷ (115 ∷ (95 ∷ (103 ∷ (101 ∷ (116 ∷ [])))))) (NumberA ∷ (Name ∷ []))
    -- /c_get: i
    ∷ (row (47 ∷ (99 ∷ (95 ∷ (103 ∷ (101 ∷ (116 ∷ [])))))) (NumberA ∷ [])
    -- /n_query: i
    ∷ (row (47 ∷ (110 ∷ (95 ∷ (113 ∷ (117 ∷ (101 ∷ (114 ∷ (121 ∷ [])))))))) (NumberA ∷ [])
    -- /g_queryTree: ii
    ∷ (row (47 ∷ (103 ∷ (95 ∷ (113 ∷ (117 ∷ (101 ∷ (114 ∷ (121 ∷ (84 ∷ (114 ∷ (101 ∷ (101 ∷ [])))))))))))) (NumberA ∷ (NumberB ∷ []))
    -- /status: none
    ∷ (row (47 ∷ (115 ∷ (116 ∷ (97 ∷ (116 ∷ (117 ∷ (115 ∷ []))))))) ([])
    ∷ [])))))))))))))))))))))))))

-- a command by its op and its numbers, with the name or the file beside it
pub record Given : Type 0 where
  pub numbers : Numbers
  pub bytes : List ℕ

-- numbers of 32 bits, as those of every call are
pub record Words (n : Numbers) : Type 0 where
  pub op : n.op < 4294967296
  pub a : n.a < 4294967296
  pub b : n.b < 4294967296
  pub c : n.c < 4294967296
  pub d : n.d < 4294967296
  pub e : n.e < 4294967296

-- whether a slot takes an argument of a tag
abbrev pub takes : Slot → ℕ → Bool
takes NumberA tag = eqb tag 105
takes NumberB tag = eqb tag 105
takes NumberC tag = eqb tag 105
takes Value tag = either (eqb tag 102) (eqb tag 105)
takes Name tag = eqb tag 115
takes File tag = eqb tag 98

-- the number and the bytes in an argument
abbrev pub number_in : Argument → ℕ
number_in (int n) = n
number_in (float p) = p
number_in (text s) = 0
number_in (blob s) = 0

abbrev pub bytes_in : Argument → List ℕ
bytes_in (int n) = []
bytes_in (float p) = []
bytes_in (text s) = s
bytes_in (blob s) = s

-- what an argument gives to the call: of a value the kind is 0 for a float, 1 for an integer
abbrev pub take : Slot → Argument → Given → Given
take NumberA x g = record { numbers = record { op = g.numbers.op; a = number_in x; b = g.numbers.b; c = g.numbers.c; d = g.numbers.d; e = g.numbers.e }; bytes = g.bytes }
take NumberB x g = record { numbers = record { op = g.numbers.op; a = g.numbers.a; b = number_in x; c = g.numbers.c; d = g.numbers.d; e = g.numbers.e }; bytes = g.bytes }
take NumberC x g = record { numbers = record { op = g.numbers.op; a = g.numbers.a; b = g.numbers.b; c = number_in x; d = g.numbers.d; e = g.numbers.e }; bytes = g.bytes }
take Value x g = record { numbers = record { op = g.numbers.op; a = g.numbers.a; b = g.numbers.b; c = g.numbers.c; d = pick (eqb (tag_of x) 102) 0 1; e = number_in x }; bytes = g.bytes }
take Name x g = record { numbers = g.numbers; bytes = bytes_in x }
take File x g = record { numbers = g.numbers; bytes = bytes_in x }

-- what the call gives to an argument
abbrev pub give : Slot → Given → Argument
give NumberA g = int g.numbers.a
give NumberB g = int g.numbers.b
give NumberC g = int g.numbers.c
give Value g = pick (eqb g.numbers.d 0) (float g.numbers.e) (int g.numbers.e)
give Name g = text g.bytes
give File g = blob g.bytes

-- tags that fit slots, one for one
unfoldable pub fit_all : List Slot → List ℕ → Bool
fit_all [] [] = true
fit_all [] (tag ∷ tags) = false
fit_all (slot ∷ slots) [] = false
fit_all (slot ∷ slots) (tag ∷ tags) = both (takes slot tag) (fit_all slots tags)

unfoldable pub take_all : List Slot → List Argument → Given → Given
take_all [] xs g = g
take_all (slot ∷ slots) [] g = g
take_all (slot ∷ slots) (x ∷ xs) g = take_all slots xs (take slot x g)

unfoldable pub give_all : List Slot → Given → List Argument
give_all [] g = []
give_all (slot ∷ slots) g = give slot g ∷ give_all slots g
