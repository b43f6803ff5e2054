-- The op of an address and its tags.
use Rattle.std.specs.Prelude.{ℕ, suc, ◌+◌, ◌-◌, ◌*◌, ◌%◌, Bool, false, List, [], ◌∷◌, length, get_or, ltb}
use Rattle.std.specs.Prelude as rattle
use Rattle.std.proofs.Math.Option.{Option, none, some}
use Rattle.words.specs.Choice.{pick, both}
use Rattle.format.specs.Reader.{same_name}
use Rattle.calls.specs.Ops as ops
use Rattle.messages.specs.declared.Slot.{Slot}
use Rattle.messages.specs.Table.{Row, takes, fit_all}

-- a row of the address whose slots the tags fit
abbrev pub meets : Option Row → List ℕ → List ℕ → Bool
meets none address tags = false
meets (some r) address tags = both (same_name address r.address) (fit_all r.slots tags)

-- the first op of such a row, `no_op` where there is none
unfoldable pub op_from : ℕ → List Row → List ℕ → List ℕ → ℕ
op_from op [] address tags = ops.no_op
op_from op (r ∷ rows) address tags = pick (meets (some r) address tags) op (op_from (suc op) rows address tags)

-- whether there is a slot, and it takes an argument of a tag
abbrev pub takes_in : rattle.Option Slot → ℕ → Bool
takes_in (rattle.Some slot) tag = takes slot tag
takes_in rattle.None tag = false

-- the first op of an address by three of its bytes: the only one that can have it, with the op behind it
abbrev pub candidates : List ℕ
candidates =
    ops.no_op ∷ ops.g_tail ∷ ops.n_after ∷ ops.s_get ∷ ops.status ∷ ops.g_free_all ∷ ops.g_new ∷ ops.n_query
    ∷ ops.no_op ∷ ops.no_op ∷ ops.s_new ∷ ops.c_set ∷ ops.n_set ∷ ops.n_before ∷ ops.no_op ∷ ops.no_op
    ∷ ops.no_op ∷ ops.g_head ∷ ops.d_recv ∷ ops.c_get ∷ ops.n_map ∷ ops.n_free ∷ ops.g_query_tree ∷ ops.d_free
    ∷ ops.n_run ∷ ops.c_fill ∷ ops.n_fill ∷ ops.no_op ∷ ops.g_deep_free
    ∷ []

abbrev pub key_of : List ℕ → ℕ
key_of address = (3 * get_or address 1 0 + 2 * get_or address 3 0 + 19 * get_or address (length address - 1) 0) % 32

abbrev pub candidate_of : List ℕ → ℕ
candidate_of address = pick (ltb (length address) 6) ops.no_op (get_or candidates (key_of address) ops.no_op)
