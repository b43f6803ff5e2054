-- A state whose nodes, running order, next number and latest synth are those of a well-formed one.
use Rattle.std.specs.Prelude.{ℕ, true, ◌≡◌, List, length, take}
use Rattle.std.proofs.Common.{ap₂, ◌∙◌, arith}
use Rattle.words.specs.Parts.{region}
use Rattle.nodes.specs.Order.{order}
use Rattle.index.specs.Index.{indexed}
use Rattle.model.specs.Layout.{words_length, arena_length, count_in, order_length_in, next_in, latest_in, lengths_in, flags_in, nodes_in, order_in, index_place, index_words}
use Rattle.model.specs.Engine.{Slot, Engine, decode}
use Rattle.model.specs.Formed.{formed, flags_formed, slots_formed, names_apart, controls_formed}
use Rattle.state.specs.Known.{Known}
use Rattle.preservation.specs.Assemble.{whole_formed}
use Rattle.refinement.specs.Names.{same_equal}

-- the engine of the words with other slots, controls and buses
abbrev pub engine_with : List ℕ → List Slot → List ℕ → List ℕ → Engine
engine_with ws slots controls buses = record {
  slots = slots;
  nodes = nodes_in ws;
  order = order_in ws;
  controls = controls;
  buses = buses;
  next = next_in ws;
  latest = latest_in ws;
}

-- what is left to show of the words and the arena after
pub record Beside (ws ws' bs' : List ℕ) (slots : List Slot) (controls buses : List ℕ) : Type 0 where
  pub size : length ws' ≡ words_length
  pub arena_size : length bs' ≡ arena_length
  pub decoded : decode ws' bs' ≡ engine_with ws slots controls buses
  pub count : count_in ws' ≡ count_in ws
  pub index : region index_place index_words ws' ≡ region index_place index_words ws
  pub order_length : order_length_in ws' ≡ order_length_in ws
  pub flags : flags_formed (flags_in ws') ≡ true
  pub slots_right : slots_formed 0 (lengths_in ws') slots (nodes_in ws) ≡ true
  pub names : names_apart slots ≡ true
  pub controls_right : controls_formed slots controls (nodes_in ws) ≡ true

pub beside_formed : (ws bs ws' bs' : List ℕ) (slots : List Slot) (controls buses : List ℕ) → Known ws bs → Beside ws ws' bs' slots controls buses → formed ws' bs' ≡ true
beside_formed ws bs ws' bs' slots controls buses k b =
    whole_formed ws' bs' (engine_with ws slots controls buses) (record {
      size = b.size;
      arena_size = b.arena_size;
      decoded = b.decoded;
      few = omega (arith, b.count, k.few);
      tree = k.tree_formed;
      index = ap₂ (λ (n : ℕ) (l : List ℕ). indexed (take n l) (nodes_in ws)) b.count b.index ∙ k.index;
      order_short = omega (arith, b.order_length, k.order_short);
      ordered = same_equal (order_in ws) (order (nodes_in ws)) k.order_same;
      flags = b.flags;
      slots = b.slots_right;
      names = b.names;
      controls = b.controls_right;
    })
