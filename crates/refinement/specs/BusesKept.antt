-- An accepted command of buses leaves a well-formed state, which decodes to the command's effect.
use Rattle.std.specs.Prelude.{ℕ, ◌+◌, ◌≤◌, ◌<◌, true, ◌≡◌, length, get_or, replicate}
use Rattle.std.proofs.Math.Path.{ap}
use Rattle.std.proofs.Common.{◌∙◌, arith, length-set}
use mathlib.Core.List.{List}
use Rattle.std.proofs.lemmas.List.{length-replicate}
use Rattle.words.specs.Parts.{region}
use Rattle.words.specs.PartsLaws.{put_length, region-length}
use Rattle.values.specs.Values.{pattern}
use Rattle.model.specs.declared.BusCommand.{BusCommand}
use Rattle.model.specs.declared.BusCommand.TheVariants as buses
use Rattle.model.specs.declared.Command.TheVariants as command
use Rattle.model.specs.Layout.{buses_place, bus_count, lengths_place, resident_place, slot_count, nodes_in, controls_in, buses_in, put_buses}
use Rattle.model.specs.Engine.{decode}
use Rattle.model.specs.Effects.{bus_effect, with_buses, effect}
use Rattle.model.specs.After.{words_after}
use Rattle.model.specs.Formed.{formed, flags_formed, slots_formed}
use Rattle.state.specs.Accepted.{BusAccepted}
use Rattle.state.specs.Known.{known}
use Rattle.state.specs.Regions.{region_before, word_before}
use Rattle.state.specs.Decoded.{buses_size, buses_index, buses_decoded}
use Rattle.refinement.specs.Beside.{beside_formed}

-- as many buses as before
buses_many : (c : BusCommand) → BusAccepted c → (bs : List ℕ) → length bs ≡ bus_count → length (bus_effect c bs) ≡ bus_count
buses_many (buses.Set bus value) a bs h = rw length-set h
buses_many (buses.Fill start count value) a bs h =
    put_length start count (replicate count (pattern value)) bs (omega (arith, a.low)) (length-replicate count (pattern value)) ∙ h

module _ (c : BusCommand) (bytes ws bs : List ℕ) (h : formed ws bs ≡ true) (a : BusAccepted c) where
  many : length (bus_effect c (buses_in ws)) ≡ bus_count
  many = buses_many c a (buses_in ws) (region-length buses_place bus_count ws (omega (arith, (known ws bs h).size)))

  decoded : decode (put_buses (bus_effect c (buses_in ws)) ws) bs ≡ with_buses (bus_effect c (buses_in ws)) (decode ws bs)
  decoded = buses_decoded (bus_effect c (buses_in ws)) ws bs (known ws bs h).size many

  pub buses_effect : decode (words_after (command.Buses c) bytes ws bs) bs ≡ effect (command.Buses c) bytes (decode ws bs)
  unfolding words_after effect decode
  buses_effect = decoded

  before : (b m : ℕ) → b + m ≤ buses_place → region b m (put_buses (bus_effect c (buses_in ws)) ws) ≡ region b m ws
  before b m l = region_before buses_place bus_count (bus_effect c (buses_in ws)) ws (omega (arith, (known ws bs h).size)) many b m l

  word : (i : ℕ) → i < buses_place → get_or (put_buses (bus_effect c (buses_in ws)) ws) i 0 ≡ get_or ws i 0
  word i l = word_before buses_place bus_count (bus_effect c (buses_in ws)) ws (omega (arith, (known ws bs h).size)) many i l

  pub buses_kept : formed (words_after (command.Buses c) bytes ws bs) bs ≡ true
  unfolding words_after effect decode
  buses_kept =
      let k = known ws bs h in
      beside_formed ws bs (put_buses (bus_effect c (buses_in ws)) ws) bs (decode ws bs).slots (controls_in ws) (bus_effect c (buses_in ws)) k (record {
        size = buses_size (bus_effect c (buses_in ws)) ws bs k.size many;
        arena_size = k.arena_size;
        decoded = decoded;
        count = word 0 (omega arith);
        index = buses_index (bus_effect c (buses_in ws)) ws bs k.size many;
        order_length = word 1 (omega arith);
        flags = ap flags_formed (before resident_place slot_count (omega arith)) ∙ k.flags;
        slots_right = ap (λ (l : List ℕ). slots_formed 0 l (decode ws bs).slots (nodes_in ws)) (before lengths_place slot_count (omega arith)) ∙ k.slots;
        names = k.names;
        controls_right = k.controls;
      })
