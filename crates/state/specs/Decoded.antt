-- Decoding the words and the arena after a command gives the model's effect.
use Rattle.std.specs.Prelude.{ℕ, ◌+◌, ◌-◌, ◌≤◌, ◌<◌, ◌≡◌, refl, length, take, drop, get_or, replicate}
use Rattle.std.proofs.Math.Path.{sym, ap}
use Rattle.std.proofs.Common.{ap₂, ◌∙◌, arith, length-append, length-drop, take_at, take-take, length-take-le}
use mathlib.Core.List.{List, ◌++◌}
use Rattle.words.specs.Parts.{region}
use Rattle.words.specs.PartsLaws.{region-length, region_put}
use Rattle.nodes.specs.declared.Node.{Node}
use Rattle.nodes.specs.Table.{rows, fill, numbers}
use Rattle.nodes.specs.TableLaws.{fill-length, rows_fill}
use Rattle.index.specs.Index.{index_of}
use Rattle.index.specs.Afresh.{afresh_length}
use Rattle.model.specs.Layout.{words_length, nodes_place, nodes_words, order_place, order_words, controls_place, controls_words, buses_place, bus_count, index_place, index_words, lengths_place, resident_place, slot_count, arena_length, put_resident, put_nodes, order_region, put_order, put_index, put_controls, put_buses, lengths_in, flags_in, nodes_in, order_in, controls_in, buses_in, index_in}
use Rattle.model.specs.Engine.{Slot, Engine, slots_from, decode}
use Rattle.model.specs.Effects.{with_controls, with_buses, with_slots}
use Rattle.model.specs.After.{put_tree, flags_of, lengths_of, put_slots, arena_of}
use Rattle.slots.specs.Arena.{Backed, slots_back, flags_length, lengths_length}
use Rattle.state.specs.Regions.{region_before, region_past, word_before, put_size, header-length, header-region}

-- an order padded to its region, and read back from it
pub order_region-length : (o : List ℕ) → length (order_region o) ≡ order_words
order_region-length o =
    let l : length (o ++ replicate order_words 0) ≡ length o + 255 = length-append o (replicate order_words 0) in
    length-take-le order_words (o ++ replicate order_words 0) (omega arith)

pub order_region_back : (o : List ℕ) → length o ≤ order_words → take (length o) (order_region o) ≡ o
order_region_back o h = take-take (length o) order_words (o ++ replicate order_words 0) h ∙ take_at o (replicate order_words 0) (length o) refl

-- the index worked out afresh has an entry for each node
pub index_many : (t : List Node) → length (index_of t) ≡ length t
index_many t = afresh_length (numbers t) (length t)

-- an index and the words past it are as many as its region
pub index_region-length : (ix ws : List ℕ) → length ws ≡ words_length → length ix ≤ index_words → length (ix ++ drop (length ix) (region index_place index_words ws)) ≡ index_words
index_region-length ix ws size h =
    let r : length (region index_place index_words ws) ≡ index_words = region-length index_place index_words ws (omega arith) in
    let d : length (drop (length ix) (region index_place index_words ws)) ≡ length (region index_place index_words ws) - length ix = length-drop (length ix) (region index_place index_words ws) in
    length-append ix (drop (length ix) (region index_place index_words ws)) ∙ omega arith

-- engines of the same parts
same_parts : {s s' : List Slot} {t t' : List Node} {o o' cs cs' bs bs' : List ℕ} (next latest : ℕ) → s ≡ s' → t ≡ t' → o ≡ o' → cs ≡ cs' → bs ≡ bs'
    → ◌≡◌ {A = Engine} (record { slots = s; nodes = t; order = o; controls = cs; buses = bs; next = next; latest = latest }) (record {
      slots = s';
      nodes = t';
      order = o';
      controls = cs';
      buses = bs';
      next = next;
      latest = latest;
    })
same_parts next latest p0 p1 p2 p3 p4 = cc

-- the parts of the words after the tree's parts were put in
module _ (e : Engine) (ws : List ℕ) (size : length ws ≡ words_length) (few : length e.nodes ≤ 256) (many : length e.controls ≡ controls_words) where
  filled : length (fill (region nodes_place nodes_words ws) e.nodes) ≡ nodes_words
  filled =
      let r : length (region nodes_place nodes_words ws) ≡ nodes_words = region-length nodes_place nodes_words ws (omega arith) in
      fill-length (region nodes_place nodes_words ws) e.nodes (rw r (omega arith)) ∙ r

  abbrev w1 : List ℕ
  w1 = put_nodes e.nodes ws

  size1 : length w1 ≡ words_length
  size1 = put_size nodes_place nodes_words (fill (region nodes_place nodes_words ws) e.nodes) ws (omega arith) filled ∙ size

  abbrev w2 : List ℕ
  w2 = put_order e.order w1

  size2 : length w2 ≡ words_length
  size2 = put_size order_place order_words (order_region e.order) w1 (omega (arith, size1)) (order_region-length e.order) ∙ size1

  abbrev entries : List ℕ
  entries = index_of e.nodes ++ drop (length (index_of e.nodes)) (region index_place index_words w2)

  entered : length entries ≡ index_words
  entered = index_region-length (index_of e.nodes) w2 size2 (omega (arith, index_many e.nodes))

  abbrev w3 : List ℕ
  w3 = put_index (index_of e.nodes) w2

  size3 : length w3 ≡ words_length
  size3 = put_size index_place index_words entries w2 (omega (arith, size2)) entered ∙ size2

  abbrev w4 : List ℕ
  w4 = put_controls e.controls w3

  size4 : length w4 ≡ words_length
  size4 = put_size controls_place controls_words e.controls w3 (omega (arith, size3)) many ∙ size3

  pub tree_size : length (put_tree e ws) ≡ words_length
  tree_size = header-length (length e.nodes) (length e.order) e.next e.latest w4 (omega (arith, size4)) ∙ size4

  top : (b m : ℕ) → 4 ≤ b → region b m (put_tree e ws) ≡ region b m w4
  top b m h = header-region (length e.nodes) (length e.order) e.next e.latest w4 (omega (arith, size4)) b m h

  -- a region below the controls
  under : (b m : ℕ) → 4 ≤ b → b + m ≤ controls_place → region b m (put_tree e ws) ≡ region b m w2
  under b m h l =
      top b m h
      ∙ region_before controls_place controls_words e.controls w3 (omega (arith, size3)) many b m l
      ∙ region_before index_place index_words entries w2 (omega (arith, size2)) entered b m (omega arith)

  -- a region below the nodes
  low : (b m : ℕ) → 4 ≤ b → b + m ≤ nodes_place → region b m (put_tree e ws) ≡ region b m ws
  low b m h l =
      under b m h (omega arith)
      ∙ region_before order_place order_words (order_region e.order) w1 (omega (arith, size1)) (order_region-length e.order) b m (omega arith)
      ∙ region_before nodes_place nodes_words (fill (region nodes_place nodes_words ws) e.nodes) ws (omega arith) filled b m l

  pub tree_lengths : lengths_in (put_tree e ws) ≡ lengths_in ws
  tree_lengths = low lengths_place slot_count (omega arith) (omega arith)

  pub tree_flags : flags_in (put_tree e ws) ≡ flags_in ws
  tree_flags = low resident_place slot_count (omega arith) (omega arith)

  pub tree_nodes : nodes_in (put_tree e ws) ≡ e.nodes
  tree_nodes =
      ap (λ (us : List ℕ). rows (length e.nodes) us)
      (under nodes_place nodes_words (omega arith) (omega arith)
      ∙ region_before order_place order_words (order_region e.order) w1 (omega (arith, size1)) (order_region-length e.order) nodes_place nodes_words (omega arith)
      ∙ region_put nodes_place nodes_words (fill (region nodes_place nodes_words ws) e.nodes) ws (omega arith) filled)
      ∙ rows_fill (region nodes_place nodes_words ws) e.nodes

  pub tree_order : length e.order ≤ order_words → order_in (put_tree e ws) ≡ e.order
  tree_order short =
      ap (λ (us : List ℕ). take (length e.order) us)
      (under order_place order_words (omega arith) (omega arith)
      ∙ region_put order_place order_words (order_region e.order) w1 (omega (arith, size1)) (order_region-length e.order))
      ∙ order_region_back e.order short

  pub tree_controls : controls_in (put_tree e ws) ≡ e.controls
  tree_controls =
      top controls_place controls_words (omega arith) ∙ region_put controls_place controls_words e.controls w3 (omega (arith, size3)) many

  pub tree_buses : buses_in (put_tree e ws) ≡ buses_in ws
  tree_buses =
      top buses_place bus_count (omega arith)
      ∙ region_past controls_place controls_words e.controls w3 (omega (arith, size3)) many buses_place bus_count (omega arith)
      ∙ region_before index_place index_words entries w2 (omega (arith, size2)) entered buses_place bus_count (omega arith)
      ∙ region_past order_place order_words (order_region e.order) w1 (omega (arith, size1)) (order_region-length e.order) buses_place bus_count (omega arith)
      ∙ region_past nodes_place nodes_words (fill (region nodes_place nodes_words ws) e.nodes) ws (omega arith) filled buses_place bus_count (omega arith)

  pub tree_index : index_in (put_tree e ws) ≡ index_of e.nodes
  tree_index =
      ap (λ (us : List ℕ). take (length e.nodes) us)
      (top index_place index_words (omega arith)
      ∙ region_past controls_place controls_words e.controls w3 (omega (arith, size3)) many index_place index_words (omega arith)
      ∙ region_put index_place index_words entries w2 (omega (arith, size2)) entered)
      ∙ take_at (index_of e.nodes) (drop (length (index_of e.nodes)) (region index_place index_words w2)) (length e.nodes) (index_many e.nodes)

  -- the engine in the words is the one whose parts were put in
  pub tree_decoded : (bs : List ℕ) → length e.order ≤ order_words → e.slots ≡ (decode ws bs).slots → e.buses ≡ buses_in ws → decode (put_tree e ws) bs ≡ e
  unfolding decode
  tree_decoded bs short same kept =
      same_parts e.next e.latest (ap₂ (λ (ls fs : List ℕ). slots_from 0 slot_count ls fs bs) tree_lengths tree_flags ∙ sym same) tree_nodes (tree_order short) tree_controls (tree_buses ∙ sym kept)

-- the engine of the parts of the words
abbrev engine_of : (count order_length next latest : ℕ) (lengths flags nodes order controls buses arena : List ℕ) → Engine
engine_of count order_length next latest lengths flags nodes order controls buses arena = record {
  slots = slots_from 0 slot_count lengths flags arena;
  nodes = rows count nodes;
  order = take order_length order;
  controls = controls;
  buses = buses;
  next = next;
  latest = latest;
}

-- words with the same first four words, and the same parts but for the buses and the controls
same_engine : {a a' b b' c c' d d' : ℕ} {l l' f f' n n' o o' cs cs' bs bs' : List ℕ} (arena : List ℕ) → a ≡ a' → b ≡ b' → c ≡ c' → d ≡ d' → l ≡ l' → f ≡ f' → n ≡ n' → o ≡ o' → cs ≡ cs' → bs ≡ bs'
    → engine_of a b c d l f n o cs bs arena ≡ engine_of a' b' c' d' l' f' n' o' cs' bs' arena
same_engine arena p0 p1 p2 p3 p4 p5 p6 p7 p8 p9 = cc

-- the controls put in, and nothing else
module _ (cs ws bs : List ℕ) (size : length ws ≡ words_length) (many : length cs ≡ controls_words) where
  pub controls_size : length (put_controls cs ws) ≡ words_length
  controls_size = put_size controls_place controls_words cs ws (omega arith) many ∙ size

  word : (i : ℕ) → i < controls_place → get_or (put_controls cs ws) i 0 ≡ get_or ws i 0
  word i h = word_before controls_place controls_words cs ws (omega arith) many i h

  part : (b m : ℕ) → b + m ≤ controls_place → region b m (put_controls cs ws) ≡ region b m ws
  part b m h = region_before controls_place controls_words cs ws (omega arith) many b m h

  pub controls_index : region index_place index_words (put_controls cs ws) ≡ region index_place index_words ws
  controls_index = region_past controls_place controls_words cs ws (omega arith) many index_place index_words (omega arith)

  pub controls_decoded : decode (put_controls cs ws) bs ≡ with_controls cs (decode ws bs)
  unfolding decode
  controls_decoded =
      same_engine bs (word 0 (omega arith)) (word 1 (omega arith)) (word 2 (omega arith)) (word 3 (omega arith)) (part lengths_place slot_count (omega arith))
      (part resident_place slot_count (omega arith)) (part nodes_place nodes_words (omega arith)) (part order_place order_words (omega arith))
      (region_put controls_place controls_words cs ws (omega arith) many)
      (region_past controls_place controls_words cs ws (omega arith) many buses_place bus_count (omega arith))

-- the buses put in, and nothing else
module _ (cs ws bs : List ℕ) (size : length ws ≡ words_length) (many : length cs ≡ bus_count) where
  pub buses_size : length (put_buses cs ws) ≡ words_length
  buses_size = put_size buses_place bus_count cs ws (omega arith) many ∙ size

  word' : (i : ℕ) → i < buses_place → get_or (put_buses cs ws) i 0 ≡ get_or ws i 0
  word' i h = word_before buses_place bus_count cs ws (omega arith) many i h

  part' : (b m : ℕ) → b + m ≤ buses_place → region b m (put_buses cs ws) ≡ region b m ws
  part' b m h = region_before buses_place bus_count cs ws (omega arith) many b m h

  pub buses_index : region index_place index_words (put_buses cs ws) ≡ region index_place index_words ws
  buses_index = region_past buses_place bus_count cs ws (omega arith) many index_place index_words (omega arith)

  pub buses_decoded : decode (put_buses cs ws) bs ≡ with_buses cs (decode ws bs)
  unfolding decode
  buses_decoded =
      same_engine bs (word' 0 (omega arith)) (word' 1 (omega arith)) (word' 2 (omega arith)) (word' 3 (omega arith)) (part' lengths_place slot_count (omega arith))
      (part' resident_place slot_count (omega arith)) (part' nodes_place nodes_words (omega arith)) (part' order_place order_words (omega arith))
      (part' controls_place controls_words (omega arith)) (region_put buses_place bus_count cs ws (omega arith) many)

-- the flags put in, and nothing else
module _ (fs ws bs : List ℕ) (size : length ws ≡ words_length) (many : length fs ≡ slot_count) where
  pub resident_size : length (put_resident fs ws) ≡ words_length
  resident_size = put_size resident_place slot_count fs ws (omega arith) many ∙ size

  pub resident_word : (i : ℕ) → i < resident_place → get_or (put_resident fs ws) i 0 ≡ get_or ws i 0
  resident_word i h = word_before resident_place slot_count fs ws (omega arith) many i h

  pub resident_lengths : lengths_in (put_resident fs ws) ≡ lengths_in ws
  resident_lengths = region_before resident_place slot_count fs ws (omega arith) many lengths_place slot_count (omega arith)

  pub resident_flags : flags_in (put_resident fs ws) ≡ fs
  resident_flags = region_put resident_place slot_count fs ws (omega arith) many

  pub resident_past : (b m : ℕ) → nodes_place ≤ b → region b m (put_resident fs ws) ≡ region b m ws
  resident_past b m h = region_past resident_place slot_count fs ws (omega arith) many b m h

  pub resident_decoded : decode (put_resident fs ws) bs ≡ with_slots (slots_from 0 slot_count (lengths_in ws) fs bs) (decode ws bs)
  unfolding decode
  resident_decoded =
      same_engine bs (resident_word 0 (omega arith)) (resident_word 1 (omega arith)) (resident_word 2 (omega arith)) (resident_word 3 (omega arith)) resident_lengths resident_flags
      (resident_past nodes_place nodes_words (omega arith)) (resident_past order_place order_words (omega arith))
      (resident_past controls_place controls_words (omega arith)) (resident_past buses_place bus_count (omega arith))

-- slots put in, and nothing else
module _ (slots : List Slot) (ws bs : List ℕ) (size : length ws ≡ words_length) (room : length bs ≡ arena_length) (many : length slots ≡ slot_count) (backed : Backed slots (decode ws bs).slots) where
  abbrev flagged : List ℕ
  flagged = put_resident (flags_of slots) ws

  flags_many : length (flags_of slots) ≡ slot_count
  flags_many = flags_length slots ∙ many

  lengths_many : length (lengths_of slots (lengths_in ws)) ≡ slot_count
  lengths_many = lengths_length slots (lengths_in ws) ∙ many

  flagged_size : length flagged ≡ words_length
  flagged_size = resident_size (flags_of slots) ws bs size flags_many

  pub slots_size : length (put_slots slots ws) ≡ words_length
  slots_size = put_size lengths_place slot_count (lengths_of slots (lengths_in ws)) flagged (omega (arith, flagged_size)) lengths_many ∙ flagged_size

  high : (b m : ℕ) → nodes_place ≤ b → region b m (put_slots slots ws) ≡ region b m ws
  high b m h =
      region_past lengths_place slot_count (lengths_of slots (lengths_in ws)) flagged (omega (arith, flagged_size)) lengths_many b m (omega arith)
      ∙ resident_past (flags_of slots) ws bs size flags_many b m h

  pub slots_index : region index_place index_words (put_slots slots ws) ≡ region index_place index_words ws
  slots_index = high index_place index_words (omega arith)

  pub slots_word : (i : ℕ) → i < lengths_place → get_or (put_slots slots ws) i 0 ≡ get_or ws i 0
  slots_word i h =
      word_before lengths_place slot_count (lengths_of slots (lengths_in ws)) flagged (omega (arith, flagged_size)) lengths_many i h
      ∙ resident_word (flags_of slots) ws bs size flags_many i (omega arith)

  pub slots_lengths : lengths_in (put_slots slots ws) ≡ lengths_of slots (lengths_in ws)
  slots_lengths = region_put lengths_place slot_count (lengths_of slots (lengths_in ws)) flagged (omega (arith, flagged_size)) lengths_many

  pub slots_flags : flags_in (put_slots slots ws) ≡ flags_of slots
  slots_flags =
      region_past lengths_place slot_count (lengths_of slots (lengths_in ws)) flagged (omega (arith, flagged_size)) lengths_many resident_place slot_count (omega arith)
      ∙ resident_flags (flags_of slots) ws bs size flags_many

  pub slots_decoded : decode (put_slots slots ws) (arena_of slots bs) ≡ with_slots slots (decode ws bs)
  unfolding decode
  slots_decoded =
      same_engine (arena_of slots bs) (slots_word 0 (omega arith)) (slots_word 1 (omega arith)) (slots_word 2 (omega arith)) (slots_word 3 (omega arith)) slots_lengths slots_flags
      (high nodes_place nodes_words (omega arith)) (high order_place order_words (omega arith)) (high controls_place controls_words (omega arith)) (high buses_place bus_count (omega arith))
      ∙ ap (λ (l : List Slot). with_slots l (decode ws bs)) (slots_back 0 slot_count slots (lengths_in ws) (flags_in ws) bs many (omega arith) backed)
