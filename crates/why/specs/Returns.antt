-- Each return of the reason's function, by the words that it read; and what the walk to its row asks.
use Rattle.std.specs.Prelude.{ℕ, ◌+◌, ◌*◌, ◌≤◌, ◌<◌, Bool, true, false, ◌≡◌, List, length, drop, get_or, leb, eqb}
use Rattle.std.proofs.Common.{sym, ap, ◌∙◌, arith, get_or-take, get_or-drop, eq-eqb, ne_eqb, le-leb}
use Rattle.std.proofs.lemmas.Bool.{lt-leb}
use Rattle.words.specs.Choice.{pick}
use Rattle.words.specs.Parts.{region}
use Rattle.words.specs.PartsLaws.{region-length}
use Rattle.nodes.specs.Table.{width, depth_field, run_field, slot_field}
use Rattle.nodes.specs.TableLaws.{rows-length}
use Rattle.nodes.specs.Sizes.{TableFits}
use Rattle.nodes.specs.Place.{group_slot, is_group, place}
use Rattle.nodes.specs.PlaceLaws.{place_most}
use Rattle.nodes.specs.Order.{is_on}
use Rattle.model.specs.Layout.{words_length, nodes_place, nodes_words, count_in, latest_in, nodes_in, record_in}
use Rattle.model.specs.Plain.{minus_one}
use Rattle.why.specs.declared.Reason.TheVariants.{NoNode, Group, Off, AncestorOff, Running}
use Rattle.why.specs.declared.sight.SeenSoFar.{SeenSoFar}
use Rattle.why.specs.Rows.{sight_to, row_reason, asked_place}
use Rattle.why.specs.Seen.{SeenBefore}

-- a word of a row is a word
row_word : (ws : List ℕ) (at k : ℕ) → at < 256 → k < width → get_or ws (nodes_place + width * at + k) 0 ≡ get_or (region nodes_place nodes_words ws) (width * at + k) 0
row_word ws at k h small =
    let same : nodes_place + width * at + k ≡ nodes_place + (width * at + k) = omega arith in
    ap (λ (j : ℕ). get_or ws j 0) same
    ∙ sym (get_or-take nodes_words (drop nodes_place ws) (width * at + k) 0 (omega arith) ∙ get_or-drop nodes_place ws (width * at + k) 0)

module _ (ws : List ℕ) (few : count_in ws ≤ 256) (at : ℕ) where
  abbrev us : List ℕ
  us = region nodes_place nodes_words ws

  pub return_none : count_in ws ≤ at → NoNode ≡ row_reason (region nodes_place nodes_words ws) (count_in ws) at
  return_none h = sym (rw (le-leb (count_in ws) at (omega arith)))

  module _ (h : at < count_in ws) where
    live : leb (count_in ws) at ≡ false
    live = lt-leb (count_in ws) at (omega arith)

    word : (k : ℕ) → k < width → get_or ws (nodes_place + width * at + k) 0 ≡ get_or (region nodes_place nodes_words ws) (width * at + k) 0
    word k small = row_word ws at k (omega arith) small

    pub return_group : get_or ws (nodes_place + width * at + slot_field) 0 ≡ group_slot → Group ≡ row_reason (region nodes_place nodes_words ws) (count_in ws) at
    return_group g = sym (rw (live, eq-eqb (get_or us (width * at + slot_field) 0) group_slot (sym (word 3 (omega arith)) ∙ g)))

    module _ (g : get_or ws (nodes_place + width * at + slot_field) 0 ≡ group_slot → ⊥) where
      synth : is_group (record_in ws at) ≡ false
      synth = ne_eqb (get_or us (width * at + slot_field) 0) group_slot (λ e. g (word 3 (omega arith) ∙ e))

      pub return_off : (get_or ws (nodes_place + width * at + run_field) 0 ≡ 1 → ⊥) → Off ≡ row_reason (region nodes_place nodes_words ws) (count_in ws) at
      return_off o = sym (rw (live, synth, ne_eqb (get_or us (width * at + run_field) 0) 1 (λ e. o (word 2 (omega arith) ∙ e))))

      module _ (o : get_or ws (nodes_place + width * at + run_field) 0 ≡ 1) where
        sounding : is_on (record_in ws at) ≡ true
        sounding = eq-eqb (get_or us (width * at + run_field) 0) 1 (sym (word 2 (omega arith)) ∙ o)

        module _ (seen : SeenSoFar) (s : SeenBefore (region nodes_place nodes_words ws) at seen) where
          pub return_above : seen.limit < get_or ws (nodes_place + width * at + depth_field) 0 → AncestorOff seen.named ≡ row_reason (region nodes_place nodes_words ws) (count_in ws) at
          return_above deep =
              let d = word 1 (omega arith) in
              let e = s.limit in
              ap AncestorOff s.named ∙ sym (rw (live, synth, sounding, lt-leb (get_or us (width * at + depth_field) 0) (sight_to us at).0 (omega arith)))

          pub return_running : get_or ws (nodes_place + width * at + depth_field) 0 ≤ seen.limit → Running (seen.many + 1) ≡ row_reason (region nodes_place nodes_words ws) (count_in ws) at
          return_running near =
              let d = word 1 (omega arith) in
              let e = s.limit in
              ap (λ (n : ℕ). Running (n + 1)) s.many ∙ sym (rw (live, synth, sounding, le-leb (get_or us (width * at + depth_field) 0) (sight_to us at).0 (omega arith)))

-- the place that is asked for is at most the count
pub asked_most : (number : ℕ) (ws : List ℕ) → asked_place number ws ≤ count_in ws
asked_most number ws = go (eqb number minus_one) (eqb (latest_in ws) 0)
  where
    most : (n : ℕ) → place n (nodes_in ws) ≤ count_in ws
    most n = rw rows-length at (place_most n (nodes_in ws))

    go : (p q : Bool) → pick p (pick q (count_in ws) (place (latest_in ws) (nodes_in ws))) (place number (nodes_in ws)) ≤ count_in ws
    go true true = omega arith
    go true false = most (latest_in ws)
    go false q = most number

-- the rows before it are records of the node region
pub row_fits : (ws : List ℕ) → length ws ≡ words_length → count_in ws ≤ 256 → (at : ℕ) → at ≤ count_in ws → TableFits (region nodes_place nodes_words ws) at
row_fits ws size few at most =
    let room : length (region nodes_place nodes_words ws) ≡ nodes_words = region-length nodes_place nodes_words ws (omega arith) in
    record { room = omega arith; few = omega arith }
