-- The place of the node that an argument names.
use Rattle.std.specs.Prelude.{ℕ, ◌≤◌, ◌<◌, true, false, ◌≡◌, List, length, ltb}
use Rattle.std.proofs.Common.{sym, ap, subst, ◌∙◌, arith}
use borrow.Author.Tests.{lt-ltb, le-ltb, eq-eqb, ne_eqb}
use Rattle.words.specs.Parts.{region}
use Rattle.words.specs.PartsLaws.{region-length}
use Rattle.nodes.specs.TableLaws.{rows-length}
use Rattle.nodes.specs.Place.{place, lives}
use Rattle.nodes.specs.PlaceLaws.{lives_place, place_most}
use Rattle.nodes.specs.Formed.{most_nodes}
use Rattle.index.specs.Index.{indexed}
use Rattle.index.specs.Words.{Keeps}
use Rattle.values.specs.declared.NodeArgument.{NodeArgument}
use Rattle.values.specs.declared.Target.TheVariants.{Latest, Number, Reserved}
use Rattle.values.specs.Targets.{target_of}
use Rattle.model.specs.Layout.{words_length, count_in, latest_in, nodes_in, index_in, nodes_place, nodes_words, index_place, index_words}
use Rattle.model.specs.Engine.{decode}
use Rattle.model.specs.Meaning.{meant_by, known_by, known}
use Rattle.state.specs.Known.{Known}

-- what finding a node asks: the sizes, and the index's rule
pub record Findable (ws : List ℕ) : Type 0 where
  pub size : length ws ≡ words_length
  pub few : count_in ws ≤ most_nodes
  pub index : indexed (index_in ws) (nodes_in ws) ≡ true

pub findable : (ws bs : List ℕ) → Known ws bs → Findable ws
findable ws bs k = record { size = k.size; few = k.few; index = k.index }

-- the two regions keep the rule
pub keeps : (ws : List ℕ) → Findable ws → (count : ℕ) → count ≡ count_in ws → Keeps (region nodes_place nodes_words ws) (region index_place index_words ws) count
keeps ws f count e =
    let nodes : length (region nodes_place nodes_words ws) ≡ nodes_words = region-length nodes_place nodes_words ws (omega (arith, f.size)) in
    let entries : length (region index_place index_words ws) ≡ index_words = region-length index_place index_words ws (omega (arith, f.size)) in
    subst (λ (n : ℕ). Keeps (region nodes_place nodes_words ws) (region index_place index_words ws) n) (sym e) (record {
      room = omega (arith, nodes, f.few);
      few = f.few;
      entries = omega (arith, entries, f.few);
      rule = f.index;
    })

-- a place in the table: below the count exactly where the argument names a node, and then that node's; else the count
pub record Named (argument : NodeArgument) (ws : List ℕ) (at : ℕ) : Type 0 where
  pub most : at ≤ count_in ws
  pub live : known_by (target_of argument.number) (latest_in ws) (nodes_in ws) ≡ ltb at (count_in ws)
  pub here : at < count_in ws → at ≡ place (meant_by (target_of argument.number) (latest_in ws)) (nodes_in ws)

-- what it says of the engine
module _ (argument : NodeArgument) (ws bs : List ℕ) (at : ℕ) (n : Named argument ws at) where
  pub named_known : at < count_in ws → known argument (decode ws bs) ≡ true
  unfolding decode
  named_known h = n.live ∙ lt-ltb at (count_in ws) h

  pub named_unknown : count_in ws ≤ at → known argument (decode ws bs) ≡ false
  unfolding decode
  named_unknown h = n.live ∙ le-ltb at (count_in ws) h

-- by what an argument is
module _ (argument : NodeArgument) (ws : List ℕ) where
  found_live : (m : ℕ) → lives m (nodes_in ws) ≡ ltb (place m (nodes_in ws)) (count_in ws)
  found_live m = lives_place m (nodes_in ws) ∙ ap (λ (k : ℕ). ltb (place m (nodes_in ws)) k) (rows-length (count_in ws) (region nodes_place nodes_words ws))

  found_most : (m : ℕ) → place m (nodes_in ws) ≤ count_in ws
  found_most m = rw rows-length at (place_most m (nodes_in ws))

  pub named_number : (m at : ℕ) → target_of argument.number ≡ Number m → at ≡ place m (nodes_in ws) → Named argument ws at
  named_number m at e h = record {
    most = rw h (found_most m);
    live = rw (e, h) (found_live m);
    here = λ l. rw e h;
  }

  pub named_latest : (at : ℕ) → target_of argument.number ≡ Latest → (latest_in ws ≡ 0 → ⊥) → at ≡ place (latest_in ws) (nodes_in ws) → Named argument ws at
  named_latest at e some h = record {
    most = rw h (found_most (latest_in ws));
    live = rw (e, h, ne_eqb (latest_in ws) 0 some) (found_live (latest_in ws));
    here = λ l. rw e h;
  }

  pub named_none : target_of argument.number ≡ Latest → latest_in ws ≡ 0 → Named argument ws (count_in ws)
  named_none e none = record {
    most = omega arith;
    live = rw (e, eq-eqb (latest_in ws) 0 none) (sym (le-ltb (count_in ws) (count_in ws) (omega arith)));
    here = λ l. absurd (omega arith);
  }

  pub named_reserved : target_of argument.number ≡ Reserved → Named argument ws (count_in ws)
  named_reserved e = record {
    most = omega arith;
    live = rw e (sym (le-ltb (count_in ws) (count_in ws) (omega arith)));
    here = λ l. absurd (omega arith);
  }
