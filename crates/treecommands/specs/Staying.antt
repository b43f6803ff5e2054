-- Where no node is freed, or one alone that is another, the latest synth stays as it is: it is none, or still lives.
use Rattle.std.specs.Prelude.{ℕ, ◌≤◌, Bool, true, false, ◌≡◌, refl, List, [], ◌∷◌, length, eqb}
use Rattle.std.proofs.Common.{sym, ap, ap₂, ◌∙◌, arith, le-ltb, eq-eqb, ne_eqb, eqb-true}
use Rattle.std.proofs.lemmas.Bool.{eqb-false}
use Rattle.words.specs.Choice.{pick, either}
use Rattle.words.specs.Parts.{put}
use Rattle.nodes.specs.declared.Node.{Node}
use Rattle.nodes.specs.Table.{rows}
use Rattle.nodes.specs.Place.{lives}
use Rattle.nodes.specs.Formed.{most_nodes, apart, synth_lives, latest_formed}
use Rattle.treerefinement.specs.Tally.{tally, Grown}
use Rattle.treerefinement.specs.Keep.{numbered, lives_some, apart_few, grown_lives}
use Rattle.reindex.specs.declared.edit.Edit.{Edit}
use Rattle.model.specs.Layout.{nodes_place, nodes_words, next_in, latest_in, nodes_in, node_words}
use Rattle.model.specs.Effects.{latest_among}
use Rattle.preservation.specs.Nodes.{no-synth}
use Rattle.tree.specs.declared.action.Position.{Position}
use Rattle.tree.specs.declared.action.Action.{Action}
use Rattle.tree.specs.declared.action.Action.TheVariants.{Put}
use Rattle.tree.specs.Sizes.{Leaves}
use Rattle.treecommands.specs.Ready.{Ready}
use Rattle.treecommands.specs.Settle.{Changed, settled, renewed, nodes_back, first_word}

-- the latest synth is right for the table of so many nodes
abbrev pub Stays : ℕ → List ℕ → Type 0
Stays count ws = latest_among (rows count (node_words ws)) (latest_in ws) ≡ latest_in ws

-- an edit that frees no node
pub record Staying (edit : Edit) (count : ℕ) (ws : List ℕ) : Type 0 where
  pub changed : Changed edit count ws
  pub stays : Stays count ws

-- the latest synth after the node with a number was freed: none if it was that one
abbrev pub latest_without : ℕ → ℕ → ℕ
latest_without gone latest = pick (eqb latest gone) 0 latest

abbrev pub Without : ℕ → ℕ → List ℕ → Type 0
Without gone count ws = latest_among (rows count (node_words ws)) (latest_in ws) ≡ latest_without gone (latest_in ws)

-- an edit that frees one node alone, with its number
pub record Freed (edit : Edit) (count gone : ℕ) (ws : List ℕ) : Type 0 where
  pub changed : Changed edit count ws
  pub without : Without gone count ws

-- an add action's edit, which frees a node only where it replaces
pub record Added (action : Action) (edit : Edit) (count : ℕ) (ws : List ℕ) : Type 0 where
  pub changed : Changed edit count ws
  pub stays : (p : Position) → action ≡ Put p → Stays count ws

pub settled_latest : (count latest : ℕ) (ws : List ℕ) → latest_among (rows count (node_words ws)) (latest_in ws) ≡ latest
    → (out : List ℕ) → out ≡ settled count (next_in ws) latest ws → out ≡ renewed count ws
settled_latest count latest ws s out o = o ∙ ap (λ (m : ℕ). settled count (next_in ws) m ws) (sym s)

pub settled-renewed : (count : ℕ) (ws : List ℕ) → Stays count ws → (out : List ℕ) → out ≡ settled count (next_in ws) (latest_in ws) ws → out ≡ renewed count ws
settled-renewed count ws = settled_latest count (latest_in ws) ws

latest_stays : (latest : ℕ) (before after : List Node) → latest_formed latest before ≡ true → (lives latest before ≡ true → lives latest after ≡ true) → latest_among after latest ≡ latest
latest_stays latest before after f still = go (lives latest before) (eqb latest 0) refl refl f
  where
    none : latest ≡ 0 → (p : Bool) → pick p latest 0 ≡ latest
    none e true = refl
    none e false = sym e

    go : (p z : Bool) → lives latest before ≡ p → eqb latest 0 ≡ z → either z (synth_lives latest before) ≡ true → latest_among after latest ≡ latest
    go true z e i h = rw (still e)
    go false true e i h = none (eqb-true latest 0 i) (lives latest after)
    go false false e i h = let gone : synth_lives latest before ≡ false = no-synth latest before e in absurd (let q : ◌≡◌ {A = ℕ} 0 1 = cc in omega arith)

-- one node freed: its number lives no more, and every other that lived still does
latest_freed : (latest : ℕ) (r : Node) (before after : List Node) → Grown (r ∷ []) before after → apart before ≡ true → latest_formed latest before ≡ true
    → latest_among after latest ≡ latest_without r.number latest
unfolding lives tally
latest_freed latest r before after g a f = go (eqb latest r.number) refl
  where
    still : (p : Bool) → either p (pick (eqb r.number latest) true false) ≡ true → eqb r.number latest ≡ false → p ≡ true
    still true h e = refl
    still false h e = rw e at h

    go : (b : Bool) → eqb latest r.number ≡ b → latest_among after latest ≡ pick b 0 latest
    go true e =
        let same : eqb r.number latest ≡ true = eq-eqb r.number latest (sym (eqb-true latest r.number e)) in
        let here : tally (numbered latest) (r ∷ []) ≡ 1 = rw same in
        let gone : lives latest after ≡ false = lives_some latest after ∙ le-ltb 0 (tally (numbered latest) after) (omega (arith, g.sum (numbered latest) (λ d x. refl), apart_few before a latest)) in
        rw gone
    go false e =
        let other : eqb r.number latest ≡ false = ne_eqb r.number latest (λ q. eqb-false latest r.number e (sym q)) in
        latest_stays latest before after f (λ h. still (lives latest after) (sym (grown_lives latest g) ∙ h) other)

-- what a change of the node region left, put in
pub stays_left : (ws : List ℕ) → Ready ws → (t : List Node) → length t ≤ most_nodes → (lives (latest_in ws) (nodes_in ws) ≡ true → lives (latest_in ws) t ≡ true)
    → (us : List ℕ) (n : ℕ) → Leaves (node_words ws) t us n → Stays n (put nodes_place nodes_words us ws)
stays_left ws k t few still us n h =
    let word = first_word ws k.size t few 3 (omega arith) in
    rw (h.size, h.words)
    (ap₂ (λ (l : List Node) (m : ℕ). latest_among l m) (nodes_back ws k.size t few) word
    ∙ latest_stays (latest_in ws) (nodes_in ws) t k.tree.latest_right still
    ∙ sym word)

pub freed_left : (ws : List ℕ) → Ready ws → (t : List Node) → length t ≤ most_nodes → (r : Node) → Grown (r ∷ []) (nodes_in ws) t
    → (us : List ℕ) (n : ℕ) → Leaves (node_words ws) t us n → Without r.number n (put nodes_place nodes_words us ws)
freed_left ws k t few r g us n h =
    let word = first_word ws k.size t few 3 (omega arith) in
    rw (h.size, h.words)
    (ap₂ (λ (l : List Node) (m : ℕ). latest_among l m) (nodes_back ws k.size t few) word
    ∙ latest_freed (latest_in ws) r (nodes_in ws) t g k.tree.distinct k.tree.latest_right
    ∙ ap (latest_without r.number) (sym word))
