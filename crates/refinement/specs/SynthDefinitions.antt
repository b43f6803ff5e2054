-- Each synth has the definition that its name meant when it was made: what one accepted command does to it.
use Rattle.std.specs.Prelude.{ℕ, ◌+◌, ◌≤◌, Bool, true, false, ◌≡◌, refl, List, [], ◌∷◌, eqb}
use Rattle.std.proofs.Common.{sym, ap, ap₂, ◌∙◌, arith, eqb-true, eq-eqb, ne_eqb}
use Rattle.std.proofs.Math.Option.{Option, none, some}
use Rattle.std.proofs.lemmas.Bool.{eqb-false}
use Rattle.words.specs.Choice.{pick, both}
use Rattle.format.specs.Definition.{Definition}
use Rattle.nodes.specs.declared.Node.{Node}
use Rattle.nodes.specs.Place.{is_group, lives}
use Rattle.nodes.specs.Formed.{apart}
use Rattle.treerefinement.specs.Tally.{one, tally, Grown}
use Rattle.treerefinement.specs.Keep.{numbered, apart_few}
use Rattle.preservation.specs.Every.{Fewer}
use Rattle.model.specs.Engine.{Slot, definition_of, controls_of, definition_in, slot_at}
use Rattle.refinement.specs.SynthReplay.{absent_tally}
use Rattle.model.specs.View.{group, synth, view_rows}
use Rattle.model.specs.Demands.{definition_of_kind, definition_of_synth}

-- the definition of the node n of a table: none for a group, and where there is no such node
unfoldable pub definition_at : List Slot → ℕ → List Node → Option Definition
definition_at slots n [] = none
definition_at slots n (r ∷ l) = pick (eqb r.number n) (pick (is_group r) none (some (definition_of slots r))) (definition_at slots n l)

pub definition_view : (slots : List Slot) (controls : List ℕ) (n : ℕ) (t : List Node) → definition_of_synth n (view_rows slots controls t) ≡ definition_at slots n t
unfolding definition_of_synth view_rows definition_at
definition_view slots controls n [] = refl
definition_view slots controls n (r ∷ l) = go (eqb r.number n) (is_group r) (definition_view slots controls n l)
  where
    go : (p g : Bool) → definition_of_synth n (view_rows slots controls l) ≡ definition_at slots n l
        → pick p (definition_of_kind (pick g group (synth (definition_of slots r) (controls_of slots controls r)))) (definition_of_synth n (view_rows slots controls l)) ≡ pick p (pick g none (some (definition_of slots r))) (definition_at slots n l)
    go true true ih = refl
    go true false ih = refl
    go false g ih = ih

-- a node with this number and this slot
abbrev sits : ℕ → ℕ → Node → Bool
sits n s r = both (eqb r.number n) (eqb r.slot s)

-- the slot of the synth n
pub record SynthSlot (slots : List Slot) (n : ℕ) (d : Definition) (t : List Node) : Type 0 where
  pub slot : ℕ
  pub there : 1 ≤ tally (sits n slot) t
  pub definition : definition_in (slot_at slots slot) ≡ d
  pub synth : eqb slot 32 ≡ false

pub synth-sits : (slots : List Slot) (n : ℕ) (d : Definition) (t : List Node) → definition_at slots n t ≡ some d → SynthSlot slots n d t
unfolding definition_at tally
synth-sits slots n d [] h = let z : ◌≡◌ {A = ℕ} 0 1 = cc in absurd (omega arith)
synth-sits slots n d (r ∷ l) h = go (eqb r.number n) refl (is_group r) refl h (λ g. synth-sits slots n d l g)
  where
    go : (p : Bool) → eqb r.number n ≡ p → (g : Bool) → is_group r ≡ g → pick p (pick g none (some (definition_of slots r))) (definition_at slots n l) ≡ some d → (definition_at slots n l ≡ some d → SynthSlot slots n d l) → SynthSlot slots n d (r ∷ l)
    go true e true f k ih = let z : ◌≡◌ {A = ℕ} 0 1 = cc in absurd (omega arith)
    go true e false f k ih = record {
      slot = r.slot;
      there = let own : one (sits n r.slot r) ≡ 1 = ap₂ (λ (x y : Bool). one (both x y)) e (eq-eqb r.slot r.slot refl) in omega arith;
      definition = cc;
      synth = f;
    }
    go false e g f k ih =
        let w = ih k in
        record { slot = w.slot; there = let t = w.there in omega arith; definition = w.definition; synth = w.synth }

sits_few : (n s : ℕ) (t : List Node) → tally (sits n s) t ≤ tally (numbered n) t
unfolding tally
sits_few n s [] = omega arith
sits_few n s (r ∷ l) = go (eqb r.number n) (eqb r.slot s) (sits_few n s l)
  where
    go : (p q : Bool) → tally (sits n s) l ≤ tally (numbered n) l → one (both p q) + tally (sits n s) l ≤ one p + tally (numbered n) l
    go true true ih = omega arith
    go true false ih = omega arith
    go false q ih = omega arith

-- and back, where no number stands twice
sits_found : (slots : List Slot) (n s : ℕ) (d : Definition) → definition_in (slot_at slots s) ≡ d → eqb s 32 ≡ false → (t : List Node) → 1 ≤ tally (sits n s) t → tally (numbered n) t ≤ 1 → definition_at slots n t ≡ some d
unfolding definition_at tally
sits_found slots n s d e v [] a b = absurd (omega arith)
sits_found slots n s d e v (r ∷ l) a b = go (eqb r.number n) refl (eqb r.slot s) refl (λ x y. sits_found slots n s d e v l x y)
  where
    go : (p : Bool) → eqb r.number n ≡ p → (q : Bool) → eqb r.slot s ≡ q → (1 ≤ tally (sits n s) l → tally (numbered n) l ≤ 1 → definition_at slots n l ≡ some d)
        → pick p (pick (is_group r) none (some (definition_of slots r))) (definition_at slots n l) ≡ some d
    go true f true g ih =
        let same : r.slot ≡ s = eqb-true r.slot s g in
        ap₂ (λ (x : Bool) (y : ℕ). pick x none (some (definition_in (slot_at slots y)))) (ap (λ (y : ℕ). eqb y 32) same ∙ v) same ∙ ap (λ (x : Definition). some x) e
    go true f false g ih =
        let own : one (sits n s r) ≡ 0 = ap₂ (λ (x y : Bool). one (both x y)) f g in
        let num : one (numbered n r) ≡ 1 = ap one f in
        absurd (omega (arith, sits_few n s l))
    go false f q g ih =
        let own : one (sits n s r) ≡ 0 = ap (λ (x : Bool). one (both x (eqb r.slot s))) f in
        let num : one (numbered n r) ≡ 0 = ap one f in
        ih (omega arith) (omega arith)

pub sits_definition : (slots : List Slot) (n : ℕ) (d : Definition) (t : List Node) → apart t ≡ true → SynthSlot slots n d t → definition_at slots n t ≡ some d
sits_definition slots n d t h w = sits_found slots n w.slot d w.definition w.synth t w.there (apart_few t h n)

-- fewer nodes: a synth that is there was there
pub fewer_definition : (slots : List Slot) (n : ℕ) (d : Definition) {after before : List Node} → Fewer after before → apart before ≡ true → definition_at slots n after ≡ some d → definition_at slots n before ≡ some d
fewer_definition slots n d {after} {before} f h v =
    let w = synth-sits slots n d after v in
    sits_definition slots n d before h (record { slot = w.slot; there = omega (arith, w.there, f.sum (sits n w.slot) (λ e r. refl) (λ e r. refl)); definition = w.definition; synth = w.synth })

-- a node more: a synth with another number was there
pub grown_definition : (slots : List Slot) (n : ℕ) (d : Definition) (x : Node) {after before : List Node} → Grown (x ∷ []) after before → eqb x.number n ≡ false → apart before ≡ true
    → definition_at slots n after ≡ some d → definition_at slots n before ≡ some d
unfolding tally
grown_definition slots n d x {after} {before} g e h v =
    let w = synth-sits slots n d after v in
    let own : one (sits n w.slot x) ≡ 0 = ap (λ (b : Bool). one (both b (eqb x.slot w.slot))) e in
    sits_definition slots n d before h (record { slot = w.slot; there = omega (arith, w.there, g.sum (sits n w.slot) (λ e r. refl)); definition = w.definition; synth = w.synth })

-- the new node's own synth
pub new_definition : (slots : List Slot) (d : Definition) (x : Node) {after before : List Node} → Grown (x ∷ []) after before → lives x.number before ≡ false → definition_at slots x.number after ≡ some d
    → definition_in (slot_at slots x.slot) ≡ d
unfolding tally
new_definition slots d x {after} {before} g h v =
    let w = synth-sits slots x.number d after v in
    let none : tally (numbered x.number) before ≡ 0 = absent_tally x.number before h in
    go w.slot w.definition (eqb x.slot w.slot) refl (omega (arith, w.there, none, sits_few x.number w.slot before, g.sum (sits x.number w.slot) (λ e r. refl)))
  where
    go : (s : ℕ) → definition_in (slot_at slots s) ≡ d → (q : Bool) → eqb x.slot s ≡ q → 1 ≤ one (sits x.number s x) → definition_in (slot_at slots x.slot) ≡ d
    go s e true f a = ap (λ (y : ℕ). definition_in (slot_at slots y)) (eqb-true x.slot s f) ∙ e
    go s e false f a = let own : one (sits x.number s x) ≡ 0 = ap₂ (λ (u v : Bool). one (both u v)) (eq-eqb x.number x.number refl) f in absurd (omega arith)

-- a group more is no synth
pub group_definition : (slots : List Slot) (n : ℕ) (d : Definition) (x : Node) {after before : List Node} → Grown (x ∷ []) after before → is_group x ≡ true → apart before ≡ true
    → definition_at slots n after ≡ some d → definition_at slots n before ≡ some d
unfolding tally
group_definition slots n d x {after} {before} g e h v =
    let w = synth-sits slots n d after v in
    let apart-slot : eqb x.slot w.slot ≡ false = ne_eqb x.slot w.slot (λ q. eqb-false w.slot 32 w.synth (sym q ∙ eqb-true x.slot 32 e)) in
    let own : one (sits n w.slot x) ≡ 0 = ap (λ (b : Bool). one (both (eqb x.number n) b)) apart-slot ∙ never (eqb x.number n) in
    sits_definition slots n d before h (record { slot = w.slot; there = omega (arith, w.there, g.sum (sits n w.slot) (λ e r. refl)); definition = w.definition; synth = w.synth })
  where
    never : (b : Bool) → one (both b false) ≡ 0
    never true = refl
    never false = refl
