-- Records of nodes that a command does not touch are seen alike before and after it.
use Prim.{tt}
use Rattle.std.specs.Prelude.{ℕ, ◌*◌, ◌≤◌, ◌<◌, Bool, true, false, ◌≡◌, refl, List, [], ◌∷◌, length, ltb, eqb}
use Rattle.std.proofs.Common.{sym, ap, subst, ◌∙◌, arith, le-ltb, ltb-true, ltb-false, eq-eqb}
use Rattle.words.specs.Choice.{pick, either}
use Rattle.words.specs.Parts.{region}
use Rattle.format.specs.Reader.{read_file}
use Rattle.nodes.specs.declared.Node.{Node}
use Rattle.nodes.specs.Place.{is_group}
use Rattle.nodes.specs.Edit.{run_of, is_below, cut}
use Rattle.nodes.specs.Formed.{most_rows, row_formed, all_formed, row_taken, rows_apart, in_row}
use Rattle.treerefinement.specs.Tally.{tally, tally_cut, Within, cut_within}
use Rattle.treerefinement.specs.Keep.{row_taken_some, rows_few, within_formed}
use Rattle.treerefinement.specs.Left.{left, left_cut}
use Rattle.values.specs.declared.Key.{Key}
use Rattle.values.specs.declared.Key.TheVariants.{Name}
use Rattle.values.specs.Controls.{ControlValue, set_to}
use Rattle.model.specs.declared.DefinitionCommand.{DefinitionCommand}
use Rattle.model.specs.declared.DefinitionCommand.TheVariants as definitions
use Rattle.model.specs.Layout.{slot_count, row_words, controls_words}
use Rattle.model.specs.Engine.{Slot, Engine, held, resident_of}
use Rattle.model.specs.View.{Kind, view_of}
use Rattle.model.specs.Checks.{definitions_of, names_of}
use Rattle.model.specs.Effects.{retired, loaded, retire, definition_effect, change_all}
use Rattle.state.specs.Accepted.{DefinitionAccepted}
use Rattle.preservation.specs.ControlRows.{started, other_row}
use Rattle.refinement.specs.Load.{free_count, free-staying, held_loaded}
use Rattle.refinement.specs.DefinitionsReplay.{bytes_alike, retired_bytes, set_bytes}
use Rattle.refinement.specs.RowChange.{FitsWord}
use Rattle.refinement.specs.ControlsReplay.{AllOf, both_of, rows_of, formed_rows, kind_same, all_other}
use Rattle.demands.specs.FrameSeen.{all_more, all_left, all_of, Among, all_among}

-- a node whose row's words are the same
same_row : (slots : List Slot) (y : Node) (a b : List ℕ) → (is_group y ≡ false → region (row_words * y.row) row_words a ≡ region (row_words * y.row) row_words b) → view_of slots a y ≡ view_of slots b y
same_row slots y a b h = ap (λ (kd : Kind). record { number = y.number; run = y.run; kind = kd }) (kind_same (set_to 0) (λ c. omega arith) Name [] 0 slots y a b h)

own_row : (y : Node) → is_group y ≡ false → in_row y.row y ≡ true
own_row y g = ap (λ (b : Bool). pick b false (eqb y.row y.row)) g ∙ eq-eqb y.row y.row refl

low_row : (y : Node) → row_formed y ≡ true → is_group y ≡ false → y.row < most_rows
low_row y low g = ltb-true y.row most_rows (sym (ap (λ (b : Bool). pick b true (ltb y.row most_rows)) g) ∙ low)

-- of records that stand in a well-formed table, and so have rows among 256
seen_rows : (P : Node → Type 0) (next : ℕ) (t : List Node) → all_formed next t ≡ true → ((y : Node) → Among t y → (is_group y ≡ false → y.row < most_rows) → P y) → AllOf P t
seen_rows P next t fields g = both_of (λ y a r. g y a (λ e. low_row y r e)) t (all_among t) (rows_of t (formed_rows next t fields))

-- controls: the synths outside the run of n have other rows than those in it
module _ (f : ControlValue → ControlValue) (fits_word : FitsWord f) (name : Key) (bytes : List ℕ) (count n next : ℕ) (slots : List Slot) (controls : List ℕ) (t : List Node)
    (size : length controls ≡ controls_words) (differ : rows_apart t ≡ true) (fields : all_formed next t ≡ true) where
  abbrev changed_controls : List ℕ
  changed_controls = change_all f name bytes count slots (run_of n t) controls

  run_within : Within (run_of n t) t
  run_within = record { sum = λ p b. omega (arith, tally_cut p b n t) }

  free_outside : (y : Node) → Among (cut n t) y → is_group y ≡ false → row_taken y.row (run_of n t) ≡ false
  free_outside y a g =
      row_taken_some y.row (run_of n t)
      ∙ le-ltb 0 (tally (in_row y.row) (run_of n t)) (omega (arith, a (in_row y.row) (own_row y g), rows_few t differ y.row, tally_cut (in_row y.row) (λ d r. refl) n t))

  pub controls_alike : AllOf (λ (y : Node). view_of slots controls y ≡ view_of slots changed_controls y) (left (λ m. is_below m n t) t)
  controls_alike =
      subst (λ (l : List Node). AllOf (λ (y : Node). view_of slots controls y ≡ view_of slots changed_controls y) l) (left_cut (λ m. is_below m n t) n t (λ m h. h))
      (all_left (λ (y : Node). view_of slots controls y ≡ view_of slots changed_controls y) (λ m. is_below m n t) (cut n t)
      (seen_rows (λ (y : Node). view_of slots controls y ≡ view_of slots changed_controls y) next (cut n t) (within_formed (cut_within n t) next fields) (λ y a low.
      same_row slots y controls changed_controls (λ g.
      sym (all_other f fits_word name bytes count slots (run_of n t) controls size (formed_rows next (run_of n t) (within_formed run_within next fields)) y.row (low g) (free_outside y a g))))))

-- a new synth: its row is none of a synth that stays
module _ (slots : List Slot) (controls : List ℕ) (size : length controls ≡ controls_words) (slot row next : ℕ) (low : row < most_rows) (before : List Node)
    (free : row_taken row before ≡ false) (fields : all_formed next before ≡ true) where
  pub synth-alike : AllOf (λ (y : Node). view_of slots controls y ≡ view_of slots (started slots controls size slot row low) y) before
  synth-alike =
      seen_rows (λ (y : Node). view_of slots controls y ≡ view_of slots (started slots controls size slot row low) y) next before fields (λ y a most.
      same_row slots y controls (started slots controls size slot row low) (λ g. sym (other_row slots controls size slot row low y.row (most g) (λ e. other y a g e))))
    where
      other : (y : Node) → Among before y → is_group y ≡ false → y.row ≡ row → ⊥
      other y a g e =
          let none = ltb-false 0 (tally (in_row row) before) (sym (row_taken_some row before) ∙ free) in
          let here : in_row row y ≡ true = ap (λ (k : ℕ). in_row k y) (sym e) ∙ own_row y g in
          omega (arith, a (in_row row) here)

-- definitions: slots that synths hold keep their bytes
all_held : (t all : List Node) → ((k : ℕ) → held k t ≡ true → held k all ≡ true) → AllOf (λ (r : Node). held r.slot all ≡ true) t
unfolding AllOf held
all_held [] all g = tt
all_held (r ∷ l) all g = (
  g r.slot (ap (λ (b : Bool). either b (held r.slot l)) (eq-eqb r.slot r.slot refl)),
  all_held l all (λ k e. g k (right (eqb r.slot k) (held k l) e)),
)
  where
    right : (p q : Bool) → q ≡ true → either p q ≡ true
    right true q h = refl
    right false q h = h

pub definitions_alike : (c : DefinitionCommand) (bytes : List ℕ) (e : Engine) → length e.slots ≡ slot_count → DefinitionAccepted c bytes e
    → AllOf (λ (r : Node). view_of e.slots e.controls r ≡ view_of (definition_effect c bytes e).slots e.controls r) e.nodes
definitions_alike definitions.Receive bytes e many h =
    let ds = definitions_of (read_file bytes) in
    let names = names_of ds in
    let fits : length ds ≤ free_count 0 (retired names e.slots) e.nodes =
    omega (arith, ltb-false _ (length ds) h.room, free-staying 0 names e.slots e.nodes) in
    all_more (λ r k.
    bytes_alike e.slots (loaded ds (retired names e.slots) e.nodes) e.controls r
    (ap (λ (s : Slot). s.bytes) (held_loaded ds (retired names e.slots) e.nodes fits r.slot k) ∙ retired_bytes names e.slots r.slot)) e.nodes (all_held e.nodes e.nodes (λ k q. q))
definitions_alike definitions.Free bytes e many h =
    all_of (λ r.
    bytes_alike e.slots (retire (resident_of bytes e.slots) e.slots) e.controls r (set_bytes e.slots (resident_of bytes e.slots) r.slot)) e.nodes
