-- A file loaded into a fresh engine: the slots that the words and the arena after it hold.
use Prim.{tt}
use Rattle.std.specs.Prelude.{ℕ, zero, suc, ◌+◌, ◌≤◌, true, not, ◌≡◌, refl, List, [], ◌∷◌, ◌++◌, length, drop, get_or, set, leb}
use Rattle.std.proofs.Common.{ap, ◌∙◌, arith, length-set, leb-true}
use Rattle.words.specs.ChoiceLaws.{both_true}
use Rattle.format.specs.Definition.{Definition}
use Rattle.format.specs.Reader.{read_file, size_limit, among}
use Rattle.format.specs.Writer.{write_definition}
use Rattle.format.specs.Bounds.{is_definition, are_definitions, is_file}
use Rattle.nodes.specs.declared.Node.{Node}
use Rattle.model.specs.Layout.{slot_count, lengths_in, flags_in}
use Rattle.model.specs.Engine.{Slot, Engine, slots_from, decode}
use Rattle.model.specs.Checks.{definitions_of, names_of}
use Rattle.model.specs.Effects.{free_from, placed, loaded, retired, effect}
use Rattle.model.specs.After.{words_after, arena_after, fresh_state, fresh_arena}
use Rattle.model.specs.Demands.{receive}
use Rattle.slots.specs.Arena.{slot_most, Backed}
use Rattle.state.specs.Decoded.{slots_decoded}
use Rattle.definitions.specs.Retiring.{retired-length}
use Rattle.state.specs.Fresh.{fresh-length, arena-length}
use Rattle.demands.specs.FreshLoad.{fresh_many}

-- a resident put in is backed
backed_set : (slots old : List Slot) (k : ℕ) (x : Slot) → Backed slots old → x.resident ≡ true → length x.bytes ≤ size_limit → Backed (set slots k x) old
unfolding Backed
backed_set [] old k x b r fits = b
backed_set (s ∷ slots) [] k x b r fits = absurd b
backed_set (s ∷ slots) (o ∷ old) zero x b r fits = ((λ e. fits, λ e. absurd (let z : ◌≡◌ {A = ℕ} 0 1 = cc in omega arith)), b.1)
backed_set (s ∷ slots) (o ∷ old) (suc k) x b r fits = (b.0, backed_set slots old k x b.1 r fits)

backed_loaded : (ds : List Definition) (names : List (List ℕ)) (slots old : List Slot) (t : List Node) → are_definitions names ds ≡ true → Backed slots old → Backed (loaded ds slots t) old
unfolding loaded are_definitions
backed_loaded [] names slots old t a b = b
backed_loaded (d ∷ ds) names slots old t a b =
    let t1 = both_true (is_definition d) _ a in
    let t2 = both_true (leb (length (write_definition d)) size_limit) _ t1.1 in
    let t3 = both_true (not (among d.front.name names)) _ t2.1 in
    backed_loaded ds (names ++ (d.front.name ∷ [])) (placed d slots t) old t t3.1
    (backed_set slots old (free_from 0 slots t) (record { bytes = write_definition d; resident = true }) b refl (leb-true (length (write_definition d)) size_limit t2.0))

backed_retired : (k n : ℕ) (names : List (List ℕ)) (lengths flags arena : List ℕ) → Backed (retired names (slots_from k n lengths flags arena)) (slots_from k n lengths flags arena)
unfolding Backed retired slots_from
backed_retired k zero names lengths flags arena = tt
backed_retired k (suc n) names lengths flags arena =
    ((λ e. slot_most arena k (get_or lengths 0 0), λ e. refl), backed_retired (k + 1) n names (drop 1 lengths) (drop 1 flags) arena)

loaded-many : (ds : List Definition) (slots : List Slot) (t : List Node) → length (loaded ds slots t) ≡ length slots
unfolding loaded
loaded-many [] slots t = refl
loaded-many (d ∷ ds) slots t = loaded-many ds (placed d slots t) t ∙ length-set slots (free_from 0 slots t) (record { bytes = write_definition d; resident = true })

-- the slots after a load into a fresh engine
abbrev pub fresh_loaded : List Definition → List Slot
fresh_loaded ds = loaded ds (retired (names_of ds) (decode fresh_state fresh_arena).slots) (decode fresh_state fresh_arena).nodes

fresh_backed : (ds : List Definition) → are_definitions [] ds ≡ true → Backed (fresh_loaded ds) (decode fresh_state fresh_arena).slots
unfolding decode
fresh_backed ds a =
    backed_loaded ds [] (retired (names_of ds) (decode fresh_state fresh_arena).slots) (decode fresh_state fresh_arena).slots (decode fresh_state fresh_arena).nodes a
    (backed_retired 0 slot_count (names_of ds) (lengths_in fresh_state) (flags_in fresh_state) fresh_arena)

pub fresh_after : (file : List ℕ) (ds : List Definition) → definitions_of (read_file file) ≡ ds → is_file ds ≡ true
    → (decode (words_after receive file fresh_state fresh_arena) (arena_after receive file fresh_state fresh_arena)).slots ≡ fresh_loaded ds
unfolding words_after arena_after effect
fresh_after file ds e f =
    let old = (decode fresh_state fresh_arena).slots in
    let c = both_true (leb (length ds) 32) _ f in
    let many : length (fresh_loaded ds) ≡ slot_count = loaded-many ds (retired (names_of ds) old) (decode fresh_state fresh_arena).nodes ∙ retired-length (names_of ds) old ∙ fresh_many in
    rw e (ap (λ (x : Engine). x.slots) (slots_decoded (fresh_loaded ds) fresh_state fresh_arena fresh-length arena-length many (fresh_backed ds c.1)))
