-- A fresh engine, part by part: what its words and its arena decode to.
use Rattle.std.specs.Prelude.{ℕ, zero, suc, ◌+◌, ◌-◌, ◌≤◌, false, ◌≡◌, refl, List, [], ◌∷◌, take, drop, replicate}
use Rattle.std.proofs.Common.{sym, ap, ap₂, ◌∙◌, arith, drop-drop}
use Rattle.nodes.specs.Table.{rows, encode}
use Rattle.nodes.specs.Formed.{first_given}
use Rattle.model.specs.Layout.{slot_count, controls_place, controls_words, buses_place, bus_count, index_place, index_words, words_length, controls_in, buses_in, index_in}
use Rattle.model.specs.Engine.{Engine, slots_from, decode}
use Rattle.model.specs.After.{root, root_end, behind_root, fresh_state, fresh_arena}

abbrev pub fresh_engine : Engine
fresh_engine = decode fresh_state fresh_arena

abbrev pub fresh_parts : Engine
fresh_parts = record {
  slots = replicate slot_count (record { bytes = []; resident = false });
  nodes = root ∷ [];
  order = [];
  controls = replicate controls_words 0;
  buses = replicate bus_count 0;
  next = first_given;
  latest = 0;
}

-- zeros in zeros
drop-zeros : (n m : ℕ) → drop n (replicate {A = ℕ} m 0) ≡ replicate (m - n) 0
drop-zeros zero m = let e : m - 0 ≡ m = omega arith in rw e
drop-zeros (suc n) zero = let e : 0 - suc n ≡ 0 = omega arith in rw e
drop-zeros (suc n) (suc m) = let e : suc m - suc n ≡ m - n = omega arith in rw e (drop-zeros n m)

take-zeros : (n m : ℕ) → n ≤ m → take n (replicate {A = ℕ} m 0) ≡ replicate n 0
take-zeros zero m h = refl
take-zeros (suc n) zero h = absurd (omega arith)
take-zeros (suc n) (suc m) h = ap (λ (l : List ℕ). 0 ∷ l) (take-zeros n m (omega arith))

-- from a place behind the root's record on all words are zeros
behind : (at : ℕ) → root_end ≤ at → drop at fresh_state ≡ replicate (words_length - at) 0
unfolding encode
behind at h =
    let there : root_end + (at - root_end) ≡ at = omega arith in
    let many : behind_root - (at - root_end) ≡ words_length - at = omega arith in
    ap (λ (k : ℕ). drop k fresh_state) (sym there)
    ∙ sym (drop-drop (at - root_end) root_end fresh_state)
    ∙ drop-zeros (at - root_end) behind_root
    ∙ ap (λ (k : ℕ). replicate k 0) many

fresh_controls : controls_in fresh_state ≡ replicate controls_words 0
unfolding encode
fresh_controls = ap (λ (l : List ℕ). take controls_words l) (behind controls_place (omega arith)) ∙ take-zeros controls_words (words_length - controls_place) (omega arith)

pub fresh_buses : buses_in fresh_state ≡ replicate bus_count 0
unfolding encode
fresh_buses = ap (λ (l : List ℕ). take bus_count l) (behind buses_place (omega arith)) ∙ take-zeros bus_count (words_length - buses_place) (omega arith)

-- the index of the root alone
pub fresh_index : index_in fresh_state ≡ 0 ∷ []
unfolding encode
fresh_index = ap (λ (l : List ℕ). take 1 (take index_words l)) (behind index_place (omega arith))

pub fresh-parts : fresh_engine ≡ fresh_parts
unfolding decode rows encode slots_from
fresh-parts =
    ap₂
    (λ (controls buses : List ℕ). record { slots = fresh_parts.slots; nodes = root ∷ []; order = []; controls = controls; buses = buses; next = first_given; latest = 0 })
    fresh_controls
    fresh_buses
