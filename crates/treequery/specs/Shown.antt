-- What a control shows.
use Rattle.std.specs.Prelude.{ℕ, ◌+◌, ◌≤◌, min, true, ◌≡◌, refl, List}
use Rattle.std.proofs.Common.{arith, lt-ltb}
use Rattle.values.specs.declared.Mapping.TheVariants.{Unmapped, Bus}
use Rattle.values.specs.Controls.{ControlValue, mapping_word}
use Rattle.model.specs.Layout.{bus_count}
use Rattle.model.specs.Replies.{mapping_argument}
use Rattle.treequery.specs.declared.piece.Piece.{Piece}
use Rattle.treequery.specs.declared.piece.Piece.TheVariants.{Pattern, Mapped}
use Rattle.treequery.specs.Pieces.{piece_argument, is_small}

-- a piece that shows a control: "a mapped control shows 'c' and the decimal bus"
pub record Shown (v : ControlValue) (p : Piece) : Type 0 where
  pub is : (s : List ℕ) → piece_argument s p ≡ mapping_argument v.mapping v.own
  pub small : mapping_word v.mapping ≤ bus_count → is_small p ≡ true

pub shown-own : (v : ControlValue) (own : ℕ) → v.mapping ≡ Unmapped → own ≡ v.own → Shown v (Pattern own)
shown-own v own m o = record { is = λ s. rw (m, o); small = λ h. refl }

pub shown_bus : (v : ControlValue) (bus : ℕ) → v.mapping ≡ Bus bus → Shown v (Mapped bus)
shown_bus v bus m = record {
  is = λ s. rw m;
  small = λ h.
      let few : min (bus + 1) 4294967295 ≤ bus_count = rw m at h in lt-ltb bus 10000 (omega arith);
}
