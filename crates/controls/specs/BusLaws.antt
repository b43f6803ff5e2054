-- Laws of buses.
use Rattle.std.specs.Prelude.{ℕ, ◌+◌, ◌-◌, ◌<◌, ◌≤◌, Bool, true, false, not, ◌≡◌, refl, List, ◌++◌, take, drop, replicate, leb}
use Rattle.std.proofs.Common.{sym, ap₂, ◌∙◌, append_assoc, arith, take_all, drop-drop, le-leb, leb-true, leb-false}
use Rattle.std.proofs.lemmas.List.{length-replicate}
use Rattle.std.proofs.Math.Seq.{paste}
use Rattle.std.proofs.lemmas.Bool.{lt-leb}
use Rattle.words.specs.Choice.{both}
use Rattle.words.specs.Parts.{put}
use Rattle.model.specs.Layout.{bus_count}
use Rattle.model.specs.Meaning.{first_negative, is_negative, is_bus_range}

-- a run of buses written one by one
pub filled : (bs : List ℕ) (at n v : ℕ) → paste bs at (replicate n v) n ≡ put at n (replicate n v) bs
filled bs at n v =
    ap₂ (λ (a b : List ℕ). take at bs ++ a ++ b) (take_all n (replicate n v) (simp length-replicate (omega arith))) (sym (drop-drop n at bs))
    ∙ append_assoc (take at bs) (replicate n v) (drop n (drop at bs))

-- the tests of a range, without a sum
pub range_past : (start count : ℕ) → bus_count < count → is_bus_range start count ≡ false
range_past start count h =
    rw (lt-leb (start + count) bus_count (omega arith)) (go (not (is_negative count)))
  where
    go : (b : Bool) → both b false ≡ false
    go true = refl
    go false = refl

pub range_within : (start count : ℕ) → count ≤ bus_count → is_bus_range start count ≡ leb start (bus_count - count)
range_within start count h =
    rw (lt-leb first_negative count (omega arith)) (go (leb start (bus_count - count)) refl)
  where
    go : (b : Bool) → leb start (bus_count - count) ≡ b → leb (start + count) bus_count ≡ b
    go true e = let low : start ≤ bus_count - count = leb-true start (bus_count - count) e in le-leb (start + count) bus_count (omega arith)
    go false e = let high : bus_count - count < start = leb-false start (bus_count - count) e in lt-leb (start + count) bus_count (omega arith)
