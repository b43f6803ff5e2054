use Prim.Native.Nat.{ℕ, ◌+◌, ◌-◌, min}
use mathlib.Core.Path.{◌≡◌, sym, ap, ap₂, ◌∙◌}
use mathlib.Core.List.{List}
use native.Mathlib.Omega.{arith}
use lib.ListN.{length, take, drop, get_or, length-drop}
use Rattle.format.specs.Reader.{size_limit}
use Rattle.model.specs.Layout.{start_of}
use Rattle.slots.specs.Slots.{take_least, drop_min}
use Rattle.slots.proofs.bytes_on.Goals as goal

pub returns : goal.returns
returns c =
    let a = c.args in
    let start = c.start_of-start.result in
    let l = drop start a.arena.now in
    let room : min size_limit (length a.arena.now - start) ≡ min size_limit (length l) = ap (λ (x : ℕ). min size_limit x) (sym (length-drop start a.arena.now)) in
    let kept : c.wide-size.result ≡ get_or a.table.now a.slot 0 =
    c.wide-size.ensures ∙ rw (c.unwrap_or.ensures, c.copied.ensures) (c.get.ensures.lookup.4 (omega arith) 0) in
    let size : start + c.min.result - start ≡ min (min size_limit (length l)) (get_or a.table.now a.slot 0) =
    back-off start c.min.result ∙ c.min.ensures ∙ ap₂ (λ (x y : ℕ). min x y) (c.min-room.ensures ∙ room) kept in
    ap (λ (k : ℕ). take k l) size
    ∙ take_least (get_or a.table.now a.slot 0) size_limit l
    ∙ ap (λ (m : List ℕ). take (get_or a.table.now a.slot 0) (take size_limit m)) (ap (λ (k : ℕ). drop k a.arena.now) c.start_of-start.ensures ∙ drop_min (start_of a.slot) a.arena.now)
  where
    back-off : (x y : ℕ) → x + y - x ≡ y
    back-off x y = omega arith
