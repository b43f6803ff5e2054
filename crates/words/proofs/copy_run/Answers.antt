use Rattle.std.proofs.Common.{◌≡◌, length, ℕ, ◌+◌, List, [], ◌∙◌, ap, append-nil, arith}
use native.Mathlib.Numerals.{add-one}
use lib.Seq.{paste, paste-zero, paste-suc, take-length}
use lib.ListN.{set, drop, get_or, drop_of_length-le}
use Rattle.words.proofs.copy_run.Goals as goal

pub loop-i-init : goal.loop-i-init
loop-i-init g c = paste-zero c.args.to.now 0 c.args.from.now

pub loop-i-preserved : goal.loop-i-preserved
loop-i-preserved g c =
    let d = c.args.to.now in
    let s = c.args.from.now in
    let i = c.loop-i.i in
    let x = c.index-from-i.result in
    let e : i ≡ 0 + i = omega arith in
    ap (λ (l : List g.row.T.Denot). set l i x) c.loop-i.invariant
    ∙ ap (λ (y : g.row.T.Denot). set (paste d 0 s i) i y) c.index-from-i.is
    ∙ ap (λ (k : ℕ). set (paste d 0 s i) k (get_or s i x)) e
    ∙ rw add-one (paste-suc d 0 s i x (omega arith) (omega arith))

pub returns : goal.returns
returns g c =
    let d = c.args.to.now in
    let s = c.args.from.now in
    let e : c.loop-i.i ≡ length s = omega arith in
    let whole : drop (0 + length s) d ≡ [] = drop_of_length-le d (omega arith) in
    c.loop-i.invariant
    ∙ ap (λ (k : ℕ). paste d 0 s k) e
    ∙ rw (take-length s, whole) (append-nil s)
