use Rattle.std.proofs.Common.{sym, ◌∙◌, ◌<◌, arith}
use Rattle.std.proofs.Math.Nat.{sub-zero}
use Rattle.format.specs.Reader.{most_parameters}
use Rattle.readable.specs.Entries.{entries_turn}
use Rattle.readable.specs.Labels.{labels_first, labels_last, label_set, label_skip, label_pass}
use Rattle.readable.proofs.entries.Names.labels.Goals as goal
use Rattle.readable.proofs.entries.Names.labels.Goals.{then-table-index-eq0+then-takes, else-table-index-eq0, else-table-index-eq0-via-then-table-index-eq0+else-takes, else-table-index-eq0-via-else-table-index-eq0}

pub loop-init : goal.loop-init
loop-init g c =
    let k = c.args.self in
    (rw sub-zero k.known, λ may h. labels_first may c.args.self.s.now c.args.self.places.first c.args.self.places.names k.later k.known)

pub loop-preserved : goal.loop-preserved
loop-preserved g c =
    let a = c.args in
    let t = entries_turn a.self.s.now most_parameters a.self.places.names c.loop.counter c.loop.at (omega arith) c.loop.invariant.0 in
    let index = c.word_at-index.ensures in (
      t.more,
      λ may h.
          let now = c.loop.invariant.1 may h in
          let less : c.loop.counter < a.self.places.names = omega arith in
          elim c.if-table-index-eq0.branch [
            | then-table-index-eq0+then-takes w ↦ rw (w.table-is, index)
                (label_set may a.self.s.now a.self.places.first a.self.places.names c.loop.counter c.loop.at c.loop.table now less (sym (h _ _ w.takes.ensures) ∙ w.if-takes.true) (rw index at w.if-table-index-eq0.true))
            | else-table-index-eq0 w ↦ rw w.table-is
                (elim w.else-table-index-eq0.branch [
                  | else-table-index-eq0-via-then-table-index-eq0+else-takes v ↦ label_pass may a.self.s.now a.self.places.first a.self.places.names c.loop.counter c.loop.at c.loop.table now less (sym (h _ _ v.takes.ensures) ∙ v.if-takes.false)
                  | else-table-index-eq0-via-else-table-index-eq0 v ↦
                      let other = rw index at v.if-table-index-eq0.false in
                      label_skip may a.self.s.now a.self.places.first a.self.places.names c.loop.counter c.loop.at c.loop.table now less (omega arith)
                ])
          ],
    )

pub returns : goal.returns
returns g c may h =
    let a = c.args in
    labels_last may a.self.s.now a.self.places.first a.self.places.names c.loop.counter c.loop.at c.loop.table (c.loop.invariant.1 may h) (omega arith)
