use Rattle.std.proofs.Common.{◌≡◌, ℕ, ◌+◌, ◌-◌, ◌*◌, ◌%◌, ◌≤◌, List, arith}
use Rattle.readable.specs.Entries.{entry_end, Left, Step, entries_step, entries_last}
use Rattle.readable.proofs.entries.Names.end.Goals as goal

-- the four entries of a turn, each from where the one before it ends
module _ {s : List ℕ} {count first left at : ℕ} (l : Left s count first left at) (enough : 4 ≤ left) where
  one : Step s count first (left - 1) at
  one = entries_step (left - 1) (omega arith) l

  two : {a : ℕ} → a ≡ entry_end s at → Step s count first (left - 2) a
  two p = entries_step (left - 2) (omega arith) (one.more p)

  three : {a b : ℕ} → a ≡ entry_end s at → b ≡ entry_end s a → Step s count first (left - 3) b
  three p q = entries_step (left - 3) (omega arith) ((two p).more q)

  four : {a b d : ℕ} → a ≡ entry_end s at → b ≡ entry_end s a → d ≡ entry_end s b → Step s count first (left - 4) d
  four p q r = entries_step (left - 4) (omega arith) ((three p q).more r)

pub past_entry-at-requires : goal.past_entry-at-requires
past_entry-at-requires c =
    (one c.loop.invariant (omega arith)).within

pub past_entry-at-requires-in-loop : goal.past_entry-at-requires-in-loop
past_entry-at-requires-in-loop c =
    (two c.loop.invariant (omega arith) c.past_entry-at.ensures).within

pub past_entry-at-requires-in-loop-2 : goal.past_entry-at-requires-in-loop-2
past_entry-at-requires-in-loop-2 c =
    (three c.loop.invariant (omega arith) c.past_entry-at.ensures c.past_entry-at-in-loop.ensures).within

pub past_entry-at-requires-in-loop-3 : goal.past_entry-at-requires-in-loop-3
past_entry-at-requires-in-loop-3 c =
    (four c.loop.invariant (omega arith) c.past_entry-at.ensures c.past_entry-at-in-loop.ensures c.past_entry-at-in-loop-2.ensures).within

pub loop-preserved : goal.loop-preserved
loop-preserved c =
    let e : c.args.self.places.names - 4 * (c.loop.counter + 1) ≡ c.args.self.places.names - 4 * c.loop.counter - 4 = omega arith in
    rw e ((four c.loop.invariant (omega arith) c.past_entry-at.ensures c.past_entry-at-in-loop.ensures c.past_entry-at-in-loop-2.ensures).more c.past_entry-at-in-loop-3.ensures)

pub loop-2-init : goal.loop-2-init
loop-2-init c =
    let e : c.args.self.places.names % 4 - 0 ≡ c.args.self.places.names - 4 * c.loop.counter = omega arith in
    rw e c.loop.invariant

pub past_entry-at-requires-in-loop-2-2 : goal.past_entry-at-requires-in-loop-2-2
past_entry-at-requires-in-loop-2-2 c =
    (entries_step (c.args.self.places.names % 4 - (c.loop-2.counter + 1)) (omega arith) c.loop-2.invariant).within

pub loop-2-preserved : goal.loop-2-preserved
loop-2-preserved c =
    (entries_step (c.args.self.places.names % 4 - (c.loop-2.counter + 1)) (omega arith) c.loop-2.invariant).more c.past_entry-at-in-loop-2-2.ensures

pub returns : goal.returns
returns c = entries_last (omega arith) c.loop-2.invariant
