-- Laws of the walk along the tags. What is left of it, from the present place and with what was kept, goes as the whole does from the first.
use Prim.{tt}
use Rattle.std.specs.Prelude.{ℕ, ◌+◌, ◌≤◌, ◌<◌, ◌≡◌, refl, List, length, drop, get_or, slice_get, Some, None}
use Rattle.std.proofs.Common.{sym, ap, ◌∙◌, arith}
use Rattle.messages.specs.Form.{Parse, parsed, and_then, argument_at}
use Rattle.messages.specs.Table.{Given}
use Rattle.messages.specs.Rows.{slots_of}
use Rattle.messages.specs.Receive.{bare}
use Rattle.messageread.specs.declared.cursor.Cursor.{Cursor}
use Rattle.messageread.specs.declared.cursor.Argument.{Argument}
use Rattle.messageread.specs.declared.keep.Kept.{Kept}
use Rattle.messageread.specs.FormLaws.{goes_on, stops}
use Rattle.messageread.specs.TakeLaws.{taken_turn, taken_end}
use Rattle.messageread.specs.Answers.{Inside, ArgumentRead}
use Rattle.messageread.specs.Keep.{given, take_in, Keeps, Walks, argument_taken, taken_at}

pub record Walking (s tags : List ℕ) (from op : ℕ) (kept : Kept) (at k : ℕ) : Type 0 where
  pub lies : Inside s kept.part
  pub goes : taken_at (drop k (slots_of op)) (drop k tags) s at (given s kept) ≡ taken_at (slots_of op) tags s from (bare op)

module _ (s tags : List ℕ) (from op : ℕ) where
  pub walk_begins : Walking s tags from op (record { numbers = record { op = op; a = 0; b = 0; c = 0; d = 0; e = 0 }; part = record { start = 0; end = 0 } }) from 0
  walk_begins = record { lies = (omega arith, omega arith); goes = refl }

  module _ (kept : Kept) (at k : ℕ) (w : Walking s tags from op kept at k) (l : k < length tags) where
    abbrev rest : Given → ℕ → Parse Given
    rest g next = taken_at (drop (k + 1) (slots_of op)) (drop (k + 1) tags) s next g

    turn : and_then (argument_taken (slots_of op) k (get_or tags k 0) s at (given s kept)) rest ≡ taken_at (slots_of op) tags s from (bare op)
    turn = sym (taken_turn (slots_of op) tags k s at (given s kept) l) ∙ w.goes

    pub walk_stops : ArgumentRead s (argument_at (get_or tags k 0) s at) None → Walks s (taken_at (slots_of op) tags s from (bare op)) None
    walk_stops r = record {
      reads = stops (argument_taken (slots_of op) k (get_or tags k 0) s at (given s kept)) rest (stops (argument_at (get_or tags k 0) s at) (λ x next. parsed (take_in (slice_get (slots_of op) k) x (given s kept)) next) r.reads) ∙ turn;
      holds = tt;
    }

    pub walk_goes : (x : Argument) (next : Cursor) (more : Kept) → ArgumentRead s (argument_at (get_or tags k 0) s at) (Some (x, next))
        → Keeps (slice_get (slots_of op) k) x kept more → Walking s tags from op more next.at (k + 1)
    walk_goes x next more r h = record {
      lies = h.lies s r.lies w.lies;
      goes = ap (λ (g : Given). rest g next.at) (h.takes s)
          ∙ goes_on (argument_taken (slots_of op) k (get_or tags k 0) s at (given s kept)) rest (goes_on (argument_at (get_or tags k 0) s at) (λ x next. parsed (take_in (slice_get (slots_of op) k) x (given s kept)) next) r.reads)
          ∙ turn;
    }

  pub walk_ends : (kept : Kept) (at : Cursor) (k : ℕ) → Walking s tags from op kept at.at k → length tags ≤ k → Walks s (taken_at (slots_of op) tags s from (bare op)) (Some (kept, at))
  walk_ends kept at k w l = record {
    reads = sym (taken_end (slots_of op) tags k s at.at (given s kept) l) ∙ w.goes;
    holds = w.lies;
  }
