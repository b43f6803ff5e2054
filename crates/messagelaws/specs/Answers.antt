-- The writer's answers: a length where it accepts.
use Rattle.std.specs.Prelude.{ℕ, ◌≤◌, ◌≡◌, refl, Bool, true, false, not, List, ◌++◌, length, take, drop, ltb, eqb}
use Rattle.std.proofs.Common.{sym, ap, ◌∙◌, arith, le-ltb}
use Rattle.std.proofs.Math.Option.{Option, none, some}
use Rattle.std.proofs.lemmas.List.{take-append-le}
use Rattle.std.proofs.Math.Seq.{take-length}
use Rattle.words.specs.Choice.{pick, both}
use Rattle.refusals.specs.declared.Refusal.TheVariants.{NoRoom, Malformed, UnknownMessage}
use Rattle.format.specs.Fields.{name_bytes}
use Rattle.model.specs.Answers.{Answer}
use Rattle.model.specs.Answers.{Replied, Refused}
use Rattle.model.specs.Checks.{first_of}
use Rattle.model.specs.Apply.{written}
use Rattle.calls.specs.Ops.{recall}
use Rattle.messages.specs.Table.{Row, Given}
use Rattle.messages.specs.Write.{row_of, any_unfit, message_by, message_from, message_of, write_checks, write_answer, Writes}

-- a call that the writer accepts: its row, and no name or file in it that is unfit
pub record Fits (g : Given) : Type 0 where
  pub row : Row
  pub known : row_of g.numbers.op ≡ some row
  pub fit : any_unfit g.bytes row.slots ≡ false

pub fits-answer : (g : Given) (s : List ℕ) → Fits g → message_of g ≡ s → (room : ℕ) → length s ≤ room → write_answer g room ≡ Replied (length s)
unfolding write_answer message_of first_of
fits-answer g s f b room h =
    let wrote : message_by f.row g ≡ s = sym (ap (λ (o : Option Row). message_from o g) f.known) ∙ b in
    ap (λ (o : Option Row). first_of (write_checks o g room) (Replied (length (message_from o g)))) f.known
    ∙ rw (f.fit, wrote, le-ltb room (length s) h)

pub answer-fits : (g : Given) (room n : ℕ) → write_answer g room ≡ Replied n → Fits g
unfolding write_answer message_of first_of
answer-fits g room n a = by (row_of g.numbers.op) refl a
  where
    choose : (r : Row) → row_of g.numbers.op ≡ some r → (u : Bool) → any_unfit g.bytes r.slots ≡ u
        → pick u (Refused Malformed) (pick (ltb room (length (message_by r g))) (Refused NoRoom) (Replied (length (message_by r g)))) ≡ Replied n
        → Fits g
    choose r e true f a = let z : ◌≡◌ {A = ℕ} 0 1 = cc in absurd (omega arith)
    choose r e false f a = record { row = r; known = e; fit = f }

    unknown : (u : Bool) → pick u (Refused Malformed) (Refused UnknownMessage) ≡ Replied n → Fits g
    unknown true a = let z : ◌≡◌ {A = ℕ} 0 1 = cc in absurd (omega arith)
    unknown false a = let z : ◌≡◌ {A = ℕ} 0 1 = cc in absurd (omega arith)

    by : (o : Option Row) → row_of g.numbers.op ≡ o → first_of (write_checks o g room) (Replied (length (message_from o g))) ≡ Replied n → Fits g
    by none e a = unknown (both (eqb g.numbers.op recall) (not (name_bytes g.bytes))) a
    by (some r) e a = choose r e (any_unfit g.bytes r.slots) refl a

-- the length that it answers is the message's
pub answer-size : (g : Given) (room n : ℕ) → write_answer g room ≡ Replied n → length (message_of g) ≡ n
unfolding write_answer message_of first_of
answer-size g room n a = by (row_of g.numbers.op) a
  where
    choose : (size : ℕ) (u short : Bool) → pick u (Refused Malformed) (pick short (Refused NoRoom) (Replied size)) ≡ Replied n → size ≡ n
    choose size true short a = let z : ◌≡◌ {A = ℕ} 0 1 = cc in absurd (omega arith)
    choose size false true a = let z : ◌≡◌ {A = ℕ} 0 1 = cc in absurd (omega arith)
    choose size false false a = cc

    unknown : (u : Bool) → pick u (Refused Malformed) (Refused UnknownMessage) ≡ Replied n → 0 ≡ n
    unknown true a = let z : ◌≡◌ {A = ℕ} 0 1 = cc in absurd (omega arith)
    unknown false a = let z : ◌≡◌ {A = ℕ} 0 1 = cc in absurd (omega arith)

    by : (o : Option Row) → first_of (write_checks o g room) (Replied (length (message_from o g))) ≡ Replied n → length (message_from o g) ≡ n
    by none a = unknown (both (eqb g.numbers.op recall) (not (name_bytes g.bytes))) a
    by (some r) a = choose (length (message_by r g)) (any_unfit g.bytes r.slots) (ltb room (length (message_by r g))) a

-- what a call of the writer wrote: as many bytes of the buffer as it answered
pub wrote-message : (g : Given) (out out' : List ℕ) (n : ℕ) → Writes g out (Replied n) out' → take n out' ≡ message_of g
wrote-message g out out' n w =
    let size = answer-size g (length out) n (sym w.answers) in
    let left : out' ≡ message_of g ++ drop n out = w.left ∙ ap (λ (a : Answer). written a (message_of g) out) (sym w.answers) in
    ap (take n) left ∙ take-append-le n (message_of g) (drop n out) (omega arith) ∙ ap (λ (k : ℕ). take k (message_of g)) (sym size) ∙ take-length (message_of g)
