-- The command of a call that is taken from a message.
use Rattle.std.specs.Prelude.{ℕ, zero, suc, ◌+◌, ◌≤◌, ◌<◌, ◌≡◌, refl, Bool, true, false, List, [], ◌∷◌, ◌++◌, length, drop, get_or, eqb, Option, Some, None}
use Rattle.std.proofs.Common.{sym, ap, ◌∙◌, add-zero, arith, eqb-true}
use Rattle.std.proofs.Math.Option.{some}
use Rattle.std.proofs.Math.ListN.{get_or-append}
use Rattle.std.proofs.lemmas.Bool.{eqb-false}
use Rattle.words.specs.Choice.{pick}
use Rattle.words.specs.ChoiceLaws.{both_true}
use Rattle.format.specs.Bounds.{every}
use Rattle.model.specs.declared.Command.{Command}
use Rattle.model.specs.declared.Command.TheVariants as command
use Rattle.model.specs.declared.Query.TheVariants as query
use Rattle.calls.specs.Ops.{last, ops, command_of, command_in}
use Rattle.calls.specs.declared.Numbers.{Numbers}
use Rattle.messages.specs.Table.{Row, table, Given, take_all, give_all}
use Rattle.messages.specs.Receive.{bare}
use Rattle.messages.specs.Write.{row_from, row_of}
use Rattle.messagelaws.specs.Rows.{row_place}

-- the commands of the calls that each row, from an op on, takes from what it was given
unfoldable taken : ℕ → List Row → Given → List (Option Command)
taken op [] g = []
taken op (r ∷ rows) g = command_in (take_all r.slots (give_all r.slots g) (bare op)).numbers ∷ taken (suc op) rows g

taken_size : (op : ℕ) (rows : List Row) (g : Given) → length (taken op rows g) ≡ length rows
unfolding taken
taken_size op [] g = refl
taken_size op (r ∷ rows) g = ap suc (taken_size (suc op) rows g)

taken-at : (op : ℕ) (rows : List Row) (g : Given) (k : ℕ) (r : Row) → row_from rows (suc k) ≡ some r
    → get_or (taken op rows g) k None ≡ command_in (take_all r.slots (give_all r.slots g) (bare (op + k))).numbers
unfolding taken row_from
taken-at op [] g k r e = let z : ◌≡◌ {A = ℕ} 0 1 = cc in absurd (omega arith)
taken-at op (x ∷ rows) g zero r e = let same : x ≡ r = cc in rw (same, add-zero)
taken-at op (x ∷ rows) g (suc k) r e =
    let next : suc op + k ≡ op + suc k = omega arith in
    taken-at (suc op) rows g k r e ∙ ap (λ (j : ℕ). command_in (take_all r.slots (give_all r.slots g) (bare j)).numbers) next

-- they are the ops' own, with the value's kind 0 or 1: an op looks at no number that its row does not take
taken_ops : (g : Given) → None ∷ taken 1 table g ++ (Some (command.Query query.Export) ∷ []) ≡ ops g.numbers.a g.numbers.b g.numbers.c (pick (eqb g.numbers.d 0) 0 1) g.numbers.e
unfolding taken take_all give_all command_of
taken_ops g = by (eqb g.numbers.d 0) refl
  where
    by : (b : Bool) → eqb g.numbers.d 0 ≡ b
        → None ∷ taken 1 table g ++ (Some (command.Query query.Export) ∷ []) ≡ ops g.numbers.a g.numbers.b g.numbers.c (pick b 0 1) g.numbers.e
    by true h = rw h
    by false h = rw h

-- a list of commands with some left out
data Among : List (Option Command) → List (Option Command) → Type 0 where
  end : Among [] []
  same : {p : Option Command} {l m : List (Option Command)} → Among l m → Among (p ∷ l) (p ∷ m)
  out : {p : Option Command} {l m : List (Option Command)} → Among l m → Among (None ∷ l) (p ∷ m)

among_call : {l m : List (Option Command)} → Among l m → (k : ℕ) (c : Command) → get_or l k None ≡ Some c → get_or m k None ≡ Some c
among_call end k c h = h
among_call (same a) zero c h = h
among_call (same a) (suc k) c h = among_call a k c h
among_call (out a) zero c h = cc
among_call (out a) (suc k) c h = among_call a k c h

among_self : (l : List (Option Command)) → Among l l
among_self [] = end
among_self (p ∷ l) = same (among_self l)

-- with a kind that is no kind the commands of values are left out
kind_among : (a b c d e : ℕ) → Among (ops a b c d e) (ops a b c (pick (eqb d 0) 0 1) e)
kind_among a b c d e = by (eqb d 0) refl (eqb d 1) refl
  where
    by : (z : Bool) → eqb d 0 ≡ z → (o : Bool) → eqb d 1 ≡ o → Among (ops a b c d e) (ops a b c (pick z 0 1) e)
    by true h o k = rw (eqb-true d 0 h) (among_self (ops a b c 0 e))
    by false h true k = rw (eqb-true d 1 k) (among_self (ops a b c 1 e))
    by false h false k =
        rw (h, k)
        (same (same (same (same (same (same (same (same (same (same (same (same (same (out (out (out (out (same (same (out (out (same (same (same (same (same (same (same end))))))))))))))))))))))))))))

-- the command that a call's own row takes from what it was given is the call's
pub taken_command : (g : Given) (r : Row) (c : Command) → row_of g.numbers.op ≡ some r → command_in g.numbers ≡ Some c
    → command_in (take_all r.slots (give_all r.slots g) (bare g.numbers.op)).numbers ≡ Some c
unfolding command_of
taken_command g r c e h =
    let n : Numbers = g.numbers in
    let p = row_place table n.op r e in
    let k : ℕ = p.place in
    let from : n.op ≡ 1 + k = omega (arith, p.same) in
    let last : List (Option Command) = Some (command.Query query.Export) ∷ [] in
    let few : k < length (taken 1 table g) = rw (taken_size 1 table g) p.below in
    ap (λ (j : ℕ). command_in (take_all r.slots (give_all r.slots g) (bare j)).numbers) from
    ∙ sym (taken-at 1 table g k r (rw p.same at e))
    ∙ sym (get_or-append (taken 1 table g) last None k few)
    ∙ ap (λ (j : ℕ). get_or (None ∷ taken 1 table g ++ last) j None) (sym p.same)
    ∙ ap (λ (l : List (Option Command)). get_or l n.op None) (taken_ops g)
    ∙ among_call (kind_among n.a n.b n.c n.d n.e) n.op c h

-- a command
pub record IsCommand (p : Option Command) : Type 0 where
  pub command : Command
  pub is : p ≡ Some command

abbrev is_call : Option Command → Bool
is_call (Some c) = true
is_call None = false

call_is : (p : Option Command) → is_call p ≡ true → IsCommand p
call_is (Some c) h = record { command = c; is = refl }
call_is None h = let z : ◌≡◌ {A = ℕ} 0 1 = cc in absurd (omega arith)

call_at : (l : List (Option Command)) (k : ℕ) → every is_call l ≡ true → k < length l → IsCommand (get_or l k None)
unfolding every
call_at [] k t h = absurd (omega arith)
call_at (p ∷ l) zero t h = call_is p (both_true (is_call p) (every is_call l) t).0
call_at (p ∷ l) (suc k) t h = call_at l k (both_true (is_call p) (every is_call l) t).1 (omega arith)

all_calls : (a b c d e : ℕ) → d ≤ 1 → every is_call (drop 1 (ops a b c d e)) ≡ true
unfolding every
all_calls a b c d e h = by (eqb d 0) refl
  where
    by : (z : Bool) → eqb d 0 ≡ z → every is_call (drop 1 (ops a b c d e)) ≡ true
    by true z = rw (eqb-true d 0 z)
    by false z =
        let one : d ≡ 1 = let other = eqb-false d 0 z in omega arith in
        rw one

-- an op that has a row is a command, with a value's kind 0 or 1
pub row_command : (n : Numbers) (r : Row) → n.d ≤ 1 → row_of n.op ≡ some r → IsCommand (command_in n)
unfolding command_of
row_command n r h e =
    let p = row_place table n.op r e in
    let few : p.place < last = omega (arith, p.below) in
    rw p.same (call_at (drop 1 (ops n.a n.b n.c n.d n.e)) p.place (all_calls n.a n.b n.c n.d n.e h) (omega arith))
