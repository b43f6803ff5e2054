-- A list on the engine as the refusal table and the effects know it: what it ends in, in a well-formed state.
use Prim.{Unit, tt}
use Rattle.std.specs.Prelude.{ℕ, suc, ◌+◌, Bool, true, false, ◌≡◌, refl, List, [], ◌∷◌, ◌++◌, drop, None, Option, Some}
use Rattle.std.proofs.Common.{sym, ap, ap₂, ◌∙◌, arith}
use Rattle.words.specs.Choice.{pick}
use Rattle.words.specs.Bytes.{AreBytes}
use Rattle.refusals.specs.declared.Refusal.TheVariants.{ListUnfit}
use Rattle.model.specs.declared.Command.{Command}
use Rattle.model.specs.Answers.{Done, Refused}
use Rattle.model.specs.Engine.{Engine}
use Rattle.model.specs.Formed.{formed}
use Rattle.model.specs.Effects.{effect}
use Rattle.model.specs.Apply.{answer_in, answer, is_accepted}
use Rattle.model.specs.Chain.{State, engine_in}
use Rattle.model.specs.Script.{Line}
use Rattle.definitions.specs.Exporting.{bytes_take, bytes_drop}
use Rattle.refinement.specs.Stepped.{effected}
use Rattle.lists.specs.declared.Verdict.{Verdict}
use Rattle.lists.specs.declared.Verdict.TheVariants as verdict
use Rattle.lists.specs.Lent as lent
use Rattle.lists.specs.Lent.{Item, parsed, part_of, line_by, lines_in}
use Rattle.lists.specs.OneByOne.{Outcome, ended, answer_to, takes, after, tried, last_answer, accepted_in, outcome_by, outcome_of}
use Rattle.lists.specs.Running.{on, refused, stays}

-- commands one by one, so many of which were accepted before
unfoldable pub ending_on : List Line → Engine → ℕ → Outcome
ending_on [] e n = ended Done n
ending_on (l ∷ ls) e n =
    pick (is_accepted (answer_in l.command l.bytes e 0))
    (ending_on ls (effect l.command l.bytes e) (suc n))
    (ended (answer_in l.command l.bytes e 0) n)

abbrev pub ends_on : Verdict → List Line → Engine → Outcome
ends_on verdict.NoList ls e = None
ends_on verdict.Unfit ls e = ended (Refused ListUnfit) 0
ends_on verdict.Fit ls e = ending_on ls e 0

abbrev pub list_on : List ℕ → List ℕ → Engine → Outcome
list_on us bytes e = ends_on (lent.verdict us bytes) (lent.lines_of us bytes) e

-- what each command is given is bytes
unfoldable pub AllBytes : List Line → Type 0
AllBytes [] = Unit {0}
AllBytes (l ∷ ls) = AreBytes l.bytes × AllBytes ls

pub part_bytes : (i : Item) (bytes : List ℕ) → AreBytes bytes → AreBytes (part_of i bytes)
part_bytes i bytes h = bytes_take i.size (drop i.start bytes) (bytes_drop i.start bytes h)

pub lines_bytes : (is : List Item) (bytes : List ℕ) → AreBytes bytes → AllBytes (lines_in is bytes)
unfolding lines_in AllBytes
lines_bytes [] bytes h = tt
lines_bytes (i ∷ is) bytes h = go (parsed i) (lines_bytes is bytes h)
  where
    go : (p : Option Command) → AllBytes (lines_in is bytes) → AllBytes (line_by p (part_of i bytes) ++ lines_in is bytes)
    go (Some c) more = (part_bytes i bytes h, more)
    go None more = more

-- in a well-formed state a command's answer is the table's, and what it leaves is its effect
module _ (l : Line) (s : State) (h : formed s.words s.arena ≡ true) where
  pub by_table : answer_to l s ≡ answer_in l.command l.bytes (engine_in s) 0
  unfolding answer
  by_table = rw h

  pub by_effect : AreBytes l.bytes → takes l s ≡ true → engine_in (after l s) ≡ effect l.command l.bytes (engine_in s)
  by_effect clean t = rw t (effected l.command l.bytes s.words s.arena clean h 0 (ap is_accepted (sym by_table) ∙ t))

ends-on : (ls : List Line) (s : State) (n : ℕ) → formed s.words s.arena ≡ true → AllBytes ls
    → ended (last_answer (tried ls s)) (n + accepted_in (tried ls s)) ≡ ending_on ls (engine_in s) n
unfolding tried last_answer accepted_in ending_on AllBytes
ends-on [] s n h c = ap (λ (k : ℕ). ended Done k) (omega arith)
ends-on (l ∷ ls) s n h c = go (takes l s) refl (ends-on ls (after l s) (suc n))
  where
    table : is_accepted (answer_in l.command l.bytes (engine_in s) 0) ≡ takes l s
    table = ap is_accepted (sym (by_table l s h))

    go : (b : Bool) → takes l s ≡ b
        → (formed (after l s).words (after l s).arena ≡ true → AllBytes ls → ended (last_answer (tried ls (after l s))) (suc n + accepted_in (tried ls (after l s))) ≡ ending_on ls (engine_in (after l s)) (suc n))
        → ended (last_answer (tried (l ∷ ls) s)) (n + accepted_in (tried (l ∷ ls) s))
        ≡ pick (is_accepted (answer_in l.command l.bytes (engine_in s) 0)) (ending_on ls (effect l.command l.bytes (engine_in s)) (suc n)) (ended (answer_in l.command l.bytes (engine_in s) 0) n)
    go true t ih =
        let one = on l ls s t in
        let counts = one.counts in
        let count : n + accepted_in (tried (l ∷ ls) s) ≡ suc n + accepted_in (tried ls (after l s)) = omega arith in
        rw (table ∙ t)
        (ap₂ ended one.answers count
        ∙ ih (stays l s.words s.arena c.0 h t) c.1
        ∙ ap (λ (e : Engine). ending_on ls e (suc n)) (by_effect l s h c.0 t))
    go false t ih =
        let one = refused l ls s t in
        let counts = one.1.0 in
        let count : n + accepted_in (tried (l ∷ ls) s) ≡ n = omega arith in
        rw (table ∙ t) (ap₂ ended (one.0 ∙ by_table l s h) count)

pub list-on : (us bytes : List ℕ) (s : State) → AreBytes bytes → formed s.words s.arena ≡ true → outcome_of us bytes s ≡ list_on us bytes (engine_in s)
list-on us bytes s clean h = go (lent.verdict us bytes)
  where
    go : (v : Verdict) → outcome_by v (lent.lines_of us bytes) s ≡ ends_on v (lent.lines_of us bytes) (engine_in s)
    go verdict.NoList = refl
    go verdict.Unfit = rw h
    go verdict.Fit =
        let none : accepted_in (tried (lent.lines_of us bytes) s) ≡ 0 + accepted_in (tried (lent.lines_of us bytes) s) = omega arith in
        rw h (ap (λ (k : ℕ). ended (last_answer (tried (lent.lines_of us bytes) s)) k) none ∙ ends-on (lent.lines_of us bytes) s 0 h (lines_bytes (lent.items_of us) bytes clean))
