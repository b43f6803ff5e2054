-- How many a list accepts has room in its number: a list that is tried has at most 512 commands.
use Rattle.std.specs.Prelude.{ℕ, zero, suc, ◌+◌, ◌*◌, ◌≤◌, ◌<◌, Bool, true, false, ◌≡◌, refl, List, [], ◌∷◌, ◌++◌, length, drop, leb, None, Option, Some}
use Rattle.std.proofs.Common.{ap, ap₂, arith, mod-eq_of_lt, leb-true}
use Rattle.words.specs.Choice.{pick, both}
use Rattle.refusals.specs.declared.Refusal.TheVariants.{BadState}
use Rattle.model.specs.declared.Command.{Command}
use Rattle.model.specs.Answers.{Answer}
use Rattle.model.specs.Answers.{Refused}
use Rattle.model.specs.Formed.{formed}
use Rattle.model.specs.Chain.{State}
use Rattle.model.specs.Script.{Line}
use Rattle.model.specs.Demands.{refusal_in}
use Rattle.lists.specs.declared.Verdict.{Verdict}
use Rattle.lists.specs.declared.Verdict.TheVariants as verdict
use Rattle.lists.specs.Lent as lent
use Rattle.lists.specs.Lent.{Item, item_words, items_from, count_in, items_of, parsed, part_of, acts, every, is_list, most_commands, line_by, lines_in, lines_of}
use Rattle.lists.specs.OneByOne.{Outcome, ended, takes, after, tried, last_answer, accepted_in, outcome_by, outcome_of, count_room, place_room, place_in, list_number}
use Rattle.lists.specs.Running.{on, refused}

tried_few : (ls : List Line) (s : State) → accepted_in (tried ls s) ≤ length ls
unfolding tried accepted_in
tried_few [] s = omega arith
tried_few (l ∷ ls) s = go (takes l s) refl (tried_few ls (after l s))
  where
    go : (b : Bool) → takes l s ≡ b → accepted_in (tried ls (after l s)) ≤ length ls → accepted_in (tried (l ∷ ls) s) ≤ suc (length ls)
    go true t ih = let one = (on l ls s t).counts in omega arith
    go false t ih = let none = (refused l ls s t).1.0 in omega arith

lines_few : (is : List Item) (bytes : List ℕ) → length (lines_in is bytes) ≤ length is
unfolding lines_in
lines_few [] bytes = omega arith
lines_few (i ∷ is) bytes = go (parsed i) (lines_few is bytes)
  where
    go : (p : Option Command) → length (lines_in is bytes) ≤ length is → length (line_by p (part_of i bytes) ++ lines_in is bytes) ≤ suc (length is)
    go (Some c) ih = omega arith
    go None ih = omega arith

items_many : (n : ℕ) (us : List ℕ) → length (items_from n us) ≡ n
unfolding items_from
items_many zero us = refl
items_many (suc n) us = ap suc (items_many n (drop item_words us))

fit_short : (us bytes : List ℕ) → lent.verdict us bytes ≡ verdict.Fit → count_in us ≤ most_commands
unfolding lent.verdict
fit_short us bytes h = leb-true (count_in us) most_commands (go (is_list us bytes) (leb (count_in us) most_commands) (every acts (length bytes) (items_of us)) h)
  where
    go : (listed short each : Bool) → pick listed (pick (both short each) verdict.Fit verdict.Unfit) verdict.NoList ≡ verdict.Fit → short ≡ true
    go listed true each k = refl
    go true false each k = let z : ◌≡◌ {A = ℕ} 0 1 = cc in absurd (omega arith)
    go false false each k = let z : ◌≡◌ {A = ℕ} 0 1 = cc in absurd (omega arith)

abbrev count_of : Outcome → ℕ
count_of None = 0
count_of (Some (a, n)) = n

count_few : (us bytes : List ℕ) (s : State) → count_of (outcome_of us bytes s) ≤ most_commands
count_few us bytes s = go (lent.verdict us bytes) refl
  where
    go : (v : Verdict) → lent.verdict us bytes ≡ v → count_of (outcome_by v (lines_of us bytes) s) ≤ most_commands
    go verdict.NoList h = omega arith
    go verdict.Unfit h = omega arith
    go verdict.Fit h = by_check (formed s.words s.arena)
      where
        by_check : (b : Bool) → count_of (pick b (ended (last_answer (tried (lines_of us bytes) s)) (accepted_in (tried (lines_of us bytes) s))) (ended (Refused BadState) 0)) ≤ most_commands
        by_check true =
            let few = tried_few (lines_of us bytes) s in
            let lines = lines_few (items_of us) bytes in
            let items = items_many (count_in us) us in
            let short = fit_short us bytes h in
            omega arith
        by_check false = omega arith

-- the number of a list's end, whole
pub number_whole : (us bytes : List ℕ) (s : State) (a : Answer) (n : ℕ) → ended a n ≡ outcome_of us bytes s → place_in a < place_room
    → list_number (ended a n) ≡ refusal_in a + 256 * n + 16777216 * place_in a
number_whole us bytes s a n is h =
    let same = ap count_of is in
    let few = count_few us bytes s in
    let small : n < count_room = omega arith in
    ap₂ (λ (x y : ℕ). refusal_in a + 256 * x + 16777216 * y) (mod-eq_of_lt small) (mod-eq_of_lt h)
