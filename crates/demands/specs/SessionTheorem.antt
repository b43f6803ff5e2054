-- Calls of every kind: the demands of the commands that they stand for.
use Prim.{Unit, tt}
use Rattle.std.specs.Prelude.{ℕ, ◌+◌, Bool, true, false, ◌≡◌, List, [], ◌∷◌, ◌++◌, length, Ok, Err}
use Rattle.std.specs.Prelude as maybe
use Rattle.std.proofs.Math.Path.{refl}
use Rattle.std.proofs.Common.{sym, ap, ap₂, ◌∙◌, subst, arith}
use Rattle.std.proofs.Math.Option.{Option, none, some}
use Rattle.words.specs.Choice.{pick}
use Rattle.refusals.specs.declared.Refusal.{Refusal}
use Rattle.refusals.specs.Refusals.{number_of}
use Rattle.format.specs.Definition.{Definition}
use Rattle.values.specs.declared.NodeArgument.{NodeArgument}
use Rattle.model.specs.declared.Command.{Command}
use Rattle.calls.specs.Ops.{command_in}
use Rattle.model.specs.Answers.{Answer}
use Rattle.model.specs.Answers.{Done, Refused}
use Rattle.model.specs.Engine.{Engine}
use Rattle.model.specs.Meaning.{node}
use Rattle.model.specs.Checks.{first_of}
use Rattle.model.specs.Plain.{Plain, and_then, at_first}
use Rattle.model.specs.Formed.{formed}
use Rattle.model.specs.Apply.{answer_in, answer, is_accepted}
use Rattle.model.specs.Chain.{State, engine_in, Call, Chain, left_by, Fresh}
use Rattle.model.specs.Demands.{refusal_in, Ends, after_call, replay, made}
use Rattle.demands.specs.FreshState.{fresh-state, fresh_formed}
use Rattle.demands.specs.Sound.{never_one}
use Rattle.messages.specs.Form.{Parse, parsed, faulty, Message, read_message}
use Rattle.messages.specs.Table.{table}
use Rattle.messages.specs.Table as rows
use Rattle.messages.specs.Receive.{Meaning, calls, known, look_up, meaning_of, meaning}
use Rattle.messages.specs.Sent.{Refuses, Serves}
use Rattle.demands.specs.Theorems.{demand1, demand3}
use Rattle.lists.specs.declared.Verdict.{Verdict}
use Rattle.lists.specs.declared.Verdict.TheVariants.{NoList, Unfit, Fit}
use Rattle.lists.specs.Lent.{verdict, lines_of}
use Rattle.lists.specs.OneByOne.{outcome_by, tried, last_answer}
use Rattle.lists.specs.OneByOne as lists
use Rattle.store.specs.Store.{entries_of}
use Rattle.store.specs.Writing.{highest_for}
use Rattle.settings.specs.Settings.{name_of, save_checks, recall_checks, save_judged, recall_answer, saved_by}
use Rattle.settings.specs.Recalling.{recall_calls}
use Rattle.settings.specs.RecallLaws.{recall_answers, save_answers}
use Rattle.demands.specs.SequenceTheorem.{Going, at_end, fresh_going}
use Rattle.demands.specs.RecallTheorem.{recall_feeds}
use Rattle.demands.specs.Session.{Given, command, message, One, Listed, Recalled, Stored, Made, one, list, why, recall, save, left_of, RecallsIn, SavesIn, PromisedOne, Promised, Session, left_after, meaning_in, call_of, calls_by, calls_of, commands_of, EndsWith, EndsBy, AllEnd, ListEnds, RecallEnds, Demand1OfCalls, refusal_at_end, refusal_told, refusal_saved, refusal_of, AllHold, fed_by, fed, Demand3OfCalls}

-- what is done by its meaning
abbrev Served : Meaning → One → State → Type 0
Served x m s = Serves x s.words s.arena m.out m.answer m.left.words m.left.arena m.reply

served : (m : One) (s : State) → PromisedOne m s → Served (meaning_in m.given) m s
served m s p = go m.given p
  where
    go : (g : Given) → PromisedOne (record { given = g; out = m.out; answer = m.answer; left = m.left; reply = m.reply }) s → Served (meaning_in g) m s
    go (command c bytes) p = p
    go (message bytes) p = p.serves

ends_with : (r : Refusal) (m : One) (s : State) → Refuses r s.words s.arena m.out m.answer m.left.words m.left.arena m.reply → EndsWith r m s
ends_with r m s h = record {
  table = h.answers;
  unchanged = (ap₂ (λ (ws bs : List ℕ). record { words = ws; arena = bs }) h.words h.arena, h.reply);
}

ends_by : (x : Meaning) (m : One) (s : State) → Served x m s → EndsBy x m s
ends_by (Err r) m s h = ends_with r m s h
ends_by (Ok (c, bytes)) m s h = demand1 (call_of m c bytes) s h

-- a command in a well-formed state leaves one
ended_formed : (c : Call) (s : State) → formed s.words s.arena ≡ true → Ends c s → formed c.left.words c.left.arena ≡ true
ended_formed c s whole e = go (is_accepted c.answer) refl
  where
    go : (b : Bool) → is_accepted c.answer ≡ b → formed c.left.words c.left.arena ≡ true
    go true h = e.kept h
    go false h = ap (λ (x : State). formed x.words x.arena) (e.unchanged h).0 ∙ whole

-- each call of a chain ends as a command does
all_end : (cs : List Call) (s : State) → Chain cs s → AllEnd cs s
unfolding Chain AllEnd
all_end [] s h = tt
all_end (c ∷ cs) s h = (demand1 c s h.0, all_end cs c.left h.1)

-- a list
module _ (m : Listed) (s : State) (p : Promised (list m) s) where
  list_left : left_by (lists.calls_of m.items m.bytes s) s ≡ m.left
  list_left = sym (ap₂ (λ (ws bs : List ℕ). record { words = ws; arena = bs }) p.words p.arena)

  list_bad : (v : Verdict) → formed s.words s.arena ≡ false → left_by (lists.calls_by v (lines_of m.items m.bytes) s) s ≡ s
  unfolding left_by
  list_bad NoList h = refl
  list_bad Unfit h = refl
  list_bad Fit h = rw h

  list-unfit : (v : Verdict) → (v ≡ Fit → ⊥) → left_by (lists.calls_by v (lines_of m.items m.bytes) s) s ≡ s
  unfolding left_by
  list-unfit NoList h = refl
  list-unfit Unfit h = refl
  list-unfit Fit h = absurd (h refl)

  list_ends : ListEnds m s
  list_ends = record {
    table = p.ends;
    each = all_end (lists.calls_of m.items m.bytes s) s p.chain;
    left = list_left;
    refused1 = λ h. sym list_left ∙ list_bad (verdict m.items m.bytes) h;
    refused34 = λ h. sym list_left ∙ list-unfit (verdict m.items m.bytes) h;
  }

-- a recall
module _ (m : Recalled) (s : State) (p : RecallsIn m s) where
  abbrev judged : Answer
  judged = recall_answer m.name m.number m.node m.store s.words s.arena

  abbrev recalled : List Call
  recalled = recall_calls m.name m.number m.node m.store s

  recall_left : left_by recalled s ≡ m.left
  recall_left = sym (ap₂ (λ (ws bs : List ℕ). record { words = ws; arena = bs }) p.recalls.words (p.arena ∙ p.recalls.arena))

  -- one that is refused stands for no calls
  recall_refused : is_accepted judged ≡ false → left_by recalled s ≡ s
  unfolding left_by
  recall_refused h = rw h

  recall_ends : RecallEnds m s
  recall_ends = record {
    table = p.recalls.answers;
    each = all_end recalled s p.recalls.chain;
    left = recall_left;
    unchanged = λ h. sym recall_left ∙ recall_refused (ap is_accepted (sym p.recalls.answers) ∙ h);
  }

pub demand1_of_calls : Demand1OfCalls
demand1_of_calls (one m) s p = ends_by (meaning_in m.given) m s (served m s p)
demand1_of_calls (list m) s p = list_ends m s p
demand1_of_calls (why m) s p = p
demand1_of_calls (recall m) s p = recall_ends m s p
demand1_of_calls (save m) s p = p

-- what no call stands for: a refusal with 1
NotOne : Meaning → Type 0
NotOne (Ok x) = Unit {0}
NotOne (Err r) = number_of r ≡ 1 → ⊥

not_one_calls : (o : maybe.Option Command) (bytes : List ℕ) → NotOne (calls o bytes)
unfolding NotOne
not_one_calls (maybe.Some c) bytes = tt
not_one_calls maybe.None bytes = λ z. omega arith

not_one_known : (g : Option rows.Given) → NotOne (known g)
unfolding NotOne
not_one_known none = λ z. omega arith
not_one_known (some g) = not_one_calls (command_in g.numbers) g.bytes

not_one_read : (x : Parse Message) → NotOne (meaning_of x)
unfolding NotOne
not_one_read (parsed m end) = not_one_known (look_up 1 table m)
not_one_read faulty = λ z. omega arith

not_one_given : (g : Given) → NotOne (meaning_in g)
unfolding meaning NotOne
not_one_given (command c bytes) = tt
not_one_given (message bytes) = not_one_read (read_message bytes)

-- a call in a well-formed state leaves one, and is not refused with 1
module _ (m : One) (s : State) (whole : formed s.words s.arena ≡ true) where
  refused : (r : Refusal) → (number_of r ≡ 1 → ⊥) → EndsWith r m s → refusal_in m.answer ≡ 1 → ⊥
  refused r other e h =
      let own : m.answer ≡ Refused r = e.table ∙ rw whole in
      other (ap refusal_in (sym own) ∙ h)

  sound_by : (x : Meaning) → NotOne x → Served x m s → refusal_in m.answer ≡ 1 → ⊥
  unfolding answer NotOne
  sound_by (Err r) n p h = refused r n (ends_with r m s p) h
  sound_by (Ok (c, bytes)) n p h =
      let own : m.answer ≡ answer_in c bytes (engine_in s) (length m.out) = p.answers ∙ rw whole in
      never_one c bytes (engine_in s) (length m.out) (ap refusal_in (sym own) ∙ h)

  same_formed : m.left ≡ s → formed m.left.words m.left.arena ≡ true
  same_formed h = ap (λ (x : State). formed x.words x.arena) h ∙ whole

  formed-by : (x : Meaning) → EndsBy x m s → formed m.left.words m.left.arena ≡ true
  formed-by (Err r) e = same_formed e.unchanged.0
  formed-by (Ok (c, bytes)) e = ended_formed (call_of m c bytes) s whole e

-- calls in a row in a well-formed state: they leave one, and none is refused with 1
all-formed : (cs : List Call) (s : State) → formed s.words s.arena ≡ true → AllEnd cs s → formed (left_by cs s).words (left_by cs s).arena ≡ true
unfolding AllEnd left_by
all-formed [] s h e = h
all-formed (c ∷ cs) s h e = all-formed cs c.left (ended_formed c s h e.0) e.1

all_sound : (cs : List Call) (s : State) → formed s.words s.arena ≡ true → AllEnd cs s → refusal_in (last_answer cs) ≡ 1 → ⊥
unfolding AllEnd last_answer answer
all_sound [] s h e q = omega arith
all_sound (c ∷ cs) s h e q = go (is_accepted c.answer) (all_sound cs c.left (ended_formed c s h e.0) e.1) q
  where
    go : (b : Bool) → (refusal_in (last_answer cs) ≡ 1 → ⊥) → refusal_in (pick b (last_answer cs) c.answer) ≡ 1 → ⊥
    go true more k = more k
    go false more k =
        let own : c.answer ≡ answer_in c.command c.bytes (engine_in s) (length c.out) = e.0.table ∙ rw h in
        never_one c.command c.bytes (engine_in s) (length c.out) (ap refusal_in (sym own) ∙ k)

list_sound : (m : Listed) (s : State) → formed s.words s.arena ≡ true → ListEnds m s → refusal_at_end m.outcome ≡ 1 → ⊥
list_sound m s h e q = go (verdict m.items m.bytes) e.each (ap refusal_at_end (sym e.table) ∙ q)
  where
    go : (v : Verdict) → AllEnd (lists.calls_by v (lines_of m.items m.bytes) s) s → refusal_at_end (outcome_by v (lines_of m.items m.bytes) s) ≡ 1 → ⊥
    go NoList each k = omega arith
    go Unfit each k = let z = rw h at k in omega arith
    go Fit each k = all_sound (tried (lines_of m.items m.bytes) s) s h (rw h at each) (rw h at k)

-- in a well-formed state neither a recall nor a save is refused with 1
recall_sound : (m : Recalled) (s : State) → formed s.words s.arena ≡ true → RecallsIn m s → refusal_in m.answer ≡ 1 → ⊥
unfolding recall_answer
recall_sound m s h p =
    let own : m.answer ≡ first_of (recall_checks m.name m.number m.node m.store (engine_in s)) Done = p.recalls.answers ∙ rw h in
    λ q. recall_answers (λ a. refusal_in a ≡ 1 → ⊥) (λ z. omega arith) (λ z. omega arith) (λ z. omega arith) (λ z. omega arith) m.node m.store (engine_in s) (λ z. omega arith) m.name m.number (ap refusal_in (sym own) ∙ q)

saved_not_one : (version : ℕ) (a : NodeArgument) (store : List ℕ) (e : Engine) → refusal_saved (saved_by (first_of (save_checks a store e) Done) version) ≡ 1 → ⊥
saved_not_one version a store e =
    save_answers (λ x. refusal_saved (saved_by x version) ≡ 1 → ⊥) (λ z. omega arith) (λ z. omega arith) (λ z. omega arith) (λ z. omega arith) a store e (λ z. omega arith) (λ z. omega arith)

save_sound : (m : Stored) (s : State) → formed s.words s.arena ≡ true → SavesIn m s → refusal_saved m.saved ≡ 1 → ⊥
unfolding save_judged
save_sound m s h p q =
    let e = engine_in s in
    let version = highest_for (name_of (node m.node e) e) (entries_of m.store) + 1 in
    let own : m.saved ≡ saved_by (first_of (save_checks m.node m.store (engine_in s)) Done) version = p.saves.answers ∙ rw h in
    saved_not_one version m.node m.store e (ap refusal_saved (sym own) ∙ q)

pub sound : (m : Made) (s : State) → formed s.words s.arena ≡ true → Promised m s → refusal_of m ≡ 1 → ⊥
sound (one m) s h p = sound_by m s h (meaning_in m.given) (not_one_given m.given) (served m s p)
sound (list m) s h p = list_sound m s h (list_ends m s p)
sound (why m) s h p = λ z. let told = ap refusal_told p.tells in let k = rw h at told in omega arith
sound (recall m) s h p = recall_sound m s h p
sound (save m) s h p = save_sound m s h p

pub next-formed : (m : Made) (s : State) → formed s.words s.arena ≡ true → Promised m s → formed (left_of m).words (left_of m).arena ≡ true
next-formed (one m) s h p = formed-by m s h (meaning_in m.given) (ends_by (meaning_in m.given) m s (served m s p))
next-formed (list m) s h p =
    ap (λ (x : State). formed x.words x.arena) (sym (list_left m s p)) ∙ all-formed (lists.calls_of m.items m.bytes s) s h (list_ends m s p).each
next-formed (why m) s h p = ap (λ (x : State). formed x.words x.arena) p.left ∙ h
next-formed (recall m) s h p = ap (λ (x : State). formed x.words x.arena) (sym (recall_left m s p)) ∙ all-formed (recalled m s p) s h (recall_ends m s p).each
next-formed (save m) s h p = ap (λ (x : State). formed x.words x.arena) p.left ∙ h

all_hold : (ms : List Made) (s : State) → formed s.words s.arena ≡ true → Session ms s → AllHold ms s
unfolding Session AllHold
all_hold [] s h p = tt
all_hold (m ∷ ms) s h p = (record { sound = sound m s h p.0; ends = demand1_of_calls m s p.0 }, all_hold ms (left_of m) (next-formed m s h p.0) p.1)

-- a session in two parts
pub session_parts : (ms more : List Made) (s : State) → Session (ms ++ more) s → Session ms s × Session more (left_after ms s)
unfolding Session left_after
session_parts [] more s p = (tt, p)
session_parts (m ∷ ms) more s p = let rest = session_parts ms more (left_of m) p.1 in ((p.0, rest.0), rest.1)

-- calls in a row, and more behind them
chain_append : (cs : List Call) (s : State) → Chain cs s → (more : List Call) → Chain more (left_by cs s) → Chain (cs ++ more) s
unfolding Chain left_by
chain_append [] s h more k = k
chain_append (c ∷ cs) s h more k = (h.0, chain_append cs c.left h.1 more k)

left_append : (cs : List Call) (s : State) (more : List Call) → left_by (cs ++ more) s ≡ left_by more (left_by cs s)
unfolding left_by
left_append [] s more = refl
left_append (c ∷ cs) s more = left_append cs c.left more

-- what a call stands for is a chain, and leaves what the call leaves
pub record StandsFor (m : Made) (s : State) : Type 0 where
  pub chain : Chain (calls_of m s) s
  pub left : left_by (calls_of m s) s ≡ left_of m

one_stands : (x : Meaning) (m : One) (s : State) → Served x m s → EndsBy x m s → Chain (calls_by m x) s × (left_by (calls_by m x) s ≡ m.left)
unfolding Chain left_by
one_stands (Err r) m s p e = (tt, sym e.unchanged.0)
one_stands (Ok (c, bytes)) m s p e = ((p, tt), refl)

stands : (m : Made) (s : State) → Promised m s → StandsFor m s
unfolding Chain left_by
stands (one m) s p =
    let v = served m s p in
    let h = one_stands (meaning_in m.given) m s v (ends_by (meaning_in m.given) m s v) in
    record { chain = h.0; left = h.1 }
stands (list m) s p = record { chain = p.chain; left = list_left m s p }
stands (why m) s p = record { chain = tt; left = sym p.left }
stands (recall m) s p = record { chain = p.recalls.chain; left = recall_left m s p }
stands (save m) s p = record { chain = tt; left = sym p.left }

-- the commands that a session stands for are a chain, and leave what it leaves
pub chained : (ms : List Made) (s : State) → Session ms s → Chain (commands_of ms s) s
unfolding Session commands_of Chain
chained [] s p = tt
chained (m ∷ ms) s p =
    let v = stands m s p.0 in
    chain_append (calls_of m s) s v.chain (commands_of ms (left_of m)) (subst (λ (t : State). Chain (commands_of ms (left_of m)) t) (sym v.left) (chained ms (left_of m) p.1))

pub same_left : (ms : List Made) (s : State) → Session ms s → left_by (commands_of ms s) s ≡ left_after ms s
unfolding Session commands_of left_after left_by
same_left [] s p = refl
same_left (m ∷ ms) s p =
    left_append (calls_of m s) s (commands_of ms (left_of m))
    ∙ ap (λ (t : State). left_by (commands_of ms (left_of m)) t) (stands m s p.0).left
    ∙ same_left ms (left_of m) p.1

-- a session in a fresh state leaves a well-formed one
pub session_formed : (ms : List Made) (s : State) → formed s.words s.arena ≡ true → Session ms s → formed (left_after ms s).words (left_after ms s).arena ≡ true
unfolding Session left_after
session_formed [] s h p = h
session_formed (m ∷ ms) s h p = session_formed ms (left_of m) (next-formed m s h p.0) p.1

pub formed_at_first : (s : State) → Fresh s → formed s.words s.arena ≡ true
formed_at_first s f = ap (λ (x : State). formed x.words x.arena) (fresh-state s f) ∙ fresh_formed

-- calls in a row, replayed in two parts
replay-append : (cs more : List Call) (p : Plain) → replay (cs ++ more) p ≡ and_then (replay cs p) (λ q. replay more q)
unfolding replay
replay-append [] more p = refl
replay-append (c ∷ cs) more p = go (after_call c p) (replay-append cs more)
  where
    go : (o : Option Plain) → ((q : Plain) → replay (cs ++ more) q ≡ and_then (replay cs q) (λ r. replay more r))
        → and_then o (λ q. replay (cs ++ more) q) ≡ and_then (and_then o (λ q. replay cs q)) (λ r. replay more r)
    go none ih = refl
    go (some q) ih = ih q

-- the plain tree that is fed a call goes the way of the commands that it stands for
call_feeds : (m : Made) (s : State) → Promised m s → (p : Plain) (made_from : ℕ → Option Definition) → Going s p made_from → fed_by m s p ≡ replay (calls_of m s) p
unfolding replay
call_feeds (one m) s h p made_from g = refl
call_feeds (list m) s h p made_from g = refl
call_feeds (why m) s h p made_from g = refl
call_feeds (recall m) s h p made_from g = recall_feeds m s h p made_from g
call_feeds (save m) s h p made_from g = refl

session_feeds : (ms : List Made) (s : State) → Session ms s → (p : Plain) (made_from : ℕ → Option Definition) → Going s p made_from → fed ms s p ≡ replay (commands_of ms s) p
unfolding Session fed commands_of replay
session_feeds [] s h p made_from g = refl
session_feeds (m ∷ ms) s h p made_from g =
    let v = stands m s h.0 in
    let end = at_end (calls_of m s) s v.chain p made_from g in
    let going = subst (λ (t : State). Going t end.plain (λ n. made (calls_of m s) s n (made_from n))) v.left end.going in
    ap (λ (o : Option Plain). and_then o (λ q. fed ms (left_of m) q)) (call_feeds m s h.0 p made_from g ∙ end.replayed)
    ∙ session_feeds ms (left_of m) h.1 end.plain (λ n. made (calls_of m s) s n (made_from n)) going
    ∙ sym (replay-append (calls_of m s) (commands_of ms (left_of m)) p ∙ ap (λ (o : Option Plain). and_then o (λ q. replay (commands_of ms (left_of m)) q)) end.replayed)

-- Demand 3 of commands, messages, lists, questions, recalls and saves in any mixture
pub demand3_of_calls : (s : State) → Fresh s → (ms : List Made) → Session ms s → Demand3OfCalls ms s
demand3_of_calls s f ms p = record {
  each = all_hold ms s (formed_at_first s f) p;
  commands = demand3 s f (commands_of ms s) (chained ms s p);
  left = same_left ms s p;
  feeds = session_feeds ms s p at_first (λ n. none) (fresh_going s f) ∙ (demand3 s f (commands_of ms s) (chained ms s p)).replayed;
}
