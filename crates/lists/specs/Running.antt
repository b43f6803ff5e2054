-- The commands of a list along its items.
use Prim.{tt}
use Rattle.std.specs.Prelude.{ℕ, ◌+◌, ◌<◌, ◌≤◌, Bool, true, false, ◌≡◌, refl, length, Some, Ok, Err, is_err}
use Rattle.std.proofs.Math.Path.{sym, ap, ap₂, subst}
use Rattle.std.proofs.Common.{◌∙◌}
use mathlib.Core.List.{List, [], ◌∷◌, ◌++◌}
use native.Mathlib.Omega.{arith}
use Rattle.words.specs.Choice.{pick, both}
use Rattle.words.specs.ChoiceLaws.{both_true}
use Rattle.words.specs.Bytes.{AreBytes}
use Rattle.model.specs.declared.Command.{Command}
use Rattle.model.specs.Answers.{Answer}
use Rattle.model.specs.Answers.{Done}
use Rattle.model.specs.Engine.{decode}
use Rattle.model.specs.Formed.{formed}
use Rattle.model.specs.Apply.{answer_in, answer, is_accepted, Does}
use Rattle.model.specs.Chain.{State, Call, Applied, Chain, left_by}
use Rattle.model.specs.Script.{Line, line}
use Rattle.state.specs.Known.{known}
use Rattle.refinement.specs.Stepped.{kept}
use Rattle.lists.specs.declared.Verdict.TheVariants.{Fit}
use Rattle.lists.specs.declared.Kind.TheVariants.{Acts}
use Rattle.lists.specs.Lent.{Item, count_in, parsed, part_of, kind_of, acts, every, verdict, line_by, lines_in, lines_of}
use Rattle.lists.specs.OneByOne.{Outcome, ended, answer_to, takes, after, sent, tried, last_answer, accepted_in, lent_state}
use Rattle.lists.specs.Walk.{item_at, items_at, items_first, items_next, items_last}
use Rattle.lists.specs.Judging.{every_next, fit_acts, acts_only}

-- an item's command: what it answers and leaves is what sending it would
pub record Goes (i : Item) (bytes ws bs : List ℕ) (a : Answer) (ws' bs' : List ℕ) : Type 0 where
  pub line : Line
  pub is : line_by (parsed i) (part_of i bytes) ≡ line ∷ []
  pub answers : a ≡ answer_to line (lent_state ws bs)
  pub words : ws' ≡ (after line (lent_state ws bs)).words
  pub arena : bs' ≡ (after line (lent_state ws bs)).arena
  pub lent_bytes : AreBytes line.bytes
  pub lent_arena : AreBytes bs

pub goes_by : (i : Item) (bytes ws bs : List ℕ) (c : Command) (part : List ℕ) (a : Answer) (ws' bs' out' : List ℕ) → parsed i ≡ Some c → part ≡ part_of i bytes
    → Does c part ws bs [] a ws' bs' out' → Goes i bytes ws bs a ws' bs'
goes_by i bytes ws bs c part a ws' bs' out' is same d = record {
  line = line c part;
  is = rw is (ap (λ (l : List ℕ). line c l ∷ []) (sym same));
  answers = d.answers;
  words = d.words;
  arena = d.arena;
  lent_bytes = d.lent_bytes;
  lent_arena = d.lent_arena;
}

-- all commands of a list
pub record Ran (us bytes ws bs : List ℕ) (r : Outcome) (ws' bs' : List ℕ) : Type 0 where
  pub ends : r ≡ ended (last_answer (tried (lines_of us bytes) (lent_state ws bs))) (accepted_in (tried (lines_of us bytes) (lent_state ws bs)))
  pub left : lent_state ws' bs' ≡ left_by (tried (lines_of us bytes) (lent_state ws bs)) (lent_state ws bs)
  pub chain : Chain (tried (lines_of us bytes) (lent_state ws bs)) (lent_state ws bs)

-- calls that end as others do, of which so many fewer are accepted
pub record EndAs (n : ℕ) (cs : List Call) (s : State) (ds : List Call) (t : State) : Type 0 where
  pub answers : last_answer cs ≡ last_answer ds
  pub counts : accepted_in cs ≡ n + accepted_in ds
  pub left : left_by cs s ≡ left_by ds t

-- one command that is accepted
pub on : (l : Line) (ls : List Line) (s : State) → takes l s ≡ true → EndAs 1 (tried (l ∷ ls) s) s (tried ls (after l s)) (after l s)
unfolding tried last_answer accepted_in left_by
on l ls s h = record { answers = rw h; counts = rw h (omega arith); left = rw h }

-- and one that is refused
pub refused : (l : Line) (ls : List Line) (s : State) → takes l s ≡ false
    → (last_answer (tried (l ∷ ls) s) ≡ answer_to l s) × ((accepted_in (tried (l ∷ ls) s) ≡ 0) × (left_by (tried (l ∷ ls) s) s ≡ after l s))
unfolding tried last_answer accepted_in left_by
refused l ls s h = (rw h, (rw h, rw h))

-- each is a call as `engine::apply` promises it
sent_applied : (l : Line) (s : State) → AreBytes l.bytes → AreBytes s.arena → Applied (sent l s) s
sent_applied l s clean held = record { answers = refl; words = refl; arena = refl; reply = refl; lent_bytes = clean; lent_arena = held }

on_chain : (l : Line) (ls : List Line) (s : State) → AreBytes l.bytes → AreBytes s.arena → takes l s ≡ true → Chain (tried ls (after l s)) (after l s) → Chain (tried (l ∷ ls) s) s
unfolding tried Chain
on_chain l ls s clean held h more = (sent_applied l s clean held, subst (λ (b : Bool). Chain (pick b (tried ls (after l s)) []) (after l s)) (sym h) more)

refused_chain : (l : Line) (ls : List Line) (s : State) → AreBytes l.bytes → AreBytes s.arena → takes l s ≡ false → Chain (tried (l ∷ ls) s) s
unfolding tried Chain
refused_chain l ls s clean held h = (sent_applied l s clean held, subst (λ (b : Bool). Chain (pick b (tried ls (after l s)) []) (after l s)) (sym h) tt)

in_table : (l : Line) (ws bs : List ℕ) → formed ws bs ≡ true → takes l (lent_state ws bs) ≡ true → is_accepted (answer_in l.command l.bytes (decode ws bs) 0) ≡ true
unfolding answer
in_table l ws bs h k = rw h at k

-- a well-formed state stays one: what lets the check be made once
pub stays : (l : Line) (ws bs : List ℕ) → AreBytes l.bytes → formed ws bs ≡ true → takes l (lent_state ws bs) ≡ true
    → formed (after l (lent_state ws bs)).words (after l (lent_state ws bs)).arena ≡ true
stays l ws bs lent h t = rw t (kept l.command l.bytes ws bs lent h 0 (in_table l ws bs h t))

-- well-formed states are of one size
pub same_size : (ws bs ws₀ bs₀ : List ℕ) → formed ws bs ≡ true → formed ws₀ bs₀ ≡ true → (length ws ≡ length ws₀) × (length bs ≡ length bs₀)
same_size ws bs ws₀ bs₀ h h₀ =
    let k = known ws bs h in
    let k₀ = known ws₀ bs₀ h₀ in
    (k.size ∙ sym k₀.size, k.arena_size ∙ sym k₀.arena_size)

-- an answer is accepted or refused
pub not_err : (a : Answer) → false ≡ is_err a → is_accepted a ≡ true
not_err (Ok x) h = refl
not_err (Err e) h = cc

pub an_err : (a : Answer) → true ≡ is_err a → is_accepted a ≡ false
an_err (Ok x) h = cc
an_err (Err e) h = refl

abbrev pub lines_at : List ℕ → List ℕ → ℕ → List Line
lines_at us bytes i = lines_in (items_at us i) bytes

-- what is left of the list ends, from here, as the whole does from the first
pub record Running (us bytes ws₀ bs₀ : List ℕ) (i : ℕ) (ws bs : List ℕ) : Type 0 where
  pub near : i ≤ count_in us
  pub whole : formed ws bs ≡ true
  pub rest : every acts (length bytes) (items_at us i) ≡ true
  pub ends : EndAs i (tried (lines_of us bytes) (lent_state ws₀ bs₀)) (lent_state ws₀ bs₀) (tried (lines_at us bytes i) (lent_state ws bs)) (lent_state ws bs)
  pub chain : Chain (tried (lines_at us bytes i) (lent_state ws bs)) (lent_state ws bs) → Chain (tried (lines_of us bytes) (lent_state ws₀ bs₀)) (lent_state ws₀ bs₀)

pub run_begins : (us bytes ws bs : List ℕ) → verdict us bytes ≡ Fit → formed ws bs ≡ true → Running us bytes ws bs 0 ws bs
run_begins us bytes ws bs v h = record {
  near = omega arith;
  whole = h;
  rest = ap (λ (l : List Item). every acts (length bytes) l) (items_first us) ∙ fit_acts us bytes v;
  ends =
      subst (λ (l : List Item). EndAs 0 (tried (lines_of us bytes) (lent_state ws bs)) (lent_state ws bs) (tried (lines_in l bytes) (lent_state ws bs)) (lent_state ws bs)) (sym (items_first us))
      (record { answers = refl; counts = omega arith; left = refl });
  chain = λ k. subst (λ (l : List Item). Chain (tried (lines_in l bytes) (lent_state ws bs)) (lent_state ws bs)) (items_first us) k;
}

module _ (us bytes ws₀ bs₀ : List ℕ) (i : ℕ) (ws bs : List ℕ) (r : Running us bytes ws₀ bs₀ i ws bs) where
  module _ (less : i < count_in us) where
    rest_is : both (acts (kind_of (length bytes) (item_at us i))) (every acts (length bytes) (items_at us (i + 1))) ≡ true
    rest_is = sym (every_next us (length bytes) acts i less) ∙ r.rest

    pub run_kind : kind_of (length bytes) (item_at us i) ≡ Acts
    run_kind = acts_only (kind_of (length bytes) (item_at us i)) (both_true (acts (kind_of (length bytes) (item_at us i))) (every acts (length bytes) (items_at us (i + 1))) rest_is).0

    module _ (a : Answer) (ws' bs' : List ℕ) (g : Goes (item_at us i) bytes ws bs a ws' bs') where
      lines_are : lines_at us bytes i ≡ g.line ∷ lines_at us bytes (i + 1)
      unfolding lines_in
      lines_are =
          ap (λ (l : List Item). lines_in l bytes) (items_next us i less)
          ∙ ap (λ (l : List Line). l ++ lines_at us bytes (i + 1)) g.is

      left_is : lent_state ws' bs' ≡ after g.line (lent_state ws bs)
      left_is = ap₂ lent_state g.words g.arena

      taken : is_accepted a ≡ takes g.line (lent_state ws bs)
      taken = ap is_accepted g.answers

      as_line : EndAs i (tried (lines_of us bytes) (lent_state ws₀ bs₀)) (lent_state ws₀ bs₀) (tried (g.line ∷ lines_at us bytes (i + 1)) (lent_state ws bs)) (lent_state ws bs)
      as_line =
          subst (λ (l : List Line). EndAs i (tried (lines_of us bytes) (lent_state ws₀ bs₀)) (lent_state ws₀ bs₀) (tried l (lent_state ws bs)) (lent_state ws bs)) lines_are r.ends

      chain_line : Chain (tried (g.line ∷ lines_at us bytes (i + 1)) (lent_state ws bs)) (lent_state ws bs) → Chain (tried (lines_of us bytes) (lent_state ws₀ bs₀)) (lent_state ws₀ bs₀)
      chain_line k = r.chain (subst (λ (l : List Line). Chain (tried l (lent_state ws bs)) (lent_state ws bs)) (sym lines_are) k)

      pub run_goes : is_accepted a ≡ true → Running us bytes ws₀ bs₀ (i + 1) ws' bs'
      run_goes h =
          let t = sym taken ∙ h in
          let one = on g.line (lines_at us bytes (i + 1)) (lent_state ws bs) t in
          let more = one.counts in
          let before = as_line.counts in
          record {
            near = omega arith;
            whole = rw (g.words, g.arena) (stays g.line ws bs g.lent_bytes r.whole t);
            rest = (both_true (acts (kind_of (length bytes) (item_at us i))) (every acts (length bytes) (items_at us (i + 1))) rest_is).1;
            ends =
                subst
                (λ (s : State). EndAs (i + 1) (tried (lines_of us bytes) (lent_state ws₀ bs₀)) (lent_state ws₀ bs₀) (tried (lines_at us bytes (i + 1)) s) s)
                (sym left_is)
                (record { answers = as_line.answers ∙ one.answers; counts = omega arith; left = as_line.left ∙ one.left });
            chain = λ k.
                chain_line
                (on_chain g.line (lines_at us bytes (i + 1)) (lent_state ws bs) g.lent_bytes g.lent_arena t
                (subst (λ (s : State). Chain (tried (lines_at us bytes (i + 1)) s) s) left_is k));
          }

      pub run_stops : is_accepted a ≡ false → Ran us bytes ws₀ bs₀ (ended a i) ws' bs'
      run_stops h =
          let one = refused g.line (lines_at us bytes (i + 1)) (lent_state ws bs) (sym taken ∙ h) in
          let none = one.1.0 in
          let before = as_line.counts in
          let count : i ≡ accepted_in (tried (lines_of us bytes) (lent_state ws₀ bs₀)) = omega arith in
          record {
            ends = ap₂ ended (g.answers ∙ sym one.0 ∙ sym as_line.answers) count;
            left = left_is ∙ sym one.1.1 ∙ sym as_line.left;
            chain = chain_line (refused_chain g.line (lines_at us bytes (i + 1)) (lent_state ws bs) g.lent_bytes g.lent_arena (sym taken ∙ h));
          }

  pub run_ends : count_in us ≤ i → Ran us bytes ws₀ bs₀ (ended Done (count_in us)) ws bs
  unfolding lines_in tried last_answer accepted_in left_by Chain
  run_ends h =
      let last =
      subst (λ (l : List Item). EndAs i (tried (lines_of us bytes) (lent_state ws₀ bs₀)) (lent_state ws₀ bs₀) (tried (lines_in l bytes) (lent_state ws bs)) (lent_state ws bs)) (items_last us i h)
      r.ends in
      let near = r.near in
      let counted = last.counts in
      let count : count_in us ≡ accepted_in (tried (lines_of us bytes) (lent_state ws₀ bs₀)) = omega arith in
      record {
        ends = ap₂ ended (sym last.answers) count;
        left = sym last.left;
        chain = r.chain (subst (λ (l : List Item). Chain (tried (lines_in l bytes) (lent_state ws bs)) (lent_state ws bs)) (sym (items_last us i h)) tt);
      }
