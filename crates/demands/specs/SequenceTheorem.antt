-- Demand 3: calls in a row from a fresh engine.
use Prim.{tt}
use Rattle.std.specs.Prelude.{ℕ, Bool, true, false, ◌≡◌, refl, List, [], ◌∷◌, length}
use Rattle.std.proofs.Common.{sym, ap, ◌∙◌, subst}
use Rattle.std.proofs.Math.Option.{Option, none, some}
use Rattle.words.specs.Choice.{pick}
use Rattle.format.specs.Definition.{Definition}
use Rattle.format.specs.Reader.{read_file}
use Rattle.nodes.specs.Forest.{Forest}
use Rattle.preservation.specs.TreeKept.{known_sound}
use Rattle.state.specs.Known.{Known, known}
use Rattle.state.specs.Accepted.{Accepted, accepted}
use Rattle.model.specs.declared.DefinitionCommand.{DefinitionCommand}
use Rattle.model.specs.declared.DefinitionCommand.TheVariants as definitions
use Rattle.model.specs.declared.Query.{Query}
use Rattle.model.specs.declared.Command.{Command}
use Rattle.model.specs.declared.Command.TheVariants as command
use Rattle.model.specs.Answers.{Answer}
use Rattle.model.specs.Engine.{Engine, decode}
use Rattle.model.specs.View.{PlainNode, Row, view}
use Rattle.model.specs.Formed.{formed}
use Rattle.model.specs.Effects.{effect}
use Rattle.model.specs.Replies.{reply}
use Rattle.model.specs.Apply.{query_answer, answer_in, answer, is_accepted, written, reply_of}
use Rattle.model.specs.Plain.{Named, Plain, if_some, and_then, at_first, meaning, undefine, define_file, with_names, step_definitions, step, plain_rows}
use Rattle.model.specs.PlainReplies.{plain_reply, is_export}
use Rattle.model.specs.Frame.{displaced, touched, numbers_left, entries_left}
use Rattle.model.specs.Chain.{State, engine_in, Call, Applied, Chain, left_by, Fresh}
use Rattle.model.specs.Demands.{refusal_in, Ends, after_call, replay, made_in, made, definition_of_synth, reply_in, Same, StepHolds, NotAtLoss, EachHolds, Demand3}
use Rattle.refinement.specs.Kept.{Kept, Replayed}
use Rattle.refinement.specs.Same.{kept_same}
use Rattle.refinement.specs.Replay.{replayed}
use Rattle.demands.specs.FrameOrder.{ordered_step}
use Rattle.demands.specs.Untouched.{untouched_step}
use Rattle.demands.specs.FrameTree.{tree_holds}
use Rattle.demands.specs.Ends.{unwritten, reply_left, demand1}
use Rattle.demands.specs.Sound.{never_one}
use Rattle.demands.specs.FreshState.{fresh-state, fresh_formed, fresh_kept, fresh_synths}
use Rattle.demands.specs.MadeSynths.{controls_made, tree_made}

-- what holds along the calls: of the state, the plain tree, and what each synth's name meant
pub record Going (s : State) (p : Plain) (made_from : ℕ → Option Definition) : Type 0 where
  pub whole : formed s.words s.arena ≡ true
  pub same : Kept (engine_in s) p
  pub synths : (n : ℕ) (d : Definition) → definition_of_synth n (view (engine_in s)) ≡ some d → made_from n ≡ some d

-- the reply that is written is the plain tree's
module _ (q : Query) (bytes out : List ℕ) (e : Engine) (p : Plain) (k : Same e p) where
  plain-reply : (a : Answer) → a ≡ query_answer q bytes e (length out) → (b : Bool) → is_export q ≡ b
      → written a (reply q bytes e) out ≡ written a (pick b (reply q bytes e) (if_some (plain_reply q bytes p) (λ l. l) [])) out
  plain-reply a h true x = refl
  plain-reply a h false x = go (is_accepted a) refl
    where
      go : (y : Bool) → is_accepted a ≡ y → written a (reply q bytes e) out ≡ written a (if_some (plain_reply q bytes p) (λ l. l) []) out
      go true y =
          ap (λ (l : List ℕ). written a l out)
          (sym (ap (λ (o : Option (List ℕ)). if_some o (λ l. l) []) (k.replies q bytes (length out) x (ap is_accepted (sym h) ∙ y))))
      go false y = unwritten a (reply q bytes e) out y ∙ sym (unwritten a (if_some (plain_reply q bytes p) (λ l. l) []) out y)

plain_written : (c : Command) (bytes out : List ℕ) (e : Engine) (p : Plain) → Same e p → (a : Answer) → a ≡ answer_in c bytes e (length out)
    → written a (reply_of c bytes e) out ≡ written a (reply_in c bytes e p) out
unfolding answer_in
plain_written (command.Definitions c) bytes out e p k a h = refl
plain_written (command.Tree c) bytes out e p k a h = refl
plain_written (command.Controls c) bytes out e p k a h = refl
plain_written (command.Buses c) bytes out e p k a h = refl
plain_written (command.Query q) bytes out e p k a h = plain-reply q bytes out e p k a h (is_export q) refl

-- a command of definitions leaves the plain tree's nodes alone
same_tree : (c : DefinitionCommand) (bytes : List ℕ) (p q : Plain) → step_definitions c bytes p ≡ some q → p.tree ≡ q.tree
same_tree definitions.Receive bytes p q h = sym (go (define_file (read_file bytes) p.names)) ∙ ap (λ (o : Option Plain). if_some o (λ x. x.tree) p.tree) h
  where
    go : (o : Option (List Named)) → if_some (and_then o (λ ms. some (with_names ms p))) (λ x. x.tree) p.tree ≡ p.tree
    go none = refl
    go (some ms) = refl
same_tree definitions.Free bytes p q h = sym (go (meaning bytes p.names)) ∙ ap (λ (o : Option Plain). if_some o (λ x. x.tree) p.tree) h
  where
    go : (o : Option Definition) → if_some (and_then o (λ d. some (with_names (undefine bytes p.names) p))) (λ x. x.tree) p.tree ≡ p.tree
    go none = refl
    go (some d) = refl

-- the synths after an accepted command
made_after : (c : Command) (bytes ws bs : List ℕ) (p : Plain) → (h : formed ws bs ≡ true) → Kept (decode ws bs) p → Replayed (effect c bytes (decode ws bs)) (step c bytes p)
    → Accepted c bytes (decode ws bs) → (n : ℕ) (d : Definition) (before : Option Definition) → (definition_of_synth n (view (decode ws bs)) ≡ some d → before ≡ some d)
    → definition_of_synth n (view (effect c bytes (decode ws bs))) ≡ some d → made_in c bytes (decode ws bs) n before ≡ some d
unfolding effect step
made_after (command.Definitions c) bytes ws bs p h k r a n d before old v =
    old (ap (λ (l : List Row). definition_of_synth n l)
    ((kept_same (decode ws bs) p k).nodes ∙ ap (λ (f : Forest PlainNode). plain_rows 0 f) (same_tree c bytes p r.plain r.stepped) ∙ sym (kept_same _ _ r.kept).nodes)
    ∙ v)
made_after (command.Tree c) bytes ws bs p h k r a n d before old v = tree_made bytes _ (decode ws bs) (known_sound ws bs (known ws bs h)) n d c before a old v
made_after (command.Controls c) bytes ws bs p h k r a n d before old v = old (sym (controls_made c bytes (decode ws bs) n) ∙ v)
made_after (command.Buses c) bytes ws bs p h k r a n d before old v = old v
made_after (command.Query q) bytes ws bs p h k r a n d before old v = old v

-- after a call: the plain tree is not at a loss, and both go on
pub record GoesOn (c : Call) (p : Plain) (made_from : ℕ → Option Definition) : Type 0 where
  pub plain : Plain
  pub stepped : after_call c p ≡ some plain
  pub going : Going c.left plain made_from

-- one call
module _ (c : Call) (s : State) (a : Applied c s) (p : Plain) (made_from : ℕ → Option Definition) (g : Going s p made_from) where
  abbrev e : Engine
  e = engine_in s

  abbrev room : ℕ
  room = length c.out

  ends : Ends c s
  ends = demand1 c s a

  fit : Known s.words s.arena
  fit = known s.words s.arena g.whole

  -- the answer is the table's
  fact : c.answer ≡ answer_in c.command c.bytes (engine_in s) (length c.out)
  unfolding answer
  fact = a.answers ∙ rw g.whole

  yes : is_accepted c.answer ≡ true → is_accepted (answer_in c.command c.bytes (engine_in s) (length c.out)) ≡ true
  yes h = ap (λ (x : Answer). is_accepted x) (sym fact) ∙ h

  kept_after : is_accepted c.answer ≡ true → Replayed (effect c.command c.bytes (engine_in s)) (step c.command c.bytes p)
  kept_after h = replayed c.command c.bytes s.words s.arena p a.lent_bytes fit g.same (known_sound s.words s.arena fit).many (accepted c.bytes e c.command room (yes h))

  abbrev pub next_made : ℕ → Option Definition
  next_made n = pick (is_accepted c.answer) (made_in c.command c.bytes (engine_in s) n (made_from n)) (made_from n)

  stepped_by : (b : Bool) → is_accepted c.answer ≡ b → after_call c p ≡ pick b (step c.command c.bytes p) (some p)
  stepped_by b h = ap (λ (b : Bool). pick b (step c.command c.bytes p) (some p)) h

  pub goes_on : GoesOn c p next_made
  goes_on = go (is_accepted c.answer) refl
    where
      go : (b : Bool) → is_accepted c.answer ≡ b → GoesOn c p next_made
      go true h =
          let r = kept_after h in
          record {
            plain = r.plain;
            stepped = stepped_by true h ∙ r.stepped;
            going = record {
              whole = ends.kept h;
              same = subst (λ (x : Engine). Kept x r.plain) (sym (ends.effected h)) r.kept;
              synths = λ n d v.
                  ap (λ (b : Bool). pick b (made_in c.command c.bytes e n (made_from n)) (made_from n)) h
                  ∙ made_after c.command c.bytes s.words s.arena p g.whole g.same r (accepted c.bytes e c.command room (yes h)) n d (made_from n) (g.synths n d)
                  (ap (λ (x : Engine). definition_of_synth n (view x)) (sym (ends.effected h)) ∙ v);
            };
          }
      go false h = record {
        plain = p;
        stepped = stepped_by false h;
        going = record {
          whole = ap (λ (x : State). formed x.words x.arena) (ends.unchanged h).0 ∙ g.whole;
          same = subst (λ (x : State). Kept (engine_in x) p) (sym (ends.unchanged h).0) g.same;
          synths = λ n d v.
              ap (λ (b : Bool). pick b (made_in c.command c.bytes e n (made_from n)) (made_from n)) h
              ∙ g.synths n d (ap (λ (x : State). definition_of_synth n (view (engine_in x))) (sym (ends.unchanged h).0) ∙ v);
        };
      }

  -- what demand 3 asks of one call
  pub step_holds : StepHolds c s p
  step_holds = record {
    sound = λ h. never_one c.command c.bytes e room (ap refusal_in (sym fact) ∙ h);
    table = fact;
    replied = reply_left c s a ∙ plain_written c.command c.bytes c.out e p (kept_same e p g.same) c.answer fact;
    ordered = go (is_accepted c.answer) refl;
    untouched = still (is_accepted c.answer) refl;
  }
    where
      go : (b : Bool) → is_accepted c.answer ≡ b → numbers_left (displaced b c.command e) (view e) ≡ numbers_left (displaced b c.command e) (view (engine_in c.left))
      go true h = ordered_step c.command c.bytes s.words s.arena room a.lent_bytes g.whole (yes h) ∙ sym (ap (λ (x : Engine). numbers_left (displaced true c.command e) (view x)) (ends.effected h))
      go false h = sym (ap (λ (x : State). numbers_left (displaced false c.command e) (view (engine_in x))) (ends.unchanged h).0)

      still : (b : Bool) → is_accepted c.answer ≡ b → entries_left (touched b c.command e) e.nodes (view e) ≡ entries_left (touched b c.command e) (engine_in c.left).nodes (view (engine_in c.left))
      still true h = untouched_step c.command c.bytes s.words s.arena room a.lent_bytes g.whole (yes h) ∙ sym (ap (λ (x : Engine). entries_left (touched true c.command e) x.nodes (view x)) (ends.effected h))
      still false h = sym (ap (λ (x : State). entries_left (touched false c.command e) (engine_in x).nodes (view (engine_in x))) (ends.unchanged h).0)

-- every call of a chain, and what is kept at its end
each_holds : (cs : List Call) (s : State) → Chain cs s → (p : Plain) (made_from : ℕ → Option Definition) → Going s p made_from → EachHolds cs s p
unfolding Chain EachHolds
each_holds [] s a p made_from g = tt
each_holds (c ∷ cs) s a p made_from g =
    let next = goes_on c s a.0 p made_from g in
    (step_holds c s a.0 p made_from g, subst (λ (o : Option Plain). NotAtLoss o (λ q. EachHolds cs c.left q)) (sym next.stepped) (each_holds cs c.left a.1 next.plain (next_made c s a.0 p made_from g) next.going))

pub record End (cs : List Call) (s : State) (p : Plain) (made_from : ℕ → Option Definition) : Type 0 where
  pub plain : Plain
  pub replayed : replay cs p ≡ some plain
  pub going : Going (left_by cs s) plain (λ n. made cs s n (made_from n))

pub at_end : (cs : List Call) (s : State) → Chain cs s → (p : Plain) (made_from : ℕ → Option Definition) → Going s p made_from → End cs s p made_from
unfolding Chain left_by replay made
at_end [] s a p made_from g = record { plain = p; replayed = refl; going = g }
at_end (c ∷ cs) s a p made_from g =
    let next = goes_on c s a.0 p made_from g in
    let end = at_end cs c.left a.1 next.plain (next_made c s a.0 p made_from g) next.going in
    record { plain = end.plain; replayed = ap (λ (o : Option Plain). and_then o (λ q. replay cs q)) next.stepped ∙ end.replayed; going = end.going }

pub fresh_going : (s : State) → Fresh s → Going s at_first (λ n. none)
fresh_going s f =
    subst (λ (x : State). Going x at_first (λ n. none)) (sym (fresh-state s f)) (record { whole = fresh_formed; same = fresh_kept; synths = fresh_synths })

-- what is kept at the end of every chain from a fresh engine
pub going_on : (s : State) → Fresh s → (cs : List Call) → Chain cs s → End cs s at_first (λ n. none)
going_on s f cs a = at_end cs s a at_first (λ n. none) (fresh_going s f)

-- Demand 3: one claim about every chain of loads and commands from a fresh engine
pub demand3 : (s : State) → Fresh s → (cs : List Call) → Chain cs s → Demand3 cs s
demand3 s f cs a =
    let end = going_on s f cs a in
    record {
      each = each_holds cs s a at_first (λ n. none) (fresh_going s f);
      plain = end.plain;
      replayed = end.replayed;
      same = kept_same (engine_in (left_by cs s)) end.plain end.going.same;
      tree = tree_holds (left_by cs s).words (left_by cs s).arena end.going.whole;
      synths = end.going.synths;
    }
