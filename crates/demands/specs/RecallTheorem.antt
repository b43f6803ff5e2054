-- A recall in a session: its `/n_set`s, replayed, give what the plain tree makes of the store.
use Rattle.std.specs.Prelude.{ℕ, Bool, ◌≡◌, List, [], ◌∷◌}
use Rattle.std.proofs.Math.Bool.{true, false}
use Rattle.std.proofs.Math.Path.{refl, sym, ap}
use Rattle.std.proofs.Common.{ap₂, ◌∙◌}
use Rattle.std.proofs.Math.Option.{Option, some}
use Rattle.words.specs.Choice.{pick}
use Rattle.format.specs.Definition.{Definition}
use Rattle.nodes.specs.declared.Node.{Node}
use Rattle.nodes.specs.Place.{is_group}
use Rattle.values.specs.declared.NodeArgument.{NodeArgument}
use Rattle.values.specs.Targets.{target_of}
use Rattle.model.specs.Answers.{Answer}
use Rattle.model.specs.Engine.{Engine}
use Rattle.model.specs.Meaning.{meant_by, known_by, meant, known, node_named, node}
use Rattle.model.specs.Effects.{effect}
use Rattle.model.specs.Apply.{answer_in, answer, is_accepted}
use Rattle.model.specs.Chain.{State, engine_in, Call, Applied, Chain}
use Rattle.model.specs.Plain.{Plain, and_then, change_below}
use Rattle.model.specs.Demands.{Ends, replay}
use Rattle.lists.specs.OneByOne.{takes, after, sent}
use Rattle.store.specs.Store.{Setting}
use Rattle.settings.specs.Settings.{recall_answer}
use Rattle.settings.specs.Recalling.{stored, setting_line, setting_lines, all_sent}
use Rattle.settings.specs.PlainRecall.{recall_node, step_recall}
use Rattle.settings.specs.RecallLaws.{recall_accepted}
use Rattle.settings.specs.RecallReplay.{set_command, recall_nothing, recall_more, setting-fed, recall-fed}
use Rattle.demands.specs.Ends.{demand1}
use Rattle.demands.specs.SequenceTheorem.{Going, goes_on, next_made}
use Rattle.demands.specs.Session.{Recalled, recall, RecallsIn, calls_of, fed_by}

-- the same nodes and the same latest synth: an argument means the same node
pub record SameNodes (e e' : Engine) : Type 0 where
  pub nodes : e'.nodes ≡ e.nodes
  pub latest : e'.latest ≡ e.latest

module _ (a : NodeArgument) (e e' : Engine) (n : SameNodes e e') where
  same_known : known a e' ≡ known a e
  same_known = ap₂ (λ (m : ℕ) (t : List Node). known_by (target_of a.number) m t) n.latest n.nodes

  same_number : meant a e' ≡ meant a e
  same_number = ap (λ (m : ℕ). meant_by (target_of a.number) m) n.latest

  same_node : node a e' ≡ node a e
  same_node = ap₂ (λ (m : ℕ) (t : List Node). node_named m t) same_number n.nodes

-- a `/n_set` leaves them, accepted or not
set-stays : (a : NodeArgument) (c : Setting) (s : State) → Applied (sent (setting_line a c) s) s → SameNodes (engine_in s) (engine_in (after (setting_line a c) s))
unfolding effect
set-stays a c s d = go (takes (setting_line a c) s) refl
  where
    ends : Ends (sent (setting_line a c) s) s
    ends = demand1 (sent (setting_line a c) s) s d

    go : (b : Bool) → takes (setting_line a c) s ≡ b → SameNodes (engine_in s) (engine_in (after (setting_line a c) s))
    go true h = record { nodes = ap (λ (x : Engine). x.nodes) (ends.effected h); latest = ap (λ (x : Engine). x.latest) (ends.effected h) }
    go false h = record { nodes = ap (λ (x : State). (engine_in x).nodes) (ends.unchanged h).0; latest = ap (λ (x : State). (engine_in x).latest) (ends.unchanged h).0 }

-- settings one by one
settings_replayed : (a : NodeArgument) (cs : List Setting) (s : State) → Chain (all_sent (setting_lines a cs) s) s → (p : Plain) (made_from : ℕ → Option Definition) → Going s p made_from
    → known a (engine_in s) ≡ true → is_group (node a (engine_in s)) ≡ false
    → replay (all_sent (setting_lines a cs) s) p ≡ some (change_below (recall_node cs) (meant a (engine_in s)) p)
unfolding setting_lines all_sent Chain replay answer
settings_replayed a [] s chain p made_from g there kind = ap (λ (q : Plain). some q) (sym (recall_nothing (engine_in s) p g.same a there kind))
settings_replayed a (c ∷ cs) s chain p made_from g there kind =
    let next = goes_on (sent (setting_line a c) s) s chain.0 p made_from g in
    let stay = set-stays a c s chain.0 in
    let more = settings_replayed a cs (after (setting_line a c) s) chain.1 next.plain (next_made (sent (setting_line a c) s) s chain.0 p made_from g) next.going
    (same_known a (engine_in s) (engine_in (after (setting_line a c) s)) stay ∙ there)
    (ap is_group (same_node a (engine_in s) (engine_in (after (setting_line a c) s)) stay) ∙ kind) in
    ap (λ (o : Option Plain). and_then o (λ q. replay (all_sent (setting_lines a cs) (after (setting_line a c) s)) q)) next.stepped
    ∙ more
    ∙ ap₂ (λ (m : ℕ) (q : Plain). some (change_below (recall_node cs) m q)) (same_number a (engine_in s) (engine_in (after (setting_line a c) s)) stay)
    (setting-fed (engine_in s) p g.same a there kind c (takes (setting_line a c) s) (sym answered) next.plain next.stepped)
    ∙ ap (λ (q : Plain). some q) (recall_more c cs (meant a (engine_in s)) p)
  where
    answered : takes (setting_line a c) s ≡ is_accepted (answer_in (set_command a c) c.name (engine_in s) 0)
    answered = rw g.whole

-- a recall: the plain tree that is fed the store goes the way of the commands
module _ (m : Recalled) (s : State) (r : RecallsIn m s) (p : Plain) (made_from : ℕ → Option Definition) (g : Going s p made_from) where
  abbrev judged : Answer
  judged = recall_answer m.name m.number m.node m.store s.words s.arena

  abbrev all : List Call
  all = all_sent (setting_lines m.node (stored m.name m.number m.store)) s

  pub recall_feeds : fed_by (recall m) s p ≡ replay (calls_of (recall m) s) p
  unfolding replay
  recall_feeds = ap (λ (x : Answer). pick (is_accepted x) (step_recall m.name m.number m.node m.store p) (some p)) r.recalls.answers ∙ go (is_accepted judged) refl r.recalls.chain
    where
      go : (b : Bool) → is_accepted judged ≡ b → Chain (pick b all []) s
          → pick b (step_recall m.name m.number m.node m.store p) (some p) ≡ replay (pick b all []) p
      go true h chain =
          let passed = recall_accepted m.name m.number m.node m.store s.words s.arena g.whole h in
          recall-fed (engine_in s) p g.same m.node passed.node_known passed.node_kind m.name m.number m.store passed
          ∙ sym (settings_replayed m.node (stored m.name m.number m.store) s chain p made_from g passed.node_known passed.node_kind)
      go false h chain = refl
