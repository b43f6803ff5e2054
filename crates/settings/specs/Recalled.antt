-- A recall along the settings of its version: each is a call of `/n_set`, and what is left of them leaves, from the present state, what all leave from
-- the first.
use Prim.{tt}
use Rattle.std.specs.Prelude.{ℕ, ◌+◌, ◌-◌, ◌<◌, ◌≤◌, Bool, true, false, ◌≡◌, length, drop}
use Rattle.std.proofs.Math.Path.{refl, sym, ap, subst}
use Rattle.std.proofs.Common.{ap₂, ◌∙◌, arith}
use mathlib.Core.List.{List, [], ◌∷◌}
use Rattle.std.proofs.Math.Option.{Option, none, some}
use Rattle.words.specs.Choice.{pick}
use Rattle.words.specs.Parts.{region}
use Rattle.words.specs.Bytes.{AreBytes}
use Rattle.refusals.specs.declared.Refusal.{Refusal}
use Rattle.refusals.specs.declared.Refusal.TheVariants.{NoVersion}
use Rattle.format.specs.Fields.{word}
use Rattle.nodes.specs.Place.{is_group}
use Rattle.values.specs.declared.Key.TheVariants.{Name}
use Rattle.values.specs.declared.Value.TheVariants.{Float}
use Rattle.values.specs.declared.NodeArgument.{NodeArgument}
use Rattle.model.specs.declared.ControlCommand.TheVariants as controls
use Rattle.model.specs.Answers.{Answer}
use Rattle.model.specs.Answers.{Done, Refused}
use Rattle.model.specs.Engine.{decode}
use Rattle.model.specs.Meaning.{node}
use Rattle.model.specs.Formed.{formed}
use Rattle.model.specs.Checks.{first_of}
use Rattle.model.specs.Apply.{is_accepted}
use Rattle.model.specs.Chain.{State, Call, Applied, Chain, left_by}
use Rattle.model.specs.Script.{Line}
use Rattle.state.specs.Does.{controls_do}
use Rattle.names.specs.Here.{node_here}
use Rattle.definitions.specs.Exporting.{bytes_take, bytes_drop}
use Rattle.model.specs.Layout.{record_in}
use Rattle.controlcommands.specs.Steps.{Steps}
use Rattle.lists.specs.OneByOne.{takes, after, sent, lent_state}
use Rattle.lists.specs.Running.{stays}
use Rattle.tagged.specs.Fields.{head_size, size_in}
use Rattle.store.specs.Store.{Setting, Version, number_size, entries_of}
use Rattle.store.specs.Writing.{version_in}
use Rattle.store.specs.Places.{SettingsStand, VersionStands}
use Rattle.settings.specs.Settings.{is_none, version_check, recall_answer}
use Rattle.settings.specs.Recalling.{settings_by, stored, setting_line, setting_lines, all_sent, recall_calls, Recalls}
use Rattle.settings.specs.Synths.{SynthFound, SynthRefused}
use Rattle.settings.specs.Standing.{NextSetting, next_stands, none_stands}

-- one setting set
pub record SettingSet (a : NodeArgument) (c : Setting) (ws bs ws' : List ℕ) : Type 0 where
  pub applied : Applied (sent (setting_line a c) (lent_state ws bs)) (lent_state ws bs)
  pub left : lent_state ws' bs ≡ after (setting_line a c) (lent_state ws bs)

pub setting-set : (a : NodeArgument) (c : Setting) (ws bs : List ℕ) (r : Answer) (ws' : List ℕ) → AreBytes c.name → AreBytes bs → formed ws bs ≡ true
    → Steps (controls.Set a Name (Float c.float)) c.name ws bs r ws' → SettingSet a c ws bs ws'
setting-set a c ws bs r ws' lent kept h s =
    let d = controls_do c.name ws bs [] r lent kept (controls.Set a Name (Float c.float)) ws' h s in
    record {
      applied = record { answers = refl; words = refl; arena = refl; reply = refl; lent_bytes = lent; lent_arena = kept };
      left = ap₂ lent_state d.words d.arena;
    }

-- the setting that the field at a place tells, whose contents have so many bytes
abbrev pub setting_at : List ℕ → ℕ → ℕ → Setting
setting_at store at size = record {
  name = region (at + head_size) (size - number_size) store;
  float = word store (at + head_size + (size - number_size));
}

pub set_done : (a : NodeArgument) (store ws bs : List ℕ) (at size float : ℕ) (r : Answer) (ws' : List ℕ) → AreBytes store → AreBytes bs → formed ws bs ≡ true
    → float ≡ word store (at + head_size + (size - number_size))
    → Steps (controls.Set a Name (Float float)) (region (at + head_size) (at + head_size + (size - number_size) - (at + head_size)) store) ws bs r ws'
    → SettingSet a (setting_at store at size) ws bs ws'
set_done a store ws bs at size float r ws' clean kept h is s =
    let n : at + head_size + (size - number_size) - (at + head_size) ≡ size - number_size = omega arith in
    setting-set a (setting_at store at size) ws bs r ws'
    (bytes_take (size - number_size) (drop (at + head_size) store) (bytes_drop (at + head_size) store clean)) kept h
    (subst (λ (x : ℕ). Steps (controls.Set a Name (Float x)) (region (at + head_size) (size - number_size) store) ws bs r ws') is
    (subst (λ (k : ℕ). Steps (controls.Set a Name (Float float)) (region (at + head_size) k store) ws bs r ws') n s))

-- after a command that is accepted or not the state is well formed
pub line_stays : (l : Line) (ws bs : List ℕ) → AreBytes l.bytes → formed ws bs ≡ true → formed (after l (lent_state ws bs)).words (after l (lent_state ws bs)).arena ≡ true
line_stays l ws bs lent h = go (takes l (lent_state ws bs)) refl
  where
    go : (b : Bool) → takes l (lent_state ws bs) ≡ b → formed (after l (lent_state ws bs)).words (after l (lent_state ws bs)).arena ≡ true
    go true t = stays l ws bs lent h t
    go false t = rw t h

-- all settings of a version
abbrev pub lines_for : List ℕ → ℕ → NodeArgument → List ℕ → List Line
lines_for name number a store = setting_lines a (stored name number store)

pub record VersionSet (name : List ℕ) (number : ℕ) (a : NodeArgument) (store ws bs : List ℕ) (r : Answer) (ws' : List ℕ) : Type 0 where
  pub answers : r ≡ pick (is_none (version_in name number (entries_of store))) (Refused NoVersion) Done
  pub left : lent_state ws' bs ≡ left_by (all_sent (lines_for name number a store) (lent_state ws bs)) (lent_state ws bs)
  pub chain : Chain (all_sent (lines_for name number a store) (lent_state ws bs)) (lent_state ws bs)

pub no_version : (name : List ℕ) (number : ℕ) (a : NodeArgument) (store ws bs : List ℕ) → version_in name number (entries_of store) ≡ none
    → VersionSet name number a store ws bs (Refused NoVersion) ws
unfolding setting_lines all_sent left_by Chain
no_version name number a store ws bs h = record { answers = rw h; left = rw h; chain = rw h tt }

-- what is left of the settings, which stand in the store from a place on
pub record RestToSet (name : List ℕ) (number : ℕ) (a : NodeArgument) (store ws₀ bs : List ℕ) (end at : ℕ) (ws : List ℕ) : Type 0 where
  pub rest : List Setting
  pub stand : SettingsStand store at end rest
  pub whole : formed ws bs ≡ true
  pub left : left_by (all_sent (lines_for name number a store) (lent_state ws₀ bs)) (lent_state ws₀ bs)
      ≡ left_by (all_sent (setting_lines a rest) (lent_state ws bs)) (lent_state ws bs)
  pub chain : Chain (all_sent (setting_lines a rest) (lent_state ws bs)) (lent_state ws bs)
      → Chain (all_sent (lines_for name number a store) (lent_state ws₀ bs)) (lent_state ws₀ bs)

module _ (name : List ℕ) (number : ℕ) (a : NodeArgument) (store ws₀ bs : List ℕ) where
  abbrev calls₀ : List Call
  calls₀ = all_sent (lines_for name number a store) (lent_state ws₀ bs)

  module _ (start end : ℕ) (v : VersionStands name number store start end) where
    settings_are : stored name number store ≡ v.version.settings
    settings_are = ap settings_by v.there

    pub set_begins : formed ws₀ bs ≡ true → RestToSet name number a store ws₀ bs end start ws₀
    set_begins h = record {
      rest = v.version.settings;
      stand = v.settings;
      whole = h;
      left = ap (λ (cs : List Setting). left_by (all_sent (setting_lines a cs) (lent_state ws₀ bs)) (lent_state ws₀ bs)) settings_are;
      chain = λ k. subst (λ (cs : List Setting). Chain (all_sent (setting_lines a cs) (lent_state ws₀ bs)) (lent_state ws₀ bs)) (sym settings_are) k;
    }

    pub set_ends : (at : ℕ) (ws : List ℕ) → RestToSet name number a store ws₀ bs end at ws → end ≤ at → VersionSet name number a store ws₀ bs Done ws
    unfolding setting_lines all_sent left_by Chain
    set_ends at ws r past =
        let none-left = none_stands store at end r.rest r.stand past in
        record {
          answers = rw v.there;
          left = sym (r.left ∙ ap (λ (cs : List Setting). left_by (all_sent (setting_lines a cs) (lent_state ws bs)) (lent_state ws bs)) none-left);
          chain = r.chain (subst (λ (cs : List Setting). Chain (all_sent (setting_lines a cs) (lent_state ws bs)) (lent_state ws bs)) (sym none-left) tt);
        }

  module _ (end at : ℕ) (ws : List ℕ) (r : RestToSet name number a store ws₀ bs end at ws) (n : NextSetting store at end r.rest) (ws' : List ℕ)
      (set : SettingSet a n.first ws bs ws') where
    abbrev sets : Line
    sets = setting_line a n.first

    step_left : left_by (all_sent (setting_lines a r.rest) (lent_state ws bs)) (lent_state ws bs) ≡ left_by (all_sent (setting_lines a n.more) (lent_state ws' bs)) (lent_state ws' bs)
    unfolding setting_lines all_sent left_by
    step_left =
        ap (λ (cs : List Setting). left_by (all_sent (setting_lines a cs) (lent_state ws bs)) (lent_state ws bs)) n.split
        ∙ ap (λ (s : State). left_by (all_sent (setting_lines a n.more) s) s) (sym set.left)

    step_chain : Chain (all_sent (setting_lines a n.more) (lent_state ws' bs)) (lent_state ws' bs) → Chain (all_sent (setting_lines a r.rest) (lent_state ws bs)) (lent_state ws bs)
    unfolding setting_lines all_sent Chain
    step_chain k =
        subst (λ (cs : List Setting). Chain (all_sent (setting_lines a cs) (lent_state ws bs)) (lent_state ws bs)) (sym n.split)
        (set.applied, subst (λ (s : State). Chain (all_sent (setting_lines a n.more) s) s) set.left k)

    pub set_goes : RestToSet name number a store ws₀ bs end (at + (head_size + size_in (drop at store))) ws'
    set_goes = record {
      rest = n.more;
      stand = n.rest;
      whole =
          ap (λ (s : State). formed s.words s.arena) set.left
          ∙ line_stays sets ws bs set.applied.lent_bytes r.whole;
      left = r.left ∙ step_left;
      chain = λ k. r.chain (step_chain k);
    }

  -- the first of them, by its field
  module _ (end at : ℕ) (ws : List ℕ) (r : RestToSet name number a store ws₀ bs end at ws) (less : at < end) (size : ℕ) (is : size ≡ size_in (drop at store)) where
    next : NextSetting store at end r.rest
    next = next_stands store at end r.rest r.stand less

    pub next_long : number_size ≤ size
    next_long = omega (arith, is, next.long)

    pub next_past : at + (head_size + size) ≤ end
    next_past = omega (arith, is, next.past)

    pub next_inside : at + (head_size + size) ≤ length store
    next_inside = omega (arith, next_past, r.stand.inside)

    pub set_next : (ws' : List ℕ) → SettingSet a (setting_at store at size) ws bs ws' → RestToSet name number a store ws₀ bs end (at + (head_size + size)) ws'
    set_next ws' set =
        let same : setting_at store at size ≡ next.first =
        ap (setting_at store at) is ∙ ap₂ (λ (l : List ℕ) (x : ℕ). record { name = l; float = x }) next.name next.float in
        subst (λ (k : ℕ). RestToSet name number a store ws₀ bs end (at + (head_size + k)) ws') (sym is)
        (set_goes end at ws r next ws' (subst (λ (c : Setting). SettingSet a c ws bs ws') same set))

-- a recall by its checks
module _ (name : List ℕ) (number : ℕ) (a : NodeArgument) (store ws bs : List ℕ) (kept : AreBytes bs) where
  refused : (r : Refusal) → recall_answer name number a store ws bs ≡ Refused r → Recalls name number a store ws bs (Refused r) ws
  unfolding left_by Chain
  refused r h = record { answers = sym h; words = rw h; arena = rw h; chain = rw h tt; lent_arena = kept }

  pub recall_unfit : (r : Refusal) → SynthRefused a ws bs store r → Recalls name number a store ws bs (Refused r) ws
  unfolding recall_answer
  recall_unfit r n = refused r (n.answer (version_check name number store ∷ []))

  module _ (at : ℕ) (k : SynthFound a ws bs store at) where
    kind : is_group (node a (decode ws bs)) ≡ is_group (record_in ws at)
    kind = ap is_group (node_here a ws at k.found bs)

    answered : recall_answer name number a store ws bs ≡ pick (is_none (version_in name number (entries_of store))) (Refused NoVersion) Done
    unfolding recall_answer first_of
    answered = rw (k.whole, k.stands, k.found.passes bs, kind, k.single)

    -- where there is no such version there are no calls
    calls-by : (o : Option Version) → version_in name number (entries_of store) ≡ o
        → pick (is_accepted (pick (is_none o) (Refused NoVersion) Done)) (all_sent (lines_for name number a store) (lent_state ws bs)) []
        ≡ all_sent (lines_for name number a store) (lent_state ws bs)
    unfolding setting_lines all_sent
    calls-by none e = rw e
    calls-by (some v) e = refl

    calls_are : recall_calls name number a store (lent_state ws bs) ≡ all_sent (lines_for name number a store) (lent_state ws bs)
    calls_are =
        ap (λ (x : Answer). pick (is_accepted x) (all_sent (lines_for name number a store) (lent_state ws bs)) []) answered
        ∙ calls-by (version_in name number (entries_of store)) refl

    pub recall-set : (r : Answer) (ws' : List ℕ) → VersionSet name number a store ws bs r ws' → Recalls name number a store ws bs r ws'
    recall-set r ws' v =
        let left = v.left ∙ ap (λ (cs : List Call). left_by cs (lent_state ws bs)) (sym calls_are) in
        record {
          answers = v.answers ∙ sym answered;
          words = ap (λ (s : State). s.words) left;
          arena = ap (λ (s : State). s.arena) left;
          chain = subst (λ (cs : List Call). Chain cs (lent_state ws bs)) (sym calls_are) v.chain;
          lent_arena = kept;
        }
