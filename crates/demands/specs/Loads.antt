-- Demand 2: loads and exports by calls.
use Rattle.std.specs.Prelude.{ℕ, ◌≡◌, refl, Bool, true, false, List, length, ltb}
use Rattle.std.proofs.Common.{sym, ap, ap₂, ◌∙◌, subst, lt-ltb, le-ltb}
use Rattle.words.specs.Choice.{pick}
use Rattle.refusals.specs.declared.Refusal.TheVariants.{NoRoom}
use Rattle.model.specs.declared.Query.TheVariants as query
use Rattle.model.specs.declared.Command.{Command}
use Rattle.model.specs.Answers.{Answer}
use Rattle.model.specs.Answers.{Done, Replied, Refused}
use Rattle.model.specs.Engine.{Engine, decode}
use Rattle.model.specs.Formed.{formed}
use Rattle.model.specs.Checks.{first_of}
use Rattle.model.specs.Replies.{export_file, reply_to, reply}
use Rattle.model.specs.After.{words_after, arena_after, fresh_state, fresh_arena}
use Rattle.model.specs.Apply.{query_answer, answer_in, answer, is_accepted, written, reply_of, Does}
use Rattle.model.specs.Chain.{State, engine_in, Call, Applied, Chain, Fresh}
use Rattle.model.specs.Demands.{meaning_in, refusal_in, receive, export, Exports, SameLoads, Written, twin, Demand2}
use Rattle.demands.specs.ReloadTheorem.{exported_file, exported_same, accepted, meant_same}
use Rattle.demands.specs.Twins.{same_load}
use Rattle.roundtrip.specs.Twin.{Agree, twin-agrees}
use Rattle.format.specs.Definition.{Definition}
use Rattle.format.specs.Reader.{read_file}
use Rattle.demands.specs.Ends.{reply_left, demand1}
use Rattle.demands.specs.FreshState.{fresh-state, fresh_formed}

export_reply : (bytes : List ℕ) (e : Engine) → reply query.Export bytes e ≡ export_file e.slots
unfolding reply_to
export_reply bytes e = refl

export_answer : (bytes : List ℕ) (e : Engine) (room : ℕ)
    → answer_in export bytes e room ≡ pick (ltb room (length (export_file e.slots))) (Refused NoRoom) (Replied (length (export_file e.slots)))
unfolding answer_in query_answer first_of reply_to
export_answer bytes e room = refl

-- an export in a well-formed state
module _ (c : Call) (s : State) (whole : formed s.words s.arena ≡ true) (is : c.command ≡ export) (a : Applied c s) where
  abbrev file : List ℕ
  file = export_file (engine_in s).slots

  answered : c.answer ≡ pick (ltb (length c.out) (length file)) (Refused NoRoom) (Replied (length file))
  unfolding answer
  answered =
      a.answers
      ∙ rw whole (ap (λ (k : Command). answer_in k c.bytes (engine_in s) (length c.out)) is)
      ∙ export_answer c.bytes (engine_in s) (length c.out)

  replied : c.reply ≡ written c.answer file c.out
  replied =
      reply_left c s a
      ∙ ap (λ (k : Command). written c.answer (reply_of k c.bytes (engine_in s)) c.out) is
      ∙ ap (λ (l : List ℕ). written c.answer l c.out) (export_reply c.bytes (engine_in s))

  pub exports : Exports (export_file (engine_in s).slots) c
  exports = record {
    room = λ h.
        let e : c.answer ≡ Replied (length file) = answered ∙ rw (le-ltb (length c.out) (length file) h) in
        (e, replied ∙ ap (λ (x : Answer). written x file c.out) e);
    no_room = λ h.
        let e : c.answer ≡ Refused NoRoom = answered ∙ rw (lt-ltb (length c.out) (length file) h) in
        (e, replied ∙ ap (λ (x : Answer). written x file c.out) e);
  }

-- a load into a fresh engine
abbrev pub LoadsFresh : List ℕ → Call → Type 0
LoadsFresh file c = Does receive file fresh_state fresh_arena c.out c.answer c.left.words c.left.arena c.reply

pub load_by : (c : Call) (s : State) → Fresh s → c.command ≡ receive → Applied c s → LoadsFresh c.bytes c
load_by c s f is a =
    subst (λ (x : State). Does receive c.bytes x.words x.arena c.out c.answer c.left.words c.left.arena c.reply) (fresh-state s f)
    (subst (λ (k : Command). Does k c.bytes s.words s.arena c.out c.answer c.left.words c.left.arena c.reply) is a)

module _ (file : List ℕ) (c : Call) (d : LoadsFresh file c) where
  pub load_answer : c.answer ≡ answer_in receive file (decode fresh_state fresh_arena) 0
  unfolding answer answer_in
  load_answer = d.answers ∙ rw fresh_formed

  pub load_left : c.answer ≡ Done → engine_in c.left ≡ decode (words_after receive file fresh_state fresh_arena) (arena_after receive file fresh_state fresh_arena)
  load_left h =
      let g : is_accepted (answer receive file fresh_state fresh_arena c.out) ≡ true = ap is_accepted (sym d.answers ∙ h) in
      ap₂ decode (d.words ∙ rw g) (d.arena ∙ rw g)

-- two loads into one state, of a file and of its twin
received : (c : Call) (s : State) → c.command ≡ receive → Applied c s → Does receive c.bytes s.words s.arena c.out c.answer c.left.words c.left.arena c.reply
received c s is a = subst (λ (k : Command). Does k c.bytes s.words s.arena c.out c.answer c.left.words c.left.arena c.reply) is a

-- a load asks nothing of the reply buffer
any_room : (bytes words arena out out' : List ℕ) → answer receive bytes words arena out ≡ answer receive bytes words arena out'
unfolding answer answer_in
any_room bytes words arena out out' = refl

twin_loads : (load other : Call) (s : State) → load.command ≡ receive → other.command ≡ receive → Applied load s → Applied other s
    → (ds : List Definition) (end : ℕ) → Written load.bytes ds end → other.bytes ≡ twin load.bytes ds end → SameLoads load other
twin_loads load other s is is' a a' ds end w same =
    let d = received load s is a in
    let d' = received other s is' a' in
    let agree = twin-agrees load.bytes d.lent_bytes w.begins w.read w.inside in
    let t = same_load load.bytes other.bytes s.words s.arena load.out (subst (λ (l : List ℕ). Agree (read_file load.bytes) (read_file l)) (sym same) agree) in
    let room = any_room other.bytes s.words s.arena load.out other.out in
    let accepted : is_accepted (answer receive load.bytes s.words s.arena load.out) ≡ is_accepted (answer receive other.bytes s.words s.arena other.out) = t.accepted ∙ ap is_accepted room in
    record {
      number = ap refusal_in d.answers ∙ t.number ∙ ap refusal_in (room ∙ sym d'.answers);
      left = ap₂ (λ (x y : List ℕ). record { words = x; arena = y }) (d.words ∙ by _ _ _ _ s.words (λ h. (t.left h).0) accepted ∙ sym d'.words) (d.arena ∙ by _ _ _ _ s.arena (λ h. (t.left h).1) accepted ∙ sym d'.arena);
    }
  where
    by : (a b : Bool) (x y z : List ℕ) → (a ≡ true → x ≡ y) → a ≡ b → pick a x z ≡ pick b y z
    by true b x y z f e = rw (sym e) (f refl)
    by false b x y z f e = rw (sym e)

pub demand2 : Demand2
unfolding Chain
demand2 = record {
  exported = λ s f load next is is' a h.
      let d = load_by load s f is a.0 in
      let left = ap (λ (e : Engine). export_file e.slots) (load_left load.bytes load d h) ∙ exported_file load.bytes d.lent_bytes (sym (load_answer load.bytes load d) ∙ h) in
      subst (λ (l : List ℕ). Exports l next) left (exports next load.left ((demand1 load s a.0).kept (ap is_accepted h)) is' a.1.0);
  same = λ s f load next is is' a h v.
      let d = load_by load s f is a.0 in
      let answered = sym (load_answer load.bytes load d) ∙ h in
      let left = ap (λ (e : Engine). export_file e.slots) (load_left load.bytes load d h) ∙ exported_file load.bytes d.lent_bytes answered ∙ exported_same load.bytes d.lent_bytes answered v in
      subst (λ (l : List ℕ). Exports l next) left (exports next load.left ((demand1 load s a.0).kept (ap is_accepted h)) is' a.1.0);
  twins = λ s load other is is' a a' ds end w same. twin_loads load other s is is' a a' ds end w same;
  loaded = λ s whole c is a. record {
    file = export_file (engine_in s).slots;
    exports = exports c s whole is a;
    loads = λ t f load is' same a'.
        let d = subst (λ (l : List ℕ). LoadsFresh l load) same (load_by load t f is' a') in
        let h : load.answer ≡ Done = load_answer _ load d ∙ accepted s.words s.arena a.lent_arena whole in
        (h, λ name. ap (λ (e : Engine). meaning_in name e) (load_left _ load d h) ∙ meant_same s.words s.arena a.lent_arena whole name);
  };
}
