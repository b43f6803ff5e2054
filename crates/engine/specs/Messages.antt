-- A message at the engine: what it does, by what the reader handed on.
use Rattle.std.specs.Prelude.{ℕ, ◌-◌, true, false, ◌≡◌, refl, List, drop, Result, Ok, Err}
use Rattle.std.proofs.Common.{sym, subst}
use Rattle.words.specs.Bytes.{AreBytes}
use Rattle.words.specs.Parts.{region}
use Rattle.refusals.specs.declared.Refusal.{Refusal}
use Rattle.refusals.specs.declared.Refusal.TheVariants.{BadState}
use Rattle.model.specs.Answers.{Answer}
use Rattle.model.specs.Answers.{Refused}
use Rattle.model.specs.Formed.{formed}
use Rattle.model.specs.Apply.{Does}
use Rattle.state.specs.Does.{does_bad}
use Rattle.definitions.specs.Exporting.{bytes_take, bytes_drop}
use Rattle.messages.specs.declared.Received.{Received}
use Rattle.messages.specs.Receive.{Meaning, handed, Reads}
use Rattle.messages.specs.Sent.{Refuses, Serves, Sends}

pub part_bytes : (start end : ℕ) (s : List ℕ) → AreBytes s → AreBytes (region start (end - start) s)
part_bytes start end s h = bytes_take (end - start) (drop start s) (bytes_drop start s h)

module _ (s ws bs out : List ℕ) (lent : AreBytes s) (kept : AreBytes bs) where
  sends : (r : Result Received Refusal) → Reads s r → (a : Answer) (ws' bs' out' : List ℕ) → Serves (handed s r) ws bs out a ws' bs' out' → Sends s ws bs out a ws' bs' out'
  sends r h a ws' bs' out' v = record {
    serves = subst (λ (m : Meaning). Serves m ws bs out a ws' bs' out') (sym h.stands) v;
    lent_message = lent;
    lent_arena = kept;
  }

  -- "Both come before all others but 1"
  bad_refuses : (r : Refusal) → formed ws bs ≡ false → Refuses r ws bs out (Refused BadState) ws bs out
  bad_refuses r h = record { answers = rw h; words = refl; arena = refl; reply = refl }

  bad_serves : (r : Result Received Refusal) → formed ws bs ≡ false → Serves (handed s r) ws bs out (Refused BadState) ws bs out
  bad_serves (Err e) h = bad_refuses e h
  bad_serves (Ok r) h = does_bad r.command (region r.start (r.end - r.start) s) ws bs out (part_bytes r.start r.end s lent) kept h

  pub sends_bad : (r : Result Received Refusal) → Reads s r → formed ws bs ≡ false → Sends s ws bs out (Refused BadState) ws bs out
  sends_bad r h bad = sends r h (Refused BadState) ws bs out (bad_serves r bad)

  own-refuses : (r : Refusal) → formed ws bs ≡ true → Refuses r ws bs out (Refused r) ws bs out
  own-refuses r h = record { answers = rw h; words = refl; arena = refl; reply = refl }

  pub sends_refused : (r : Result Received Refusal) → Reads s r → (e : Refusal) → r ≡ Err e → formed ws bs ≡ true → Sends s ws bs out (Refused e) ws bs out
  sends_refused r h e is whole =
      sends r h (Refused e) ws bs out
      (subst (λ (x : Result Received Refusal). Serves (handed s x) ws bs out (Refused e) ws bs out) (sym is) (own-refuses e whole))

  pub sends_command : (r : Result Received Refusal) → Reads s r → (x : Received) → r ≡ Ok x → (a : Answer) (ws' bs' out' : List ℕ)
      → Does x.command (region x.start (x.end - x.start) s) ws bs out a ws' bs' out' → Sends s ws bs out a ws' bs' out'
  sends_command r h x is a ws' bs' out' d =
      sends r h a ws' bs' out' (subst (λ (y : Result Received Refusal). Serves (handed s y) ws bs out a ws' bs' out') (sym is) d)
