-- The replies of integers and floats, as the functions send them.
use Rattle.std.specs.Prelude.{ℕ, true, false, ◌≡◌, refl, List, [], ◌∷◌, get_or}
use Rattle.refusals.specs.declared.Refusal.TheVariants.{NoBus}
use Rattle.osc.specs.Message.{int, float, message, tags, arguments}
use Rattle.model.specs.declared.Query.TheVariants as query
use Rattle.model.specs.Answers.{Answer}
use Rattle.model.specs.Answers.{Refused}
use Rattle.model.specs.Layout.{buses_in}
use Rattle.model.specs.Engine.{Engine, decode}
use Rattle.model.specs.Meaning.{is_bus}
use Rattle.model.specs.Checks.{first_of, query_checks}
use Rattle.model.specs.Replies.{reply, reply_to, bus_address}
use Rattle.replies.specs.Words.{word_bytes}
use Rattle.replies.specs.Sent.{word_message}

-- /c_get
abbrev pub bus_tags : List ℕ
bus_tags = 44 ∷ (105 ∷ (102 ∷ []))

pub bus_message : (bus value : ℕ) → word_message bus_address bus_tags (bus ∷ (value ∷ [])) ≡ message bus_address (int bus ∷ (float value ∷ []))
unfolding word_bytes tags arguments
bus_message bus value = refl

pub bus-reply : (bus : ℕ) (bytes ws bs : List ℕ) → word_message bus_address bus_tags (bus ∷ (get_or (buses_in ws) bus 0 ∷ [])) ≡ reply (query.Bus bus) bytes (decode ws bs)
unfolding reply_to decode
bus-reply bus bytes ws bs = bus_message bus (get_or (buses_in ws) bus 0)

pub bus_fires : (bus : ℕ) (bytes : List ℕ) (e : Engine) → is_bus bus ≡ false → (a : Answer) → first_of (query_checks (query.Bus bus) bytes e) a ≡ Refused NoBus
unfolding first_of
bus_fires bus bytes e h a = rw h

pub bus_passes : (bus : ℕ) (bytes : List ℕ) (e : Engine) → is_bus bus ≡ true → (a : Answer) → first_of (query_checks (query.Bus bus) bytes e) a ≡ a
unfolding first_of
bus_passes bus bytes e h a = rw h
