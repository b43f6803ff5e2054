-- What a message stands for, once the arguments are taken that its op asks for.
use Rattle.std.specs.Prelude.{ℕ, ◌≡◌, List, length, drop, eqb, Result}
use Rattle.words.specs.Choice.{pick}
use Rattle.messages.specs.Form.{Parse, parsed, faulty, and_then, string_at, headed, arguments_at, Message}
use Rattle.osc.specs.Message.{Argument}
use Rattle.refusals.specs.declared.Refusal.{Refusal}
use Rattle.calls.specs.Ops.{command_in}
use Rattle.messages.specs.declared.Received.{Received}
use Rattle.messages.specs.Table.{Given}
use Rattle.messages.specs.Receive.{Meaning, malformed, calls, handed, Within}

abbrev pub end_of : List ℕ → Parse Given → Meaning
end_of s (parsed g end) = pick (eqb end (length s)) (calls (command_in g.numbers) g.bytes) malformed
end_of s faulty = malformed

-- the message of an address and its arguments, where they end with the bytes
abbrev pub message_end : List ℕ → List ℕ → List Argument → ℕ → Parse Message
message_end s address args end = pick (eqb end (length s)) (parsed (record { address = address; arguments = args }) end) faulty

-- what stands behind the tag string, and behind the address
abbrev pub after_tags : List ℕ → List ℕ → List ℕ → ℕ → Parse Message
after_tags s address tags start = and_then (arguments_at (drop 1 tags) s start) (message_end s address)

abbrev pub after_address : List ℕ → List ℕ → ℕ → Parse Message
after_address s address next = and_then (headed 44 (string_at s next)) (after_tags s address)

-- an answer that hands a meaning on
pub record Stands (s : List ℕ) (m : Meaning) (r : Result Received Refusal) : Type 0 where
  pub stands : m ≡ handed s r
  pub within : Within s r
