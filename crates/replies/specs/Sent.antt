-- A reply's bytes sent: into a buffer with room for them, from its first byte on.
use Rattle.std.specs.Prelude.{ℕ, ◌+◌, ◌*◌, ◌-◌, ◌%◌, ◌≤◌, ◌<◌, ◌≡◌, List, [], ◌∷◌, ◌++◌, length}
use Rattle.std.proofs.Math.Path.{refl, sym}
use Rattle.std.proofs.Common.{ap, ◌∙◌, arith, length-append, lt-ltb, le-ltb}
use Rattle.refusals.specs.declared.Refusal.TheVariants.{NoRoom}
use Rattle.words.specs.Bytes.{bytes32}
use Rattle.osc.specs.Message.{padded}
use Rattle.words.specs.Parts.{over}
use Rattle.osc.specs.Over.{over_first}
use Rattle.model.specs.Answers.{Answer}
use Rattle.model.specs.Answers.{Replied, Refused}
use Rattle.model.specs.Checks.{first_of, room_check}
use Rattle.model.specs.Apply.{written}
use Rattle.osc.specs.Lengths.{padded_size}
use Rattle.replies.specs.Words.{word_bytes, word_bytes_size}

-- the answer to a query that nothing but a short buffer can refuse
unfoldable pub sent : List ℕ → ℕ → Answer
sent bytes room = first_of (room_check bytes room ∷ []) (Replied (length bytes))

pub record Sends (bytes out : List ℕ) (a : Answer) (out' : List ℕ) : Type 0 where
  pub answers : a ≡ sent bytes (length out)
  pub reply : out' ≡ written a bytes out

module _ (bytes out : List ℕ) where
  pub sends_none : length out < length bytes → Sends bytes out (Refused NoRoom) out
  unfolding sent first_of
  sends_none h = record { answers = rw (lt-ltb (length out) (length bytes) h); reply = refl }

  pub sends_all : (size : ℕ) (out' : List ℕ) → size ≡ length bytes → length bytes ≤ length out → out' ≡ over 0 bytes out → Sends bytes out (Replied size) out'
  unfolding sent first_of
  sends_all size out' e h o = record {
    answers = rw (le-ltb (length out) (length bytes) h) (ap Replied e);
    reply = o ∙ over_first bytes out ∙ sym (ap (λ (k : ℕ). written (Replied k) bytes out) e);
  }

-- a message of words, by its address and its tags
abbrev pub word_message : List ℕ → List ℕ → List ℕ → List ℕ
word_message address tags ws = padded address ++ (padded tags ++ word_bytes ws)

-- a message of an integer, a string and a float
abbrev pub set_address : List ℕ
set_address = 47 ∷ (110 ∷ (95 ∷ (115 ∷ (101 ∷ (116 ∷ [])))))

abbrev pub named_tags : List ℕ
named_tags = 44 ∷ (105 ∷ (115 ∷ (102 ∷ [])))

abbrev pub named_message : ℕ → List ℕ → ℕ → List ℕ
named_message number name value = word_message set_address named_tags (number ∷ []) ++ (padded name ++ bytes32 value)

pub named_size : (number : ℕ) (name : List ℕ) (value : ℕ) → length (named_message number name value) ≡ 24 + (length name + (4 - length name % 4))
unfolding word_bytes
named_size number name value =
    length-append (word_message set_address named_tags (number ∷ [])) (padded name ++ bytes32 value)
    ∙ ap (λ (k : ℕ). 20 + k) (length-append (padded name) (bytes32 value))
    ∙ omega (arith, padded_size name)

-- room for a message
pub record Roomy (address tags ws out : List ℕ) : Type 0 where
  pub address_short : length address ≤ 64
  pub tags_short : length tags ≤ 64
  pub words_short : length ws ≤ 64
  pub room : length address + (4 - length address % 4) + (length tags + (4 - length tags % 4)) + 4 * length ws ≤ length out

-- lengths that add up
pub record Short (address tags ws : List ℕ) : Type 0 where
  pub address_short : length address ≤ 64
  pub tags_short : length tags ≤ 64
  pub words_short : length ws ≤ 64

pub word_message_size : (address tags ws : List ℕ) → length (word_message address tags ws) ≡ length address + (4 - length address % 4) + (length tags + (4 - length tags % 4)) + 4 * length ws
word_message_size address tags ws =
    length-append (padded address) (padded tags ++ word_bytes ws)
    ∙ ap (λ (k : ℕ). length (padded address) + k) (length-append (padded tags) (word_bytes ws))
    ∙ omega (arith, padded_size address, padded_size tags, word_bytes_size ws)
