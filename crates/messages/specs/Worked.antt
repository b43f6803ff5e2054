-- Messages by hand, through the definitions by computation: what each stands for.
use Rattle.std.specs.Prelude.{ℕ, ◌≡◌, refl, List, [], ◌∷◌}
use Rattle.format.specs.Fields.{name_bytes}
use Rattle.format.specs.Reader.{same_name}
use Rattle.osc.specs.Message.{tags, arguments}
use Rattle.values.specs.declared.Key.TheVariants.{Index, Name}
use Rattle.values.specs.declared.Value.TheVariants.{Float, Integer}
use Rattle.values.specs.Targets.{argument}
use Rattle.model.specs.declared.DefinitionCommand.TheVariants as definitions
use Rattle.model.specs.declared.TreeCommand.TheVariants as tree
use Rattle.model.specs.declared.ControlCommand.TheVariants as controls
use Rattle.model.specs.declared.BusCommand.TheVariants as buses
use Rattle.model.specs.declared.Query.TheVariants as query
use Rattle.model.specs.declared.Command.TheVariants as command
use Rattle.calls.specs.Ops.{s_new, command_of}
use Rattle.messages.specs.Form.{text_length, zeros, arguments_at, read_message}
use Rattle.messages.specs.Table.{fit_all, take_all, give_all}
use Rattle.messages.specs.Receive.{look_up, Meaning, malformed, unknown, means, meaning}
use Rattle.messages.specs.Write.{row_from, message_of}

pub record Example : Type 0 where
  pub message : List ℕ
  pub stands : Meaning

abbrev example : List ℕ → Meaning → Example
example message stands = record { message = message; stands = stands }

abbrev table : List Example
table =
    -- "/status" with no argument
    example (47 ∷ 115 ∷ 116 ∷ 97 ∷ 116 ∷ 117 ∷ 115 ∷ 0 ∷ 44 ∷ 0 ∷ 0 ∷ 0 ∷ []) (means (command.Query query.Status) [])
    -- "/n_run" 1 0
    ∷ (example (47 ∷ 110 ∷ 95 ∷ 114 ∷ 117 ∷ 110 ∷ 0 ∷ 0 ∷ 44 ∷ 105 ∷ 105 ∷ 0 ∷ 0 ∷ 0 ∷ 0 ∷ 1 ∷ 0 ∷ 0 ∷ 0 ∷ 0 ∷ []) (means (command.Tree (tree.Run (argument 1) 0)) [])
    -- "/s_new" "ping" -1 1 0: the name first
    ∷ (example (47 ∷ 115 ∷ 95 ∷ 110 ∷ 101 ∷ 119 ∷ 0 ∷ 0 ∷ 44 ∷ 115 ∷ 105 ∷ 105 ∷ 105 ∷ 0 ∷ 0 ∷ 0 ∷ 112 ∷ 105 ∷ 110 ∷ 103 ∷ 0 ∷ 0 ∷ 0 ∷ 0 ∷ 255 ∷ 255 ∷ 255 ∷ 255 ∷ 0 ∷ 0 ∷ 0 ∷ 1 ∷ 0 ∷ 0 ∷ 0 ∷ 0 ∷ []) (means (command.Tree (tree.NewSynth 4294967295 1 (argument 0))) (112 ∷ 105 ∷ 110 ∷ 103 ∷ []))
    -- "/n_set" 1000 0 440.0
    ∷ (example (47 ∷ 110 ∷ 95 ∷ 115 ∷ 101 ∷ 116 ∷ 0 ∷ 0 ∷ 44 ∷ 105 ∷ 105 ∷ 102 ∷ 0 ∷ 0 ∷ 0 ∷ 0 ∷ 0 ∷ 0 ∷ 3 ∷ 232 ∷ 0 ∷ 0 ∷ 0 ∷ 0 ∷ 67 ∷ 220 ∷ 0 ∷ 0 ∷ []) (means (command.Controls (controls.Set (argument 1000) (Index 0) (Float 1138491392))) [])
    -- "/n_set" 1000 "freq" 440, an integer
    ∷ (example (47 ∷ 110 ∷ 95 ∷ 115 ∷ 101 ∷ 116 ∷ 0 ∷ 0 ∷ 44 ∷ 105 ∷ 115 ∷ 105 ∷ 0 ∷ 0 ∷ 0 ∷ 0 ∷ 0 ∷ 0 ∷ 3 ∷ 232 ∷ 102 ∷ 114 ∷ 101 ∷ 113 ∷ 0 ∷ 0 ∷ 0 ∷ 0 ∷ 0 ∷ 0 ∷ 1 ∷ 184 ∷ []) (means (command.Controls (controls.Set (argument 1000) Name (Integer 440))) (102 ∷ 114 ∷ 101 ∷ 113 ∷ []))
    -- "/n_fill" 1000 "amps" 4 0.0
    ∷ (example (47 ∷ 110 ∷ 95 ∷ 102 ∷ 105 ∷ 108 ∷ 108 ∷ 0 ∷ 44 ∷ 105 ∷ 115 ∷ 105 ∷ 102 ∷ 0 ∷ 0 ∷ 0 ∷ 0 ∷ 0 ∷ 3 ∷ 232 ∷ 97 ∷ 109 ∷ 112 ∷ 115 ∷ 0 ∷ 0 ∷ 0 ∷ 0 ∷ 0 ∷ 0 ∷ 0 ∷ 4 ∷ 0 ∷ 0 ∷ 0 ∷ 0 ∷ []) (means (command.Controls (controls.Fill (argument 1000) Name 4 (Float 0))) (97 ∷ 109 ∷ 112 ∷ 115 ∷ []))
    -- "/n_map" 1000 0 -1
    ∷ (example (47 ∷ 110 ∷ 95 ∷ 109 ∷ 97 ∷ 112 ∷ 0 ∷ 0 ∷ 44 ∷ 105 ∷ 105 ∷ 105 ∷ 0 ∷ 0 ∷ 0 ∷ 0 ∷ 0 ∷ 0 ∷ 3 ∷ 232 ∷ 0 ∷ 0 ∷ 0 ∷ 0 ∷ 255 ∷ 255 ∷ 255 ∷ 255 ∷ []) (means (command.Controls (controls.Map (argument 1000) (Index 0) 4294967295)) [])
    -- "/c_fill" 7 2 1
    ∷ (example (47 ∷ 99 ∷ 95 ∷ 102 ∷ 105 ∷ 108 ∷ 108 ∷ 0 ∷ 44 ∷ 105 ∷ 105 ∷ 105 ∷ 0 ∷ 0 ∷ 0 ∷ 0 ∷ 0 ∷ 0 ∷ 0 ∷ 7 ∷ 0 ∷ 0 ∷ 0 ∷ 2 ∷ 0 ∷ 0 ∷ 0 ∷ 1 ∷ []) (means (command.Buses (buses.Fill 7 2 (Integer 1))) [])
    -- "/d_recv" of a file of five bytes
    ∷ (example (47 ∷ 100 ∷ 95 ∷ 114 ∷ 101 ∷ 99 ∷ 118 ∷ 0 ∷ 44 ∷ 98 ∷ 0 ∷ 0 ∷ 0 ∷ 0 ∷ 0 ∷ 5 ∷ 83 ∷ 67 ∷ 103 ∷ 102 ∷ 0 ∷ 0 ∷ 0 ∷ 0 ∷ []) (means (command.Definitions definitions.Receive) (83 ∷ 67 ∷ 103 ∷ 102 ∷ 0 ∷ []))
    -- "/d_free" of the empty name
    ∷ (example (47 ∷ 100 ∷ 95 ∷ 102 ∷ 114 ∷ 101 ∷ 101 ∷ 0 ∷ 44 ∷ 115 ∷ 0 ∷ 0 ∷ 0 ∷ 0 ∷ 0 ∷ 0 ∷ []) (means (command.Definitions definitions.Free) [])
    -- an empty message
    ∷ (example ([]) (malformed)
    -- "/" has the form of an address, and is unknown
    ∷ (example (47 ∷ 0 ∷ 0 ∷ 0 ∷ 44 ∷ 0 ∷ 0 ∷ 0 ∷ []) (unknown)
    -- an address without its "/"
    ∷ (example (115 ∷ 116 ∷ 97 ∷ 116 ∷ 117 ∷ 115 ∷ 0 ∷ 0 ∷ 44 ∷ 0 ∷ 0 ∷ 0 ∷ []) (malformed)
    -- tags without their comma
    ∷ (example (47 ∷ 110 ∷ 95 ∷ 102 ∷ 114 ∷ 101 ∷ 101 ∷ 0 ∷ 105 ∷ 0 ∷ 0 ∷ 0 ∷ 0 ∷ 0 ∷ 0 ∷ 1 ∷ []) (malformed)
    -- no tag string
    ∷ (example (47 ∷ 115 ∷ 116 ∷ 97 ∷ 116 ∷ 117 ∷ 115 ∷ 0 ∷ []) (malformed)
    -- a tag other than these, at an unknown address
    ∷ (example (47 ∷ 113 ∷ 117 ∷ 105 ∷ 116 ∷ 0 ∷ 0 ∷ 0 ∷ 44 ∷ 104 ∷ 0 ∷ 0 ∷ 0 ∷ 0 ∷ 0 ∷ 0 ∷ 0 ∷ 0 ∷ 0 ∷ 0 ∷ []) (malformed)
    -- four bytes left over
    ∷ (example (47 ∷ 115 ∷ 116 ∷ 97 ∷ 116 ∷ 117 ∷ 115 ∷ 0 ∷ 44 ∷ 0 ∷ 0 ∷ 0 ∷ 0 ∷ 0 ∷ 0 ∷ 0 ∷ []) (malformed)
    -- padding that is not zero
    ∷ (example (47 ∷ 110 ∷ 95 ∷ 102 ∷ 114 ∷ 101 ∷ 101 ∷ 0 ∷ 44 ∷ 105 ∷ 0 ∷ 1 ∷ 0 ∷ 0 ∷ 0 ∷ 1 ∷ []) (malformed)
    -- a string with a byte over 127
    ∷ (example (47 ∷ 100 ∷ 95 ∷ 102 ∷ 114 ∷ 101 ∷ 101 ∷ 0 ∷ 44 ∷ 115 ∷ 0 ∷ 0 ∷ 128 ∷ 0 ∷ 0 ∷ 0 ∷ []) (malformed)
    -- an argument that is cut
    ∷ (example (47 ∷ 110 ∷ 95 ∷ 102 ∷ 114 ∷ 101 ∷ 101 ∷ 0 ∷ 44 ∷ 105 ∷ 0 ∷ 0 ∷ 0 ∷ 0 ∷ 0 ∷ []) (malformed)
    -- a blob of a negative length
    ∷ (example (47 ∷ 100 ∷ 95 ∷ 114 ∷ 101 ∷ 99 ∷ 118 ∷ 0 ∷ 44 ∷ 98 ∷ 0 ∷ 0 ∷ 255 ∷ 255 ∷ 255 ∷ 255 ∷ []) (malformed)
    -- a blob whose padding is not zero
    ∷ (example (47 ∷ 100 ∷ 95 ∷ 114 ∷ 101 ∷ 99 ∷ 118 ∷ 0 ∷ 44 ∷ 98 ∷ 0 ∷ 0 ∷ 0 ∷ 0 ∷ 0 ∷ 1 ∷ 1 ∷ 0 ∷ 0 ∷ 9 ∷ []) (malformed)
    -- tags that don't fit: one too many
    ∷ (example (47 ∷ 110 ∷ 95 ∷ 102 ∷ 114 ∷ 101 ∷ 101 ∷ 0 ∷ 44 ∷ 105 ∷ 105 ∷ 0 ∷ 0 ∷ 0 ∷ 0 ∷ 1 ∷ 0 ∷ 0 ∷ 0 ∷ 2 ∷ []) (unknown)
    -- and one too few
    ∷ (example (47 ∷ 110 ∷ 95 ∷ 114 ∷ 117 ∷ 110 ∷ 0 ∷ 0 ∷ 44 ∷ 105 ∷ 0 ∷ 0 ∷ 0 ∷ 0 ∷ 0 ∷ 1 ∷ []) (unknown)
    -- a float where an integer is asked for
    ∷ (example (47 ∷ 110 ∷ 95 ∷ 102 ∷ 114 ∷ 101 ∷ 101 ∷ 0 ∷ 44 ∷ 102 ∷ 0 ∷ 0 ∷ 0 ∷ 0 ∷ 0 ∷ 1 ∷ []) (unknown)
    -- an address that is none of the table's
    ∷ (example (47 ∷ 110 ∷ 111 ∷ 116 ∷ 105 ∷ 102 ∷ 121 ∷ 0 ∷ 44 ∷ 105 ∷ 0 ∷ 0 ∷ 0 ∷ 0 ∷ 0 ∷ 1 ∷ []) (unknown)
    ∷ [])))))))))))))))))))))))))

unfoldable pub meanings : List Example → List Meaning
meanings [] = []
meanings (x ∷ xs) = meaning x.message ∷ meanings xs

unfoldable pub answers : List Example → List Meaning
answers [] = []
answers (x ∷ xs) = x.stands ∷ answers xs

pub worked : meanings table ≡ answers table
unfolding name_bytes same_name tags command_of text_length zeros arguments_at read_message fit_all take_all look_up meaning meanings answers
worked = refl

-- "/s_new" "ping" 1000 1 1 as it is written
pub written : message_of (record { numbers = record { op = s_new; a = 1000; b = 1; c = 1; d = 0; e = 0 }; bytes = 112 ∷ 105 ∷ 110 ∷ 103 ∷ [] }) ≡ 47 ∷ 115 ∷ 95 ∷ 110 ∷ 101 ∷ 119 ∷ 0 ∷ 0 ∷ 44 ∷ 115 ∷ 105 ∷ 105 ∷ 105 ∷ 0 ∷ 0 ∷ 0 ∷ 112 ∷ 105 ∷ 110 ∷ 103 ∷ 0 ∷ 0 ∷ 0 ∷ 0 ∷ 0 ∷ 0 ∷ 3 ∷ 232 ∷ 0 ∷ 0 ∷ 0 ∷ 1 ∷ 0 ∷ 0 ∷ 0 ∷ 1 ∷ []
unfolding tags arguments give_all row_from message_of
written = refl
