-- /s_get: its checks and its reply.
use Rattle.std.specs.Prelude.{ℕ, ◌+◌, true, false, ◌≡◌, refl, List, [], ◌∷◌, drop}
use Rattle.std.proofs.Common.{sym, ◌∙◌}
use Rattle.std.proofs.Math.Path.{ap, ap₂}
use Rattle.refusals.specs.declared.Refusal.{Refusal}
use Rattle.refusals.specs.declared.Refusal.TheVariants.{WrongKind, NoControl}
use Rattle.format.specs.Definition.{Definition}
use Rattle.nodes.specs.Place.{is_group}
use Rattle.osc.specs.Message.{int, float, message, tags, arguments}
use Rattle.values.specs.declared.Key.{Key}
use Rattle.values.specs.declared.Key.TheVariants.{Index, Name}
use Rattle.values.specs.declared.NodeArgument.{NodeArgument}
use Rattle.model.specs.declared.Query.TheVariants as query
use Rattle.model.specs.Answers.{Answer}
use Rattle.model.specs.Answers.{Refused}
use Rattle.model.specs.Layout.{nodes_in, controls_in, buses_in, record_in}
use Rattle.model.specs.Engine.{decode, definition_of, controls_of}
use Rattle.model.specs.View.{PlainNode, synth}
use Rattle.model.specs.Meaning.{meant, cover_of}
use Rattle.model.specs.Checks.{first_of, query_checks}
use Rattle.model.specs.Replies.{reply, reply_to, set_address, key_argument, read_at, read_control, plain_named}
use Rattle.replies.specs.Words.{word_bytes}
use Rattle.replies.specs.Sent.{word_message, named_message}
use Rattle.names.specs.Judged.{NodeFound, NodeRefused}
use Rattle.names.specs.Here.{node_here}
use Rattle.controls.specs.Asked.{controls_missing}
use Rattle.queries.specs.Held.{At}
use Rattle.queries.specs.Found.{plain_found}
use Rattle.queries.specs.Info.{here, number_here}
use Rattle.queries.specs.Status.{view_from}

pub control_unknown : (argument : NodeArgument) (key : Key) (bytes ws bs : List ℕ) (r : Refusal) → NodeRefused argument ws r
    → (b : Answer) → first_of (query_checks (query.Control argument key) bytes (decode ws bs)) b ≡ Refused r
unfolding first_of
control_unknown argument key bytes ws bs r n b = rw (n.fires bs) (n.answer bs)

module _ (argument : NodeArgument) (key : Key) (bytes ws bs : List ℕ) (at : ℕ) (n : NodeFound argument ws at) (a : At ws bs at) where
  pub control_group : is_group (record_in ws at) ≡ true → (b : Answer) → first_of (query_checks (query.Control argument key) bytes (decode ws bs)) b ≡ Refused WrongKind
  unfolding first_of
  control_group h b = rw (n.passes bs, node_here argument ws at n bs, h)

  module _ (single : is_group (record_in ws at) ≡ false) where
    pub control_lacks : controls_missing key 1 bytes (decode ws bs).slots (record_in ws at) ≡ true
        → (b : Answer) → first_of (query_checks (query.Control argument key) bytes (decode ws bs)) b ≡ Refused NoControl
    unfolding first_of
    control_lacks h b = rw (n.passes bs, node_here argument ws at n bs, h, single)

    pub control_passes : controls_missing key 1 bytes (decode ws bs).slots (record_in ws at) ≡ false
        → (b : Answer) → first_of (query_checks (query.Control argument key) bytes (decode ws bs)) b ≡ b
    unfolding first_of
    control_passes h b = rw (n.passes bs, node_here argument ws at n bs, h, single)

    abbrev d : Definition
    d = definition_of (decode ws bs).slots (record_in ws at)

    pub control-reply : (value : ℕ) → value ≡ read_at (buses_in ws) (controls_of (decode ws bs).slots (controls_in ws) (record_in ws at)) (cover_of key bytes d)
        → message set_address (int (record_in ws at).number ∷ (key_argument key bytes ∷ (float value ∷ []))) ≡ reply (query.Control argument key) bytes (decode ws bs)
    unfolding reply_to decode
    control-reply value v =
        let m = meant argument (decode ws bs) in
        let kind : (plain_named m (view_from ws bs 0)).kind ≡ synth d (controls_of (decode ws bs).slots (controls_in ws) (record_in ws at)) =
        ap (λ (x : PlainNode). x.kind) (plain_found (decode ws bs).slots (controls_in ws) m (nodes_in ws) (record_in ws at) (drop (at + 1) (nodes_in ws)) (here argument ws bs at n a)) ∙ rw single in
        let read : value ≡ read_control (buses_in ws) key bytes (plain_named m (view_from ws bs 0)).kind = v ∙ ap (read_control (buses_in ws) key bytes) (sym kind) in
        ap₂ (λ (k x : ℕ). message set_address (int k ∷ (key_argument key bytes ∷ (float x ∷ [])))) (number_here argument ws bs at n a) read

-- the reply as it is sent
abbrev pub index_tags : List ℕ
index_tags = 44 ∷ (105 ∷ (105 ∷ (102 ∷ [])))

pub index_message : (number i value : ℕ) (name : List ℕ) → word_message set_address index_tags (number ∷ (i ∷ (value ∷ []))) ≡ message set_address (int number ∷ (key_argument (Index i) name ∷ (float value ∷ [])))
unfolding word_bytes tags arguments
index_message number i value name = refl

pub name_message : (number value : ℕ) (name : List ℕ) → named_message number name value ≡ message set_address (int number ∷ (key_argument Name name ∷ (float value ∷ [])))
unfolding word_bytes tags arguments
name_message number value name = refl
