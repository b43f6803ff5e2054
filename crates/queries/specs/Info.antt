-- /n_query's reply.
use Rattle.std.specs.Prelude.{ℕ, ◌+◌, Bool, true, false, ◌≡◌, List, [], ◌∷◌, drop}
use Rattle.std.proofs.Common.{sym, ap, ◌∙◌}
use Rattle.refusals.specs.declared.Refusal.{Refusal}
use Rattle.nodes.specs.declared.Node.{Node}
use Rattle.nodes.specs.Place.{place, is_group}
use Rattle.nodes.specs.Structure.{head_of, tail_of, parent_of, previous_of, next_of}
use Rattle.osc.specs.Message.{int, message, tags, arguments}
use Rattle.values.specs.declared.NodeArgument.{NodeArgument}
use Rattle.model.specs.declared.Query.TheVariants as query
use Rattle.model.specs.Answers.{Answer}
use Rattle.model.specs.Answers.{Refused}
use Rattle.model.specs.Layout.{nodes_in, controls_in, record_in, count_in, nodes_place, nodes_words}
use Rattle.tree.specs.Around.{parent_at, previous_at, next_at, parent_of_at, previous_of-at, next_of-at}
use Rattle.words.specs.Parts.{region}
use Rattle.model.specs.Engine.{decode}
use Rattle.model.specs.View.{PlainNode, is_group_kind, view}
use Rattle.model.specs.Meaning.{meant}
use Rattle.model.specs.Checks.{first_of, query_checks}
use Rattle.model.specs.Replies.{reply, reply_to, info_address, info_kind, info_reply, plain_named}
use Rattle.replies.specs.Words.{word_bytes}
use Rattle.replies.specs.Sent.{word_message}
use Rattle.names.specs.Judged.{NodeFound, NodeRefused, found_place}
use Rattle.queries.specs.Held.{At, node-there}
use Rattle.queries.specs.Shape.{parent_same, previous_same, next_same, head_same, tail_same}
use Rattle.queries.specs.Found.{number_found, plain_found}
use Rattle.queries.specs.Status.{view_from, view-from, kind_group}

abbrev pub group_tags : List ℕ
group_tags = 44 ∷ (105 ∷ (105 ∷ (105 ∷ (105 ∷ (105 ∷ (105 ∷ (105 ∷ [])))))))

abbrev pub synth_tags : List ℕ
synth_tags = 44 ∷ (105 ∷ (105 ∷ (105 ∷ (105 ∷ (105 ∷ [])))))

-- the node that a query names, at its place
module _ (argument : NodeArgument) (ws bs : List ℕ) (at : ℕ) (n : NodeFound argument ws at) (a : At ws bs at) where
  pub here : drop (place (meant argument (decode ws bs)) (nodes_in ws)) (nodes_in ws) ≡ record_in ws at ∷ drop (at + 1) (nodes_in ws)
  here = ap (λ (k : ℕ). drop k (nodes_in ws)) (sym (found_place argument ws bs at n)) ∙ node-there ws bs at a

  pub number_here : (record_in ws at).number ≡ meant argument (decode ws bs)
  number_here = number_found (meant argument (decode ws bs)) (nodes_in ws) (record_in ws at) (drop (at + 1) (nodes_in ws)) here

  pub here_number : at ≡ place (record_in ws at).number (nodes_in ws)
  here_number = found_place argument ws bs at n ∙ ap (λ (k : ℕ). place k (nodes_in ws)) (sym number_here)

  pub plain_kind : is_group_kind (plain_named (meant argument (decode ws bs)) (view_from ws bs 0)).kind ≡ is_group (record_in ws at)
  plain_kind =
      ap (λ (x : PlainNode). is_group_kind x.kind) (plain_found (decode ws bs).slots (controls_in ws) (meant argument (decode ws bs)) (nodes_in ws) (record_in ws at) (drop (at + 1) (nodes_in ws)) here)
      ∙ kind_group ws bs at

-- who stands where, of a node of the table
pub record Around (n : ℕ) (t : List Node) (parent previous next : ℕ) : Type 0 where
  pub is_parent : parent ≡ parent_of n t
  pub is_previous : previous ≡ previous_of n t
  pub is_next : next ≡ next_of n t

-- by what the words around its place say
pub around : (argument : NodeArgument) (ws bs : List ℕ) (at : ℕ) → NodeFound argument ws at → At ws bs at → (parent previous next : ℕ)
    → parent ≡ parent_at (region nodes_place nodes_words ws) at → previous ≡ previous_at (region nodes_place nodes_words ws) at
    → next ≡ next_at (count_in ws) (region nodes_place nodes_words ws) at → Around (record_in ws at).number (nodes_in ws) parent previous next
around argument ws bs at n a parent previous next p q r =
    let us = region nodes_place nodes_words ws in
    let m = (record_in ws at).number in
    let stands = here_number argument ws bs at n a in
    record {
      is_parent = p ∙ sym (parent_of_at (count_in ws) us m at stands n.live);
      is_previous = q ∙ sym (previous_of-at (count_in ws) us m at stands n.live);
      is_next = r ∙ sym (next_of-at (count_in ws) us m at stands n.live);
    }

info_from : (n : ℕ) (ws bs : List ℕ) (b : Bool) (parent previous next : ℕ) → Around n (nodes_in ws) parent previous next → is_group_kind (plain_named n (view_from ws bs 0)).kind ≡ b
    → info_reply n (view (decode ws bs)) ≡ message info_address (int n ∷ (int parent ∷ (int previous ∷ (int next ∷ info_kind n (view_from ws bs 0) b))))
info_from n ws bs b parent previous next w e =
    let slots = (decode ws bs).slots in
    let cs = controls_in ws in
    ap (info_reply n) (view-from ws bs)
    ∙ rw (e, parent_same slots cs n (nodes_in ws), previous_same slots cs n (nodes_in ws), next_same slots cs n (nodes_in ws), w.is_parent, w.is_previous, w.is_next)

pub group-info : (argument : NodeArgument) (bytes ws bs : List ℕ) (at : ℕ) → NodeFound argument ws at → At ws bs at → is_group (record_in ws at) ≡ true
    → (parent previous next head tail : ℕ) → Around (record_in ws at).number (nodes_in ws) parent previous next → head ≡ head_of (record_in ws at).number (nodes_in ws) → tail ≡ tail_of (record_in ws at).number (nodes_in ws)
    → word_message info_address group_tags ((record_in ws at).number ∷ (parent ∷ (previous ∷ (next ∷ (1 ∷ (head ∷ (tail ∷ []))))))) ≡ reply (query.Node argument) bytes (decode ws bs)
unfolding word_bytes tags arguments reply_to
group-info argument bytes ws bs at n a is_group parent previous next head tail w h t =
    let m = (record_in ws at).number in
    let same : m ≡ meant argument (decode ws bs) = number_here argument ws bs at n a in
    let kind : is_group_kind (plain_named m (view_from ws bs 0)).kind ≡ true =
    ap (λ (k : ℕ). is_group_kind (plain_named k (view_from ws bs 0)).kind) same ∙ plain_kind argument ws bs at n a ∙ is_group in
    sym (ap (λ (k : ℕ). info_reply k (view (decode ws bs))) (sym same)
    ∙ info_from m ws bs true parent previous next w kind
    ∙ rw (head_same (decode ws bs).slots (controls_in ws) m (nodes_in ws), tail_same (decode ws bs).slots (controls_in ws) m (nodes_in ws), sym h, sym t))

pub synth_info : (argument : NodeArgument) (bytes ws bs : List ℕ) (at : ℕ) → NodeFound argument ws at → At ws bs at → is_group (record_in ws at) ≡ false
    → (parent previous next : ℕ) → Around (record_in ws at).number (nodes_in ws) parent previous next
    → word_message info_address synth_tags ((record_in ws at).number ∷ (parent ∷ (previous ∷ (next ∷ (0 ∷ []))))) ≡ reply (query.Node argument) bytes (decode ws bs)
unfolding word_bytes tags arguments reply_to
synth_info argument bytes ws bs at n a single parent previous next w =
    let m = (record_in ws at).number in
    let same : m ≡ meant argument (decode ws bs) = number_here argument ws bs at n a in
    let kind : is_group_kind (plain_named m (view_from ws bs 0)).kind ≡ false =
    ap (λ (k : ℕ). is_group_kind (plain_named k (view_from ws bs 0)).kind) same ∙ plain_kind argument ws bs at n a ∙ single in
    sym (ap (λ (k : ℕ). info_reply k (view (decode ws bs))) (sym same) ∙ info_from m ws bs false parent previous next w kind)

pub node_fires : (argument : NodeArgument) (bytes ws bs : List ℕ) (r : Refusal) → NodeRefused argument ws r → (b : Answer) → first_of (query_checks (query.Node argument) bytes (decode ws bs)) b ≡ Refused r
unfolding first_of
node_fires argument bytes ws bs r n b = rw (n.fires bs) (n.answer bs)

pub node_passes : (argument : NodeArgument) (bytes ws bs : List ℕ) (at : ℕ) → NodeFound argument ws at → (b : Answer) → first_of (query_checks (query.Node argument) bytes (decode ws bs)) b ≡ b
unfolding first_of
node_passes argument bytes ws bs at n b = rw (n.passes bs)
