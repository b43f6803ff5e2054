-- The counts of /status, a record at a time, and its reply.
use Rattle.std.specs.Prelude.{ℕ, ◌+◌, ◌/◌, ◌%◌, ◌≤◌, Bool, true, false, ◌≡◌, refl, length, drop}
use Rattle.std.proofs.Common.{sym, ◌∙◌, arith}
use Rattle.std.proofs.Math.Path.{ap}
use mathlib.Core.List.{List, [], ◌∷◌, ◌++◌}
use Rattle.words.specs.Choice.{pick}
use Rattle.words.specs.Bytes.{bytes32}
use Rattle.words.specs.Parts.{region}
use Rattle.readable.specs.Lookup.{units_in}
use Rattle.osc.specs.Message.{int, message, tags, arguments, padded}
use Rattle.nodes.specs.declared.Node.{Node}
use Rattle.nodes.specs.TableLaws.{rows_end, rows-length}
use Rattle.nodes.specs.Place.{is_group}
use Rattle.model.specs.declared.Query.TheVariants as query
use Rattle.model.specs.Answers.{Answer}
use Rattle.model.specs.Layout.{nodes_place, nodes_words, count_in, nodes_in, controls_in, record_in}
use Rattle.model.specs.Engine.{Slot, Engine, decode, residents}
use Rattle.model.specs.View.{Kind, group, Row, kind_in, view_rows, view, is_group_kind}
use Rattle.model.specs.Checks.{first_of, query_checks}
use Rattle.model.specs.Replies.{reply, reply_to, status_address, units_of, unit_count, group_count, synth_count}
use Rattle.replies.specs.Words.{word_bytes}
use Rattle.replies.specs.Sent.{word_message}
use Rattle.controls.specs.Encoded.{number_or}
use Rattle.slots.specs.Slots.{slot_bytes}
use Rattle.queries.specs.Held.{At, node-there, held_units}

-- the engine's nodes as the plain tree knows them, from a place on
abbrev pub view_from : List ℕ → List ℕ → ℕ → List Row
view_from ws bs i = view_rows (decode ws bs).slots (controls_in ws) (drop i (nodes_in ws))

pub view-from : (ws bs : List ℕ) → view (decode ws bs) ≡ view_from ws bs 0
unfolding decode
view-from ws bs = refl

-- the kind of the node at a place
abbrev pub kind_at : List ℕ → List ℕ → ℕ → Kind
kind_at ws bs i = kind_in (decode ws bs).slots (controls_in ws) (record_in ws i)

group_kind : (b : Bool) (k : Kind) → is_group_kind k ≡ false → is_group_kind (pick b group k) ≡ b
group_kind true k h = refl
group_kind false k h = h

pub kind_is : (slots : List Slot) (controls : List ℕ) (r : Node) → is_group_kind (kind_in slots controls r) ≡ is_group r
kind_is slots controls r = group_kind (is_group r) _ refl

pub kind_group : (ws bs : List ℕ) (i : ℕ) → is_group_kind (kind_at ws bs i) ≡ is_group (record_in ws i)
kind_group ws bs i = kind_is (decode ws bs).slots (controls_in ws) (record_in ws i)

-- units
pub units_group : (ws bs : List ℕ) (i : ℕ) → is_group (record_in ws i) ≡ true → units_of (kind_at ws bs i) ≡ 0
units_group ws bs i h = rw h

pub units_synth : (ws bs : List ℕ) (i : ℕ) → At ws bs i → is_group (record_in ws i) ≡ false → units_of (kind_at ws bs i) ≡ number_or (units_in (slot_bytes ws bs (record_in ws i).slot))
units_synth ws bs i a h = rw h (ap number_or (sym (held_units ws bs i a h)))

module _ (ws bs : List ℕ) (i : ℕ) (a : At ws bs i) where
  pub units_turn : unit_count (view_from ws bs i) ≡ units_of (kind_at ws bs i) + unit_count (view_from ws bs (i + 1))
  unfolding unit_count view_rows
  units_turn = ap (λ (t : List Node). unit_count (view_rows (decode ws bs).slots (controls_in ws) t)) (node-there ws bs i a)

module _ (ws bs : List ℕ) (i : ℕ) (past : count_in ws ≤ i) where
  none-left : drop i (nodes_in ws) ≡ []
  none-left = rows_end (count_in ws) (region nodes_place nodes_words ws) i past

  pub units_end : unit_count (view_from ws bs i) ≡ 0
  unfolding unit_count view_rows
  units_end = ap (λ (t : List Node). unit_count (view_rows (decode ws bs).slots (controls_in ws) t)) none-left

-- a node is a group or a synth
one_kind : (b : Bool) → pick b 1 0 + pick b 0 1 ≡ 1
one_kind true = refl
one_kind false = refl

counts : (slots : List Slot) (controls : List ℕ) (t : List Node) → group_count (view_rows slots controls t) + synth_count (view_rows slots controls t) ≡ length t
unfolding group_count synth_count view_rows
counts slots controls [] = refl
counts slots controls (r ∷ t) =
    let b = is_group_kind (kind_in slots controls r) in
    let one : pick b 1 0 + pick b 0 1 ≡ 1 = one_kind b in
    let rest = counts slots controls t in
    omega arith

pub kinds_all : (ws bs : List ℕ) → group_count (view_from ws bs 0) + synth_count (view_from ws bs 0) ≡ count_in ws
kinds_all ws bs = counts (decode ws bs).slots (controls_in ws) (nodes_in ws) ∙ rows-length (count_in ws) (region nodes_place nodes_words ws)

-- an integer's bytes are those of its lowest 32 bits
pub low_bytes : (n : ℕ) → bytes32 (n % 4294967296) ≡ bytes32 n
low_bytes n =
    let a : n % 4294967296 / 16777216 % 256 ≡ n / 16777216 % 256 = omega arith in
    let b : n % 4294967296 / 65536 % 256 ≡ n / 65536 % 256 = omega arith in
    let c : n % 4294967296 / 256 % 256 ≡ n / 256 % 256 = omega arith in
    let d : n % 4294967296 % 256 ≡ n % 256 = omega arith in
    rw (a, b, c, d)

abbrev pub status_tags : List ℕ
status_tags = 44 ∷ (105 ∷ (105 ∷ (105 ∷ (105 ∷ []))))

status_message : (units synths groups names : ℕ) → word_message status_address status_tags (units % 4294967296 ∷ (synths ∷ (groups ∷ (names ∷ []))))
    ≡ message status_address (int units ∷ (int synths ∷ (int groups ∷ (int names ∷ []))))
unfolding word_bytes tags arguments
status_message units synths groups names =
    ap (λ (l : List ℕ). padded status_address ++ (padded status_tags ++ (l ++ (bytes32 synths ++ (bytes32 groups ++ (bytes32 names ++ [])))))) (low_bytes units)

pub status-reply : (units synths groups names : ℕ) (bytes ws bs : List ℕ)
    → units ≡ unit_count (view_from ws bs 0) → synths ≡ synth_count (view_from ws bs 0) → groups ≡ group_count (view_from ws bs 0) → names ≡ length (residents (decode ws bs).slots)
    → word_message status_address status_tags (units % 4294967296 ∷ (synths ∷ (groups ∷ (names ∷ [])))) ≡ reply query.Status bytes (decode ws bs)
unfolding reply_to
status-reply units synths groups names bytes ws bs u s g n =
    status_message units synths groups names
    ∙ rw (u, s, g, n, sym (view-from ws bs))

pub status_passes : (bytes : List ℕ) (e : Engine) (a : Answer) → first_of (query_checks query.Status bytes e) a ≡ a
unfolding first_of
status_passes bytes e a = refl
