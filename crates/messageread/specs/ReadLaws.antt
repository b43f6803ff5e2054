-- Laws of a message's meaning: by its op, and what was taken of its arguments.
use Prim.Native.Nat.{ℕ, zero, suc, ◌+◌}
use Rattle.std.specs.Prelude.{Bool, true, false, ◌≡◌, length, eqb}
use Rattle.std.proofs.Math.Path.{refl, ap}
use Rattle.std.proofs.Common.{sym, ap₂, ◌∙◌, add-zero, eqb-true}
use mathlib.Core.List.{List, [], ◌∷◌}
use Rattle.std.proofs.Math.Option.{Option, none, some}
use native.Mathlib.Omega.{arith}
use Rattle.words.specs.Choice.{pick}
use Rattle.osc.specs.Message.{Argument, int, float, text, blob, tag_of, tags}
use Rattle.calls.specs.Ops.{command_of, command_in}
use Rattle.messages.specs.Form.{Parse, parsed, faulty, and_then, map_parse, Message, number_at, string_at, blob_at, argument_at, arguments_at}
use Rattle.messages.specs.Table.{Row, table, Given, take_all}
use Rattle.messages.specs.Rows.{slots_in, slots_of}
use Rattle.messages.specs.Write.{row_from}
use Rattle.messages.specs.Receive.{bare, look_up, malformed, calls, known, meaning_of}
use Rattle.messageread.specs.Lookup.{meets, op_from}
use Rattle.messageread.specs.Finish.{end_of, message_end}
use Rattle.messageread.specs.Keep.{taken_at}

-- what an op takes of the arguments; 0 is none
abbrev chosen : ℕ → List Argument → Option Given
chosen zero xs = none
chosen (suc n) xs = some (take_all (slots_of (suc n)) xs (bare (suc n)))

module _ (m : Message) where
  lookup_row : (test : Bool) (r : Row) (op rest : ℕ) (more : Option Given) → r.slots ≡ slots_of (suc op) → more ≡ chosen rest m.arguments
      → pick test (some (take_all r.slots m.arguments (bare (suc op)))) more ≡ chosen (pick test (suc op) rest) m.arguments
  lookup_row true r op rest more e h = rw e
  lookup_row false r op rest more e h = h

  lookup_from : (rows : List Row) (op : ℕ) → ((i : ℕ) → slots_in (row_from rows (suc i)) ≡ slots_of (suc (op + i)))
      → look_up (suc op) rows m ≡ chosen (op_from (suc op) rows m.address (tags m.arguments)) m.arguments
  unfolding look_up op_from row_from
  lookup_from [] op e = refl
  lookup_from (r ∷ rows) op e =
      lookup_row (meets (some r) m.address (tags m.arguments)) r op (op_from (suc (suc op)) rows m.address (tags m.arguments)) (look_up (suc (suc op)) rows m)
      (e 0 ∙ ap (λ (k : ℕ). slots_of (suc k)) (add-zero op))
      (lookup_from rows (suc op) (λ i. (let sum : op + suc i ≡ suc op + i = omega arith in e (suc i) ∙ ap (λ (k : ℕ). slots_of (suc k)) sum)))

  lookup_is : look_up 1 table m ≡ chosen (op_from 1 table m.address (tags m.arguments)) m.arguments
  unfolding slots_of
  lookup_is = lookup_from table 0 (λ i. (let sum : i ≡ 0 + i = omega arith in ap (λ (k : ℕ). slots_in (row_from table (suc k))) sum))

-- arguments that were read have their tags
abbrev tag_read : Parse Argument → ℕ → ℕ
tag_read (parsed x next) tag = tag_of x
tag_read faulty tag = tag

abbrev tags_read : Parse (List Argument) → List ℕ → List ℕ
tags_read (parsed xs end) ts = tags xs
tags_read faulty ts = ts

made_tag : {A : Type 0} (make : A → Argument) (made tag : ℕ) → ((x : A) → tag_of (make x) ≡ made) → tag ≡ made → (p : Parse A) → tag_read (map_parse make p) tag ≡ tag
made_tag make made tag e h (parsed x next) = e x ∙ sym h
made_tag make made tag e h faulty = refl

tag_by : (tag : ℕ) (n : Parse ℕ) (t b : Parse (List ℕ)) (i f u v : Bool) → eqb tag 105 ≡ i → eqb tag 102 ≡ f → eqb tag 115 ≡ u → eqb tag 98 ≡ v
    → tag_read (pick i (map_parse int n) (pick f (map_parse float n) (pick u (map_parse text t) (pick v (map_parse blob b) faulty)))) tag ≡ tag
tag_by tag n t b true f u v ei ef eu ev = made_tag int 105 tag (λ x. refl) (eqb-true tag 105 ei) n
tag_by tag n t b false true u v ei ef eu ev = made_tag float 102 tag (λ x. refl) (eqb-true tag 102 ef) n
tag_by tag n t b false false true v ei ef eu ev = made_tag text 115 tag (λ x. refl) (eqb-true tag 115 eu) t
tag_by tag n t b false false false true ei ef eu ev = made_tag blob 98 tag (λ x. refl) (eqb-true tag 98 ev) b
tag_by tag n t b false false false false ei ef eu ev = refl

tag-read : (tag : ℕ) (s : List ℕ) (at : ℕ) → tag_read (argument_at tag s at) tag ≡ tag
tag-read tag s at = tag_by tag (number_at s at) (string_at s at) (blob_at s at) (eqb tag 105) (eqb tag 102) (eqb tag 115) (eqb tag 98) refl refl refl refl

tags_rest : (tag : ℕ) (ts : List ℕ) (x : Argument) → tag_of x ≡ tag → (q : Parse (List Argument)) → tags_read q ts ≡ ts
    → tags_read (and_then q (λ xs end. parsed (x ∷ xs) end)) (tag ∷ ts) ≡ tag ∷ ts
unfolding tags
tags_rest tag ts x e (parsed xs end) h = ap₂ (λ (k : ℕ) (l : List ℕ). k ∷ l) e h
tags_rest tag ts x e faulty h = refl

tags_one : (tag : ℕ) (ts : List ℕ) (p : Parse Argument) (rest : ℕ → Parse (List Argument)) → tag_read p tag ≡ tag → ((next : ℕ) → tags_read (rest next) ts ≡ ts)
    → tags_read (and_then p (λ x next. and_then (rest next) (λ xs end. parsed (x ∷ xs) end))) (tag ∷ ts) ≡ tag ∷ ts
tags_one tag ts (parsed x next) rest e h = tags_rest tag ts x e (rest next) (h next)
tags_one tag ts faulty rest e h = refl

tags-read : (ts s : List ℕ) (at : ℕ) → tags_read (arguments_at ts s at) ts ≡ ts
unfolding arguments_at tags
tags-read [] s at = refl
tags-read (tag ∷ ts) s at = tags_one tag ts (argument_at tag s at) (λ next. arguments_at ts s next) (tag-read tag s at) (λ next. tags-read ts s next)

chosen_known : (op : ℕ) (xs : List Argument) → known (chosen op xs) ≡ calls (command_in (take_all (slots_of op) xs (bare op)).numbers) (take_all (slots_of op) xs (bare op)).bytes
unfolding slots_of row_from take_all command_of
chosen_known zero xs = refl
chosen_known (suc n) xs = refl

module _ (s address ts : List ℕ) (op : ℕ) (found : op ≡ op_from 1 table address ts) where
  ended : (whole : Bool) (xs : List Argument) (end : ℕ) → tags xs ≡ ts
      → meaning_of (pick whole (parsed (record { address = address; arguments = xs }) end) faulty)
      ≡ pick whole (calls (command_in (take_all (slots_of op) xs (bare op)).numbers) (take_all (slots_of op) xs (bare op)).bytes) malformed
  ended true xs end e =
      ap known (lookup_is (record { address = address; arguments = xs })
      ∙ ap (λ (l : List ℕ). chosen (op_from 1 table address l) xs) e
      ∙ ap (λ (k : ℕ). chosen k xs) (sym found))
      ∙ chosen_known op xs
  ended false xs end e = refl

  walked : (p : Parse (List Argument)) → tags_read p ts ≡ ts
      → meaning_of (and_then p (message_end s address)) ≡ end_of s (and_then p (λ xs end. parsed (take_all (slots_of op) xs (bare op)) end))
  walked (parsed xs end) e = ended (eqb end (length s)) xs end e
  walked faulty e = refl

  -- the meaning of a message by its op, and what was taken of its arguments
  pub taken_meaning : (start : ℕ) → meaning_of (and_then (arguments_at ts s start) (message_end s address)) ≡ end_of s (taken_at (slots_of op) ts s start (bare op))
  taken_meaning start = walked (arguments_at ts s start) (tags-read ts s start)
