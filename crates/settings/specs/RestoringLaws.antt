-- Laws of `Restoring`: a save and a recall of what it stored.
use Rattle.std.specs.Prelude.{ℕ, ◌+◌, ◌*◌, min, Bool, true, false, ◌≡◌, length, drop, eqb, Ok}
use Rattle.std.proofs.Math.Path.{refl, ap}
use Rattle.std.proofs.Common.{sym, ◌∙◌, subst, arith, length-append, take_at, drop_at, eqb-true}
use mathlib.Core.List.{List, [], ◌∷◌, ◌++◌, append_assoc}
use Rattle.std.proofs.Math.Option.{Option, none, some, none-ne-some, some-injective}
use Rattle.words.specs.Choice.{pick, both}
use Rattle.words.specs.ChoiceLaws.{both_true}
use Rattle.format.specs.Definition.{ParameterName, Definition}
use Rattle.format.specs.Names.{first_index, looks_up_to, name_among, name_for}
use Rattle.format.specs.Reader.{same_name}
use Rattle.values.specs.declared.NodeArgument.{NodeArgument}
use Rattle.values.specs.declared.Key.TheVariants.{Name}
use Rattle.values.specs.Controls.{ControlValue}
use Rattle.model.specs.Layout.{row_words}
use Rattle.model.specs.Engine.{decode}
use Rattle.model.specs.Meaning.{known, node}
use Rattle.model.specs.Formed.{formed}
use Rattle.model.specs.Checks.{first_of}
use Rattle.model.specs.Answers.{Done}
use Rattle.nodes.specs.Place.{is_group}
use Rattle.lists.specs.OneByOne.{lent_state}
use Rattle.model.specs.View.{synth}
use Rattle.model.specs.Plain.{if_some, indices_of, first_in, width_at, change_from, change_kind}
use Rattle.model.specs.Plain as plain
use Rattle.refinement.specs.RowChange.{controls_many}
use Rattle.store.specs.Store.{Version, store_formed, entries_of}
use Rattle.store.specs.Writing.{version_in, highest_for}
use Rattle.store.specs.VersionLaws.{version_saved}
use Rattle.store.specs.ReadingLaws.{store_stands}
use Rattle.settings.specs.Settings.{Saved, setting_by, settings_from, recall_answer, Saves}
use Rattle.settings.specs.Recalling.{settings_by, setting_lines, all_sent, recall_calls}
use Rattle.settings.specs.PlainRecall.{recall_kind}
use Rattle.settings.specs.Restoring.{own_definition, own_controls, own_name, own_settings, restored_by, restored, SaveRecalled}
use Rattle.settings.specs.SavedLaws.{save_accepted, save_left, save_answered, version_accepted}

-- the control that a name asks for, of the plain tree and of a lookup
asked_first : (name : List ℕ) (names : List ParameterName) → first_in (indices_of name names) ≡ first_index name names
unfolding indices_of first_index
asked_first name [] = refl
asked_first name (q ∷ more) = go (same_name q.name name) (asked_first name more)
  where
    go : (b : Bool) → first_in (indices_of name more) ≡ first_index name more
        → first_in (pick b (q.index ∷ indices_of name more) (indices_of name more)) ≡ pick b (some q.index) (first_index name more)
    go true e = refl
    go false e = e

looked_up : (found : Option ℕ) (i : ℕ) → looks_up_to found i ≡ true → found ≡ some i
looked_up none i e = absurd (let z : ◌≡◌ {A = ℕ} 0 1 = cc in omega arith)
looked_up (some k) i e = ap some (eqb-true k i e)

-- the name that a control is saved under looks up to it
name_looks : (i : ℕ) (all names : List ParameterName) (n : List ℕ) → name_among i all names ≡ some n → first_index n all ≡ some i
unfolding name_among
name_looks i all [] n e = absurd (none-ne-some n e)
name_looks i all (p ∷ more) n e =
    go (both (eqb p.index i) (looks_up_to (first_index p.name all) i)) refl (name_looks i all more n) e
  where
    go : (b : Bool) → both (eqb p.index i) (looks_up_to (first_index p.name all) i) ≡ b → (name_among i all more ≡ some n → first_index n all ≡ some i)
        → pick b (some p.name) (name_among i all more) ≡ some n → first_index n all ≡ some i
    go true t later e =
        let up = looked_up (first_index p.name all) i (both_true (eqb p.index i) (looks_up_to (first_index p.name all) i) t).1 in
        sym (ap (λ (l : List ℕ). first_index l all) (some-injective p.name n e)) ∙ up
    go false t later e = later e

-- one control changed, behind others
change-one : (f : ControlValue → ControlValue) (before : List ControlValue) (k : ControlValue) (after : List ControlValue) (i : ℕ) → length before ≡ i
    → change_from f i 1 (before ++ (k ∷ after)) ≡ before ++ (f k ∷ after)
change-one f before k after i e = rw (take_at before (k ∷ after) i e, drop_at before (k ∷ after) i e)

one_more : (before : List ControlValue) (k : ControlValue) (after : List ControlValue) → before ++ (k ∷ after) ≡ (before ++ (k ∷ [])) ++ after
one_more before k after = sym (append_assoc before (k ∷ []) after)

module _ (d : Definition) where
  abbrev names : List ParameterName
  names = d.front.names

  -- a control set under the name that it was saved under
  set_one : (before : List ControlValue) (k : ControlValue) (after : List ControlValue) (i float : ℕ) (name : List ℕ) → length before ≡ i
      → name_for i d.front.names ≡ some name
      → change_kind (plain.stored float) Name name 1 (synth d (before ++ (k ∷ after))) ≡ synth d (before ++ (plain.stored float k ∷ after))
  set_one before k after i float name e named =
      let l = before ++ (k ∷ after) in
      let width : min 1 (width_at i d) ≡ 1 = omega arith in
      let asked : first_in (indices_of name d.front.names) ≡ some i =
      asked_first name d.front.names ∙ name_looks i d.front.names d.front.names name named in
      ap (λ (o : Option ℕ). synth d (if_some o (λ m. change_from (plain.stored float) m (min 1 (width_at m d)) l) l)) asked
      ∙ ap (λ (n : ℕ). synth d (change_from (plain.stored float) i n l)) width
      ∙ ap (synth d) (change-one (plain.stored float) before k after i e)

  recalled_from : (i : ℕ) (before cs ks : List ControlValue) → length before ≡ i → length cs ≡ length ks
      → recall_kind (settings_from i d.front.names cs) (synth d (before ++ ks)) ≡ synth d (before ++ restored i d.front.names cs ks)
  unfolding settings_from recall_kind restored
  recalled_from i before [] ks e same = refl
  recalled_from i before (c ∷ cs) [] e same = absurd (omega arith)
  recalled_from i before (c ∷ cs) (k ∷ ks) e same =
      go (name_for i d.front.names) refl
      (λ x. ap (λ (l : List ControlValue). recall_kind (settings_from (i + 1) d.front.names cs) (synth d l)) (one_more before x ks)
      ∙ recalled_from (i + 1) (before ++ (x ∷ [])) cs ks (length-append before (x ∷ []) ∙ ap (λ (m : ℕ). m + 1) e) (omega arith)
      ∙ ap (synth d) (sym (one_more before x (restored (i + 1) d.front.names cs ks))))
    where
      go : (o : Option (List ℕ)) → name_for i d.front.names ≡ o
          → ((x : ControlValue) → recall_kind (settings_from (i + 1) d.front.names cs) (synth d (before ++ (x ∷ ks)))
          ≡ synth d (before ++ (x ∷ restored (i + 1) d.front.names cs ks)))
          → recall_kind (setting_by o c.own ++ settings_from (i + 1) d.front.names cs) (synth d (before ++ (k ∷ ks)))
          ≡ synth d (before ++ (restored_by o c k ∷ restored (i + 1) d.front.names cs ks))
      go none q more = more k
      go (some name) q more =
          ap (recall_kind (settings_from (i + 1) d.front.names cs)) (set_one before k ks i c.own name e q)
          ∙ more (plain.stored c.own k)

  -- what was taken of a synth's controls, recalled into a synth of the same definition
  pub recall_restores : (cs ks : List ControlValue) → length cs ≡ length ks
      → recall_kind (settings_from 0 d.front.names cs) (synth d ks) ≡ synth d (restored 0 d.front.names cs ks)
  recall_restores cs ks same = recalled_from 0 [] cs ks refl same

-- a recall of a version that is there, into a synth
recall_done : (name : List ℕ) (number : ℕ) (b : NodeArgument) (store vs cs : List ℕ) (v : Version) → formed vs cs ≡ true → store_formed store ≡ true
    → known b (decode vs cs) ≡ true → is_group (node b (decode vs cs)) ≡ false → version_in name number (entries_of store) ≡ some v
    → recall_answer name number b store vs cs ≡ Done
unfolding recall_answer first_of
recall_done name number b store vs cs v whole read there single found = rw (whole, read, there, single, found)

calls_are : (name : List ℕ) (number : ℕ) (b : NodeArgument) (store vs cs : List ℕ) (v : Version) → recall_answer name number b store vs cs ≡ Done
    → version_in name number (entries_of store) ≡ some v
    → recall_calls name number b store (lent_state vs cs) ≡ all_sent (setting_lines b v.settings) (lent_state vs cs)
calls_are name number b store vs cs v done found = rw (done, found)

version_same : (v w : ℕ) → ◌≡◌ {A = Saved} (Ok v) (Ok w) → v ≡ w
version_same v w e = cc

-- "what a save stored a recall sets"
pub save_recalled : (a : NodeArgument) (ws bs store : List ℕ) (v : ℕ) (store' : List ℕ) → Saves a ws bs store (Ok v) store'
    → SaveRecalled a ws bs v store'
save_recalled a ws bs store v store' s =
    let accepted = version_accepted a ws bs store v store' s in
    let p = save_accepted a ws bs store accepted in
    let k = save_left a ws bs store (Ok v) store' s.lent s accepted in
    let es = entries_of store in
    let n = highest_for (own_name a ws bs) es + 1 in
    let same : v ≡ n = version_same v n (save_answered a ws bs store (Ok v) store' s accepted) in
    let here : version_in (own_name a ws bs) n (entries_of store') ≡ some (record { number = n; settings = own_settings a ws bs }) =
    ap (version_in (own_name a ws bs) n) k.entries
    ∙ version_saved (own_name a ws bs) (own_settings a ws bs) es (store_stands store s.lent_store p.read).formed in
    let holds : version_in (own_name a ws bs) v (entries_of store') ≡ some (record { number = v; settings = own_settings a ws bs }) =
    subst (λ (m : ℕ). version_in (own_name a ws bs) m (entries_of store') ≡ some (record { number = m; settings = own_settings a ws bs })) (sym same) here in
    let many : length (own_controls a ws bs) ≡ length (own_definition a ws bs).front.values =
    controls_many (length (own_definition a ws bs).front.values) (drop (row_words * (node a (decode ws bs)).row) (decode ws bs).controls) in
    record {
      stays = k.formed;
      holds = holds;
      recalls = λ b vs cs whole there single.
          let done = recall_done (own_name a ws bs) v b store' vs cs (record { number = v; settings = own_settings a ws bs }) whole k.formed there single holds in
          (done, calls_are (own_name a ws bs) v b store' vs cs (record { number = v; settings = own_settings a ws bs }) done holds);
      sets = λ ks e.
          ap (λ (o : Option Version). recall_kind (settings_by o) (synth (own_definition a ws bs) ks)) holds
          ∙ recall_restores (own_definition a ws bs) (own_controls a ws bs) ks (many ∙ sym e);
    }
