-- The residents whose names are in a file.
use Rattle.std.specs.Prelude.{ℕ, ◌+◌, ◌≤◌, ◌<◌, Bool, true, false, not, ◌≡◌, refl, length, drop, get_or, replicate, eqb}
use Rattle.std.proofs.Common.{sym, ap₂, ◌∙◌, arith, eq-eqb, ne_eqb, eqb-true}
use Rattle.std.proofs.Math.Path.{ap}
use mathlib.Core.List.{List, [], ◌∷◌}
use Rattle.std.proofs.lemmas.List.{get_or-replicate}
use Rattle.std.proofs.lemmas.Bool.{eqb-false}
use Rattle.words.specs.Choice.{pick, both, either}
use Rattle.format.specs.Fields.{string_at}
use Rattle.format.specs.Definition.{Definition}
use Rattle.format.specs.Reader.{same_name, among}
use Rattle.nodes.specs.declared.Node.{Node}
use Rattle.model.specs.Layout.{slot_count}
use Rattle.model.specs.Engine.{Slot, held}
use Rattle.model.specs.Checks.{names_of, staying}
use Rattle.definitions.specs.Holders.{holders, held-holders}
use Rattle.slots.specs.Slots.{slots_on, resident_on, slot-at, slots_end}
use Rattle.definitions.specs.Files.{Held, Run, done, more, first_place, definitions_on}
use Rattle.definitions.specs.Names.{name_on, named_on, MarkedMore}

-- one name or the other is compared first
pub same_sym : (a b : List ℕ) → same_name a b ≡ same_name b a
unfolding same_name
same_sym [] [] = refl
same_sym [] (y ∷ b) = refl
same_sym (x ∷ a) [] = refl
same_sym (x ∷ a) (y ∷ b) = ap₂ (λ (p q : Bool). both p q) (by (eqb y x) refl) (same_sym a b)
  where
    by : (t : Bool) → eqb y x ≡ t → eqb x y ≡ t
    by true e = eq-eqb x y (sym (eqb-true y x e))
    by false e = ne_eqb x y (λ q. eqb-false y x e (sym q))

-- a run of definitions that has not ended, and one that has
pub record Next (s : List ℕ) (at : ℕ) (ds : List Definition) : Type 0 where
  pub next : ℕ
  pub first : Definition
  pub rest : List Definition
  pub here : Held s at next first
  pub run : Run s next rest
  pub whole : ds ≡ first ∷ rest

pub run_next : {s : List ℕ} {at : ℕ} {ds : List Definition} → Run s at ds → at < length s → Next s at ds
run_next (done at h) less = absurd (omega arith)
run_next (more at next d ds h r) less = record { next = next; first = d; rest = ds; here = h; run = r; whole = refl }

pub run_last : {s : List ℕ} {at : ℕ} {ds : List Definition} → Run s at ds → length s ≤ at → ds ≡ []
run_last (done at h) less = refl
run_last (more at next d ds h r) less =
    let f = h.forward in
    let i = h.inside in
    absurd (omega arith)

-- the slot k is resident under one of the names
abbrev pub among_on : List ℕ → List ℕ → List (List ℕ) → ℕ → Bool
among_on table arena names k = both (resident_on table k) (among (name_on table arena k) names)

-- the marks tell which residents have one of the names
pub record NamedBy (table arena : List ℕ) (names : List (List ℕ)) (marks : List Bool) : Type 0 where
  pub size : length marks ≡ slot_count
  pub each : (k : ℕ) → k < slot_count → get_or marks k false ≡ among_on table arena names k

-- the marks by the names before a place in the file
pub record Naming (table arena file : List ℕ) (at : ℕ) (marks : List Bool) : Type 0 where
  pub rest : List Definition
  pub run : Run file at rest
  pub size : length marks ≡ slot_count
  pub left : (k : ℕ) → k < slot_count
      → either (get_or marks k false) (among_on table arena (names_of rest) k) ≡ among_on table arena (names_of (definitions_on file)) k

pub naming_first : (table arena file : List ℕ) → Run file first_place (definitions_on file) → Naming table arena file first_place (replicate slot_count false)
naming_first table arena file r = record {
  rest = definitions_on file;
  run = r;
  size = refl;
  left = λ k h. rw (get_or-replicate slot_count k false false h);
}

naming_step : (m r a : Bool) (n d : List ℕ) → either (either m (both r (same_name n d))) (both r a) ≡ either m (both r (either (same_name d n) a))
naming_step true r a n d = refl
naming_step false true a n d = rw (same_sym n d)
naming_step false false a n d = refl

pub naming_next : (table arena file : List ℕ) (at : ℕ) (marks after : List Bool) (m : Naming table arena file at marks) (n : Next file at m.rest) (name : List ℕ)
    → name ≡ string_at file at → MarkedMore table arena name marks after → Naming table arena file n.next after
unfolding among names_of
naming_next table arena file at marks after m n name e a = record {
  rest = n.rest;
  run = n.run;
  size = a.size;
  left = λ k h.
      let same : name ≡ n.first.front.name = e ∙ sym n.here.named in
      ap (λ (b : Bool). either b (among_on table arena (names_of n.rest) k)) (a.each k h ∙ ap (λ (x : List ℕ). either (get_or marks k false) (named_on table arena x k)) same)
      ∙ naming_step (get_or marks k false) (resident_on table k) (among (name_on table arena k) (names_of n.rest)) (name_on table arena k) n.first.front.name
      ∙ sym (ap (λ (ds : List Definition). either (get_or marks k false) (among_on table arena (names_of ds) k)) n.whole)
      ∙ m.left k h;
}

pub naming_last : (table arena file : List ℕ) (at : ℕ) (marks : List Bool) → Naming table arena file at marks → length file ≤ at → NamedBy table arena (names_of (definitions_on file)) marks
unfolding among names_of
naming_last table arena file at marks m h = record {
  size = m.size;
  each = λ k l.
      let none : m.rest ≡ [] = run_last m.run h in
      sym (or_none (get_or marks k false) (resident_on table k)) ∙ sym (ap (λ (ds : List Definition). either (get_or marks k false) (among_on table arena (names_of ds) k)) none) ∙ m.left k l;
}
  where
    or_none : (b r : Bool) → either b (both r false) ≡ b
    or_none true r = refl
    or_none false true = refl
    or_none false false = refl

-- how many slots stay taken: one step, and the end
module _ (table arena : List ℕ) (names : List (List ℕ)) (t : List Node) where
  staying_turn : (k : ℕ) → k < slot_count
      → staying k names (drop k (slots_on table arena)) t
      ≡ pick (either (held k t) (both (resident_on table k) (not (among (name_on table arena k) names)))) 1 0 + staying (k + 1) names (drop (k + 1) (slots_on table arena)) t
  unfolding staying
  staying_turn k h = ap (λ (l : List Slot). staying k names l t) (slot-at table arena k h)

  pub staying_end : (k : ℕ) → slot_count ≤ k → staying k names (drop k (slots_on table arena)) t ≡ 0
  unfolding staying
  staying_end k h = ap (λ (l : List Slot). staying k names l t) (slots_end table arena k h)

-- a mark tells whether a resident stays
stays_by : (r a : Bool) → both r (not (both r a)) ≡ both r (not a)
stays_by true a = refl
stays_by false a = refl

pub staying_step : (table arena : List ℕ) (names : List (List ℕ)) (marks tests : List Bool) (k : ℕ) → NamedBy table arena names marks → k < slot_count
    → staying k names (drop k (slots_on table arena)) (holders tests)
    ≡ pick (either (get_or tests k false) (both (resident_on table k) (not (get_or marks k false)))) 1 0 + staying (k + 1) names (drop (k + 1) (slots_on table arena)) (holders tests)
staying_step table arena names marks tests k n h =
    staying_turn table arena names (holders tests) k h
    ∙ rw (held-holders tests k, n.each k h, stays_by (resident_on table k) (among (name_on table arena k) names))
