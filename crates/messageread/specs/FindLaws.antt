-- Laws of an address's candidate: no op but it and the one behind it can have the address.
use Prim.Native.Nat.{ℕ, zero, suc, ◌+◌, ◌≤◌, ◌<◌}
use Rattle.std.specs.Prelude.{Bool, ◌≡◌, eqb, leb, ltb, length, get_or}
use Rattle.std.proofs.Math.Bool.{true, false}
use Rattle.std.proofs.Math.Path.{refl, sym, ap}
use Rattle.std.proofs.Common.{◌∙◌}
use mathlib.Core.List.{List, [], ◌∷◌}
use Rattle.std.proofs.Math.Option.{some}
use native.Mathlib.Omega.{arith}
use Rattle.std.proofs.Math.ListN.{get_or-eq_default}
use borrow.Author.Tests.{ne_eqb, eqb-true, eqb-false, leb-true}
use Rattle.words.specs.Choice.{pick, both, either}
use Rattle.words.specs.ChoiceLaws.{both_true}
use Rattle.format.specs.Bounds.{every}
use Rattle.format.specs.Reader.{same_name}
use Rattle.order.specs.Same.{same_true}
use Rattle.calls.specs.Ops.{last_with_address}
use Rattle.messages.specs.Table.{Row, table}
use Rattle.messages.specs.Write.{row_from, row_of}
use Rattle.messageread.specs.Lookup.{meets, op_from, candidates, key_of, candidate_of}
use Rattle.messageread.specs.LookupLaws.{miss, hit}

-- a key past the last
pub op_past : (key : ℕ) → 28 < key → 0 ≡ get_or candidates key 0
op_past key h = sym (get_or-eq_default candidates 0 {n = key} (omega arith))

-- a candidate is the op of an address, or none
few_ops : (l : List ℕ) (k : ℕ) → every (λ n. leb n last_with_address) l ≡ true → get_or l k 0 ≤ last_with_address
unfolding every
few_ops [] k h = omega arith
few_ops (n ∷ l) zero h = leb-true n last_with_address (both_true (leb n last_with_address) (every (λ m. leb m last_with_address) l) h).0
few_ops (n ∷ l) (suc k) h = few_ops l k (both_true (leb n last_with_address) (every (λ m. leb m last_with_address) l) h).1

pub few_candidate : (address : List ℕ) → candidate_of address ≤ last_with_address
unfolding every
few_candidate address = go (ltb (length address) 6)
  where
    go : (b : Bool) → pick b 0 (get_or candidates (key_of address) 0) ≤ last_with_address
    go true = omega arith
    go false = few_ops candidates (key_of address) refl

-- each address leads to its op, or to the one before it
leads : ℕ → Row → Bool
leads op r = either (eqb op (candidate_of r.address)) (eqb op (suc (candidate_of r.address)))

leads_from : ℕ → List Row → Bool
leads_from op [] = true
leads_from op (r ∷ rows) = both (leads op r) (leads_from (suc op) rows)

table_leads : leads_from 1 table ≡ true
unfolding leads_from leads
table_leads = refl

module _ (address ts : List ℕ) where
  other_row : (r : Row) (op : ℕ) (same : Bool) → same_name address r.address ≡ same → leads op r ≡ true → (op ≡ candidate_of address → ⊥) → (op ≡ suc (candidate_of address) → ⊥)
      → meets (some r) address ts ≡ false
  unfolding leads
  other_row r op false e l m n = rw e
  other_row r op true e l m n =
      let there : address ≡ r.address = same_true address r.address e in
      let to : candidate_of address ≡ candidate_of r.address = ap candidate_of there in
      let never : either (eqb op (candidate_of r.address)) (eqb op (suc (candidate_of r.address))) ≡ false =
      rw (ne_eqb op (candidate_of r.address) (λ z. m (z ∙ sym to)), ne_eqb op (suc (candidate_of r.address)) (λ z. n (z ∙ ap suc (sym to)))) in
      cc

  other : (rows : List Row) (op i : ℕ) → leads_from op rows ≡ true → (op + i ≡ candidate_of address → ⊥) → (op + i ≡ suc (candidate_of address) → ⊥)
      → meets (row_from rows (suc i)) address ts ≡ false
  unfolding row_from leads_from
  other [] op i l m n = refl
  other (r ∷ rows) op zero l m n =
      other_row r op (same_name address r.address) refl (both_true (leads op r) (leads_from (suc op) rows) l).0 (λ z. m (omega arith)) (λ z. n (omega arith))
  other (r ∷ rows) op (suc i) l m n = other rows (suc op) i (both_true (leads op r) (leads_from (suc op) rows) l).1 (λ z. m (omega arith)) (λ z. n (omega arith))

  module _ (h : ℕ) (leading : h ≡ candidate_of address) where
    -- a row is quiet that is neither, or is known to be quiet
    quiet : (i : ℕ) (first second : Bool) → eqb (suc i) h ≡ first → eqb (suc i) (suc h) ≡ second
        → (suc i ≡ h → meets (row_of (suc i)) address ts ≡ false) → (suc i ≡ suc h → meets (row_of (suc i)) address ts ≡ false) → meets (row_of (suc i)) address ts ≡ false
    quiet i true second e f m n = m (eqb-true (suc i) h e)
    quiet i false true e f m n = n (eqb-true (suc i) (suc h) f)
    quiet i false false e f m n =
        other table 1 i table_leads
        (λ z. eqb-false (suc i) h e (let w = leading in omega arith))
        (λ z. eqb-false (suc i) (suc h) f (let w = leading in omega arith))

    quiet_at : (i : ℕ) → (suc i ≡ h → meets (row_of (suc i)) address ts ≡ false) → (suc i ≡ suc h → meets (row_of (suc i)) address ts ≡ false) → meets (row_of (suc i)) address ts ≡ false
    quiet_at i m n = quiet i (eqb (suc i) h) (eqb (suc i) (suc h)) refl refl m n

  pub find_first : (h : ℕ) → h ≡ candidate_of address → meets (row_of h) address ts ≡ true → h ≡ op_from 1 table address ts
  unfolding row_from
  find_first zero l e = (cc)
  find_first (suc i) l e =
      let sum : suc i ≡ 1 + i = omega arith in
      sum ∙ sym (hit address ts table 1 i e (λ j before. quiet_at (suc i) l j (λ z. absurd (omega arith)) (λ z. absurd (omega arith))))

  pub find_second : (h : ℕ) → h ≡ candidate_of address → meets (row_of h) address ts ≡ false → meets (row_of (h + 1)) address ts ≡ true → h + 1 ≡ op_from 1 table address ts
  find_second h l quiet-first e =
      let next : h + 1 ≡ suc h = omega arith in
      let sum : h + 1 ≡ 1 + h = omega arith in
      let there : meets (row_of (suc h)) address ts ≡ true = ap (λ (k : ℕ). meets (row_of k) address ts) (sym next) ∙ e in
      sum ∙ sym (hit address ts table 1 h there (λ j before. quiet_at h l j (λ z. ap (λ (k : ℕ). meets (row_of k) address ts) z ∙ quiet-first) (λ z. absurd (omega arith))))

  pub find_none : (h : ℕ) → h ≡ candidate_of address → meets (row_of h) address ts ≡ false → meets (row_of (h + 1)) address ts ≡ false → 0 ≡ op_from 1 table address ts
  find_none h l quiet-first neither =
      let next : suc h ≡ h + 1 = omega arith in
      sym (miss address ts table 1 (λ i. quiet_at h l i (λ z. ap (λ (k : ℕ). meets (row_of k) address ts) z ∙ quiet-first) (λ z. ap (λ (k : ℕ). meets (row_of k) address ts) (z ∙ next) ∙ neither)))
