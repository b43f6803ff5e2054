-- Words over a run: what lies past them, and more words behind them.
use Rattle.std.specs.Prelude.{ℕ, ◌+◌, ◌*◌, ◌-◌, ◌≤◌, ◌≡◌, List, [], ◌++◌, length, take, drop}
use Rattle.std.proofs.Common.{sym, ap, ap₂, ◌∙◌, append_assoc, append-nil, arith, add-zero, length-append, length-take, length-drop, take-append-drop, drop-drop, drop_at, take_at}
use Rattle.words.specs.Parts.{over}
use Rattle.nodes.specs.Table.{width, rows}
use Rattle.nodes.specs.TableLaws.{rows_drop}

module _ (at : ℕ) (vs us : List ℕ) (long : at + length vs ≤ length us) where
  over_front : length (take at us ++ vs) ≡ at + length vs
  over_front = simp (length-append, length-take) (omega arith)

  pub over_length : length (over at vs us) ≡ length us
  over_length = simp (length-append, length-take, length-drop) (omega arith)

  -- what lies past the words is as it was
  pub over_past : (b : ℕ) → at + length vs ≤ b → drop b (over at vs us) ≡ drop b us
  over_past b past =
      let m = b - (at + length vs) in
      let rest : b ≡ at + length vs + m = omega arith in
      ap (λ (j : ℕ). drop j (over at vs us)) rest
      ∙ sym (drop-drop m (at + length vs) (over at vs us))
      ∙ ap (λ (l : List ℕ). drop m l) (drop_at (take at us ++ vs) (drop (at + length vs) us) (at + length vs) over_front)
      ∙ drop-drop m (at + length vs) us
      ∙ ap (λ (j : ℕ). drop j us) (sym rest)

  pub over_rows : (n e : ℕ) → at + length vs ≤ width * e → drop e (rows n (over at vs us)) ≡ drop e (rows n us)
  over_rows n e past = rows_drop e n (over at vs us) ∙ ap (λ (l : List ℕ). rows (n - e) l) (over_past (width * e) past) ∙ sym (rows_drop e n us)

  -- more words behind them
  pub over_more : (ws : List ℕ) (b : ℕ) → b ≡ at + length vs → b + length ws ≤ length us → over b ws (over at vs us) ≡ over at (vs ++ ws) us
  over_more ws b e more =
      let k = at + length vs in
      let p = take at us ++ vs in
      let size : length (vs ++ ws) ≡ length vs + length ws = length-append vs ws in
      let ends : k + length ws ≡ at + length (vs ++ ws) = omega arith in
      ap (λ (j : ℕ). over j ws (over at vs us)) e
      ∙ ap₂ (λ (a b : List ℕ). a ++ ws ++ b) (take_at p (drop k us) k over_front) (over_past (k + length ws) (omega arith))
      ∙ ap₂ (λ (a : List ℕ) (j : ℕ). a ++ drop j us) (append_assoc (take at us) vs ws) ends

pub over_none : (at : ℕ) (us : List ℕ) → over at [] us ≡ us
over_none at us = ap₂ (λ (a : List ℕ) (j : ℕ). a ++ drop j us) (append-nil (take at us)) (add-zero at) ∙ take-append-drop at us
