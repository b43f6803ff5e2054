-- What a search by number finds: the record at the number's place, and what follows it.
use Rattle.std.specs.Prelude.{ℕ, suc, Bool, ◌≡◌, refl, eqb}
use Rattle.std.proofs.Math.Bool.{true, false}
use Rattle.std.proofs.Common.{sym, ◌∙◌, eqb-true}
use Rattle.std.proofs.Math.Path.{ap}
use mathlib.Core.List.{List, [], ◌∷◌, nil≢cons, head-eq_of_cons-eq, tail-eq_of_cons-eq}
use Rattle.std.proofs.Math.ListN.{drop}
use Rattle.words.specs.Choice.{pick}
use Rattle.nodes.specs.declared.Node.{Node}
use Rattle.nodes.specs.Place.{place}
use Rattle.model.specs.Engine.{Slot}
use Rattle.model.specs.View.{view_of, view_rows}
use Rattle.model.specs.Replies.{plain_named, rows_below, subtree_rows}

pub number_found : (n : ℕ) (t : List Node) (r : Node) (rest : List Node) → drop (place n t) t ≡ r ∷ rest → r.number ≡ n
unfolding place
number_found n [] r rest e = absurd (nil≢cons e)
number_found n (x ∷ t) r rest e = go (number_found n t r rest) (eqb x.number n) refl e
  where
    go : (drop (place n t) t ≡ r ∷ rest → r.number ≡ n) → (b : Bool) → eqb x.number n ≡ b → drop (pick b 0 (suc (place n t))) (x ∷ t) ≡ r ∷ rest → r.number ≡ n
    go ih true q f = ap (λ (y : Node). y.number) (sym (head-eq_of_cons-eq f)) ∙ eqb-true x.number n q
    go ih false q f = ih f

module _ (slots : List Slot) (controls : List ℕ) where
  pub plain_found : (n : ℕ) (t : List Node) (r : Node) (rest : List Node) → drop (place n t) t ≡ r ∷ rest → plain_named n (view_rows slots controls t) ≡ view_of slots controls r
  unfolding place plain_named view_rows
  plain_found n [] r rest e = absurd (nil≢cons e)
  plain_found n (x ∷ t) r rest e = go (plain_found n t r rest) (eqb x.number n) e
    where
      go : (drop (place n t) t ≡ r ∷ rest → plain_named n (view_rows slots controls t) ≡ view_of slots controls r) → (b : Bool)
          → drop (pick b 0 (suc (place n t))) (x ∷ t) ≡ r ∷ rest → pick b (view_of slots controls x) (plain_named n (view_rows slots controls t)) ≡ view_of slots controls r
      go ih true f = ap (view_of slots controls) (head-eq_of_cons-eq f)
      go ih false f = ih f

  pub subtree_found : (n : ℕ) (t : List Node) (r : Node) (rest : List Node) → drop (place n t) t ≡ r ∷ rest
      → subtree_rows n (view_rows slots controls t) ≡ rows_below r.depth (view_rows slots controls rest)
  unfolding place subtree_rows view_rows
  subtree_found n [] r rest e = absurd (nil≢cons e)
  subtree_found n (x ∷ t) r rest e = go (subtree_found n t r rest) (eqb x.number n) e
    where
      go : (drop (place n t) t ≡ r ∷ rest → subtree_rows n (view_rows slots controls t) ≡ rows_below r.depth (view_rows slots controls rest)) → (b : Bool)
          → drop (pick b 0 (suc (place n t))) (x ∷ t) ≡ r ∷ rest
          → pick b (rows_below x.depth (view_rows slots controls t)) (subtree_rows n (view_rows slots controls t)) ≡ rows_below r.depth (view_rows slots controls rest)
      go ih true f =
          ap (λ (y : Node). rows_below y.depth (view_rows slots controls t)) (head-eq_of_cons-eq f)
          ∙ ap (λ (l : List Node). rows_below r.depth (view_rows slots controls l)) (tail-eq_of_cons-eq f)
      go ih false f = ih f
