use Prim.Native.Nat.{ℕ}
use Rattle.std.proofs.Common.{◌≡◌, inl, inr}
use Rattle.words.specs.Bytes.{bytes32}
use mathlib.Core.Path.{sym, ap, ◌∙◌}
use mathlib.Core.List.{List}
use native.Mathlib.Omega.{arith}
use borrow.Author.Tests.{ltb-true}
use lib.ListN.{length}
use Rattle.osc.specs.Message.{padded}
use Rattle.words.specs.Parts.{over}
use Rattle.treequery.specs.Pieces.{piece_bytes, is_small}
use Rattle.treequery.proofs.piece.put_piece.Goals as goal

pub put_padded-requires : goal.put_padded-requires
put_padded-requires c = omega (arith, ap (length {A = ℕ}) (ap (piece_bytes c.args.definition.now) c.in-Part.is), ap (λ (l : List ℕ). length (padded l)) c.part.ensures)

pub put_mapped-requires : goal.put_mapped-requires
put_mapped-requires c =
    record {
      small = ltb-true c.in-Mapped.bus 10000 (sym (ap is_small c.in-Mapped.is) ∙ c.requires.small);
      room = omega (arith, ap (length {A = ℕ}) (ap (piece_bytes c.args.definition.now) c.in-Mapped.is));
    }

pub returns-in-Part : goal.returns-in-Part
returns-in-Part c =
    let a = c.args in
    c.put_padded.ensures ∙ ap (λ (l : List ℕ). over a.at (padded l) a.out.now) c.part.ensures ∙ ap (λ (l : List ℕ). over a.at l a.out.now) (sym (ap (piece_bytes c.args.definition.now) c.in-Part.is))

pub returns-in-Mapped : goal.returns-in-Mapped
returns-in-Mapped c =
    let a = c.args in
    c.put_mapped.ensures ∙ ap (λ (l : List ℕ). over a.at l a.out.now) (sym (ap (piece_bytes c.args.definition.now) c.in-Mapped.is))

pub put_int-requires : goal.put_int-requires
put_int-requires c =
    let bytes = piece_bytes c.args.definition.now in
    let whole : bytes c.args.piece ≡ bytes32 c.in-Whole.word = elim c.in-Whole.is [ inl h ↦ ap bytes h | inr h ↦ ap bytes h ] in
    omega (arith, ap (length {A = ℕ}) whole)

pub returns-in-Whole : goal.returns-in-Whole
returns-in-Whole c =
    let bytes = piece_bytes c.args.definition.now in
    let whole : bytes c.args.piece ≡ bytes32 c.in-Whole.word = elim c.in-Whole.is [ inl h ↦ ap bytes h | inr h ↦ ap bytes h ] in
    rw whole c.put_int.ensures
