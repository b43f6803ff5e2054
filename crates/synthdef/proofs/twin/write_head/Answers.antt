use Prim.Native.Nat.{ℕ, ◌/◌, ◌%◌}
use Rattle.format.specs.Writer.{file_type, file_version}
use Rattle.words.specs.Bytes.{bytes32}
use Rattle.words.specs.Parts.{over}
use Rattle.osc.specs.Over.{over_over}
use mathlib.Core.Path.{refl, ap, ◌∙◌}
use mathlib.Core.List.{List, [], ◌∷◌, ◌++◌}
use native.Mathlib.Omega.{arith}
use Rattle.synthdef.proofs.twin.write_head.Goals as goal

pub returns : goal.returns
returns c =
    let out = c.args.out.now in
    let n = c.args.count in
    let high = n / 256 % 256 ∷ [] in
    let low = n % 256 ∷ [] in
    let room = c.requires in
    c.put_byte-2.ensures
    ∙ ap (over 9 low) (c.put_byte.ensures ∙ ap (over 8 high) (c.put_int-2.ensures ∙ ap (over 4 (bytes32 file_version)) c.put_int.ensures))
    ∙ ap (λ (l : List ℕ). over 9 low (over 8 high l)) (over_over 0 4 (bytes32 file_type) (bytes32 file_version) out refl (omega arith))
    ∙ ap (over 9 low) (over_over 0 8 (bytes32 file_type ++ bytes32 file_version) high out refl (omega arith))
    ∙ over_over 0 9 (bytes32 file_type ++ bytes32 file_version ++ high) low out refl (omega arith)
