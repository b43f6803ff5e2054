-- `store::open::add_version` meets its contract: a gap opened, two fields put in, the rest zeroed.
use Prim.Native.Nat.{ℕ, ◌+◌}
use mathlib.Core.Path.{ap, ap₂, ◌∙◌}
use native.Mathlib.Omega.{arith}
use lib.ListN.{length}
use Rattle.words.specs.Parts.{over}
use Rattle.store.specs.Store.{entries_of}
use Rattle.store.specs.Writing.{writing, version_field, highest_field}
use Rattle.tagged.specs.Fields.{write_field}
use Rattle.store.specs.Edit.{zeroed_from, version_put}
use Rattle.store.specs.SplitLaws.{versions_bytes}
use Rattle.store.specs.VersionWalkLaws.{versions_past}
use Rattle.store.proofs.open.add_version.Goals as goal

pub overflow_add-end : goal.overflow_add-end
overflow_add-end c =
    let end = versions_past c.args.store.now c.args.head c.past_versions-end.result c.requires.stand.versions c.past_versions-end.ensures in
    omega (arith, c.requires.stand.before, c.requires.room)

pub copy_within-requires : goal.copy_within-requires
copy_within-requires c =
    let end = versions_past c.args.store.now c.args.head c.past_versions-end.result c.requires.stand.versions c.past_versions-end.ensures in record {
      start_le_end = omega (arith, c.requires.stand.before, c.contents_end-contents.ensures.place);
      in_bounds = omega (arith, c.requires.room, c.contents_end-contents.ensures.place);
      dest_in_bounds = omega (arith, c.requires.stand.before, c.requires.room, c.contents_end-contents.ensures.place);
      not_exhausted = tt;
    }

pub put_number-requires-2 : goal.put_number-requires-2
put_number-requires-2 c =
    let end = versions_past c.args.store.now c.args.head c.past_versions-end.result c.requires.stand.versions c.past_versions-end.ensures in
    omega (arith, c.requires.stand.before, c.requires.room)

-- back from the end: zeroed, the version's field, the highest version, the gap, the ends, the number
pub overflow_add-result : goal.overflow_add-result
overflow_add-result c =
    let end = versions_past c.args.store.now c.args.head c.past_versions-end.result c.requires.stand.versions c.past_versions-end.ensures in
    omega (arith, c.requires.stand.before, c.requires.room)

pub returns : goal.returns
returns c =
    let a = c.args in
    let s = a.store.now in
    let number = c.word_at-number.result + 1 in
    let high = write_field (highest_field number) in
    let new = write_field (version_field number) in
    λ p.
    let end = versions_past s a.head c.past_versions-end.result p c.past_versions-end.ensures in (
      omega (arith, end),
      c.zero_from.ensures
          ∙ ap (zeroed_from (c.contents_end-contents.result + (7 + a.size)))
          (c.put_number-2.ensures
          ∙ ap (over c.past_versions-end.result new) (c.put_number.ensures ∙ ap (over a.head high) c.copy_within.ensures.after))
          ∙ ap₂ (λ (x y : ℕ). version_put a.head x y a.size high new s) end c.contents_end-contents.ensures.place
          ∙ ap (λ (x : ℕ).
          version_put a.head (a.head + (7 + length (versions_bytes p.versions))) (length (writing (entries_of s))) a.size
          (write_field (highest_field (x + 1))) (write_field (version_field (x + 1))) s)
          c.word_at-number.ensures,
    )
