-- `treecommands::indexing::renew_index` meets its contract: the entries follow their nodes in the region, and a new node's is put in.
use Prim.Native.Nat.{ℕ}
use mathlib.Core.Path.{◌≡◌, subst, subst₂}
use borrow.Author.Rules.{rules}
use lib.ListN.{length}
use Rattle.reindex.specs.declared.edit.Edit.{Edit}
use Rattle.reindex.specs.declared.edit.Edit.TheVariants.{Put}
use Rattle.reindex.specs.FollowWords.{Followed}
use Rattle.reindex.specs.Edits.{new_place}
use Rattle.model.specs.Layout.{count_in, entries_in}
use Rattle.treecommands.specs.Settle.{Changed}
use Rattle.treecommands.specs.Indexing.{changed_follows, kept_index, mid_size, new_reads, new-place, new_index, new_size}
use Rattle.treecommands.proofs.indexing.renew_index.Goals as goal

pub follow_edit-left-requires : goal.follow_edit-left-requires
follow_edit-left-requires c =
    rw c.wide-before.ensures (changed_follows c.args.edit c.args.count c.args.words.now c.requires)

pub put_new-requires : goal.put_new-requires
put_new-requires c =
    let a = c.args in
    let ws = a.words.now in
    let fact : a.edit ≡ Put c.in-Put.at c.in-Put._to = c.in-Put.is in
    let changed : Changed (Put c.in-Put.at c.in-Put._to) a.count ws = subst (λ (x : Edit). Changed x a.count ws) fact c.requires in
    let followed : Followed (new_place (Put c.in-Put.at c.in-Put._to)) (entries_in ws) (count_in ws) c.follow_edit-left.new.index c.follow_edit-left.result =
    subst₂ (λ (x : Edit) (n : ℕ). Followed (new_place x) (entries_in ws) n c.follow_edit-left.new.index c.follow_edit-left.result) fact c.wide-before.ensures c.follow_edit-left.ensures in
    let same : length c.follow_edit-left.new.index ≡ length (entries_in ws) = search rules in
    (mid_size a.count ws c.follow_edit-left.new.index c.follow_edit-left.result c.in-Put.at c.in-Put._to changed followed same, (new_reads a.count ws c.follow_edit-left.new.index c.follow_edit-left.result c.in-Put.at c.in-Put._to changed followed same, new-place a.count ws c.follow_edit-left.new.index c.follow_edit-left.result c.in-Put.at c.in-Put._to changed followed same))

pub returns-in_default : goal.returns-in_default
returns-in_default c =
    let a = c.args in
    let ws = a.words.now in
    kept_index a.count ws c.follow_edit-left.new.index c.follow_edit-left.result a.edit c.in_default.not-Put c.requires (rw c.wide-before.ensures at c.follow_edit-left.ensures)

pub shape_of-words-in-Put : goal.shape_of-words-in-Put
shape_of-words-in-Put c =
    let a = c.args in
    let ws = a.words.now in
    let fact : a.edit ≡ Put c.in-Put.at c.in-Put._to = c.in-Put.is in
    let changed : Changed (Put c.in-Put.at c.in-Put._to) a.count ws = subst (λ (x : Edit). Changed x a.count ws) fact c.requires in
    let followed : Followed (new_place (Put c.in-Put.at c.in-Put._to)) (entries_in ws) (count_in ws) c.follow_edit-left.new.index c.follow_edit-left.result =
    subst₂ (λ (x : Edit) (n : ℕ). Followed (new_place x) (entries_in ws) n c.follow_edit-left.new.index c.follow_edit-left.result) fact c.wide-before.ensures c.follow_edit-left.ensures in
    let same : length c.follow_edit-left.new.index ≡ length (entries_in ws) = search rules in
    new_size a.count ws c.follow_edit-left.new.index c.follow_edit-left.result c.in-Put.at c.in-Put._to changed followed same c.put_new.new.words c.put_new.ensures

pub returns-in-Put : goal.returns-in-Put
returns-in-Put c =
    let a = c.args in
    let ws = a.words.now in
    let fact : a.edit ≡ Put c.in-Put.at c.in-Put._to = c.in-Put.is in
    let changed : Changed (Put c.in-Put.at c.in-Put._to) a.count ws = subst (λ (x : Edit). Changed x a.count ws) fact c.requires in
    let followed : Followed (new_place (Put c.in-Put.at c.in-Put._to)) (entries_in ws) (count_in ws) c.follow_edit-left.new.index c.follow_edit-left.result =
    subst₂ (λ (x : Edit) (n : ℕ). Followed (new_place x) (entries_in ws) n c.follow_edit-left.new.index c.follow_edit-left.result) fact c.wide-before.ensures c.follow_edit-left.ensures in
    let same : length c.follow_edit-left.new.index ≡ length (entries_in ws) = search rules in
    new_index a.count ws c.follow_edit-left.new.index c.follow_edit-left.result c.in-Put.at c.in-Put._to changed followed same c.put_new.new.words c.put_new.ensures
