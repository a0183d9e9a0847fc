use Rattle.std.proofs.Common.{◌≡◌, ℕ, take, ap, ◌∙◌, rules}
use Rattle.history.specs.Replies.{listed}
use Rattle.pages.specs.Pages.{insertions_page}
use Rattle.parts.specs.declared.kinds.InsertionCount.{InsertionCount}
use Rattle.table.specs.Table.{counts_of}
use Rattle.shelf_pages.proofs.Fronts.{front}
use Rattle.shelf_pages.proofs.Listing.{take_listed}
use Rattle.shelf_pages.proofs.insertions.Goals as goal

pub returns : goal.returns
returns g c =
    let f : ℕ → InsertionCount = λ k. record { 0 = counts_of c.args.table.now k } in
    let n = c.slot_count.result in
    let e : take n c.insertion_counts-counts.result ≡ listed f n = ap (take n) c.insertion_counts-counts.ensures ∙ take_listed f n 14 c.slot_count.ensures.few in
    front _ _ c.args.buffer.now _ _ _ (search rules) (search rules) c.lay_insertions.ensures.len c.lay_insertions.ensures.page c.unwrap_or.ensures (ap insertions_page (e ∙ ap (listed f) c.slot_count.ensures.is))
