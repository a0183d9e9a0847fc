use Rattle.std.proofs.Common.{◌*◌, length, refl}
use Rattle.parts.specs.Laid.{count_laid}
use Rattle.part_runs.proofs.Over.{joined_length}
use Rattle.pages.specs.Pages.{insertions_page}
use Rattle.pages.proofs.Fronts.{one_run}
use Rattle.pages.proofs.PagesBack.{insertions_back}
use Rattle.pages.proofs.Sizes.{insertions_long}
use Rattle.pages.proofs.slots.lay_insertions.Goals as goal

pub returns : goal.returns
returns c =
    let xs = c.args.counts.now in
    let old = c.args.buffer.now in
    let j = joined_length count_laid 2 (λ x. refl) xs in
    let one = one_run (insertions_page xs) old c.lay_run.new.page (length xs * 2) c.lay_run.result j c.lay_run.ensures.place c.lay_run.ensures.page in
    record { len = one.0; page = one.1; size = insertions_long xs; back = insertions_back xs old c.lay_run.new.page one.1 }
