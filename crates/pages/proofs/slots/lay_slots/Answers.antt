use Rattle.pages.proofs.PagesBack.{slots_back}
use Rattle.pages.proofs.Sizes.{slots_long}
use Rattle.pages.proofs.slots.lay_slots.Goals as goal

pub returns : goal.returns
returns c =
    let page = c.lay_with_end.ensures.page in
    record { len = c.lay_with_end.ensures.len; page = page; size = slots_long c.args.slots.now; back = slots_back c.args.slots.now c.args.buffer.now _ page }
