use Rattle.std.proofs.Common.{◌≡◌, arith, rules}
use Rattle.history.specs.Replies.{slot_bytes}
use Rattle.parts.specs.Laid.{slot_laid}
use Rattle.parts.specs.declared.kinds.Slot.{Slot}
use Rattle.table.specs.Table.{slots_of}
use Rattle.gathering.proofs.Gathered.{laid_each, made_each}
use Rattle.gathering.proofs.kept.slots_shown.Goals as goal

pub returns : goal.returns
returns c = λ n l.
    let r = c.from_fn.ensures.items in
    let h = slots_of c.args.table.now in
    laid_each slot_laid slot_bytes h c.from_fn.result r.each.1 n (omega (arith, r.long))
    (λ k m. made_each _ _ (λ j (y : Slot). slot_laid y ≡ slot_bytes (h j)) (λ j y q w. (search rules, search rules)) c.from_fn.result 14 r k _ (omega arith))
