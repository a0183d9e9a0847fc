use Rattle.std.proofs.Common.{◌≡◌, ◌<◌, ap, ◌∙◌, arith}
use Rattle.backplane.specs.Meaning.{Value}
use Rattle.history.specs.Shelf.{Slot}
use Rattle.startup.specs.Started.{made_where}
use Rattle.table.specs.Table.{slots_of}
use Rattle.showing.specs.Shown.{of_slot, slot_number}
use Rattle.showing.proofs.Slots.{show_more}
use Rattle.showing.proofs.show_slots.Goals as goal

pub loop-k-preserved : goal.loop-k-preserved
loop-k-preserved g c =
    let v = g.B.Backplane.value c.args.b.now in
    let u = g.B.Backplane.value c.loop-k.b in
    let slots = slots_of c.args.table.now in
    let k = c.loop-k.k in
    let n : c.configuration-k-end.result.counts.slots ≡ v.configuration.counts.slots = ap (λ p. p.counts.slots) c.configuration-k-end.ensures in
    let l : k < c.configuration-k-end.result.counts.slots = c.loop-k-test.true in
    c.show_slot.ensures
    ∙ ap (λ (s : Slot). made_where (of_slot u.configuration k) (slot_number (λ _. s)) u) c.slot.ensures
    ∙ ap (λ (x : Value). made_where (of_slot x.configuration k) (slot_number (λ _. slots k)) x) c.loop-k.invariant
    ∙ show_more v slots k (omega arith)
