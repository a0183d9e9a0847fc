use Rattle.std.proofs.Common.{◌≡◌, ◌∙◌, rules}
use Rattle.backplane.specs.Meaning.{one, put}
use Rattle.backplane.specs.declared.places.Output.TheVariants.{Lamp, Connection}
use Rattle.history.specs.Outputs.{connected, slot_lamp}
use Rattle.table.specs.Rows.{slot_as}
use Rattle.showing.proofs.Slots.{show_one}
use Rattle.showing.proofs.show_slot.Goals as goal

pub returns : goal.returns
returns g c =
    let v = g.B.Backplane.value c.args.b.now in
    let k = c.args.k in
    let s = slot_as c.args.slot in
    let a : g.B.Backplane.value c.set-2.new.self ≡ put (put v (Lamp k) (slot_lamp s)) (Connection k) (one (connected s)) = search rules in
    a ∙ show_one v k s
