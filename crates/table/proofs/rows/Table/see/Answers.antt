use Rattle.history.proofs.Rows.{sampled_fine}
use Rattle.table.specs.Rows.{slot_as}
use Rattle.table.proofs.Records.{fine_in, fine_told}
use Rattle.table.proofs.rows.Table.see.Goals as goal

pub put-requires : goal.put-requires
put-requires c =
    let fine = fine_told c.slot-slot.result _ c.slot-slot.ensures (fine_in c.args.self.now c.args.k) in
    fine_told c.sampled.result _ c.sampled.ensures (sampled_fine _ c.args.present (slot_as c.slot-slot.result) fine)
