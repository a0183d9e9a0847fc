use Rattle.std.proofs.Common.{◌∙◌, ap}
use Rattle.history.specs.Orders.{operated}
use Rattle.orders.specs.Decoded.{operation_as}
use Rattle.table.proofs.Records.{fine_in, fine_operated, fine_told}
use Rattle.table.proofs.rows.Table.operate.Goals as goal

pub put-requires : goal.put-requires
put-requires c =
    let o = operation_as c.args.operation in
    fine_told c.operated.result _ (c.operated.ensures ∙ ap (operated o) c.slot.ensures) (fine_operated o _ (fine_in c.args.self.now c.args.k))
