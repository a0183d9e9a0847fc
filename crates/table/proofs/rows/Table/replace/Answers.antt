use Rattle.std.proofs.Common.{◌∙◌, ap}
use Rattle.table.specs.Rows.{replaced}
use Rattle.table.proofs.Records.{fine_in, fine_replaced, fine_told}
use Rattle.table.proofs.rows.Table.replace.Goals as goal

pub put-requires : goal.put-requires
put-requires c =
    fine_told c.replaced.result _ (c.replaced.ensures ∙ ap (replaced c.args.triple) c.slot.ensures) (fine_replaced c.args.triple _ (fine_in c.args.self.now c.args.k))
