use Rattle.std.proofs.Common.{sym, subst, IsOk, Result}
use Rattle.enclosure.specs.declared.record.SlotRecord.{SlotRecord}
use Rattle.enclosure.specs.declared.record.rows.NoRecord.{NoRecord}
use Rattle.table.proofs.Records.{fine_in, fine_told, record_made_of}
use Rattle.table.proofs.rows.Table.record.Goals as goal

pub unwrap-requires : goal.unwrap-requires
unwrap-requires c =
    subst (λ (r : Result SlotRecord NoRecord). IsOk r) (sym c.try_from.ensures)
    (record_made_of _ _ (fine_told c.slot.result _ c.slot.ensures (fine_in c.args.self.now c.args.k)))
