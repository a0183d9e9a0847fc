use Rattle.std.proofs.Common.{◌≡◌, true, eqb, rules}
use Rattle.enclosure.proofs.Records.{record_kept}
use Rattle.enclosure.proofs.record.rows.SlotRecordTryFromRow.try_from.Goals as goal

pub returns : goal.returns
returns c =
    let z : eqb c.args.row.last 0 ≡ true = search rules in
    rw z (record_kept _ _)
