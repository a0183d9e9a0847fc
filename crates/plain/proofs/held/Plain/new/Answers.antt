use Rattle.plain.proofs.Begun.{made_value}
use Rattle.plain.proofs.held.Plain.new.Goals as goal

pub returns : goal.returns
returns c =
    let e = made_value c.from.result c.blank.result c.args.fittings c.from.ensures c.blank.ensures in
    record { holds = e; shows = e }
