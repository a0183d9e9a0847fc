use Rattle.history.proofs.records_fine.Goals as goal
use Rattle.history.proofs.Rows.{records_fine}

pub returns : goal.returns
returns c = records_fine
