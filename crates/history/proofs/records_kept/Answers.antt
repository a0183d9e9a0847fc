use Rattle.history.proofs.records_kept.Goals as goal
use Rattle.history.proofs.Rows.{records_kept}

pub returns : goal.returns
returns c = records_kept
