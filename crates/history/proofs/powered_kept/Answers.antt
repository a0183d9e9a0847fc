use Rattle.history.proofs.powered_kept.Goals as goal
use Rattle.history.proofs.Powered.{powered_kept}

pub returns : goal.returns
returns c = powered_kept
