use Rattle.history.proofs.check_alters_host.Goals as goal
use Rattle.history.proofs.Altered.{check_alters_host}

pub returns : goal.returns
returns c = check_alters_host
