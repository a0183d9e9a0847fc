use Rattle.history.proofs.states_kept.Goals as goal
use Rattle.history.proofs.Moved.{states_kept}

pub returns : goal.returns
returns c = states_kept
