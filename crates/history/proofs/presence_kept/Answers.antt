use Rattle.history.proofs.presence_kept.Goals as goal
use Rattle.history.proofs.Present.{presence_kept}

pub returns : goal.returns
returns c = presence_kept
