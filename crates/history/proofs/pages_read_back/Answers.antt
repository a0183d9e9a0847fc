use Rattle.history.proofs.pages_read_back.Goals as goal
use Rattle.history.proofs.ReadBack.{pages_read_back}

pub returns : goal.returns
returns c = pages_read_back
