use Rattle.history.proofs.refused_alters_nothing.Goals as goal
use Rattle.history.proofs.Altered.{refused_alters_nothing}

pub returns : goal.returns
returns c = refused_alters_nothing
