use Rattle.history.proofs.settings_kept.Goals as goal
use Rattle.history.proofs.Settings.{settings_kept}

pub returns : goal.returns
returns c = settings_kept
