use Rattle.std.proofs.Common.{refl}
use Rattle.startup.specs.Started.{start_number}
use Rattle.startup.proofs.start_supplies.Goals as goal

pub returns : goal.returns
returns g c = c.set_row.ensures start_number (λ _. refl)
