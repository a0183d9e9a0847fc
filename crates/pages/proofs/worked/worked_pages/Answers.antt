use Rattle.std.proofs.Common.{refl, arith}
use Rattle.pages.proofs.Sizes.{slots_long, status_long}
use Rattle.pages.proofs.worked.worked_pages.Goals as goal

pub returns : goal.returns
returns c =
    record { supply = refl; status = λ s f p d t. omega (arith, status_long s); slots = λ xs n. omega (arith, slots_long xs); heat = refl }
