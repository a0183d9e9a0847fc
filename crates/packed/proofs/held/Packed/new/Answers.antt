use Rattle.std.proofs.Common.{replicate, refl, ap}
use Rattle.packed.specs.Layout.{value_of}
use Rattle.packed.proofs.Begun.{made_value}
use Rattle.packed.proofs.held.Packed.new.Goals as goal

pub returns : goal.returns
returns c =
    let e = made_value c.from.result c.args.fittings c.args.image.now c.args.image.ghost_name c.from.ensures in
    record { holds = ap (λ x. value_of x (replicate 33 0) c.args.image.now c.args.image.ghost_name) c.from.ensures; shows = e; image = refl }
