use Rattle.std.proofs.Common.{eqb, rules}
use Rattle.backplane.specs.declared.places.Output.TheVariants.{Supply}
use Rattle.enclosure.specs.Conditions.{supply_of}
use Rattle.gathering.proofs.Gathered.{gathered}
use Rattle.gathering.proofs.inputs.supply_codes.Goals as goal

pub returns : goal.returns
returns g c =
    let v = g.B.Backplane.value c.args.b.now in
    gathered _ _ (λ k. supply_of (v.inputs.supply k) (eqb (v.outputs (Supply k)) 1)) _ _ _ c.from_fn.ensures.items (g.B.Backplane.bounded c.args.b.now).supplies (λ k y q w. (search rules, λ l. search rules))
