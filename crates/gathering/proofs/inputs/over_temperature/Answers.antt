use Rattle.std.proofs.Common.{arith, rules}
use Rattle.gathering.proofs.Gathered.{gathered}
use Rattle.gathering.proofs.inputs.over_temperature.Goals as goal

pub returns : goal.returns
returns g c =
    let v = g.B.Backplane.value c.args.b.now in
    let few = g.B.Backplane.bounded c.args.b.now in
    gathered _ _ (λ k. v.inputs.hot k) _ _ _ c.from_fn.ensures.items (omega (arith, few.sensors, few.thermostats)) (λ k y q w. (search rules, λ l. search rules))
