use Rattle.std.proofs.Common.{rules}
use Rattle.enclosure.specs.Conditions.{fan_of}
use Rattle.gathering.proofs.Gathered.{gathered}
use Rattle.gathering.proofs.inputs.fan_codes.Goals as goal

pub returns : goal.returns
returns g c =
    let v = g.B.Backplane.value c.args.b.now in
    gathered _ _ (λ k. fan_of (v.inputs.fan k)) _ _ _ c.from_fn.ensures.items (g.B.Backplane.bounded c.args.b.now).fans (λ k y q w. (search rules, λ l. search rules))
