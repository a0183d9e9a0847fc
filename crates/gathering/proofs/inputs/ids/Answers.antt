use Rattle.std.proofs.Common.{get_or, rules}
use Rattle.gathering.proofs.Gathered.{gathered}
use Rattle.gathering.proofs.inputs.ids.Goals as goal

pub returns : goal.returns
returns g c =
    let v = g.B.Backplane.value c.args.b.now in
    gathered _ _ (λ k. record { 0 = get_or v.configuration.ids k 0 }) _ _ _ c.from_fn.ensures.items (g.B.Backplane.bounded c.args.b.now).slots (λ k y q w. (search rules, λ l. search rules))
