use Rattle.std.proofs.Common.{add-mul, one-mul, arith}
use Rattle.part_runs.proofs.Over.{turn}
use Rattle.part_runs.proofs.put_run.Goals as goal

pub loop-part-preserved : goal.loop-part-preserved
loop-part-preserved g c = (
  omega (arith, add-mul c.loop-part.part-index 1 g.P.Part.WIDTH, one-mul g.P.Part.WIDTH),
  turn g.P.Part.laid g.P.Part.WIDTH g.met.P.Part.wide _ _ _ _ _ _ _ _ c.loop-part-test.true c.part-item.is c.requires c.loop-part.invariant.0 c.loop-part.invariant.1 c.put-place.ensures.page,
)
