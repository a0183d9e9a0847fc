use Rattle.std.proofs.Common.{◌≡◌, rules}
use Rattle.part_runs.specs.Runs.{part_bytes}
use Rattle.part_runs.proofs.PartAt.{part_back}
use Rattle.part_runs.proofs.part_of_run.Goals as goal

pub returns-clause-back : goal.returns-clause-back
returns-clause-back g c =
    let r : c.read.result ≡ g.P.Part.reads (part_bytes g.P.Part.WIDTH c.args.page.now c.args.at c.args.k) = search rules in
    part_back g.P.Part.laid g.P.Part.reads g.P.Part.WIDTH g.met.P.Part.wide g.met.P.Part.back c.args.page.now c.args.at c.args.k _ r
