use Rattle.std.proofs.Common.{◌≡◌, ◌+◌, ◌*◌, take}
use Rattle.std.specs.List.{flat_map}
use Rattle.part_runs.specs.Runs.{over}
use Rattle.part_runs.proofs.put_run.Given as goal

abbrev pub invariant-loop-part : goal.invariant-loop-part
invariant-loop-part g l =
    (l.place ≡ l.at + l.part-index * g.P.Part.WIDTH)
    × (l.page ≡ over l.initial.page l.at (flat_map g.P.Part.laid (take l.part-index l.parts)))
