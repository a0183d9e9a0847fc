use Rattle.std.proofs.Common.{◌++◌, arith}
use Rattle.std.specs.List.{flat_map}
use Rattle.parts.specs.Laid.{byte_laid}
use Rattle.part_runs.proofs.Over.{joined_length}
use Rattle.pages.proofs.Fronts.{fitted, next, none, unfitted}
use Rattle.pages.proofs.Sizes.{bytes_long, with_end_long}
use Rattle.pages.proofs.runs.lay_with_end.Goals as goal

pub returns-then-not-fit : goal.returns-then-not-fit
returns-then-not-fit g c =
    let l = with_end_long g.P.Part.laid g.P.Part.WIDTH g.met.P.Part.wide c.args.parts.now c.args.end.now in
    let u = unfitted (flat_map g.P.Part.laid c.args.parts.now ++ flat_map byte_laid c.args.end.now) c.args.buffer.now _ l (rw c.WIDTH.ensures at c.if-not-fit.ensures) in
    record { len = u.0; page = u.1 }

pub returns : goal.returns
returns g c =
    let run = flat_map g.P.Part.laid c.args.parts.now in
    let end = flat_map byte_laid c.args.end.now in
    let old = c.args.buffer.now in
    let j = joined_length g.P.Part.laid g.P.Part.WIDTH g.met.P.Part.wide c.args.parts.now in
    let b = bytes_long c.args.end.now in
    let one = next run (none old) (omega arith) c.put_run-at.ensures.page in
    let two = next end one (omega arith) c.put_run.ensures.page in
    let l = with_end_long g.P.Part.laid g.P.Part.WIDTH g.met.P.Part.wide c.args.parts.now c.args.end.now in
    let u = fitted (run ++ end) old c.put_run.new.page c.put_run.result _ l (rw c.WIDTH.ensures at c.if-not-fit.ensures) two in
    record { len = u.0; page = u.1 }
