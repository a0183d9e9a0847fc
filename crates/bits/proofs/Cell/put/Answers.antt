use Rattle.std.proofs.Common.{rules, ◌-◌, ◌<◌, ◌≤◌, arith, get_or, length}
use Rattle.bits.specs.Image.{byte_of, limit}
use Rattle.bits.proofs.Cells.{cell_put}
use Rattle.bits.proofs.Cell.put.Goals as goal

pub returns-clause-image : goal.returns-clause-image
returns-clause-image c =
    let old = c.args.image.now in
    let there : byte_of c.args.self < length old = omega arith in
    let small : get_or old (byte_of c.args.self) 0 < 256 = search rules in
    let fits : c.args.v ≤ limit c.args.self - 1 = omega arith in
    rw (c.byte-at.ensures, c.most-most.ensures, c.shift-shift.ensures) (cell_put old c.args.self c.args.v there small fits)
