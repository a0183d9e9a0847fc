use Rattle.std.proofs.Common.{rules, ◌≡◌, ◌<◌, get_or}
use Rattle.bits.specs.Image.{byte_of}
use Rattle.bits.proofs.Cells.{cell_read}
use Rattle.bits.proofs.Cell.get.Goals as goal

pub returns : goal.returns
returns c =
    let image = c.args.image.now in
    let is : c.unwrap_or-byte.result ≡ get_or image (byte_of c.args.self) 0 = search rules in
    let small : get_or image (byte_of c.args.self) 0 < 256 = search rules in
    rw (is, c.shift.ensures, c.most.ensures) (cell_read image c.args.self small)
