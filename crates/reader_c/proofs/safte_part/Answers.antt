-- The search finds this too, but not once the lines before the cast change: then an error would speak of the cast, and not of what changed.
use Rattle.std.proofs.Common.{rules}
use Rattle.reader_c.proofs.Small.{small}
use Rattle.reader_c.proofs.safte_part.Goals as goal

pub overflow_cast-place : goal.overflow_cast-place
overflow_cast-place c =
    let s = small c.args.config.now c.args.page.now c.from.result c.args.number _ c.in-Ok.ensures in search rules
