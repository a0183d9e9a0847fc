use Rattle.std.proofs.Common.{take}
use Rattle.std.specs.Fmt.{IsPlainFormatter, HasWritten}
use Rattle.std.specs.List.{flat_map}
use Rattle.printed.specs.Shown.{after_blank}
use Rattle.printed.proofs.SpacedDisplay.fmt.Given as goal

-- the bytes so far were written
abbrev pub invariant-loop-b : goal.invariant-loop-b
invariant-loop-b g l = IsPlainFormatter l.initial.f → HasWritten g.W.Write.write_str_gives l.initial.f (flat_map after_blank (take l.b-index l.rest)) l.f
