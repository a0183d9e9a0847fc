use Rattle.std.proofs.Common.{take}
use Rattle.std.specs.Fmt.{IsPlainFormatter, HasWritten}
use Rattle.std.specs.List.{flat_map}
use Rattle.outputs_text.specs.Outputs.{after_blank}
use Rattle.outputs_text.proofs.listed.write_all.Given as goal

-- the numbers so far were written
abbrev pub invariant-loop-n : goal.invariant-loop-n
invariant-loop-n g l = IsPlainFormatter l.initial.f → HasWritten g.W.Write.write_str_gives l.initial.f (flat_map after_blank (take l.n-index l.numbers)) l.f
