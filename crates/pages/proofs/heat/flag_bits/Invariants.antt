use Rattle.std.proofs.Common.{◌≡◌, ◌^◌, ◌<◌, length}
use Rattle.pages.specs.Heat.{flag_bits}
use Rattle.pages.proofs.heat.flag_bits.Given as goal

abbrev pub invariant-loop-k : goal.invariant-loop-k
invariant-loop-k l = (l.bits ≡ flag_bits l.flags l.at (length l.yielded)) × (l.bits < 2 ^ length l.yielded)
