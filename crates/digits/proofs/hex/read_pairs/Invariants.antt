use Rattle.std.proofs.Common.{◌≡◌, drop, vec_items}
use Rattle.std.specs.List.{concat}
use Rattle.digits.specs.Hex.{hex_read}
use Rattle.digits.proofs.Spelling.{after}
use Rattle.digits.proofs.hex.read_pairs.Given as goal

-- what was read, before what is left, is the whole
abbrev pub invariant-loop-high : goal.invariant-loop-high
invariant-loop-high l = after (vec_items l.bytes) (hex_read (concat (drop l.high-index l.pairs))) ≡ hex_read (concat l.pairs)
