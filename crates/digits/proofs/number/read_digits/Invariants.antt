use Rattle.std.proofs.Common.{◌≡◌, ◌≤◌, drop}
use Rattle.digits.specs.Number.{number_after}
use Rattle.digits.proofs.number.read_digits.Given as goal

-- what is left, after the digits so far, gives the whole
abbrev pub invariant-loop-c : goal.invariant-loop-c
invariant-loop-c l = (number_after l.most l.n (drop l.c-index l.word) ≡ number_after l.most 0 l.word) × (l.n ≤ l.most)
