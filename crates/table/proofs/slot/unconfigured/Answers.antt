use Rattle.std.proofs.Common.{◌≡◌, ℕ, ◌+◌, ◌*◌, ◌/◌, ◌%◌, cond, eqb, bit_and, bit_or, ap, arith}
use Rattle.std.proofs.lemmas.Bool.Decides.{nat_tests}
use Rattle.std.proofs.lemmas.Nat.Bits.{and_high}
use Rattle.std.specs.Int.Bits.{or_add_and}
use Rattle.history.specs.Steps.{row}
use Rattle.table.proofs.slot.unconfigured.Goals as goal

set_high : (n : ℕ) → bit_or n 128 ≡ cond (eqb (n / 128 % 2) 1) n (n + 128)
set_high n =
    let sum = or_add_and n 128 in
    let high : bit_and n 128 ≡ n / 128 % 2 * 128 = and_high n 1 7 in
    grind (arith, nat_tests)

pub returns : goal.returns
returns c = ap (λ (n : ℕ). row n c.args.row.more c.args.row.last) (set_high c.args.row.flags)
