use Rattle.std.proofs.Common.{◌≡◌, ap, length, ◌∙◌, arith, rules}
use Rattle.std.proofs.lemmas.Fmt.{decimal_nonempty}
use Rattle.digits.proofs.Figures.{number_back}
use Rattle.digits.proofs.number.read_number.Goals as goal

pub returns-then-is_empty-clause-back : goal.returns-then-is_empty-clause-back
returns-then-is_empty-clause-back c n h w =
    let none : length c.args.word.now ≡ 0 = search rules in
    absurd (omega (arith, decimal_nonempty n (search rules), ap length w))

pub returns-clause-back : goal.returns-clause-back
returns-clause-back c n h w = c.read_digits.ensures ∙ number_back c.args.most n c.args.word.now (search rules) h w
