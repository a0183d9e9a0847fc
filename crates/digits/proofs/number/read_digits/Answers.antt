use Rattle.std.proofs.Common.{◌∙◌, rules}
use Rattle.digits.proofs.Figures.{no_further}
use Rattle.digits.proofs.number.read_digits.Goals as goal

pub returns-in_err-n : goal.returns-in_err-n
returns-in_err-n c = c.from_residual.ensures ∙ no_further c.args.most c.loop-c.n c.loop-c.c-index c.args.word.now (search rules) c.in_err-n.ensures ∙ c.loop-c.invariant.0
