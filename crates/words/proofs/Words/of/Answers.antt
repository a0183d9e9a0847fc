use Rattle.std.proofs.Common.{rules, ◌≡◌, ◌∙◌}
use Rattle.words.specs.Words.{left, words}
use Rattle.words.proofs.Pieces.{words_back}
use Rattle.words.proofs.Words.of.Goals as goal

pub returns : goal.returns
returns c =
    let all : left (record { rest = c.split_before.result.0 }) ≡ words c.args.line.now = search rules in
    record {
      all = all;
      back = λ b ws is each same. all ∙ words_back b is c.args.line.now ws each same;
    }
