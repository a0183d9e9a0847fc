-- What is said to a question.
use Rattle.std.specs.Prelude.{ℕ}
use Rattle.line_answers.specs.Texts.{asked_text, numbered}
use Rattle.part_line.specs.PartLine.{Asked}
use Rattle.script.specs.Texts.{Spoken, answer}

-- what is said to a question of line n
abbrev pub question_spoken : ℕ → Asked → Spoken
question_spoken n q = answer (numbered n (asked_text q))
