-- The one call of a program for questions.
use Rattle.std.specs.Prelude.{ℕ, cond, List, Some, Err}
use Rattle.fields.specs.Fields.{Parsed, is_text}
use Rattle.fields.specs.Texts.{keyword_text}
use Rattle.fields.specs.declared.expected.Calls.TheVariants as known
use Rattle.fields.specs.declared.expected.Expected.TheVariants as expected
use Rattle.fields.specs.declared.expected.Keyword.TheVariants as word
use Rattle.part_line.specs.PartLine.{Asked, part_words}

-- the question that begins with a word, from the words that follow it
unfoldable pub question_read : List ℕ → List (List ℕ) → Parsed Asked
question_read verb ws =
    cond (is_text verb (keyword_text word.Part)) (part_words ws)
    (Err (record { expected = expected.Call known.Part; found = Some verb }))
