-- What the words after `part` ask.
use Rattle.std.specs.Prelude.{ℕ, List, Ok, vec_items}
use Rattle.reader.specs.declared.fault.Run.{Run}
use Rattle.digits.specs.Number.{number_read}
use Rattle.fields.specs.declared.expected.Expected.TheVariants as expected
use Rattle.fields.specs.declared.expected.Keyword.TheVariants as word
use Rattle.fields.specs.Fields.{Parsed, named, named_bytes, run_read, then_read, whole, word_as}
use Rattle.part_line.specs.declared.PartQuestion.{PartQuestion}

-- which part of a page is wanted
pub record Asked : Type 0 where
  pub config : List ℕ
  pub page : List ℕ
  pub run : Run
  pub number : ℕ

-- what the code's question asks
abbrev pub asked : PartQuestion → Asked
asked q = record { config = vec_items q.config; page = vec_items q.page; run = q.run; number = q.number }

-- what follows the word `part`: the configuration page, the page, the run and the part number
abbrev pub part_asked : List (List ℕ) → Parsed Asked
part_asked ws =
    then_read (named_bytes word.Config ws) (λ c ws1.
    then_read (named_bytes word.Page ws1) (λ p ws2.
    then_read (named word.Run (word_as expected.Run run_read) ws2) (λ r ws3.
    then_read (named word.Number (word_as (expected.Number 4294967295) (number_read 4294967295)) ws3) (λ n ws4.
    Ok (record { config = c; page = p; run = r; number = n }, ws4)))))

-- the same, and no word after it
unfoldable pub part_words : List (List ℕ) → Parsed Asked
part_words ws = whole (part_asked ws)
