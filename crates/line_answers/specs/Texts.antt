-- The text that answers a question, and that of a complaint.
use Rattle.std.specs.Prelude.{ℕ, List, ◌++◌, Some, None, Ok, Err, codes, decimal, Option, Result}
use Rattle.fields.specs.Texts.{expected_text}
use Rattle.fields.specs.Fields.{Bad}
use Rattle.part_line.specs.PartLine.{Asked}
use Rattle.printed.specs.Shown.{quoted, spaced}
use Rattle.reader.specs.Numbers.{fault_number}
use Rattle.reader.specs.Reads.{Handed, read_part}
use Rattle.reader.specs.declared.fault.Fault.{Fault}

-- an answer begins with the number of its line
abbrev pub numbered : ℕ → List ℕ → List ℕ
numbered n text = decimal n ++ (codes " " ++ text)

-- what the reader's answer prints as
abbrev pub part_text : Result Handed Fault → List ℕ
part_text (Ok h) = codes "part: place " ++ (decimal h.place ++ (codes ", bytes " ++ spaced h.bytes))
part_text (Err f) = codes "part: refused " ++ decimal (fault_number f)

-- the answer to a question for a part
unfoldable pub asked_text : Asked → List ℕ
asked_text q = part_text (read_part q.config q.page q.run q.number)

-- what was found, in words
abbrev pub found_text : Option (List ℕ) → List ℕ
found_text None = codes "the end of the line"
found_text (Some w) = codes "`" ++ (quoted w ++ codes "`")

-- why a line is unreadable
unfoldable pub bad_text : Bad → List ℕ
bad_text b = codes "unreadable: expected " ++ (expected_text b.expected ++ (codes ", found " ++ found_text b.found))
