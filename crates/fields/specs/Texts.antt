-- What a line was expected to hold, in words.
use Rattle.std.specs.Prelude.{ℕ, List, ◌++◌, codes, decimal}
use Rattle.fields.specs.declared.expected.Calls.{Calls}
use Rattle.fields.specs.declared.expected.Calls.TheVariants as calls
use Rattle.fields.specs.declared.expected.Expected.{Expected}
use Rattle.fields.specs.declared.expected.Expected.TheVariants as expected
use Rattle.fields.specs.declared.expected.Keyword.{Keyword}
use Rattle.fields.specs.declared.expected.Keyword.TheVariants as word

-- the text of each keyword
abbrev pub keyword_text : Keyword → List ℕ
keyword_text word.Part = codes "part"
keyword_text word.Config = codes "config"
keyword_text word.Page = codes "page"
keyword_text word.Run = codes "run"
keyword_text word.Number = codes "number"
keyword_text word.Shelf = codes "shelf"
keyword_text word.Fans = codes "fans"
keyword_text word.Supplies = codes "supplies"
keyword_text word.Slots = codes "slots"
keyword_text word.Sensors = codes "sensors"
keyword_text word.Thermostats = codes "thermostats"
keyword_text word.Lock = codes "lock"
keyword_text word.Alarm = codes "alarm"
keyword_text word.Ids = codes "ids"
keyword_text word.Identity = codes "identity"
keyword_text word.Image = codes "image"
keyword_text word.Outputs = codes "outputs"

-- a call, by the names of those that a program knows
abbrev pub calls_text : Calls → List ℕ
calls_text calls.Part = codes "a call: `part`"
calls_text calls.Shelves = codes "a call: `shelf`, `outputs` or `part`"

-- what was expected, in words
abbrev pub expected_text : Expected → List ℕ
expected_text (expected.Call c) = calls_text c
expected_text (expected.Keyword k) = codes "`" ++ (keyword_text k ++ codes "`")
expected_text expected.Bytes = codes "bytes: an even number of hexadecimal digits, or `-`"
expected_text expected.Run = codes "a run: `fans`, `supplies`, `ids`, `temperatures`, `slots`, `counts` or a number up to 255"
expected_text (expected.Number most) = codes "a number up to " ++ decimal most
expected_text expected.Kind = codes "`plain` or `packed`"
expected_text expected.YesNo = codes "`yes` or `no`"
expected_text expected.Identity = codes "36 bytes: 72 hexadecimal digits"
expected_text expected.ShelfBefore = codes "a `shelf` line before it"
expected_text expected.End = codes "the end of the line"
