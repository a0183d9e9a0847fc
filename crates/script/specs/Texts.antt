-- What is said to a line of a script, and what is held after it, by a reading of calls, what is said to a call and what is held after one.
use Rattle.std.specs.Prelude.{ℕ, Bool, true, false, List, Some, None, Ok, Err, string_bytes, codes, Option, Result}
use Rattle.calls.specs.Lines.{line_read}
use Rattle.fields.specs.Fields.{Bad, Parsed}
use Rattle.line_answers.specs.Texts.{bad_text, numbered}
use Rattle.words.specs.Words.{words}
use Rattle.script.specs.declared.response.Response.{Response}
use Rattle.script.specs.declared.response.Response.TheVariants as response

-- what is said to a line: nothing, an answer, or that it is unreadable
pub data Spoken : Type 0 where
  nothing : Spoken
  answer : List ℕ → Spoken
  unreadable : List ℕ → Spoken

-- what is said to what line n was read as, where h is held
abbrev pub spoken_to : {H X : Type 0} → (ℕ → H → X → Spoken) → ℕ → H → Result (Option X) Bad → Spoken
spoken_to call_spoken n h (Ok None) = nothing
spoken_to call_spoken n h (Ok (Some call)) = call_spoken n h call
spoken_to call_spoken n h (Err b) = unreadable (numbered n (bad_text b))

-- what is held after it
abbrev pub next_after : {H X : Type 0} → (H → X → H) → H → Result (Option X) Bad → H
next_after call_next h (Ok None) = h
next_after call_next h (Ok (Some call)) = call_next h call
next_after call_next h (Err b) = h

-- what is said to line n of a script, and what is held after it
unfoldable pub line_spoken : {H X : Type 0} → (List ℕ → List (List ℕ) → Parsed X) → (ℕ → H → X → Spoken) → ℕ → H → List ℕ → Spoken
line_spoken call_read call_spoken n h line = spoken_to call_spoken n h (line_read call_read (words line))

unfoldable pub line_next : {H X : Type 0} → (List ℕ → List (List ℕ) → Parsed X) → (H → X → H) → H → List ℕ → H
line_next call_read call_next h line = next_after call_next h (line_read call_read (words line))

-- what is said to line n if it is too long
abbrev pub over_spoken : ℕ → Spoken
over_spoken n = unreadable (numbered n (codes "unreadable: expected a line of at most 1048576 bytes, found a longer one"))

-- the same for a line that was gathered, or was too long
abbrev pub taken_spoken : {H X : Type 0} → (List ℕ → List (List ℕ) → Parsed X) → (ℕ → H → X → Spoken) → ℕ → H → Option (List ℕ) → Spoken
taken_spoken call_read call_spoken n h None = over_spoken n
taken_spoken call_read call_spoken n h (Some line) = line_spoken call_read call_spoken n h line

abbrev pub taken_next : {H X : Type 0} → (List ℕ → List (List ℕ) → Parsed X) → (H → X → H) → H → Option (List ℕ) → H
taken_next call_read call_next h None = h
taken_next call_read call_next h (Some line) = line_next call_read call_next h line

-- what the code says
abbrev pub spoken : Response → Spoken
spoken response.Nothing = nothing
spoken (response.Answer s) = answer (string_bytes s)
spoken (response.Unreadable s) = unreadable (string_bytes s)

-- the text that is said, if any is
abbrev pub text_of : Spoken → Option (List ℕ)
text_of nothing = None
text_of (answer text) = Some text
text_of (unreadable text) = Some text

-- whether the line could be read
abbrev pub readable : Spoken → Bool
readable nothing = true
readable (answer text) = true
readable (unreadable text) = false
