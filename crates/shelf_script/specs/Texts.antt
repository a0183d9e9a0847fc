-- What is said to a call of a script, and the shelf that is held after it.
use Rattle.std.specs.Prelude.{ℕ, Some, None, Option}
use Rattle.calls.specs.Shelves.{Heard, outputs, part, shelf}
use Rattle.fields.specs.declared.expected.Keyword.TheVariants as word
use Rattle.held_shelf.specs.Kept.{Kept, made_shelf}
use Rattle.line_answers.specs.Texts.{asked_text, bad_text, numbered}
use Rattle.script.specs.Texts.{Spoken, answer, unreadable}
use Rattle.shelf_answers.specs.Texts.{held_text, made_text, no_shelf}
use Rattle.shelf_line.specs.ShelfLine.{Asked}

-- what is said to line n if it makes a shelf
abbrev pub shelf_spoken : ℕ → Asked → Spoken
shelf_spoken n a = answer (numbered n (made_text (made_shelf a)))

-- what is said to line n if it asks for the outputs of the shelf that is held, if one is
abbrev pub outputs_spoken : ℕ → Option Kept → Spoken
outputs_spoken n None = unreadable (numbered n (bad_text (no_shelf word.Outputs)))
outputs_spoken n (Some k) = answer (numbered n (held_text k))

-- what is said to a call of line n
abbrev pub call_spoken : ℕ → Option Kept → Heard → Spoken
call_spoken n h (shelf a) = shelf_spoken n a
call_spoken n h outputs = outputs_spoken n h
call_spoken n h (part q) = answer (numbered n (asked_text q))

-- the shelf that is held after a call: a new one after a `shelf` line, else the same
abbrev pub call_next : Option Kept → Heard → Option Kept
call_next h (shelf a) = Some (made_shelf a)
call_next h outputs = h
call_next h (part q) = h
