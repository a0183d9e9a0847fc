-- The calls of a program that knows shelves.
use Rattle.std.specs.Prelude.{ℕ, cond, List, Some, Ok, Err}
use Rattle.fields.specs.Texts.{keyword_text}
use Rattle.fields.specs.declared.expected.Calls.TheVariants.{Shelves}
use Rattle.fields.specs.declared.expected.Expected.TheVariants as expected
use Rattle.fields.specs.declared.expected.Keyword.TheVariants as word
use Rattle.fields.specs.Fields.{Parsed, at_end, is_text, then_read}
use Rattle.part_line.specs.PartLine as part_line
use Rattle.shelf_line.specs.ShelfLine as shelf_line
use Rattle.calls.specs.declared.shelves.Call.{Call}
use Rattle.calls.specs.declared.shelves.Call.TheVariants.{Part, Shelf, Outputs}

-- a call, by what it asks
pub data Heard : Type 0 where
  shelf : shelf_line.Asked → Heard
  outputs : Heard
  part : part_line.Asked → Heard

-- what the code's call asks
abbrev pub heard : Call → Heard
heard (Shelf s) = shelf (shelf_line.shelf_of s)
heard Outputs = outputs
heard (Part q) = part (part_line.asked q)

-- a call of one kind, from what it asks
abbrev pub made_call : {X : Type 0} → (X → Heard) → Parsed X → Parsed Heard
made_call f p = then_read p (λ x ws. Ok (f x, ws))

-- the call that begins with a word, from the words that follow it
unfoldable pub call_read : List ℕ → List (List ℕ) → Parsed Heard
call_read verb ws =
    cond (is_text verb (keyword_text word.Shelf)) (made_call shelf (shelf_line.shelf_words ws))
    (cond (is_text verb (keyword_text word.Outputs)) (made_call (λ _. outputs) (at_end ws))
    (cond (is_text verb (keyword_text word.Part)) (made_call part (part_line.part_words ws))
    (Err (record { expected = expected.Call Shelves; found = Some verb }))))
