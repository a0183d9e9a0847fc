-- The text that answers a call about shelves.
use Rattle.std.specs.Prelude.{ℕ, List, ◌++◌, Some, None, codes, Option}
use Rattle.fields.specs.Fields.{Bad}
use Rattle.fields.specs.Texts.{keyword_text}
use Rattle.fields.specs.declared.expected.Expected.TheVariants.{ShelfBefore}
use Rattle.fields.specs.declared.expected.Keyword.{Keyword}
use Rattle.held_shelf.specs.Kept.{Kept, image_of, outside_of}
use Rattle.outputs_text.specs.Outputs.{Shown, numbers_text, outputs_shown, outputs_text}
use Rattle.printed.specs.Shown.{spaced}

-- the answer to a line that made a shelf: the lamps of its slots
unfoldable pub made_text : Kept → List ℕ
made_text k = codes "shelf: made; lamps " ++ numbers_text (outputs_shown (outside_of k)).lamps

-- all outputs of a shelf, and its image if it is packed
abbrev pub shown_text : Shown → Option (List ℕ) → List ℕ
shown_text s None = codes "outputs: " ++ outputs_text s
shown_text s (Some image) = codes "outputs: " ++ (outputs_text s ++ (codes "; image " ++ spaced image))

unfoldable pub held_text : Kept → List ℕ
held_text k = shown_text (outputs_shown (outside_of k)) (image_of k)

-- a call that needs a shelf, where none is held
abbrev pub no_shelf : Keyword → Bad
no_shelf name = record { expected = ShelfBefore; found = Some (keyword_text name) }
