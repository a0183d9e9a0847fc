-- Which call the words of a line are, by a reading of the call that begins with a word.
use Rattle.std.specs.Prelude.{ℕ, List, [], ◌∷◌, Some, None, Ok, Err, Option, Result}
use Rattle.fields.specs.Fields.{Bad, Parsed}

-- a call, with no words left to say
abbrev pub only_call : {X : Type 0} → Parsed X → Result (Option X) Bad
only_call (Ok p) = Ok (Some p.0)
only_call (Err b) = Err b

-- the call that the words of a line are: no words are no call
abbrev pub line_read : {X : Type 0} → (List ℕ → List (List ℕ) → Parsed X) → List (List ℕ) → Result (Option X) Bad
line_read reads [] = Ok None
line_read reads (verb ∷ ws) = only_call (reads verb ws)
