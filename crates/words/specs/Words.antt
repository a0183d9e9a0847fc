-- The words of a line.
use Rattle.std.specs.Prelude.{◌≡◌, ℕ, ◌<◌, Bool, true, false, cond, not, ◌||◌, List, [], ◌∷◌, ◌++◌, length, Some, None, All, filter, Option, ◌==◌}
use Rattle.std.specs.List.{before_first}
use Rattle.words.specs.declared.Words.{Words}

-- A blank is a space, a tab or a carriage return.
abbrev pub blank : ℕ → Bool
blank c = c == 32 || (c == 9 || c == 13)

-- A `#` starts a comment.
abbrev pub comment : ℕ → Bool
comment c = c == 35

-- A newline ends a line.
abbrev pub newline : ℕ → Bool
newline c = c == 10

-- What stands before the first newline.
abbrev pub first_line : List ℕ → List ℕ
first_line text = before_first newline text

-- The words of a text with no comment: one begins at each byte that is no blank and comes first or after a blank,
-- and it runs up to the next blank; `inside` says that the byte before is no blank.
abbrev pub pieces : Bool → List ℕ → List (List ℕ)
pieces inside [] = []
pieces inside (c ∷ cs) = cond (blank c) (pieces false cs) (cond inside (pieces true cs) (before_first blank (c ∷ cs) ∷ pieces true cs))

-- The words of a line: those that stand before its first `#`.
abbrev pub words : List ℕ → List (List ℕ)
words line = pieces false (before_first comment line)

-- The words that are still to come.
abbrev pub left : Words → List (List ℕ)
left w = pieces false w.rest.now

-- The first of some words, if there is one, and the others.
abbrev pub taken : List (List ℕ) → Option (List ℕ) × List (List ℕ)
taken [] = (None, [])
taken (w ∷ ws) = (Some w, ws)

-- Words that each stand after a separator.
abbrev pub joined_after : ℕ → List (List ℕ) → List ℕ
joined_after b [] = []
joined_after b (w ∷ ws) = b ∷ (w ++ joined_after b ws)

-- Words with one separator between each two.
abbrev pub joined_by : ℕ → List (List ℕ) → List ℕ
joined_by b [] = []
joined_by b (w ∷ ws) = w ++ joined_after b ws

-- A word has a byte or more, and neither a blank nor a `#`.
abbrev pub IsWord : List ℕ → Type 0
IsWord w = (0 < length w) × All (λ c. (blank c ≡ false) × (comment c ≡ false)) w

-- A text with its blanks left out.
abbrev pub unblanked : List ℕ → List ℕ
unblanked cs = filter (λ c. not (blank c)) cs
