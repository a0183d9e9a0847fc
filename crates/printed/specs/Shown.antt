-- Bytes as they are written.
use Rattle.std.specs.Prelude.{ℕ, ◌/◌, ◌%◌, Bool, cond, not, ◌&&◌, List, [], ◌∷◌, ◌++◌, length, take, ◌==◌, nat_le, nat_lt}
use Rattle.std.specs.Char.{digit_char}
use Rattle.std.specs.List.{flat_map}

-- A byte as two hex digits in lower case.
abbrev pub pair : ℕ → List ℕ
pair b = digit_char (b / 16) ∷ digit_char (b % 16) ∷ []

-- A byte that is written as itself: 21h to 7Eh but for the backslash and the backquote.
abbrev pub safe : ℕ → Bool
safe b = nat_le 33 b && (nat_le b 126 && (not (b == 92) && not (b == 96)))

-- A byte as itself, or as `\x` and two digits.
abbrev pub mark : ℕ → List ℕ
mark b = cond (safe b) (b ∷ []) (92 ∷ 120 ∷ pair b)

-- A byte as two digits after a blank.
abbrev pub after_blank : ℕ → List ℕ
after_blank b = 32 ∷ pair b

-- Bytes as two digits each, with one blank between each two, and `-` for none.
abbrev pub spaced : List ℕ → List ℕ
spaced [] = 45 ∷ []
spaced (b ∷ bs) = pair b ++ flat_map after_blank bs

-- A word's bytes as marks: the first 40, and `...` where there are more.
abbrev pub quoted : List ℕ → List ℕ
quoted word = flat_map mark (take 40 word) ++ cond (nat_lt 40 (length word)) (46 ∷ 46 ∷ 46 ∷ []) []
