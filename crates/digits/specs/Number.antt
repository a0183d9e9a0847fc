-- Numbers as text: decimal digits, the high one first.
use Rattle.std.specs.Prelude.{ℕ, ◌+◌, ◌-◌, ◌*◌, Bool, true, cond, ◌&&◌, List, [], ◌∷◌, Some, None, Option, nat_le}

-- Whether a byte is a decimal digit.
abbrev pub digit : ℕ → Bool
digit c = nat_le 48 c && nat_le c 57

-- Whether each byte is a decimal digit.
abbrev pub all_digits : List ℕ → Bool
all_digits [] = true
all_digits (c ∷ cs) = digit c && all_digits cs

-- The value of digits that stand after those of `n`.
abbrev pub value_from : ℕ → List ℕ → ℕ
value_from n [] = n
value_from n (c ∷ cs) = value_from (n * 10 + (c - 48)) cs

-- The value of digits.
abbrev pub value_of : List ℕ → ℕ
value_of cs = value_from 0 cs

-- A number that is at most `most`.
abbrev pub at_most : ℕ → ℕ → Option ℕ
at_most most n = cond (nat_le n most) (Some n) None

-- The number of digits that stand after those of `n`, if all are digits and it is at most `most`.
abbrev pub number_after : ℕ → ℕ → List ℕ → Option ℕ
number_after most n cs = cond (all_digits cs) (at_most most (value_from n cs)) None

-- The number that a word is: one digit or more, of a value that is at most `most`.
abbrev pub number_read : ℕ → List ℕ → Option ℕ
number_read most [] = None
number_read most (c ∷ cs) = number_after most 0 (c ∷ cs)

-- A further digit after those of `n`, where the number stays at most `most`.
abbrev pub digit_after : ℕ → ℕ → ℕ → Option ℕ
digit_after most n c = cond (digit c) (at_most most (n * 10 + (c - 48))) None
