-- Bytes as text: two hex digits for each, the high one first.
use Rattle.std.specs.Prelude.{◌≡◌, ℕ, ◌+◌, ◌-◌, ◌*◌, ◌/◌, ◌%◌, Bool, false, cond, List, [], ◌∷◌, Some, None, Option, ◌==◌, nat_lt}
use Rattle.std.specs.Char.{digit_char}
use Rattle.digits.specs.declared.hex.HexFault.{HexFault}
use Rattle.digits.specs.declared.hex.HexFault.TheVariants.{Memory, NotHex}

-- The value of a hex digit of either case, and nothing of any other byte.
abbrev pub digit_of : ℕ → Option ℕ
digit_of c = cond (nat_lt c 48) None (cond (nat_lt c 58) (Some (c - 48)) (cond (nat_lt c 65) None (cond (nat_lt c 71) (Some (c - 55)) (cond (nat_lt c 97) None (cond (nat_lt c 103) (Some (c - 87)) None)))))

-- The byte of a high and a low digit, if both are there.
abbrev pub paired : Option ℕ → Option ℕ → Option ℕ
paired None low = None
paired (Some h) None = None
paired (Some h) (Some l) = Some (h * 16 + l)

-- The byte that two bytes of text spell.
abbrev pub byte_of : ℕ → ℕ → Option ℕ
byte_of high low = paired (digit_of high) (digit_of low)

-- A byte before what follows it, if both are there.
abbrev pub followed : Option ℕ → Option (List ℕ) → Option (List ℕ)
followed None rest = None
followed (Some b) None = None
followed (Some b) (Some bs) = Some (b ∷ bs)

-- The bytes that a text spells, two digits a byte, or nothing where it is no such text.
abbrev pub hex_read : List ℕ → Option (List ℕ)
hex_read [] = Some []
hex_read (a ∷ []) = None
hex_read (a ∷ b ∷ rest) = followed (byte_of a b) (hex_read rest)

-- Whether a word is a lone `-`.
abbrev pub dash : List ℕ → Bool
dash [] = false
dash (c ∷ []) = c == 45
dash (c ∷ d ∷ rest) = false

-- The bytes that a word stands for: `-` is none, no text is no word, and all else is hex.
abbrev pub bytes_read : List ℕ → Option (List ℕ)
bytes_read [] = None
bytes_read (c ∷ cs) = cond (dash (c ∷ cs)) (Some []) (hex_read (c ∷ cs))

-- When a fault is told: `NotHex` where nothing reads, and `Memory` at any time.
abbrev pub Failed : HexFault → Option (List ℕ) → Type 0
Failed Memory o = Unit {0}
Failed NotHex o = o ≡ None

-- A digit in upper case.
abbrev pub upperChar : ℕ → ℕ
upperChar d = cond (nat_lt d 10) (48 + d) (55 + d)

-- The text of bytes, each digit written by `digit`.
abbrev pub spelled_by : (ℕ → ℕ) → List ℕ → List ℕ
spelled_by digit [] = []
spelled_by digit (b ∷ bs) = digit (b / 16) ∷ digit (b % 16) ∷ spelled_by digit bs

-- The text of bytes in lower case.
abbrev pub spelled : List ℕ → List ℕ
spelled bs = spelled_by digit_char bs

-- The text of bytes in upper case.
abbrev pub spelled_upper : List ℕ → List ℕ
spelled_upper bs = spelled_by upperChar bs
