-- The over-temperature flags, sensors first and then thermostats, as two bytes of the status page.
use Rattle.std.specs.Prelude.{ℕ, zero, suc, ◌+◌, ◌^◌, Bool, false, cond, ◌||◌, List, [], ◌∷◌, slice_index_or}

-- a flag, which is false where it is not fitted
abbrev pub flag : List Bool → ℕ → Bool
flag flags k = slice_index_or flags k false

-- the number whose bits 0 to n - 1 are the n flags from a place on
abbrev pub flag_bits : List Bool → ℕ → ℕ → ℕ
flag_bits flags at zero = 0
flag_bits flags at (suc n) = flag_bits flags at n + cond (flag flags (at + n)) (2 ^ n) 0

-- one of the n flags from a place on is set
abbrev pub one_set : List Bool → ℕ → ℕ → Bool
one_set flags at zero = false
one_set flags at (suc n) = one_set flags at n || flag flags (at + n)

-- the first byte has flags 8 to 14 as bits 0 to 6, and bit 7 if one of flags 0 to 14 is set; the second has flags 0 to 7
abbrev pub heat_bytes : List Bool → List ℕ
heat_bytes flags = (flag_bits flags 8 7 + cond (one_set flags 0 15) 128 0) ∷ flag_bits flags 0 8 ∷ []
