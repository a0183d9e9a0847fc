-- What order bytes name first.
use Rattle.std.specs.Prelude.{ℕ, cond, ◌&&◌, List, length, Some, None, Option, nat_lt, slice_index}

-- bytes 1 and 2, the number of a part below a count and a byte below a bound
abbrev pub numbered : List ℕ → ℕ → ℕ → Option (ℕ × ℕ)
numbered bs count most =
    cond (nat_lt (length bs) 3) None
    (cond (nat_lt (slice_index bs 1) count && nat_lt (slice_index bs 2) most) (Some (slice_index bs 1, slice_index bs 2)) None)
