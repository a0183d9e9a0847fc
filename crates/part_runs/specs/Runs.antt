-- Runs of parts in a page.
use Rattle.std.specs.Prelude.{ℕ, ◌+◌, ◌*◌, cond, List, ◌++◌, length, take, drop, Some, None, Option, nat_le}

-- the page with the bytes laid over it from a place on; all else stays
abbrev pub over : List ℕ → ℕ → List ℕ → List ℕ
over page at bs = take at page ++ (bs ++ drop (at + length bs) page)

-- the place after n bytes from a place on, where a page of that length holds them
abbrev pub end_within : ℕ → ℕ → ℕ → Option ℕ
end_within len at n = cond (nat_le (at + n) len) (Some (at + n)) None

-- the page with the bytes laid over it where it holds n bytes from the place on; else the page as it was
abbrev pub laid_if_room : List ℕ → ℕ → ℕ → List ℕ → List ℕ
laid_if_room page at n bs = cond (nat_le (at + n) (length page)) (over page at bs) page

-- the w bytes of part k of the run that begins at a place
abbrev pub part_bytes : ℕ → List ℕ → ℕ → ℕ → List ℕ
part_bytes w page at k = take w (drop (at + k * w) page)
