-- A page laid into a buffer.
use Rattle.std.specs.Prelude.{ℕ, cond, List, ◌++◌, length, drop, Some, None, Option, nat_le}

-- the length of a page, where a buffer of so many bytes holds it
abbrev pub length_within : List ℕ → ℕ → Option ℕ
length_within page room = cond (nat_le (length page) room) (Some (length page)) None

-- the buffer with the page at its front, where it holds the page; else the buffer as it was
abbrev pub laid_front : List ℕ → List ℕ → List ℕ
laid_front page old = cond (nat_le (length page) (length old)) (page ++ drop (length page) old) old
