-- Lines gathered from chunks of input: the line so far, or nothing once it is too long.
use Rattle.std.specs.Prelude.{ℕ, ◌+◌, Bool, false, cond, List, [], ◌++◌, length, Some, None, Option, ◌==◌, nat_lt}
use Rattle.words.specs.Words.{first_line}

-- a line of which nothing has come yet
abbrev pub begun : Option (List ℕ)
begun = Some []

-- the longest line that is read, in bytes
abbrev pub longest : ℕ
longest = 1048576

-- more bytes of the line; of a line that is too long none are kept
abbrev pub add : Option (List ℕ) → List ℕ → Option (List ℕ)
add None more = None
add (Some bytes) more = cond (nat_lt longest (length bytes + length more)) None (Some (bytes ++ more))

-- whether a chunk has a newline: something follows its first line
abbrev pub newline_in : List ℕ → Bool
newline_in chunk = nat_lt (length (first_line chunk)) (length chunk)

-- how many bytes of a chunk belong to the line, with the newline that ends it
abbrev pub used_of : List ℕ → ℕ
used_of chunk = cond (newline_in chunk) (length (first_line chunk) + 1) (length chunk)

-- nothing of the line has come
abbrev pub nothing_in : Option (List ℕ) → Bool
nothing_in None = false
nothing_in (Some bytes) = length bytes == 0
