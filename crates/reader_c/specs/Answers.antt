-- What a C caller is told, from what the reader answers.
use Rattle.std.specs.Prelude.{ℕ, cond, List, ◌++◌, length, drop, Ok, Err, Result, nat_lt}
use Rattle.reader.specs.declared.fault.Fault.{Fault}
use Rattle.reader.specs.Numbers.{fault_number}
use Rattle.reader.specs.Reads.{Handed}

-- the two numbers of a part: where it stands in its page, and how many bytes it takes
abbrev pub place_of : Handed → ℕ
place_of h = h.place

abbrev pub width_of : Handed → ℕ
width_of h = length h.bytes

-- of a place: 0, or the fault's number
abbrev pub place_answer : Result Handed Fault → ℕ
place_answer (Ok h) = 0
place_answer (Err e) = fault_number e

-- a number of the caller's: a part's, or at a fault as it was
abbrev pub place_number : (Handed → ℕ) → Result Handed Fault → ℕ → ℕ
place_number of (Ok h) old = of h
place_number of (Err e) old = old

-- of a part, for a buffer of so many bytes: the fault's number; 100 where the part has more bytes than the buffer; else 0
abbrev pub part_answer : ℕ → Result Handed Fault → ℕ
part_answer room (Ok h) = cond (nat_lt room (width_of h)) 100 0
part_answer room (Err e) = fault_number e

-- a number of the caller's: a part's where it has room, else as it was
abbrev pub part_number : (Handed → ℕ) → ℕ → Result Handed Fault → ℕ → ℕ
part_number of room (Ok h) old = cond (nat_lt room (width_of h)) old (of h)
part_number of room (Err e) old = old

-- the caller's buffer: the part's bytes at the front and then the old bytes, where the part has room; else as it was
abbrev pub part_out : Result Handed Fault → List ℕ → List ℕ
part_out (Ok h) old = cond (nat_lt (length old) (width_of h)) old (h.bytes ++ drop (width_of h) old)
part_out (Err e) old = old
