-- What the reader answers, for every configuration page, page, run and part number.
use Rattle.std.specs.Prelude.{ℕ, ◌+◌, ◌*◌, cond, List, length, is_some, Ok, Err, Option, Result, nat_le, nat_lt, slice_index}
use Rattle.enclosure.specs.Ranges.{in_range}
use Rattle.enclosure.specs.declared.counts.PartCounts.{PartCounts}
use Rattle.parts.specs.Laid.{fan_reads, supply_reads, slot_reads, count_reads, byte_reads}
use Rattle.part_runs.specs.Runs.{part_bytes}
use Rattle.reader.specs.declared.fault.Fault.{Fault}
use Rattle.reader.specs.declared.fault.Fault.TheVariants.{Configuration, Short, Number, NoPart}
use Rattle.reader.specs.declared.fault.Found.{Found}
use Rattle.reader.specs.declared.fault.Run.{Run}
use Rattle.reader.specs.declared.fault.Run.TheVariants.{Fans, Supplies, Ids, Temperatures, Slots, Counts, Unknown}

-- a part as it is handed out: its place in the page, and its bytes
pub record Handed : Type 0 where
  pub place : ℕ
  pub bytes : List ℕ

-- what the code's answer hands out
abbrev pub told : Result Found Fault → Result Handed Fault
told (Ok f) = Ok (record { place = f.place; bytes = f.bytes.now })
told (Err e) = Err e

-- the five counts that stand in a configuration page: bytes 0, 1, 2, 4 and 6
abbrev pub counts_in : List ℕ → PartCounts
counts_in c =
    record { fans = slice_index c 0; supplies = slice_index c 1; slots = slice_index c 2; sensors = slice_index c 4; thermostats = slice_index c 6 }

-- the counts of a configuration page, if it has 64 bytes at least and they are in range
abbrev pub counts_of : List ℕ → Result PartCounts Fault
counts_of c =
    cond (nat_lt (length c) 64) (Err Configuration)
    (cond (in_range (counts_in c)) (Ok (counts_in c)) (Err Configuration))

-- part n of a run of parts of w bytes: first the page must hold the run, then the number be below the count, then the bytes be a part
abbrev pub run_part : {X : Type 0} → ℕ → (List ℕ → Option X) → List ℕ → ℕ → ℕ → ℕ → Result Handed Fault
run_part w reads page start count n =
    cond (nat_lt (length page) (start + count * w)) (Err Short)
    (cond (nat_le count n) (Err Number)
    (cond (is_some (reads (part_bytes w page start n))) (Ok (record { place = start + n * w; bytes = part_bytes w page start n })) (Err NoPart)))

-- where each run begins in its page, and how many parts it has; the status page is fans, supplies, IDs, door, speaker, temperatures and what follows
abbrev pub run_of : List ℕ → Run → ℕ → PartCounts → Result Handed Fault
run_of page Fans n c = run_part 1 fan_reads page 0 c.fans n
run_of page Supplies n c = run_part 1 supply_reads page c.fans c.supplies n
run_of page Ids n c = run_part 1 byte_reads page (c.fans + c.supplies) c.slots n
run_of page Temperatures n c = run_part 1 byte_reads page (c.fans + c.supplies + c.slots + 2) c.sensors n
run_of page Slots n c = run_part 4 slot_reads page 0 c.slots n
run_of page Counts n c = run_part 2 count_reads page 0 c.slots n
run_of page Unknown n c = Err Number

-- a fault passes on unaltered
abbrev pub and_then : {X Y E : Type 0} → Result X E → (X → Result Y E) → Result Y E
and_then (Ok x) k = k x
and_then (Err e) k = Err e

-- the reader's answer
abbrev pub read_part : List ℕ → List ℕ → Run → ℕ → Result Handed Fault
read_part config page run n = and_then (counts_of config) (run_of page run n)
