-- The numbers of faults and runs.
use Rattle.std.specs.Prelude.{ℕ, cond, ◌==◌}
use Rattle.reader.specs.declared.fault.Fault.{Fault}
use Rattle.reader.specs.declared.fault.Fault.TheVariants.{Configuration, Short, Number, NoPart}
use Rattle.reader.specs.declared.fault.Run.{Run}
use Rattle.reader.specs.declared.fault.Run.TheVariants.{Fans, Supplies, Ids, Temperatures, Slots, Counts, Unknown}

-- the number of each fault
abbrev pub fault_number : Fault → ℕ
fault_number Configuration = 7
fault_number Short = 8
fault_number Number = 9
fault_number NoPart = 10

-- the run that a number names: 0 to 5, and any other is a run that the reader does not know
abbrev pub run_numbered : ℕ → Run
run_numbered n =
    cond (n == 0) Fans (cond (n == 1) Supplies (cond (n == 2) Ids (cond (n == 3) Temperatures (cond (n == 4) Slots (cond (n == 5) Counts Unknown)))))
