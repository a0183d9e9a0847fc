-- What a shelf holds, as the history has it.
use Rattle.std.specs.Prelude.{◌≡◌, ℕ, Bool, false, cond, List, [], length, take, Some, None, Option, ◌==◌}
use Rattle.backplane.specs.Meaning.{Value}
use Rattle.backplane.specs.declared.places.Output.TheVariants.{Speed, Supply, Alarm, Lock}
use Rattle.history.specs.Shelf as history
use Rattle.history.specs.Steps.{first_slot}
use Rattle.table.specs.Table.{counts_of, slots_of}
use Rattle.table.specs.declared.memory.Memory.{Memory}

-- the slots of its table, and the settings at its outputs
abbrev pub parts_of : Value → (ℕ → history.Slot) → (p : history.Part) → history.Value p
parts_of v slots (history.slot k) = slots k
parts_of v slots (history.fan k) = v.outputs (Speed k)
parts_of v slots (history.supply k) = v.outputs (Supply k) == 1

abbrev pub rest_of : Value → (ℕ → ℕ) → List ℕ → history.Rest
rest_of v counts flags =
    record { inputs = v.inputs; counts = counts; alarm = (v.outputs Alarm == 1); lock = (v.outputs Lock == 1); flags = flags }

-- the same by what a shelf remembers
abbrev pub parts_in : Value → Memory → (p : history.Part) → history.Value p
parts_in v m = parts_of v (slots_of m.table)

abbrev pub rest_in : Value → Memory → history.Rest
rest_in v m = rest_of v (counts_of m.table) m.flags

-- slots and counts where none matter
abbrev pub no_slots : ℕ → history.Slot
no_slots k = first_slot false

abbrev pub no_counts : ℕ → ℕ
no_counts k = 0

-- whether something that is fitted is set
abbrev pub set_if : Bool → Option ℕ → Option Bool
set_if fitted None = cond fitted (Some false) None
set_if fitted (Some n) = cond fitted (Some (n == 1)) None

-- the status page of a backplane
abbrev pub status_parts : Value → (p : history.Part) → history.Value p
status_parts v = parts_of v no_slots

abbrev pub status_rest : Value → history.Rest
status_rest v = rest_of v no_counts []

-- a page at the front of a buffer, and its length
pub record Front (page buffer : List ℕ) (n : ℕ) : Type 0 where
  pub len : n ≡ length page
  pub page_there : take n buffer ≡ page
