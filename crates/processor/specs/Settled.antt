-- What a command that is not refused does.
use Rattle.std.specs.Prelude.{ℕ, List, Some, None, Option}
use Rattle.backplane.specs.Meaning.{Value}
use Rattle.driving.specs.Obeyed.{flags_after, slots_after, value_after}
use Rattle.history.specs.Orders.{Order}
use Rattle.history.specs.Shelf.{Slot}

-- the order that it is, if it is one
abbrev pub slots_by : Option Order → (ℕ → Slot) → ℕ → Slot
slots_by None slots k = slots k
slots_by (Some o) slots k = slots_after o slots k

abbrev pub flags_by : Option Order → List ℕ → List ℕ
flags_by None flags = flags
flags_by (Some o) flags = flags_after o flags

abbrev pub value_by : Option Order → (ℕ → Slot) → Value → Value
value_by None slots v = v
value_by (Some o) slots v = value_after o slots v
