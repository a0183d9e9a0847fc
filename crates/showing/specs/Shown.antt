-- The outputs that show slots.
use Rattle.std.specs.Prelude.{ℕ, Bool, false, ◌&&◌, ◌==◌, nat_lt}
use Rattle.backplane.specs.Meaning.{one}
use Rattle.backplane.specs.declared.configuration.Configuration.{Configuration}
use Rattle.backplane.specs.declared.places.Output.{Output}
use Rattle.backplane.specs.declared.places.Output.TheVariants.{Lamp, Connection, Speed, Supply, Alarm, Lock}
use Rattle.history.specs.Outputs.{connected, slot_lamp}
use Rattle.history.specs.Shelf.{Slot}

-- lamp and connection of each slot
abbrev pub slot_number : (ℕ → Slot) → Output → ℕ
slot_number slots (Lamp k) = slot_lamp (slots k)
slot_number slots (Connection k) = one (connected (slots k))
slot_number slots (Speed k) = 0
slot_number slots (Supply k) = 0
slot_number slots Alarm = 0
slot_number slots Lock = 0

-- those of the slots below a number
abbrev pub slots_below : ℕ → Output → Bool
slots_below n (Lamp k) = nat_lt k n
slots_below n (Connection k) = nat_lt k n
slots_below n (Speed k) = false
slots_below n (Supply k) = false
slots_below n Alarm = false
slots_below n Lock = false

-- those of one slot, if it is fitted
abbrev pub of_slot : Configuration → ℕ → Output → Bool
of_slot c n (Lamp k) = nat_lt k c.counts.slots && k == n
of_slot c n (Connection k) = nat_lt k c.counts.slots && k == n
of_slot c n (Speed k) = false
of_slot c n (Supply k) = false
of_slot c n Alarm = false
of_slot c n Lock = false
