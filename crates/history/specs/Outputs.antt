-- The outputs of a shelf.
use Rattle.std.specs.Prelude.{ℕ, Bool}
use Rattle.backplane.specs.Meaning.{one}
use Rattle.backplane.specs.declared.places.Output.{Output}
use Rattle.backplane.specs.declared.places.Output.TheVariants.{Lamp, Connection, Speed, Supply, Alarm, Lock}
use Rattle.enclosure.specs.Slots.{prepared}
use Rattle.lamps.specs.Lamps.{lamp_number, lamp_of}
use Rattle.history.specs.Shelf.{slot, fan, supply, Shelf, Slot}

-- the lamp of its record and of identify
abbrev pub slot_lamp : Slot → ℕ
slot_lamp s = lamp_number (lamp_of s.row s.identify)

-- a slot is connected exactly if it is prepared
abbrev pub connected : Slot → Bool
connected s = prepared s.state

abbrev pub output : Shelf → Output → ℕ
output s (Lamp k) = slot_lamp (s.parts (slot k))
output s (Connection k) = one (connected (s.parts (slot k)))
output s (Speed k) = s.parts (fan k)
output s (Supply k) = one (s.parts (supply k))
output s Alarm = one s.rest.alarm
output s Lock = one s.rest.lock
