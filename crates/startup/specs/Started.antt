-- The outputs as a shelf is switched on: fans run at 4, supplies are on, the alarm is off, the lock open.
use Rattle.std.specs.Prelude.{ℕ, Bool, true, false, cond, ◌&&◌, Some, None, Option}
use Rattle.backplane.specs.Meaning.{Inputs, Value, has, sampled}
use Rattle.backplane.specs.Rows.{row_below}
use Rattle.backplane.specs.declared.places.Output.{Output}
use Rattle.backplane.specs.declared.places.Output.TheVariants.{Lamp, Connection, Speed, Supply, Alarm, Lock}
use Rattle.backplane.specs.declared.rows.Row.TheVariants.{Speeds, Supplies}

-- the outputs that are set: lamps and connections depend on the slots, and are left
abbrev pub starts : Output → Bool
starts (Lamp k) = false
starts (Connection k) = false
starts (Speed k) = true
starts (Supply k) = true
starts Alarm = true
starts Lock = true

-- what they are set to
abbrev pub start_number : Output → ℕ
start_number (Lamp k) = 0
start_number (Connection k) = 0
start_number (Speed k) = 4
start_number (Supply k) = 1
start_number Alarm = 0
start_number Lock = 0

-- outputs of which those that a test holds of are made other numbers
abbrev pub made_where : (Output → Bool) → (Output → ℕ) → Value → Value
made_where test n v =
    record { configuration = v.configuration; inputs = v.inputs; outputs = λ o. cond (test o) (n o) (v.outputs o); beside = v.beside }

-- each output that is fitted and is set has its number, and all else is as it was
abbrev pub started : Value → Value
started v = made_where (λ o. has v.configuration o && starts o) start_number v

-- the same after a frame was sampled; a frame that reads as nothing alters nothing
abbrev pub switched_on : Value → Option Inputs → Value
switched_on v (Some p) = started (sampled v (Some p))
switched_on v None = v

-- the fans, the supplies below a number
abbrev pub fans_below : ℕ → Output → Bool
fans_below = row_below Speeds

abbrev pub supplies_below : ℕ → Output → Bool
supplies_below = row_below Supplies
