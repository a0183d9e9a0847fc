-- The lamp of a slot, by its record and whether it is to be identified.
use Rattle.std.specs.Prelude.{Bool, cond, ◌||◌, ℕ}
use Rattle.enclosure.specs.Flags.{bit}
use Rattle.enclosure.specs.declared.record.rows.Row.{Row}
use Rattle.lamps.specs.declared.Lamp.{Lamp}
use Rattle.lamps.specs.declared.Lamp.TheVariants.{Off, NoError, Faulty, Rebuilding, Failed, Spare, Predicted, Identify}

-- the number of each lamp
abbrev pub lamp_number : Lamp → ℕ
lamp_number Off = 0
lamp_number NoError = 1
lamp_number Faulty = 2
lamp_number Rebuilding = 3
lamp_number Failed = 4
lamp_number Spare = 5
lamp_number Predicted = 6
lamp_number Identify = 7

-- the first that applies: identify; Device Faulty; In Failed Array or Rebuild Stopped; Device Rebuilding or In Critical Array; Predicted Fault; Parity Check or Hot Spare; No Error; otherwise off
abbrev pub lamp_of : Row → Bool → Lamp
lamp_of r identify =
    cond identify Identify
    (cond (bit 1 r.flags) Faulty
    (cond (bit 3 r.flags || bit 1 r.more) Failed
    (cond (bit 2 r.flags || bit 4 r.flags) Rebuilding
    (cond (bit 6 r.flags) Predicted
    (cond (bit 5 r.flags || bit 0 r.more) Spare
    (cond (bit 0 r.flags) NoError Off))))))
