-- Conditions of parts, and the codes that show them.
use Rattle.std.specs.Prelude.{ℕ, Bool, cond, Some, None, Option, ◌==◌}
use Rattle.enclosure.specs.declared.codes.FanCode.{FanCode}
use Rattle.enclosure.specs.declared.codes.FanCode.TheVariants.{Works as FanWorks, Broken as FanBroken, Absent as NoFan, Unknown as FanUnknown}
use Rattle.enclosure.specs.declared.codes.SupplyCode.{SupplyCode}
use Rattle.enclosure.specs.declared.codes.SupplyCode.TheVariants.{WorksOn, WorksOff, BrokenOn, BrokenOff, Absent as NoSupply, PresentOnly as SupplyPresent, Unknown as SupplyUnknown}
use Rattle.enclosure.specs.declared.conditions.Condition.{Condition}
use Rattle.enclosure.specs.declared.conditions.Condition.TheVariants.{Works, Broken, Absent, PresentOnly, Unknown}

-- the number of each condition
abbrev pub condition_number : Condition → ℕ
condition_number Works = 0
condition_number Broken = 1
condition_number Absent = 2
condition_number PresentOnly = 3
condition_number Unknown = 4

-- the condition that a number names, if it names one
abbrev pub condition_numbered : ℕ → Option Condition
condition_numbered n =
    cond (n == 0) (Some Works) (cond (n == 1) (Some Broken) (cond (n == 2) (Some Absent) (cond (n == 3) (Some PresentOnly) (cond (n == 4) (Some Unknown) None))))

-- a fan that works, is broken or is absent has a code of its own; of any other condition its code says that it is unknown
abbrev pub fan_of : Condition → FanCode
fan_of Works = FanWorks
fan_of Broken = FanBroken
fan_of Absent = NoFan
fan_of PresentOnly = FanUnknown
fan_of Unknown = FanUnknown

-- the code of a supply says whether it is on where it works or is broken, and its condition alone otherwise
abbrev pub supply_of : Condition → Bool → SupplyCode
supply_of Works on = cond on WorksOn WorksOff
supply_of Broken on = cond on BrokenOn BrokenOff
supply_of Absent on = NoSupply
supply_of PresentOnly on = SupplyPresent
supply_of Unknown on = SupplyUnknown
