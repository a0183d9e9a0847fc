-- The codes of fans and supplies.
use Rattle.std.specs.Prelude.{ℕ, cond, Some, None, Option, ◌==◌}
use Rattle.enclosure.specs.declared.codes.FanCode.{FanCode}
use Rattle.enclosure.specs.declared.codes.FanCode.TheVariants.{Works, Broken, Absent, Unknown}
use Rattle.enclosure.specs.declared.codes.SupplyCode.{SupplyCode}
use Rattle.enclosure.specs.declared.codes.SupplyCode.TheVariants.{WorksOn, WorksOff, BrokenOn, BrokenOff, Absent as NoSupply, PresentOnly, Unknown as Unsure}

-- the number of each fan code: 00h, 01h, 02h, 80h
abbrev pub fan_byte : FanCode → ℕ
fan_byte Works = 0
fan_byte Broken = 1
fan_byte Absent = 2
fan_byte Unknown = 128

-- the fan code that a byte is, if it is one
abbrev pub fan_read : ℕ → Option FanCode
fan_read b =
    cond (b == 0) (Some Works) (cond (b == 1) (Some Broken) (cond (b == 2) (Some Absent) (cond (b == 128) (Some Unknown) None)))

-- the number of each supply code: 00h, 01h, 10h, 11h, 20h, 21h, 80h
abbrev pub supply_byte : SupplyCode → ℕ
supply_byte WorksOn = 0
supply_byte WorksOff = 1
supply_byte BrokenOn = 16
supply_byte BrokenOff = 17
supply_byte NoSupply = 32
supply_byte PresentOnly = 33
supply_byte Unsure = 128

-- the supply code that a byte is, if it is one
abbrev pub supply_read : ℕ → Option SupplyCode
supply_read b =
    cond (b == 0) (Some WorksOn) (cond (b == 1) (Some WorksOff) (cond (b == 16) (Some BrokenOn) (cond (b == 17) (Some BrokenOff)
    (cond (b == 32) (Some NoSupply) (cond (b == 33) (Some PresentOnly) (cond (b == 128) (Some Unsure) None))))))
