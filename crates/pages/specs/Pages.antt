-- The bytes of each page, from the parts that it shows.
use Rattle.std.specs.Prelude.{ℕ, ◌+◌, Bool, cond, List, [], ◌∷◌, ◌++◌, length, replicate, Some, None, Option, slice_index}
use Rattle.std.specs.List.{flat_map}
use Rattle.enclosure.specs.declared.codes.FanCode.{FanCode}
use Rattle.enclosure.specs.declared.codes.SupplyCode.{SupplyCode}
use Rattle.enclosure.specs.declared.counts.PartCounts.{PartCounts}
use Rattle.parts.specs.Laid.{byte_laid, count_laid, fan_laid, slot_laid, supply_laid}
use Rattle.parts.specs.declared.kinds.InsertionCount.{InsertionCount}
use Rattle.parts.specs.declared.kinds.PlainByte.{PlainByte}
use Rattle.parts.specs.declared.kinds.Slot.{Slot}
use Rattle.pages.specs.Heat.{heat_bytes}
use Rattle.pages.specs.declared.status.StatusParts.{StatusParts}

-- the configuration page: fans, supplies, slots, whether a lock is fitted, sensors, whether an alarm is fitted, thermostats, then zeros up to 64 bytes
abbrev pub configuration_page : PartCounts → Bool → Bool → List ℕ
configuration_page c lock alarm =
    (c.fans ∷ c.supplies ∷ c.slots ∷ cond lock 1 0 ∷ c.sensors ∷ cond alarm 1 0 ∷ c.thermostats ∷ []) ++ replicate 57 0

-- the door is 00h where a lock is fitted and set, else 01h
abbrev pub door_byte : Option Bool → ℕ
door_byte None = 1
door_byte (Some set) = cond set 0 1

-- the speaker is 01h where an alarm is fitted and sounds, else 00h
abbrev pub speaker_byte : Option Bool → ℕ
speaker_byte None = 0
speaker_byte (Some sounds) = cond sounds 1 0

-- what the status page shows: codes of fans and supplies, IDs, the lock and the alarm where they are fitted, temperatures and over-temperature flags
pub record Status : Type 0 where
  pub fans : List FanCode
  pub supplies : List SupplyCode
  pub ids : List PlainByte
  pub lock : Option Bool
  pub alarm : Option Bool
  pub temperatures : List PlainByte
  pub over_temperature : List Bool

-- what the parts that are handed over show
abbrev pub shown : StatusParts → Status
shown p =
    record { fans = p.fans.now; supplies = p.supplies.now; ids = p.ids.now; lock = p.lock; alarm = p.alarm; temperatures = p.temperatures.now; over_temperature = p.over_temperature.now }

-- the status page: fans, supplies, IDs, door and speaker, temperatures, the two heat bytes and 00h
abbrev pub status_page : Status → List ℕ
status_page s =
    flat_map fan_laid s.fans ++ flat_map supply_laid s.supplies ++ flat_map byte_laid s.ids ++ (door_byte s.lock ∷ speaker_byte s.alarm ∷ [])
    ++ flat_map byte_laid s.temperatures ++ (heat_bytes s.over_temperature ++ (0 ∷ []))

-- a byte for each fan, supply, slot and sensor, and five more
abbrev pub status_size : Status → ℕ
status_size s = length s.fans + length s.supplies + length s.ids + length s.temperatures + 5

-- the insertion page: the insertion count of each slot
abbrev pub insertions_page : List InsertionCount → List ℕ
insertions_page counts = flat_map count_laid counts

-- the slot page: each slot, then 00h
abbrev pub slots_page : List Slot → List ℕ
slots_page slots = flat_map slot_laid slots ++ (0 ∷ [])

-- the page of global flags: three flag bytes, then zeros up to 16 bytes
abbrev pub global_flags_page : List ℕ → List ℕ
global_flags_page flags = (slice_index flags 0 ∷ slice_index flags 1 ∷ slice_index flags 2 ∷ []) ++ replicate 13 0
