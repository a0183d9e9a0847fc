-- Values of the definitions, worked out by hand.
use Rattle.std.specs.Prelude.{◌≡◌, true, false, List, [], ◌∷◌, ◌++◌, length, replicate}
use Rattle.enclosure.specs.Codes.{supply_byte}
use Rattle.enclosure.specs.Conditions.{supply_of}
use Rattle.enclosure.specs.declared.conditions.Condition.TheVariants.{Broken}
use Rattle.parts.specs.declared.kinds.Slot.{Slot}
use Rattle.pages.specs.Heat.{heat_bytes}
use Rattle.pages.specs.Pages.{Status, slots_page, status_page}

pub record Worked : Type 0 where
  -- a supply that is broken and off has code 11h
  pub supply : supply_byte (supply_of Broken false) ≡ 17
  -- 2 fans, 2 supplies, 4 slots and 1 sensor make a status page of 14 bytes
  pub status : (s : Status) → length s.fans ≡ 2 → length s.supplies ≡ 2 → length s.ids ≡ 4 → length s.temperatures ≡ 1 → length (status_page s) ≡ 14
  -- 4 slots make a slot page of 17 bytes
  pub slots : (xs : List Slot) → length xs ≡ 4 → length (slots_page xs) ≡ 17
  -- of 12 sensors and 3 thermostats, the last thermostat alone over temperature gives C0h 00h
  pub heat : heat_bytes (replicate 14 false ++ (true ∷ [])) ≡ 192 ∷ 0 ∷ []
