-- Values of the definitions, worked out by hand.
use Rattle.std.specs.Prelude.{◌≡◌, ℕ, suc, true, false, cond, List, [], ◌∷◌, ◌++◌, map, length, take, drop, replicate, Some, None, Option, ◌==◌, slice_index}
use Rattle.answers.specs.Numbers.{sense_code, sense_key, sense_qualifier}
use Rattle.answers.specs.declared.sense.Sense.TheVariants as sense
use Rattle.answers.specs.declared.status.Status.TheVariants.{Good, CheckCondition}
use Rattle.backplane.specs.Meaning.{Inputs, no_inputs}
use Rattle.backplane.specs.declared.configuration.Configuration.{Configuration}
use Rattle.backplane.specs.declared.places.Output.TheVariants.{Lamp}
use Rattle.enclosure.specs.Codes.{supply_byte}
use Rattle.enclosure.specs.Conditions.{supply_of}
use Rattle.enclosure.specs.declared.conditions.Condition.TheVariants.{Broken}
use Rattle.lamps.specs.Lamps.{lamp_number, lamp_of}
use Rattle.pages.specs.Heat.{heat_bytes}
use Rattle.history.specs.Shelf.{done, ended, Call, power_on, command, Command, Part, Rest, State, unpowered, powered, Value, World}
use Rattle.history.specs.Orders.{idle, prepare, release, identify, operate, speed, flagged, operation_of, stored}
use Rattle.history.specs.Judgement.{judge, obey, reject}
use Rattle.history.specs.Replies.{page_bytes}
use Rattle.history.specs.Steps.{Entry, history, row, unconfigured}
use Rattle.history.specs.Outputs.{output}

-- so many fans, supplies, slots, sensors and thermostats, with no lock or alarm
abbrev pub fitted : ℕ → ℕ → ℕ → ℕ → ℕ → Configuration
fitted f p d t s =
    record { counts = record { fans = f; supplies = p; slots = d; sensors = t; thermostats = s }; lock = false; alarm = false; ids = replicate 14 0 }

-- a WRITE BUFFER with few bytes, and a READ BUFFER of a page
abbrev pub writing : List ℕ → Command
writing bs = record { host = 3; cdb = 0x3B ∷ 1 ∷ 0 ∷ 0 ∷ 0 ∷ 0 ∷ 0 ∷ 0 ∷ length bs ∷ 0 ∷ []; payload = bs; room = 64 }

abbrev pub reading_page : ℕ → Command
reading_page b = record { host = 3; cdb = 0x3C ∷ 1 ∷ b ∷ 0 ∷ 0 ∷ 0 ∷ 0 ∷ 0 ∷ 64 ∷ 0 ∷ []; payload = []; room = 64 }

-- a frame of two bytes, whether a drive is in each of two slots
abbrev pub two_drives : List ℕ → Option Inputs
two_drives frame =
    cond (length frame == 2)
    (Some (record { present = λ n. (slice_index frame n == 1); fan = no_inputs.fan; supply = no_inputs.supply; temperature = no_inputs.temperature; hot = no_inputs.hot }))
    None

abbrev pub two_slots : World
two_slots = record { configuration = fitted 0 0 2 0 0; reading = two_drives; identity = replicate 36 0 }

abbrev pub test_unit_ready : Command
test_unit_ready = record { host = 3; cdb = 0 ∷ 0 ∷ 0 ∷ 0 ∷ 0 ∷ 0 ∷ []; payload = []; room = 64 }

-- power-on with a drive in slot 0; TEST UNIT READY; a 10h that sets No Error for slot 1; the slot page
abbrev pub worked_calls : List Call
worked_calls =
    power_on (0 ∷ 0 ∷ []) (1 ∷ 0 ∷ []) ∷ command test_unit_ready ∷ command (writing (0x10 ∷ 0 ∷ 0 ∷ 0 ∷ 1 ∷ 0 ∷ 0 ∷ [])) ∷ command (reading_page 4) ∷ []

-- with one over-temperature flag set, and no other
abbrev pub hot_at : ℕ → Rest → Rest
hot_at n r =
    record {
      inputs = record { present = r.inputs.present; fan = r.inputs.fan; supply = r.inputs.supply; temperature = r.inputs.temperature; hot = λ k. (k == n) };
      counts = r.counts;
      alarm = r.alarm;
      lock = r.lock;
      flags = r.flags;
    }

-- the lamps of two slots
abbrev pub two_lamps : State → List ℕ
two_lamps unpowered = []
two_lamps (powered s) = output s (Lamp 0) ∷ output s (Lamp 1) ∷ []

pub record WorkedValues : Type 0 where
  -- lamps of two records
  pub no_error_lamp : lamp_number (lamp_of (row 0x81 0x00 0x00) false) ≡ 1
  pub faulty_lamp : lamp_number (lamp_of (row 0x03 0x00 0x00) false) ≡ 2
  -- both rebuild flags in a triple
  pub both_rebuild : judge (fitted 0 0 1 0 0) false (writing (0x10 ∷ 0x04 ∷ 0x02 ∷ 0x00 ∷ [])) ≡ reject sense.Order
  -- a triple with reserved bits only is no change
  pub no_change : flagged (row 0x00 0x04 0x80) ≡ false
  -- flags in the second byte alone are a change
  pub hot_spare_alone : flagged (row 0x00 0x01 0x00) ≡ true
  pub stopped_alone : flagged (row 0x00 0x02 0x00) ≡ true
  -- reserved bits are stored as 0, flags as they are
  pub stored_flags : stored (row 0xA5 0xFE 0xFF) ≡ row 0xA5 0x02 0x00
  -- Unconfigured is set beside what is set, and stays
  pub put_in : unconfigured (row 0x41 0x01 0x00) ≡ row 0xC1 0x01 0x00
  pub put_in_again : unconfigured (row 0xC1 0x01 0x00) ≡ row 0xC1 0x01 0x00
  -- the sense of an order that is rejected is 05h/26h/02h, of another logical unit 05h/25h/00h
  pub order_sense : (sense_key sense.Order ∷ sense_code sense.Order ∷ sense_qualifier sense.Order ∷ []) ≡ 0x05 ∷ 0x26 ∷ 0x02 ∷ []
  pub unit_sense : (sense_key sense.LogicalUnit ∷ sense_code sense.LogicalUnit ∷ sense_qualifier sense.LogicalUnit ∷ []) ≡ 0x05 ∷ 0x25 ∷ 0x00 ∷ []
  -- one operation each
  pub bit_0 : operation_of 1 ≡ Some prepare
  pub bit_1 : operation_of 2 ≡ Some release
  pub bit_2 : operation_of 4 ≡ Some identify
  -- two operations, and none
  pub two_operations : judge (fitted 0 0 1 0 0) false (writing (0x12 ∷ 0 ∷ 0x05 ∷ [])) ≡ reject sense.Order
  pub no_operation : judge (fitted 0 0 1 0 0) false (writing (0x12 ∷ 0 ∷ 0xF8 ∷ [])) ≡ obey (operate 0 idle)
  -- a supply that is broken and off
  pub broken_off : supply_byte (supply_of Broken false) ≡ 0x11
  -- 2 fans, 2 supplies, 4 slots and 1 sensor
  pub status_size : (ps : (p : Part) → Value p) (r : Rest) → length (page_bytes (fitted 2 2 4 1 0) 1 ps r) ≡ 14
  pub slots_size : (ps : (p : Part) → Value p) (r : Rest) → length (page_bytes (fitted 2 2 4 1 0) 4 ps r) ≡ 17
  -- of 12 sensors and 3 thermostats the last flag alone
  pub heat : heat_bytes (replicate 14 false ++ (true ∷ [])) ≡ 0xC0 ∷ 0x00 ∷ []
  -- the same on the status page of such a shelf with one slot
  pub heat_shown : (ps : (p : Part) → Value p) (r : Rest) → take 2 (drop 15 (page_bytes (fitted 0 0 1 12 3) 1 ps (hot_at 14 r))) ≡ 0xC0 ∷ 0x00 ∷ []
  -- the fastest speed, and one more
  pub fastest : judge (fitted 1 0 1 0 0) false (writing (0x13 ∷ 0 ∷ 4 ∷ [])) ≡ obey (speed 0 4)
  pub too_fast : judge (fitted 1 0 1 0 0) false (writing (0x13 ∷ 0 ∷ 5 ∷ [])) ≡ reject sense.Order
  -- the last slot, and one more
  pub last_slot : (d : ℕ) → judge (fitted 0 0 (suc d) 0 0) false (writing (0x12 ∷ d ∷ 0 ∷ [])) ≡ obey (operate d idle)
  pub past_slot : (d : ℕ) → judge (fitted 0 0 d 0 0) false (writing (0x12 ∷ d ∷ 0 ∷ [])) ≡ reject sense.Order
  -- the run, its newest answer first
  pub run : map (λ (e : Entry). e.answer) (history two_slots worked_calls).log
      ≡ ended Good (0x80 ∷ 0x00 ∷ 0x00 ∷ 0x05 ∷ 0x01 ∷ 0x00 ∷ 0x00 ∷ 0x02 ∷ 0x00 ∷ []) ∷ ended Good [] ∷ ended CheckCondition [] ∷ done ∷ []
  pub run_lamps : two_lamps (history two_slots worked_calls).state ≡ 0 ∷ 1 ∷ []
