-- What a backplane is to the processor above it: its configuration, its inputs, and a number at each output.
use Rattle.std.specs.Prelude.{◌≡◌, ℕ, ◌+◌, ◌≤◌, Bool, true, false, cond, ◌&&◌, Some, None, Option, ◌==◌, nat_lt}
use Rattle.std.proofs.Math.Option.{Option as Maybe}
use Rattle.std.specs.Borrow.{GName}
use Rattle.enclosure.specs.Conditions.{condition_number}
use Rattle.enclosure.specs.declared.conditions.Condition.{Condition}
use Rattle.enclosure.specs.declared.conditions.Condition.TheVariants.{Works, Broken, Absent, PresentOnly, Unknown}
use Rattle.backplane.specs.Configured.{none}
use Rattle.backplane.specs.declared.configuration.Configuration.{Configuration}
use Rattle.backplane.specs.declared.places.Input.{Input}
use Rattle.backplane.specs.declared.places.Input.TheVariants.{Presence, Fan, Supply as Power, Temperature, OverTemperature}
use Rattle.backplane.specs.declared.places.Output.{Output}
use Rattle.backplane.specs.declared.places.Output.TheVariants.{Lamp, Connection, Speed, Supply, Alarm, Lock}

-- for each slot whether a drive is in it, for each fan and supply its condition, for each sensor its byte, for each sensor and then each thermostat its over-temperature flag
pub record Inputs : Type 0 where
  pub present : ℕ → Bool
  pub fan : ℕ → Condition
  pub supply : ℕ → Condition
  pub temperature : ℕ → ℕ
  pub hot : ℕ → Bool

-- the condition with a number; past the last number it is unknown
abbrev pub condition_of : ℕ → Condition
condition_of n = cond (n == 0) Works (cond (n == 1) Broken (cond (n == 2) Absent (cond (n == 3) PresentOnly Unknown)))

-- all inputs 0
abbrev pub no_inputs : Inputs
no_inputs = record { present = λ _. false; fan = λ _. Works; supply = λ _. Works; temperature = λ _. 0; hot = λ _. false }

abbrev pub Outputs : Type 0
Outputs = Output → ℕ

-- what a backplane stands over besides: the caller's memory, if any, and its bits that are no output
pub record Beside : Type 0 where
  pub lender : Maybe GName
  pub bits : ℕ → Bool

pub record Value : Type 0 where
  pub configuration : Configuration
  pub inputs : Inputs
  pub outputs : Outputs
  pub beside : Beside

-- the counts are within their limits, and without slots there is nothing at all
pub record Bounded (c : Configuration) : Type 0 where
  pub slots : c.counts.slots ≤ 14
  pub fans : c.counts.fans ≤ 16
  pub supplies : c.counts.supplies ≤ 8
  pub sensors : c.counts.sensors ≤ 15
  pub thermostats : c.counts.thermostats ≤ 15
  pub empty : c.counts.slots ≡ 0 → c ≡ none

-- the sort of an output, and its number among those
abbrev pub sort : Output → ℕ
sort (Lamp k) = 0
sort (Connection k) = 1
sort (Speed k) = 2
sort (Supply k) = 3
sort Alarm = 4
sort Lock = 5

abbrev pub index : Output → ℕ
index (Lamp k) = k
index (Connection k) = k
index (Speed k) = k
index (Supply k) = k
index Alarm = 0
index Lock = 0

abbrev pub same_output : Output → Output → Bool
same_output o p = sort o == sort p && index o == index p

-- whether there is such an output
abbrev pub has : Configuration → Output → Bool
has c (Lamp k) = nat_lt k c.counts.slots
has c (Connection k) = nat_lt k c.counts.slots
has c (Speed k) = nat_lt k c.counts.fans
has c (Supply k) = nat_lt k c.counts.supplies
has c Alarm = c.alarm
has c Lock = c.lock

-- how many numbers it takes: a lamp 0 to 7, a speed 0 to 4, all else 0 and 1
abbrev pub numbers : Output → ℕ
numbers (Lamp k) = 8
numbers (Connection k) = 2
numbers (Speed k) = 5
numbers (Supply k) = 2
numbers Alarm = 2
numbers Lock = 2

-- there is such an output, and it takes the number
abbrev pub fits : Configuration → Output → ℕ → Bool
fits c at n = has c at && nat_lt n (numbers at)

-- whether there is such an input
abbrev pub senses : Configuration → Input → Bool
senses c (Presence k) = nat_lt k c.counts.slots
senses c (Fan k) = nat_lt k c.counts.fans
senses c (Power k) = nat_lt k c.counts.supplies
senses c (Temperature k) = nat_lt k c.counts.sensors
senses c (OverTemperature k) = nat_lt k (c.counts.sensors + c.counts.thermostats)

-- 1 for what is so
abbrev pub one : Bool → ℕ
one b = cond b 1 0

-- the number at an input
abbrev pub input_number : Inputs → Input → ℕ
input_number i (Presence k) = one (i.present k)
input_number i (Fan k) = condition_number (i.fan k)
input_number i (Power k) = condition_number (i.supply k)
input_number i (Temperature k) = i.temperature k
input_number i (OverTemperature k) = one (i.hot k)

-- what a question answers: the number, if the part is fitted
abbrev pub input_of : Value → Input → Option ℕ
input_of v at = cond (senses v.configuration at) (Some (input_number v.inputs at)) None

abbrev pub output_of : Value → Output → Option ℕ
output_of v at = cond (has v.configuration at) (Some (v.outputs at)) None

-- a frame that reads as something
abbrev pub reads_well : Option Inputs → Bool
reads_well (Some p) = true
reads_well None = false

-- the value with the inputs of a frame, if it reads as something; nothing else is altered
abbrev pub sampled : Value → Option Inputs → Value
sampled v (Some p) = record { configuration = v.configuration; inputs = p; outputs = v.outputs; beside = v.beside }
sampled v None = v

-- the value with one output made n, and no other
abbrev pub altered : Value → Output → ℕ → Value
altered v at n = record { configuration = v.configuration; inputs = v.inputs; outputs = λ o. cond (same_output o at) n (v.outputs o); beside = v.beside }

-- the same, if that fits
abbrev pub put : Value → Output → ℕ → Value
put v at n = cond (fits v.configuration at n) (altered v at n) v
