-- The frame of a plain backplane.
use Rattle.std.specs.Prelude.{ℕ, ◌+◌, Bool, false, cond, ◌&&◌, List, length, take, drop, Some, None, Option, ◌==◌, nat_lt, slice_index}
use Rattle.enclosure.specs.declared.conditions.Condition.TheVariants.{Works}
use Rattle.backplane.specs.Configured.{at_most_each}
use Rattle.backplane.specs.Meaning.{Inputs, condition_of}
use Rattle.backplane.specs.declared.configuration.Configuration.{Configuration}
use Rattle.plain.specs.declared.frame.Places.{Places}

-- where the conditions of fans, those of supplies, the temperatures and the over-temperature flags begin, and the end: presence comes first
abbrev pub fans_at : Configuration → ℕ
fans_at c = c.counts.slots

abbrev pub supplies_at : Configuration → ℕ
supplies_at c = fans_at c + c.counts.fans

abbrev pub temperatures_at : Configuration → ℕ
temperatures_at c = supplies_at c + c.counts.supplies

abbrev pub flags_at : Configuration → ℕ
flags_at c = temperatures_at c + c.counts.sensors

abbrev pub frame_length : Configuration → ℕ
frame_length c = flags_at c + (c.counts.sensors + c.counts.thermostats)

abbrev pub places_of : Configuration → Places
places_of c = record { fans = fans_at c; supplies = supplies_at c; temperatures = temperatures_at c; flags = flags_at c; end = frame_length c }

-- a frame of that length, whose presence bytes are 0 or 1, conditions 0 to 4 and over-temperature flags 0 or 1
abbrev pub well_formed : Configuration → List ℕ → Bool
well_formed c frame =
    (length frame == frame_length c)
    && (at_most_each 1 (take (fans_at c) frame)
    && (at_most_each 4 (take (c.counts.fans + c.counts.supplies) (drop (fans_at c) frame))
    && at_most_each 1 (drop (flags_at c) frame)))

-- the inputs in a frame; parts that are not fitted have none
abbrev pub inputs_in : Configuration → List ℕ → Inputs
inputs_in c frame =
    record {
      present = λ k. cond (nat_lt k c.counts.slots) (slice_index frame k == 1) false;
      fan = λ k. cond (nat_lt k c.counts.fans) (condition_of (slice_index frame (fans_at c + k))) Works;
      supply = λ k. cond (nat_lt k c.counts.supplies) (condition_of (slice_index frame (supplies_at c + k))) Works;
      temperature = λ k. cond (nat_lt k c.counts.sensors) (slice_index frame (temperatures_at c + k)) 0;
      hot = λ k. cond (nat_lt k (c.counts.sensors + c.counts.thermostats)) (slice_index frame (flags_at c + k) == 1) false;
    }

-- what a frame reads as
abbrev pub reading : Configuration → List ℕ → Option Inputs
reading c frame = cond (well_formed c frame) (Some (inputs_in c frame)) None
