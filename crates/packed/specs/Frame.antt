-- The frame of a packed backplane: 33 bytes.
use Rattle.std.specs.Prelude.{ℕ, ◌+◌, Bool, false, cond, ◌&&◌, List, length, Some, None, Option, ◌==◌, nat_le, nat_lt, slice_index}
use Rattle.std.specs.List.{list_all, range_with_len}
use Rattle.bits.specs.Image.{bit, half}
use Rattle.enclosure.specs.declared.conditions.Condition.TheVariants.{Works}
use Rattle.backplane.specs.Meaning.{Inputs, condition_of}
use Rattle.backplane.specs.declared.configuration.Configuration.{Configuration}

-- the n halves from a place on are conditions, 0 to 4
abbrev pub conditions_at : List ℕ → ℕ → ℕ → Bool
conditions_at frame at n = list_all (λ k. nat_le (half frame (at + k)) 4) (range_with_len 0 n)

-- 33 bytes, and the conditions of the parts that are fitted are 0 to 4
abbrev pub well_formed : Configuration → List ℕ → Bool
well_formed c frame = length frame == 33 && (conditions_at frame 4 c.counts.fans && conditions_at frame 20 c.counts.supplies)

-- presence in bytes 0 and 1 by bits, conditions of fans in bytes 2 to 9 and of supplies in 10 to 13 by halves, temperatures in bytes 14 to 28,
-- over-temperature flags in bytes 29 to 32 by bits; parts that are not fitted have none
abbrev pub inputs_in : Configuration → List ℕ → Inputs
inputs_in c frame =
    record {
      present = λ k. cond (nat_lt k c.counts.slots) (bit frame k) false;
      fan = λ k. cond (nat_lt k c.counts.fans) (condition_of (half frame (4 + k))) Works;
      supply = λ k. cond (nat_lt k c.counts.supplies) (condition_of (half frame (20 + k))) Works;
      temperature = λ k. cond (nat_lt k c.counts.sensors) (slice_index frame (14 + k)) 0;
      hot = λ k. cond (nat_lt k (c.counts.sensors + c.counts.thermostats)) (bit frame (232 + k)) false;
    }

-- what a frame reads as
abbrev pub reading : Configuration → List ℕ → Option Inputs
reading c frame = cond (well_formed c frame) (Some (inputs_in c frame)) None
