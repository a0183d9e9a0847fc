-- The configuration that a backplane is made with.
use Rattle.std.specs.Prelude.{ℕ, Bool, false, cond, ◌&&◌, List, ◌++◌, length, drop, replicate, ◌==◌, nat_le}
use Rattle.std.specs.List.{list_all}
use Rattle.enclosure.specs.Ranges.{in_range}
use Rattle.enclosure.specs.declared.counts.PartCounts.{PartCounts}
use Rattle.backplane.specs.declared.configuration.Configuration.{Configuration}
use Rattle.backplane.specs.declared.configuration.Fittings.{Fittings}

-- each number of a list is at most `most`
abbrev pub at_most_each : ℕ → List ℕ → Bool
at_most_each most = list_all (λ b. nat_le b most)

-- every count zero, and no lock or alarm
abbrev pub none : Configuration
none = record { counts = record { fans = 0; supplies = 0; slots = 0; sensors = 0; thermostats = 0 }; lock = false; alarm = false; ids = replicate 14 0 }

-- each count in range, and an ID from 0 to 15 for each slot
abbrev pub well_formed : PartCounts → List ℕ → Bool
well_formed counts ids = in_range counts && (length ids == counts.slots && at_most_each 15 ids)

-- the configuration with these parts if they are well-formed; else none at all
abbrev pub configured : PartCounts → Bool → Bool → List ℕ → Configuration
configured counts lock alarm ids =
    cond (well_formed counts ids)
    (record { counts = counts; lock = lock; alarm = alarm; ids = ids ++ drop (length ids) (replicate 14 0) })
    none

-- the configuration that is asked for
abbrev pub asked : Fittings → Configuration
asked f = configured f.counts f.lock f.alarm f.ids.now

-- a configuration that is kept if its counts are in range and there is room for it; else none at all
abbrev pub kept : Configuration → Bool → Configuration
kept c room = cond (room && in_range c.counts) c none
