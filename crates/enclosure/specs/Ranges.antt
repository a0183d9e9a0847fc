-- How many parts of each kind a shelf may have.
use Rattle.std.specs.Prelude.{Bool, ◌&&◌, nat_le}
use Rattle.enclosure.specs.declared.counts.PartCounts.{PartCounts}

-- at most 16 fans, at most 8 supplies, 1 to 14 slots, at most 15 sensors and at most 15 thermostats
abbrev pub in_range : PartCounts → Bool
in_range c =
    nat_le c.fans 16 && (nat_le c.supplies 8 && (nat_le 1 c.slots && (nat_le c.slots 14 && (nat_le c.sensors 15 && nat_le c.thermostats 15))))
