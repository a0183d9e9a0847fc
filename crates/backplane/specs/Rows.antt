-- The outputs that come in rows.
use Rattle.std.specs.Prelude.{ℕ, Bool, ◌&&◌, ◌==◌, nat_lt}
use Rattle.backplane.specs.Meaning.{index, sort}
use Rattle.backplane.specs.declared.configuration.Configuration.{Configuration}
use Rattle.backplane.specs.declared.places.Output.{Output}
use Rattle.backplane.specs.declared.places.Output.TheVariants.{Lamp, Connection, Speed, Supply}
use Rattle.backplane.specs.declared.rows.Row.{Row}
use Rattle.backplane.specs.declared.rows.Row.TheVariants.{Lamps, Connections, Speeds, Supplies}

-- how many outputs a row has, and output k of it
abbrev pub row_length : Row → Configuration → ℕ
row_length Lamps c = c.counts.slots
row_length Connections c = c.counts.slots
row_length Speeds c = c.counts.fans
row_length Supplies c = c.counts.supplies

abbrev pub place_in : Row → ℕ → Output
place_in Lamps k = Lamp k
place_in Connections k = Connection k
place_in Speeds k = Speed k
place_in Supplies k = Supply k

-- the first n outputs of a row
abbrev pub row_below : Row → ℕ → Output → Bool
row_below row n o = sort o == sort (place_in row 0) && nat_lt (index o) n
