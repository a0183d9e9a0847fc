-- The hosts of the code as the history knows them.
use Rattle.std.specs.Prelude.{ℕ, false, None, slice_index_or}
use Rattle.history.specs.Shelf as history
use Rattle.hosts.specs.declared.Host.{Host}
use Rattle.hosts.specs.declared.Hosts.{Hosts}

abbrev pub host_as : Host → history.Host
host_as h = record { sense = h.sense; attention = h.attention }

-- a host for which nothing is kept
abbrev pub nobody : Host
nobody = record { sense = None; attention = false }

abbrev pub hosts_of : Hosts → ℕ → history.Host
hosts_of hs k = host_as (slice_index_or hs.each k nobody)
