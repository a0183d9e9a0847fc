-- The table of the code as the history knows it.
use Rattle.std.specs.Prelude.{ℕ, ◌+◌, min, Bool, cond, not, ◌&&◌}
use Rattle.history.specs.Shelf as history
use Rattle.table.specs.Entries.{entry_at}
use Rattle.table.specs.Rows.{slot_as}
use Rattle.table.specs.declared.rows.Table.{Table}

unfoldable pub slots_of : Table → ℕ → history.Slot
slots_of t k = slot_as (entry_at t.entries k).slot

unfoldable pub counts_of : Table → ℕ → ℕ
counts_of t k = (entry_at t.entries k).count

-- the count of a slot that had a drive or none, and now has one or none
abbrev pub counted : Bool → Bool → ℕ → ℕ
counted before present count = cond (present && not before) (min 65535 (count + 1)) count
