-- The slots of the code as the history knows them.
use Rattle.std.specs.Prelude.{cond}
use Rattle.enclosure.specs.declared.record.rows.Row.{Row}
use Rattle.history.specs.Orders.{both_rebuild, flagged, stored, with_row}
use Rattle.history.specs.Shelf as history
use Rattle.table.specs.declared.slot.Slot.{Slot}

abbrev pub slot_as : Slot → history.Slot
slot_as s = record { row = s.row; state = s.state; identify = s.identify }

-- a triple with a flag becomes the record, unless it has both rebuild flags
abbrev pub replaced : Row → history.Slot → history.Slot
replaced t s = cond (flagged t) (cond (both_rebuild t) s (with_row (stored t) s)) s
