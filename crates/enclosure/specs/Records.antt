-- Records and rows.
use Rattle.std.specs.Prelude.{ℕ, Bool, true, false, cond, T, Some, None, Option, ◌==◌}
use Rattle.enclosure.specs.declared.record.SlotRecord.{SlotRecord}
use Rattle.enclosure.specs.declared.record.rows.NoRecord.{NoRecord}
use Rattle.enclosure.specs.declared.record.rows.NoRecord.TheVariants.{BothRebuild, Last, Reserved}
use Rattle.enclosure.specs.declared.record.rows.Row.{Row}
use Rattle.enclosure.specs.Flags.{no_reserved, sound}

-- the record of two bytes where they are sound, which k says
abbrev pub record_if : (flags more : ℕ) (k : Bool) → (T k → T (sound flags more)) → Option SlotRecord
record_if flags more true f = Some (record { flags = flags; more = more; sound = f tt })
record_if flags more false f = None

abbrev pub record_made : ℕ → ℕ → Option SlotRecord
record_made flags more = record_if flags more (sound flags more) (λ t. t)

-- the record that a row is: its third byte is 0 and the others are sound
abbrev pub record_of : Row → Option SlotRecord
record_of row = cond (row.last == 0) (record_made row.flags row.more) None

-- why a row that is no record is none: its third byte, or else a reserved bit, or else both rebuild flags
abbrev pub row_fault : Row → NoRecord
row_fault row = cond (row.last == 0) (cond (no_reserved row.more) BothRebuild Reserved) Last

-- the row of a record: its two bytes and 0
abbrev pub row_of : SlotRecord → Row
row_of r = record { flags = r.flags; more = r.more; last = 0 }
