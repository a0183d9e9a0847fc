-- The entries of the table.
use Rattle.std.specs.Prelude.{◌≡◌, ℕ, false, List, slice_index_or}
use Rattle.std.specs.Coded.{Coded-set, coded_bool, coded_ℕ, le_prop}
use Rattle.enclosure.specs.declared.record.rows.Row.{Row}
use Rattle.enclosure.specs.declared.slots.PhysicalState.TheVariants.{EmptyReady}
use Rattle.history.specs.Kept.{Fine}
use Rattle.history.specs.Steps.{row}
use Rattle.table.specs.declared.rows.Entry.{Entry}
use Rattle.table.specs.declared.slot.Slot.{Slot}

abbrev pub blank : Slot
blank = record { row = row 0 0 0; state = EmptyReady; identify = false }

-- past the table are slots without drives
abbrev pub vacant : Entry
vacant = record { slot = blank; count = 0 }

abbrev pub entry_at : List Entry → ℕ → Entry
entry_at es k = slice_index_or es k vacant

-- the row of each slot is a record
unfoldable pub AllRecords : List Entry → Type 0
AllRecords es = (k : ℕ) → Fine (entry_at es k).slot.row

Fine-prop : (t : Row) (a b : Fine t) → a ≡ b
Fine-prop t a b = λ i. record { rebuild = Coded-set coded_bool _ _ a.rebuild b.rebuild i; more = le_prop a.more b.more i; last = Coded-set coded_ℕ _ _ a.last b.last i }

pub AllRecords-prop : (es : List Entry) (f g : AllRecords es) → f ≡ g
unfolding AllRecords
AllRecords-prop es f g = λ i k. Fine-prop _ (f k) (g k) i
