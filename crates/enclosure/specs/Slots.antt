-- The physical state of a slot.
use Rattle.std.specs.Prelude.{ℕ, Bool, true, false, cond, Some, None, Option, ◌==◌}
use Rattle.enclosure.specs.declared.slots.PhysicalState.{PhysicalState}
use Rattle.enclosure.specs.declared.slots.PhysicalState.TheVariants.{EmptyReady, EmptyPrepared, InsertedReady, InsertedPrepared}
use Rattle.enclosure.specs.declared.slots.SlotEvent.{SlotEvent}
use Rattle.enclosure.specs.declared.slots.SlotEvent.TheVariants.{Prepare, Release, Insertion, Removal}

-- a drive is in the slot
abbrev pub inserted : PhysicalState → Bool
inserted EmptyReady = false
inserted EmptyPrepared = false
inserted InsertedReady = true
inserted InsertedPrepared = true

-- the slot is prepared for operation; otherwise it is ready
abbrev pub prepared : PhysicalState → Bool
prepared EmptyReady = false
prepared EmptyPrepared = true
prepared InsertedReady = false
prepared InsertedPrepared = true

-- the state with a drive in it or none, prepared or ready
abbrev pub state_with : Bool → Bool → PhysicalState
state_with false false = EmptyReady
state_with false true = EmptyPrepared
state_with true false = InsertedReady
state_with true true = InsertedPrepared

-- prepare and release set whether the slot is prepared; an insertion puts a drive in; a removal turns a slot with a drive to empty and ready; all else stays
abbrev pub moved : PhysicalState → SlotEvent → PhysicalState
moved s Prepare = state_with (inserted s) true
moved s Release = state_with (inserted s) false
moved s Insertion = state_with true (prepared s)
moved s Removal = cond (inserted s) (state_with false false) s

-- the number of each state, byte 3 of a slot
abbrev pub state_byte : PhysicalState → ℕ
state_byte EmptyReady = 2
state_byte InsertedReady = 3
state_byte EmptyPrepared = 4
state_byte InsertedPrepared = 5

-- the state that a byte is, if it is one
abbrev pub state_read : ℕ → Option PhysicalState
state_read b =
    cond (b == 2) (Some EmptyReady) (cond (b == 3) (Some InsertedReady) (cond (b == 4) (Some EmptyPrepared) (cond (b == 5) (Some InsertedPrepared) None)))
