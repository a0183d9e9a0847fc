-- The byte of a physical state reads as that state.
use Rattle.std.proofs.Common.{◌≡◌, Some, rules}
use Rattle.enclosure.specs.declared.slots.PhysicalState.{PhysicalState}
use Rattle.enclosure.specs.Slots.{state_byte, state_read}

pub state_back : (s : PhysicalState) → state_read (state_byte s) ≡ Some s
state_back s = search rules
