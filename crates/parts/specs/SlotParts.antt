-- A slot that is laid reads as that slot.
use Rattle.std.specs.Prelude.{◌≡◌, Some}
use Rattle.std.proofs.Common.{ap, ◌∙◌}
use Rattle.enclosure.specs.Slots.{state_byte, state_read}
use Rattle.enclosure.proofs.Records.{record_back}
use Rattle.enclosure.proofs.States.{state_back}
use Rattle.parts.specs.declared.kinds.Slot.{Slot}
use Rattle.parts.specs.Laid.{slot_from, slot_laid, slot_reads}

pub slot_back : (x : Slot) → slot_reads (slot_laid x) ≡ Some x
slot_back x =
    ap (λ r. slot_from r (state_read (state_byte x.state))) (record_back x.«record») ∙ ap (λ s. slot_from (Some x.«record») s) (state_back x.state)
