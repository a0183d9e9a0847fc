-- The numbers of refusals, statuses and sense.
use Rattle.std.specs.Prelude.{ℕ}
use Rattle.answers.specs.declared.refusal.Refusal.{Refusal}
use Rattle.answers.specs.declared.refusal.Refusal.TheVariants.{Host, Cdb, Data, Room, Frame, Counts, Unpowered, NoSlots}
use Rattle.answers.specs.declared.sense.Sense.{Sense}
use Rattle.answers.specs.declared.sense.Sense.TheVariants.{Nothing, Opcode, Field, LogicalUnit, Order, Attention}
use Rattle.answers.specs.declared.status.Status.{Status}
use Rattle.answers.specs.declared.status.Status.TheVariants.{Good, CheckCondition}

-- the number of each refusal
abbrev pub refusal_number : Refusal → ℕ
refusal_number Host = 1
refusal_number Cdb = 2
refusal_number Data = 3
refusal_number Room = 4
refusal_number Frame = 5
refusal_number Counts = 6
refusal_number Unpowered = 20
refusal_number NoSlots = 21

-- the byte of each status: 00h, 02h
abbrev pub status_byte : Status → ℕ
status_byte Good = 0x00
status_byte CheckCondition = 0x02

-- the sense key: 00h, 05h for what the host did wrong, 06h for attention
abbrev pub sense_key : Sense → ℕ
sense_key Nothing = 0x00
sense_key Opcode = 0x05
sense_key Field = 0x05
sense_key LogicalUnit = 0x05
sense_key Order = 0x05
sense_key Attention = 0x06

-- the additional sense code
abbrev pub sense_code : Sense → ℕ
sense_code Nothing = 0x00
sense_code Opcode = 0x20
sense_code Field = 0x24
sense_code LogicalUnit = 0x25
sense_code Order = 0x26
sense_code Attention = 0x29

-- its qualifier
abbrev pub sense_qualifier : Sense → ℕ
sense_qualifier Nothing = 0x00
sense_qualifier Opcode = 0x00
sense_qualifier Field = 0x00
sense_qualifier LogicalUnit = 0x00
sense_qualifier Order = 0x02
sense_qualifier Attention = 0x00
