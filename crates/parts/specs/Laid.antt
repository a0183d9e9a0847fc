-- The bytes of a part of each kind, and the part that bytes are.
use Rattle.std.specs.Prelude.{ℕ, ◌+◌, ◌*◌, ◌/◌, ◌%◌, List, [], ◌∷◌, Some, None, Option}
use Rattle.enclosure.specs.Codes.{fan_byte, fan_read, supply_byte, supply_read}
use Rattle.enclosure.specs.Records.{record_of, row_of}
use Rattle.enclosure.specs.Slots.{state_byte, state_read}
use Rattle.enclosure.specs.declared.codes.FanCode.{FanCode}
use Rattle.enclosure.specs.declared.codes.SupplyCode.{SupplyCode}
use Rattle.enclosure.specs.declared.record.SlotRecord.{SlotRecord}
use Rattle.enclosure.specs.declared.slots.PhysicalState.{PhysicalState}
use Rattle.parts.specs.declared.kinds.Slot.{Slot}
use Rattle.parts.specs.declared.kinds.InsertionCount.{InsertionCount}
use Rattle.parts.specs.declared.kinds.PlainByte.{PlainByte}

-- what exactly one byte reads as
abbrev pub one_byte : {X : Type 0} → (ℕ → Option X) → List ℕ → Option X
one_byte f [] = None
one_byte f (b ∷ []) = f b
one_byte f (b ∷ c ∷ bs) = None

-- a fan is its code
abbrev pub fan_laid : FanCode → List ℕ
fan_laid x = fan_byte x ∷ []

abbrev pub fan_reads : List ℕ → Option FanCode
fan_reads bs = one_byte fan_read bs

-- a supply is its code
abbrev pub supply_laid : SupplyCode → List ℕ
supply_laid x = supply_byte x ∷ []

abbrev pub supply_reads : List ℕ → Option SupplyCode
supply_reads bs = one_byte supply_read bs

-- a plain byte is itself, and any byte is one
abbrev pub byte_laid : PlainByte → List ℕ
byte_laid x = x.0 ∷ []

abbrev pub byte_reads : List ℕ → Option PlainByte
byte_reads bs = one_byte (λ b. Some (record { 0 = b })) bs

-- an insertion count is two bytes, the high one first, and any two bytes are one
abbrev pub count_laid : InsertionCount → List ℕ
count_laid x = (x.0 / 256) ∷ (x.0 % 256) ∷ []

abbrev pub count_reads : List ℕ → Option InsertionCount
count_reads [] = None
count_reads (a ∷ []) = None
count_reads (a ∷ b ∷ []) = Some (record { 0 = a * 256 + b })
count_reads (a ∷ b ∷ c ∷ bs) = None

-- a slot is the three bytes of its record and its physical state
abbrev pub slot_laid : Slot → List ℕ
slot_laid x = (row_of x.«record»).flags ∷ (row_of x.«record»).more ∷ (row_of x.«record»).last ∷ state_byte x.state ∷ []

-- a record and a state make a slot where both are there
abbrev pub slot_from : Option SlotRecord → Option PhysicalState → Option Slot
slot_from None s = None
slot_from (Some r) None = None
slot_from (Some r) (Some s) = Some (record { «record» = r; state = s })

abbrev pub slot_reads : List ℕ → Option Slot
slot_reads [] = None
slot_reads (a ∷ []) = None
slot_reads (a ∷ b ∷ []) = None
slot_reads (a ∷ b ∷ c ∷ []) = None
slot_reads (a ∷ b ∷ c ∷ s ∷ []) = slot_from (record_of (record { flags = a; more = b; last = c })) (state_read s)
slot_reads (a ∷ b ∷ c ∷ s ∷ t ∷ bs) = None
