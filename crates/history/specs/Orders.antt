-- Write orders: what the data of a WRITE BUFFER says, and what it does.
use Rattle.std.specs.Prelude.{ℕ, zero, suc, ◌+◌, ◌*◌, ◌%◌, Bool, true, false, cond, not, ◌&&◌, ◌||◌, List, [], ◌∷◌, length, take, drop, Some, None, Option, ◌==◌, nat_lt, slice_index}
use Rattle.backplane.specs.declared.configuration.Configuration.{Configuration}
use Rattle.enclosure.specs.Flags.{bit, rebuild_stopped, rebuilding}
use Rattle.enclosure.specs.Slots.{moved}
use Rattle.enclosure.specs.declared.record.rows.Row.{Row}
use Rattle.enclosure.specs.declared.slots.SlotEvent.TheVariants.{Prepare, Release}
use Rattle.history.specs.Shelf.{Part, slot, fan, supply, Rest, Slot, Value}

-- one of the ten flags is set: eight in byte 0, two in byte 1
abbrev pub flagged : Row → Bool
flagged t = not (t.flags == 0) || not (t.more % 4 == 0)

-- reserved bits are stored as 0
abbrev pub stored : Row → Row
stored t = record { flags = t.flags; more = t.more % 4; last = 0 }

-- Device Rebuilding and Rebuild Stopped together
abbrev pub both_rebuild : Row → Bool
both_rebuild t = rebuilding t.flags && rebuild_stopped t.more

-- the triple for slot n, among triples one after another
abbrev pub triple_in : List ℕ → ℕ → Row
triple_in bs n = record { flags = slice_index bs (3 * n); more = slice_index bs (3 * n + 1); last = slice_index bs (3 * n + 2) }

-- none of the first n triples sets both rebuild flags
abbrev pub sound_below : List ℕ → ℕ → Bool
sound_below bs zero = true
sound_below bs (suc n) = not (both_rebuild (triple_in bs n)) && sound_below bs n

pub data Operation : Type 0 where
  idle prepare release identify : Operation

-- a triple for each slot; an operation on a slot; the speed of a fan; a supply on or off; the three global flags
pub data Order : Type 0 where
  triples : List ℕ → Order
  operate : ℕ → Operation → Order
  speed : ℕ → ℕ → Order
  switch : ℕ → Bool → Order
  global : ℕ → ℕ → ℕ → Order

-- of bits 0 to 2 none or exactly one is set: prepare, release, identify; more than one are no operation
abbrev pub operation_of : ℕ → Option Operation
operation_of b =
    cond (b == 0) (Some idle) (cond (b == 1) (Some prepare) (cond (b == 2) (Some release) (cond (b == 4) (Some identify) None)))

abbrev pub operating : ℕ → Option Operation → Option Order
operating n (Some o) = Some (operate n o)
operating n None = None

-- 10h: a triple for each slot, none with both rebuild flags
abbrev pub slot_status : Configuration → List ℕ → Option Order
slot_status c bs =
    cond (nat_lt (length bs) (3 * c.counts.slots + 1)) None
    (cond (sound_below (drop 1 bs) c.counts.slots) (Some (triples (take (3 * c.counts.slots) (drop 1 bs)))) None)

-- 12h: a fitted slot, and flags of which bits 0 to 2 count
abbrev pub slot_operation : Configuration → List ℕ → Option Order
slot_operation c bs =
    cond (nat_lt (length bs) 3) None
    (cond (nat_lt (slice_index bs 1) c.counts.slots) (operating (slice_index bs 1) (operation_of (slice_index bs 2 % 8))) None)

-- 13h: a fitted fan, and its speed from 0 to 4
abbrev pub fan_speed : Configuration → List ℕ → Option Order
fan_speed c bs =
    cond (nat_lt (length bs) 3) None
    (cond (nat_lt (slice_index bs 1) c.counts.fans && nat_lt (slice_index bs 2) 5) (Some (speed (slice_index bs 1) (slice_index bs 2))) None)

-- 14h: a fitted supply, and 1 for on or 0 for off
abbrev pub supply_switch : Configuration → List ℕ → Option Order
supply_switch c bs =
    cond (nat_lt (length bs) 3) None
    (cond (nat_lt (slice_index bs 1) c.counts.supplies && nat_lt (slice_index bs 2) 2) (Some (switch (slice_index bs 1) (slice_index bs 2 == 1))) None)

-- 15h: three bytes of flags
abbrev pub global_flags : List ℕ → Option Order
global_flags bs = cond (nat_lt (length bs) 4) None (Some (global (slice_index bs 1) (slice_index bs 2) (slice_index bs 3)))

-- the order that bytes are, if they are one of a shelf with this configuration; bytes past its end are ignored
abbrev pub order_of : Configuration → List ℕ → Option Order
order_of c bs =
    cond (slice_index bs 0 == 0x10) (slot_status c bs)
    (cond (slice_index bs 0 == 0x12) (slot_operation c bs)
    (cond (slice_index bs 0 == 0x13) (fan_speed c bs)
    (cond (slice_index bs 0 == 0x14) (supply_switch c bs)
    (cond (slice_index bs 0 == 0x15) (global_flags bs)
    None))))

-- prepare and release move the physical state and end identifying; identify begins it
abbrev pub operated : Operation → Slot → Slot
operated idle s = s
operated prepare s = record { row = s.row; state = moved s.state Prepare; identify = false }
operated release s = record { row = s.row; state = moved s.state Release; identify = false }
operated identify s = record { row = s.row; state = s.state; identify = true }

abbrev pub with_row : Row → Slot → Slot
with_row t s = record { row = t; state = s.state; identify = s.identify }

-- what an order does to one part: a triple without a flag is no change
abbrev pub act : Order → (p : Part) → Value p → Value p
act (triples bs) (slot n) v = cond (flagged (triple_in bs n)) (with_row (stored (triple_in bs n)) v) v
act (triples bs) (fan n) v = v
act (triples bs) (supply n) v = v
act (operate m o) (slot n) v = cond (n == m) (operated o v) v
act (operate m o) (fan n) v = v
act (operate m o) (supply n) v = v
act (speed m x) (slot n) v = v
act (speed m x) (fan n) v = cond (n == m) x v
act (speed m x) (supply n) v = v
act (switch m x) (slot n) v = v
act (switch m x) (fan n) v = v
act (switch m x) (supply n) v = cond (n == m) x v
act (global a b d) p v = v

-- the global flags are stored with reserved bits 0: bits 4 to 7 of the second byte and all of the third; bit 0 of the first sets a fitted alarm, bit 2 of the second a fitted lock
abbrev pub act_rest : Configuration → Order → Rest → Rest
act_rest c (triples bs) r = r
act_rest c (operate m o) r = r
act_rest c (speed m x) r = r
act_rest c (switch m x) r = r
act_rest c (global a b d) r =
    record { inputs = r.inputs; counts = r.counts; alarm = cond c.alarm (bit 0 a) r.alarm; lock = cond c.lock (bit 2 b) r.lock; flags = a ∷ b % 16 ∷ 0 ∷ [] }

-- an order, or none
abbrev pub acted : Option Order → (p : Part) → Value p → Value p
acted None p v = v
acted (Some o) p v = act o p v

abbrev pub acted_rest : Configuration → Option Order → Rest → Rest
acted_rest c None r = r
acted_rest c (Some o) r = act_rest c o r
