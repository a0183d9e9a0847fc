-- What an order that is obeyed does to the table, to the flags and to the backplane.
use Rattle.std.specs.Prelude.{ℕ, ◌+◌, ◌*◌, ◌%◌, cond, List, [], ◌∷◌, length, ◌==◌, nat_lt}
use Rattle.backplane.specs.Meaning.{Value, one, put}
use Rattle.backplane.specs.declared.places.Output.TheVariants.{Speed, Supply, Alarm, Lock}
use Rattle.enclosure.specs.Flags.{bit}
use Rattle.history.specs.Orders.{Order, triples, operate, speed, switch, global, operated, triple_in}
use Rattle.history.specs.Shelf.{Slot}
use Rattle.showing.specs.Shown.{of_slot, slot_number, slots_below}
use Rattle.startup.specs.Started.{made_where}
use Rattle.table.specs.Rows.{replaced}

abbrev pub slots_after : Order → (ℕ → Slot) → ℕ → Slot
slots_after (triples bs) slots k = cond (nat_lt (3 * k + 2) (length bs)) (replaced (triple_in bs k) (slots k)) (slots k)
slots_after (operate n o) slots k = cond (k == n) (operated o (slots k)) (slots k)
slots_after (speed n x) slots k = slots k
slots_after (switch n on) slots k = slots k
slots_after (global a b d) slots k = slots k

abbrev pub flags_after : Order → List ℕ → List ℕ
flags_after (triples bs) flags = flags
flags_after (operate n o) flags = flags
flags_after (speed n x) flags = flags
flags_after (switch n on) flags = flags
flags_after (global a b d) flags = a ∷ b % 16 ∷ 0 ∷ []

-- slots that an order reached are shown as they then are
abbrev pub value_after : Order → (ℕ → Slot) → Value → Value
value_after (triples bs) slots v = made_where (slots_below v.configuration.counts.slots) (slot_number slots) v
value_after (operate n o) slots v = made_where (of_slot v.configuration n) (slot_number (λ _. slots n)) v
value_after (speed n x) slots v = put v (Speed n) x
value_after (switch n on) slots v = put v (Supply n) (one on)
value_after (global a b d) slots v = put (put v Alarm (one (bit 0 a))) Lock (one (bit 2 b))
