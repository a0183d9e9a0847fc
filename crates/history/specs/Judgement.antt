-- What a command comes to, by the configuration, its host's pending attention and the command alone.
use Rattle.std.specs.Prelude.{ℕ, Bool, false, cond, ◌&&◌, ◌||◌, length, Some, None, Option, ◌==◌, nat_lt}
use Rattle.answers.specs.declared.refusal.Refusal.{Refusal}
use Rattle.answers.specs.declared.refusal.Refusal.TheVariants as refusal
use Rattle.answers.specs.declared.sense.Sense.{Sense}
use Rattle.answers.specs.declared.sense.Sense.TheVariants as sense
use Rattle.backplane.specs.declared.configuration.Configuration.{Configuration}
use Rattle.history.specs.Shelf.{Command, Host}
use Rattle.history.specs.Cdb.{buffer_id, ill_formed, long_length, mode, opcode, sent, short_length, unit}
use Rattle.history.specs.Orders.{Order, order_of}

pub data Verdict : Type 0 where
  refuse : Refusal → Verdict
  -- another logical unit: CHECK CONDITION, INQUIRY and REQUEST SENSE with the length wanted
  miss : Verdict
  miss_inquiry miss_sense : ℕ → Verdict
  -- pending attention is told
  attend : Verdict
  -- GOOD, and nothing to do
  pass : Verdict
  reject : Sense → Verdict
  -- INQUIRY and REQUEST SENSE with the length wanted; a page with the length wanted
  inquire show_sense : ℕ → Verdict
  show_page : ℕ → ℕ → Verdict
  obey : Order → Verdict

abbrev pub obeying : Option Order → Verdict
obeying (Some o) = obey o
obeying None = reject sense.Order

-- mode 1 alone; a length of 0 is no order, and GOOD
abbrev pub write_verdict : Configuration → Command → Verdict
write_verdict f c =
    cond (mode c == 1) (cond (long_length c == 0) pass (obeying (order_of f (sent c)))) (reject sense.Field)

-- the pages: 00h, 01h, 03h, 04h, 05h
abbrev pub is_page : ℕ → Bool
is_page b = b == 0 || (b == 1 || (b == 3 || (b == 4 || b == 5)))

abbrev pub read_verdict : Command → Verdict
read_verdict c = cond (mode c == 1 && is_page (buffer_id c)) (show_page (buffer_id c) (long_length c)) (reject sense.Field)

-- TEST UNIT READY and SEND DIAGNOSTIC are GOOD
abbrev pub opcode_verdict : Configuration → Command → Verdict
opcode_verdict f c =
    cond (opcode c == 0x00 || opcode c == 0x1D) pass
    (cond (opcode c == 0x3B) (write_verdict f c)
    (cond (opcode c == 0x3C) (read_verdict c)
    (reject sense.Opcode)))

-- pending attention stops every command but INQUIRY and REQUEST SENSE
abbrev pub unit_verdict : Configuration → Bool → Command → Verdict
unit_verdict f attention c =
    cond (opcode c == 0x12) (inquire (short_length c))
    (cond (opcode c == 0x03) (show_sense (short_length c))
    (cond attention attend
    (opcode_verdict f c)))

abbrev pub missed : Command → Verdict
missed c = cond (opcode c == 0x12) (miss_inquiry (short_length c)) (cond (opcode c == 0x03) (miss_sense (short_length c)) miss)

-- refusals first: the host, the CDB, the data, the room; then the logical unit
abbrev pub judge : Configuration → Bool → Command → Verdict
judge f attention c =
    cond (nat_lt 15 c.host) (refuse refusal.Host)
    (cond (ill_formed c) (refuse refusal.Cdb)
    (cond (opcode c == 0x3B && nat_lt (length c.payload) (long_length c)) (refuse refusal.Data)
    (cond (nat_lt c.room 64) (refuse refusal.Room)
    (cond (unit c == 0) (unit_verdict f attention c) (missed c)))))

-- the order that is obeyed, if one is
abbrev pub order_in : Verdict → Option Order
order_in (refuse n) = None
order_in miss = None
order_in (miss_inquiry n) = None
order_in (miss_sense n) = None
order_in attend = None
order_in pass = None
order_in (reject s) = None
order_in (inquire n) = None
order_in (show_sense n) = None
order_in (show_page b n) = None
order_in (obey o) = Some o

-- REQUEST SENSE drops the stored sense; if there is none, it clears pending attention
abbrev pub cleared : Option Sense → Bool → Host
cleared (Some s) attention = record { sense = None; attention = attention }
cleared None attention = record { sense = None; attention = false }

-- what becomes of the host: refused, or for another logical unit, nothing; any command but REQUEST SENSE drops the stored sense; what is rejected, and attention that is told, is stored
abbrev pub on_host : Verdict → Host → Host
on_host (refuse n) h = h
on_host miss h = h
on_host (miss_inquiry n) h = h
on_host (miss_sense n) h = h
on_host attend h = record { sense = Some sense.Attention; attention = false }
on_host pass h = record { sense = None; attention = h.attention }
on_host (reject s) h = record { sense = Some s; attention = h.attention }
on_host (inquire n) h = record { sense = None; attention = h.attention }
on_host (show_sense n) h = cleared h.sense h.attention
on_host (show_page b n) h = record { sense = None; attention = h.attention }
on_host (obey o) h = record { sense = None; attention = h.attention }
