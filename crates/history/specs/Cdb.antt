-- The fields of a command.
use Rattle.std.specs.Prelude.{ℕ, ◌+◌, ◌*◌, ◌/◌, ◌%◌, Bool, not, ◌&&◌, ◌||◌, List, length, take, ◌==◌, nat_lt, slice_index}
use Rattle.history.specs.Shelf.{Command}

-- byte k of the CDB
abbrev pub field : Command → ℕ → ℕ
field c k = slice_index c.cdb k

abbrev pub opcode : Command → ℕ
opcode c = field c 0

-- the logical unit is bits 7 to 5 of byte 1, the mode its bits 2 to 0
abbrev pub unit : Command → ℕ
unit c = field c 1 / 32

abbrev pub mode : Command → ℕ
mode c = field c 1 % 8

abbrev pub buffer_id : Command → ℕ
buffer_id c = field c 2

-- the length in a CDB of 6 bytes, and in one of 10, where the high byte comes first
abbrev pub short_length : Command → ℕ
short_length c = field c 4

abbrev pub long_length : Command → ℕ
long_length c = field c 7 * 256 + field c 8

-- TEST UNIT READY, REQUEST SENSE, INQUIRY and SEND DIAGNOSTIC have 6 bytes
abbrev pub is_short : ℕ → Bool
is_short op = op == 0x00 || (op == 0x03 || (op == 0x12 || op == 0x1D))

-- WRITE BUFFER and READ BUFFER have 10
abbrev pub is_long : ℕ → Bool
is_long op = op == 0x3B || op == 0x3C

-- a CDB has 2 bytes at least, and the length that its opcode has
abbrev pub ill_formed : Command → Bool
ill_formed c =
    nat_lt (length c.cdb) 2
    || ((is_short (opcode c) && not (length c.cdb == 6)) || (is_long (opcode c) && not (length c.cdb == 10)))

-- the bytes of a WRITE BUFFER that are transferred
abbrev pub sent : Command → List ℕ
sent c = take (long_length c) c.payload
