-- Opcodes and the bytes that they are.
use Rattle.std.specs.Prelude.{ℕ, cond, ◌==◌, Some, None, Option}
use Rattle.history.specs.Cdb.{is_long, is_short}
use Rattle.cdb.specs.declared.opcode.Opcode.{Opcode}
use Rattle.cdb.specs.declared.opcode.Opcode.TheVariants.{TestUnitReady, RequestSense, Inquiry, SendDiagnostic, WriteBuffer, ReadBuffer}

-- the opcode that a byte is, if it is one
abbrev pub opcode_read : ℕ → Option Opcode
opcode_read b =
    cond (b == 0x00) (Some TestUnitReady)
    (cond (b == 0x03) (Some RequestSense)
    (cond (b == 0x12) (Some Inquiry)
    (cond (b == 0x1D) (Some SendDiagnostic)
    (cond (b == 0x3B) (Some WriteBuffer)
    (cond (b == 0x3C) (Some ReadBuffer)
    None)))))

-- the length of the CDB, if the opcode is known
abbrev pub cdb_length : ℕ → Option ℕ
cdb_length b = cond (is_short b) (Some 6) (cond (is_long b) (Some 10) None)
