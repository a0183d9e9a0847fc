-- The flags of a slot record.
use Rattle.std.specs.Prelude.{ℕ, ◌/◌, ◌%◌, ◌^◌, Bool, not, ◌&&◌, T, ◌==◌, nat_lt}

-- bit k of a byte
abbrev pub bit : ℕ → ℕ → Bool
bit k b = b / 2 ^ k % 2 == 1

-- Device Rebuilding is bit 2 of byte 0
abbrev pub rebuilding : ℕ → Bool
rebuilding flags = bit 2 flags

-- Rebuild Stopped is bit 1 of byte 1
abbrev pub rebuild_stopped : ℕ → Bool
rebuild_stopped more = bit 1 more

-- byte 1 has flags in its two lowest bits only; the others are reserved
abbrev pub no_reserved : ℕ → Bool
no_reserved more = nat_lt more 4

-- bytes 0 and 1 of a record: no reserved bit, and not both rebuild flags
abbrev pub sound : ℕ → ℕ → Bool
sound flags more = no_reserved more && not (rebuilding flags && rebuild_stopped more)

abbrev pub Sound : ℕ → ℕ → Type 0
Sound flags more = T (sound flags more)
