-- The byte between fields.
use Rattle.std.specs.Prelude.{ℕ, ◌==◌, ◌&&◌, Bool, nat_lt, not}

-- a byte of ASCII that is no quote, line feed or carriage return
abbrev pub can_delimit : ℕ → Bool
can_delimit byte = nat_lt byte 0x80 && (not (byte == 0x22) && (not (byte == 0x0a) && not (byte == 0x0d)))
