-- The bytes that decide.
use Rattle.std.specs.Prelude.{◌==◌, ◌||◌, ℕ, Bool}

abbrev pub tab : ℕ
tab = 0x09

abbrev pub line_feed : ℕ
line_feed = 0x0a

abbrev pub carriage_return : ℕ
carriage_return = 0x0d

abbrev pub quote : ℕ
quote = 0x22

abbrev pub comma : ℕ
comma = 0x2c

abbrev pub semicolon : ℕ
semicolon = 0x3b

abbrev pub bar : ℕ
bar = 0x7c

abbrev pub is_line_end : ℕ → Bool
is_line_end byte = (byte == carriage_return) || (byte == line_feed)

-- a byte that is looked for
abbrev pub is_candidate : ℕ → Bool
is_candidate byte = (byte == tab) || ((byte == comma) || ((byte == semicolon) || (byte == bar)))
