-- The number of a parameter, one byte after the other.
use Rattle.std.specs.Prelude.{ℕ, ◌&&◌, Option, None, Some, nat_le, if◌then◌else◌}
use Rattle.std.specs.Char.{is_ascii_digit}
use Rattle.ansi_scan.specs.Styles.Rendition.{with_digit}

-- the number so far with one byte more: none past 255, and none where one is no digit
abbrev pub number_after : Option ℕ → ℕ → Option ℕ
number_after None byte = None
number_after (Some n) byte =
    if is_ascii_digit byte && nat_le (with_digit n byte) 255 then Some (with_digit n byte) else None
