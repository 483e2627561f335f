-- The names of the colours that codes of their own set (ECMA-48, 8.3.117).
use Rattle.std.specs.Prelude.{ℕ, ◌||◌, ◌==◌, if◌then◌else◌}
use Rattle.ansi_scan.specs.declared.style.color.AnsiColor.{AnsiColor}
use Rattle.ansi_scan.specs.declared.style.color.AnsiColor.TheVariants.{Bit4, Bit8, Bit24}
use Rattle.ansi_scan.specs.declared.style.color.Color.{Color}
use Rattle.ansi_scan.specs.declared.style.color.Color.TheVariants.{Black, Red, Green, Yellow, Blue, Magenta, Cyan, White, BrightBlack, BrightRed, BrightGreen, BrightYellow, BrightBlue, BrightMagenta, BrightCyan, BrightWhite, Fixed, Rgb}

-- the same of the foreground and the background, each also bright
abbrev pub named_color : ℕ → Color
named_color code =
    if code == 30 || code == 40 then Black else
    (if code == 31 || code == 41 then Red else
    (if code == 32 || code == 42 then Green else
    (if code == 33 || code == 43 then Yellow else
    (if code == 34 || code == 44 then Blue else
    (if code == 35 || code == 45 then Magenta else
    (if code == 36 || code == 46 then Cyan else
    (if code == 37 || code == 47 then White else
    (if code == 90 || code == 100 then BrightBlack else
    (if code == 91 || code == 101 then BrightRed else
    (if code == 92 || code == 102 then BrightGreen else
    (if code == 93 || code == 103 then BrightYellow else
    (if code == 94 || code == 104 then BrightBlue else
    (if code == 95 || code == 105 then BrightMagenta else
    (if code == 96 || code == 106 then BrightCyan else
    (if code == 97 || code == 107 then BrightWhite else
    Fixed code)))))))))))))))

abbrev pub as_color : AnsiColor → Color
as_color (Bit4 code) = named_color code
as_color (Bit8 n) = Fixed n
as_color (Bit24 r g b) = Rgb r g b
