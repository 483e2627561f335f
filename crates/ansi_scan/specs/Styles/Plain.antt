-- The test of whether attributes set nothing.
use Rattle.std.specs.Prelude.{Bool, not, ◌&&◌, ◌==◌, is_some, is_none}
use Rattle.ansi_scan.specs.Styles.Attributes.{Attributes}
use Rattle.ansi_scan.specs.Styles.Flags.{flags_of, word_of}

abbrev pub sets_nothing : Attributes → Bool
sets_nothing a = (word_of (flags_of a) == 0) && (is_none a.font && (not (is_some a.foreground)
    && (not (is_some a.background) && not (is_some a.underline_color))))
