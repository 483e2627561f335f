-- Texts by their pieces, whose parts are worked out by hand.
use Rattle.std.specs.Prelude.{List, [], ◌∷◌, codes}
use Rattle.ansi_scan.specs.declared.items.Kind.TheVariants.{Text, Sgr}
use Rattle.ansi_scan.specs.Sequences.{Piece}

-- a black text that stops being so at its end
abbrev pub black_text : List Piece
black_text =
    record { kind = Sgr; bytes = codes "\u{1b}[30m" }
    ∷ record { kind = Text; bytes = codes "123:456" }
    ∷ record { kind = Sgr; bytes = codes "\u{1b}[39m" } ∷ []

-- a faint text on a background, of two lines
abbrev pub two_lines : List Piece
two_lines =
    record { kind = Sgr; bytes = codes "\u{1b}[2;48;5;10m" }
    ∷ record { kind = Sgr; bytes = codes "\u{1b}[38;5;20m" }
    ∷ record { kind = Text; bytes = codes "Dar\nren" }
    ∷ record { kind = Sgr; bytes = codes "\u{1b}[0m" } ∷ []
