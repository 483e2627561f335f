-- Texts by their pieces, whose cuts are worked out by hand.
use Rattle.std.specs.Prelude.{List, [], ◌∷◌, codes}
use Rattle.ansi_scan.specs.declared.items.Kind.TheVariants.{Text, Sgr}
use Rattle.ansi_scan.specs.Sequences.{Piece}

-- a text with two red characters
abbrev pub red_text : List Piece
red_text =
    record { kind = Sgr; bytes = codes "\u{1b}[31m" }
    ∷ record { kind = Text; bytes = codes "ab" }
    ∷ record { kind = Sgr; bytes = codes "\u{1b}[0m" }
    ∷ record { kind = Text; bytes = codes "c" } ∷ []

-- a bold character between spaces
abbrev pub spaced_text : List Piece
spaced_text =
    record { kind = Text; bytes = codes " " }
    ∷ record { kind = Sgr; bytes = codes "\u{1b}[1m" }
    ∷ record { kind = Text; bytes = codes " a " } ∷ []

-- a black word
abbrev pub black_word : List Piece
black_word =
    record { kind = Sgr; bytes = codes "\u{1b}[30m" }
    ∷ record { kind = Text; bytes = codes "TEXT" }
    ∷ record { kind = Sgr; bytes = codes "\u{1b}[39m" } ∷ []

-- two red characters, which stay so, and before two that are not
abbrev pub red_word : List Piece
red_word = record { kind = Sgr; bytes = codes "\u{1b}[31m" } ∷ record { kind = Text; bytes = codes "ab" } ∷ []

abbrev pub half_red_text : List Piece
half_red_text =
    record { kind = Sgr; bytes = codes "\u{1b}[31m" }
    ∷ record { kind = Text; bytes = codes "ab" }
    ∷ record { kind = Sgr; bytes = codes "\u{1b}[0m" }
    ∷ record { kind = Text; bytes = codes "cd" } ∷ []
