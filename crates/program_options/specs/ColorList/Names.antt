-- The colours that have names.
use Rattle.std.specs.Prelude.{ℕ, List, [], ◌∷◌, codes}
use Rattle.grid_config.specs.Ansi.Colors.{Color}

-- the colour that the first text begins and the second ends
abbrev pub color_of_texts : List ℕ → List ℕ → Color
color_of_texts prefix suffix = record { prefix = prefix; suffix = suffix }

abbrev pub named_colors : List (List ℕ × Color)
named_colors =
    (codes "black", color_of_texts (codes "\u{1b}[30m") (codes "\u{1b}[39m"))
    ∷ (codes "red", color_of_texts (codes "\u{1b}[31m") (codes "\u{1b}[39m"))
    ∷ (codes "green", color_of_texts (codes "\u{1b}[32m") (codes "\u{1b}[39m"))
    ∷ (codes "yellow", color_of_texts (codes "\u{1b}[33m") (codes "\u{1b}[39m"))
    ∷ (codes "blue", color_of_texts (codes "\u{1b}[34m") (codes "\u{1b}[39m"))
    ∷ (codes "magenta", color_of_texts (codes "\u{1b}[35m") (codes "\u{1b}[39m"))
    ∷ (codes "cyan", color_of_texts (codes "\u{1b}[36m") (codes "\u{1b}[39m"))
    ∷ (codes "white", color_of_texts (codes "\u{1b}[37m") (codes "\u{1b}[39m"))
    ∷ (codes "bold", color_of_texts (codes "\u{1b}[1m") (codes "\u{1b}[22m"))
    ∷ (codes "underline", color_of_texts (codes "\u{1b}[4m") (codes "\u{1b}[24m"))
    ∷ []
