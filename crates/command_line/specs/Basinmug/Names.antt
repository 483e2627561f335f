-- What the names of the command line mean.
use Rattle.std.specs.Prelude.{List, [], ◌∷◌, codes}
use Rattle.clap.specs.Words.{Text}
use Rattle.program_options.specs.declared.basinmug.Escapes.{Escapes}
use Rattle.program_options.specs.declared.basinmug.Escapes.TheVariants.{Colors, All as AllEscapes, None as NoEscapes}
use Rattle.program_options.specs.declared.basinmug.LineStyle.{LineStyle}
use Rattle.program_options.specs.declared.basinmug.LineStyle.TheVariants.{Ascii, Modern, Rounded, Extended, Markdown, Empty}
use Rattle.program_options.specs.declared.basinmug.Rules.{Rules}
use Rattle.program_options.specs.declared.basinmug.Rules.TheVariants.{Header, All, None as NoRules}
use Rattle.command_line.specs.Options.Names.{names_of}
use Rattle.tabled_size_priority.specs.declared.choice.Choice.{Choice}
use Rattle.tabled_size_priority.specs.declared.choice.Choice.TheVariants.{None as InTurns, MinRight, MaxRight, Left, Right}

-- of equally narrow or equally wide columns the right one comes first
abbrev pub priorities : List (Text × Choice)
priorities = (codes "max", MaxRight) ∷ (codes "none", InTurns) ∷ (codes "min", MinRight) ∷ (codes "left", Left) ∷ (codes "right", Right) ∷ []

-- the lines of a table
abbrev pub line_styles : List (Text × LineStyle)
line_styles =
    (codes "rounded", Rounded)
    ∷ (codes "modern", Modern)
    ∷ (codes "ascii", Ascii)
    ∷ (codes "extended", Extended)
    ∷ (codes "markdown", Markdown)
    ∷ (codes "empty", Empty)
    ∷ []

-- the rows between which lines are drawn
abbrev pub rules : List (Text × Rules)
rules = (codes "header", Header) ∷ (codes "all", All) ∷ (codes "none", NoRules) ∷ []

-- the escape sequences that are kept
abbrev pub escapes : List (Text × Escapes)
escapes = (codes "colors", Colors) ∷ (codes "all", AllEscapes) ∷ (codes "none", NoEscapes) ∷ []

abbrev pub priority_names : List Text
priority_names = names_of priorities

abbrev pub line_style_names : List Text
line_style_names = names_of line_styles

abbrev pub rules_names : List Text
rules_names = names_of rules

abbrev pub escapes_names : List Text
escapes_names = names_of escapes
