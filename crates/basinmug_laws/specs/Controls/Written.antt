-- What is written of a text from a stranger: parts one after the other, of which each is an allowed sequence or shows no control character.
use Rattle.std.specs.Prelude.{◌≡◌, ◌||◌, ℕ, Bool, List, Option, Some, bytes_eq}
use Rattle.std.specs.Io.KnownBytes.{Appends}
use Rattle.std.specs.List.{AllByRecursion, list_any}
use Rattle.grid_config.specs.Colors.{Color}
use Rattle.tables_laws.specs.Shown.PlainEnds.{EndsLinesPlain}
use Rattle.tabled_output.specs.Streams.{AppendsFront}
use Rattle.basinmug_input.specs.Cleaning.{HasOnly, may_stand}
use Rattle.program_options.specs.ColorList.Listed.{color_of_name}
use Rattle.program_options.specs.declared.basinmug.ColumnName.{ColumnName}
use Rattle.program_options.specs.declared.basinmug.Escapes.{Escapes}
use Rattle.basinmug_run.specs.declared.options.Options.{Options}

-- a colour that has a name
abbrev pub IsNamed : Color → Type 0
IsNamed color = (name : List ℕ) × (color_of_name name ≡ Some color)

-- each colour of a column has a name
abbrev pub HaveNamedColors : Options → Type 0
HaveNamedColors options = AllByRecursion (λ pair. IsNamed pair.1) options.colors.items

-- the bytes are what one of these colours of columns puts before a line, or after it
abbrev pub is_put_in : List (ColumnName × Color) → List ℕ → Bool
is_put_in colors bytes = list_any (λ (pair : ColumnName × Color). bytes_eq bytes pair.1.prefix || bytes_eq bytes pair.1.suffix) colors

-- a sequence that may be in a text that is cleaned, or that one of these colours puts in
abbrev pub may_be_written : Escapes → List (ColumnName × Color) → List ℕ → Bool
may_be_written escapes colors bytes = may_stand escapes bytes || is_put_in colors bytes

-- a text was written of which each part is such a sequence, or shows no control character but line feeds. So an ESC is nowhere but where
-- such a sequence begins; and no line ends with a style open
abbrev pub WritesOnly : (List ℕ → Bool) → Option (List ℕ) → Option (List ℕ) → Type 0
WritesOnly is_sequence before after = (output : List ℕ) × Appends before after output × HasOnly is_sequence output × EndsLinesPlain output

-- a prefix of such a text was written
abbrev pub BeginsOnly : (List ℕ → Bool) → Option (List ℕ) → Option (List ℕ) → Type 0
BeginsOnly is_sequence before after = (text : List ℕ) × AppendsFront before after text × HasOnly is_sequence text × EndsLinesPlain text
