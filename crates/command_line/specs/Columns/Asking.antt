-- What the arguments of the command line request.
use Rattle.std.specs.Prelude.{◌≡◌, ◌<◌, ◌^◌, ◌⊎◌, ℕ, Bool, true, false, List, [], Option, Some, None, codes, string_bytes}
use Rattle.std.specs.Str.Parse.{digits_value, without_leading_plus}
use Rattle.clap.specs.Words.{Accepts, App, IsAmong, Text, fault_of, first_of, matches_of, takes}
use Rattle.clap.specs.declared.builder.value_parser.ValueParser.TheVariants.{Unsigned}
use Rattle.clap.specs.declared.error.kind.ErrorKind.{ErrorKind}
use Rattle.program_options.specs.ColorList.Listed.{listed_colors}
use Rattle.program_options.specs.declared.columns.options.Options.{Options}
use Rattle.program_options.specs.Columns.Settings.{settings_with}
use Rattle.command_line.specs.Columns.Command.{IsColumns}
use Rattle.command_line.specs.Options.Given.{is_set, is_wanted}
use Rattle.command_line.specs.Options.Names.{named}
use Rattle.command_line.specs.Columns.Names.{priorities, styles}
use Rattle.command_line.specs.declared.columns.words.Asked.{Asked}
use Rattle.command_line.specs.declared.columns.words.Asked.TheVariants.{Run, Help, Faulty}
use Rattle.grid_config.specs.Colors.{Color}
use Rattle.grid_config.specs.Compact.{compact_of}
use Rattle.tabled_size_priority.specs.declared.choice.Choice.TheVariants.{None as InTurns}
use Rattle.tabled_glyphs.specs.Glyphs.{ascii}

-- ---- the fields, by the values that the command gives for the arguments

-- decimal digits, where a plus may come first
abbrev pub number : Text → ℕ
number text = digits_value 10 (without_leading_plus text)

-- a text that the command accepts as a width
abbrev pub IsWidth : Text → Type 0
IsWidth text = Accepts false (Unsigned 0 4294967295) text

-- a width is the number that is given, at most 4294967295, and there is none where none is given
abbrev pub IsWidthOf : Option Text → Option ℕ → Type 0
IsWidthOf None width = width ≡ None
IsWidthOf (Some text) width = (width ≡ Some (number text)) × (number text < 2 ^ 32)

-- the colours of columns: those of the list that is given, and no colour where there is no list; no answer where the
-- list has another form
abbrev pub colors_asked : Option Text → Option (List (ℕ × Color))
colors_asked None = Some []
colors_asked (Some list) = listed_colors list

-- each field of a run, by the values that are given for the options
pub record IsRead (given : Text → Option Text) (options : Options) (by_row : Bool) : Type 0 where
  pub width : IsWidthOf (given (codes "width")) options.width
  pub truncate : options.truncate ≡ is_set (given (codes "truncate"))
  pub keep_words : options.keep_words ≡ is_set (given (codes "keep-words"))
  pub priority : options.priority ≡ named priorities InTurns (given (codes "priority"))
  pub style : compact_of options.style ≡ settings_with (named styles ascii (given (codes "style")))
  pub streamed : by_row ≡ is_set (given (codes "streamed"))
  pub colors : colors_asked (given (codes "color")) ≡ Some options.colors.items

-- the message for colours that are none
abbrev pub IsBadColor : Option Text → Text → Type 0
IsBadColor list text = (colors_asked list ≡ None) × (text ≡ codes "columns: bad color")

-- a run by the values that are given; or an error, where the list of colours has another form
abbrev pub IsRunOf : (Text → Option Text) → Asked → Type 0
IsRunOf given (Run options streamed) = IsRead given options streamed
IsRunOf given (Help text) = ⊥
IsRunOf given (Faulty text) = IsBadColor (given (codes "color")) (string_bytes text)

-- ---- arguments that give no values

-- the message for the user where the command gives no values
abbrev pub IsTold : ErrorKind → Asked → Type 0
IsTold kind (Run options streamed) = ⊥
IsTold kind (Help text) = is_wanted kind ≡ true
IsTold kind (Faulty text) = is_wanted kind ≡ false

-- ---- the answer

-- the command finds no error, and this is requested by the values that it gives
abbrev pub IsRunBy : App → List Text → Asked → Type 0
IsRunBy command words asked = (fault_of command words ≡ []) × IsRunOf (λ id. first_of id (matches_of command words)) asked

-- it finds one of this kind, for which this is the message
abbrev pub IsToldBy : App → List Text → Asked → Type 0
IsToldBy command words asked = (kind : ErrorKind) × IsAmong kind (fault_of command words) × IsTold kind asked

-- a run where the command finds no error; the help, the version or an error by the kinds that it finds; an error also
-- where it finds none, and the list of colours has another form
abbrev pub Answers : App → List Text → Asked → Type 0
Answers command words (Run options streamed) = IsRunBy command words (Run options streamed)
Answers command words (Help text) = IsToldBy command words (Help text)
Answers command words (Faulty text) = IsRunBy command words (Faulty text) ⊎ IsToldBy command words (Faulty text)

-- what the arguments request of `columns`; arguments that it accepts request a run, or have a wrong list of colours
pub record IsAnswer (words : List Text) (asked : Asked) : Type 0 where
  pub command : App
  pub columns : IsColumns command
  pub answer : Answers command words asked
  pub taken : takes command words ≡ true → IsRunOf (λ id. first_of id (matches_of command words)) asked
