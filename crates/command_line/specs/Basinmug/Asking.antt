-- What the arguments of the command line request.
use Rattle.std.specs.Prelude.{◌≡◌, ◌++◌, ◌==◌, ◌&&◌, ℕ, Bool, true, false, not, nat_lt, List, [], ◌∷◌, Option, Some, None, codes, find, if◌then◌else◌, is_none, map, option_and_then, string_bytes}
use Rattle.std.specs.Io.BufRead.{ends_with_byte}
use Rattle.std.specs.Option.{option_map}
use Rattle.std.specs.Str.{bytes_eq}
use Rattle.clap.specs.Words.{App, IsAmong, Text, fault_of, first_of, matches_of, takes}
use Rattle.clap.specs.declared.error.kind.ErrorKind.{ErrorKind}
use Rattle.program_options.specs.ColorList.Listed.{color_of_name as color_named, column_of}
use Rattle.grid_config.specs.Ansi.Colors.{Color}
use Rattle.grid_config_values.specs.declared.alignment.AlignmentHorizontal.{AlignmentHorizontal}
use Rattle.tabled_size_priority.specs.declared.choice.Choice.TheVariants.{MaxRight}
use Rattle.program_options.specs.declared.basinmug.Escapes.TheVariants.{Colors as EscapesOfColors}
use Rattle.program_options.specs.declared.basinmug.LineStyle.{LineStyle}
use Rattle.program_options.specs.declared.basinmug.LineStyle.TheVariants.{Rounded, Markdown}
use Rattle.program_options.specs.declared.basinmug.Rules.TheVariants.{Header as BelowHeader}
use Rattle.command_line.specs.Basinmug.Command.{IsBasinmug}
use Rattle.command_line.specs.Basinmug.Messages.{refusal_text}
use Rattle.command_line.specs.declared.basinmug.fault.ValueFault.{ValueFault}
use Rattle.command_line.specs.declared.basinmug.fault.ValueFault.TheVariants.{HeadAndTail, MarkdownWidth, Delimiter as DelimiterFault, Rows as RowsFault, Width as WidthFault, Alignment as AlignmentFault, Color as ColorFault, Columns as ColumnsFault}
use Rattle.basinmug_values.specs.Choices.{Chosen, chosen_listed, chosen_of}
use Rattle.basinmug_values.specs.Lists.{Column, listed, seen_items}
use Rattle.command_line.specs.Options.Given.{is_set, is_wanted}
use Rattle.command_line.specs.Options.Names.{named}
use Rattle.basinmug_values.specs.Delimiters.{can_delimit}
use Rattle.basinmug_values.specs.Names.{alignment_named}
use Rattle.command_line.specs.Basinmug.Names.{escapes, line_styles, priorities, rules}
use Rattle.command_line.specs.declared.basinmug.words.ReadWords.{ReadWords}
use Rattle.command_line.specs.declared.basinmug.words.ReadWords.TheVariants.{Run, Help, BadWords, BadValue}
use Rattle.command_line.specs.declared.basinmug.words.Plan.{Plan}
use Rattle.command_line.specs.declared.basinmug.words.WidthAsked.{WidthAsked}
use Rattle.command_line.specs.declared.basinmug.words.WidthAsked.TheVariants.{None as AnyWidth, Columns, Environment}

-- ---- the fields, by the values that the command gives for the arguments: none where a value is wrong

-- the path of a file; none for standard input
abbrev pub file_asked : Option Text → Option Text
file_asked None = None
file_asked (Some path) = if bytes_eq path (codes "-") then None else Some path

-- a text of one such byte
abbrev pub byte_named : Text → Option ℕ
byte_named (byte ∷ []) = if can_delimit byte then Some byte else None
byte_named _ = None

-- the byte that a text names: a tab by `\t` or `tab`, any other by itself
abbrev pub delimiter_named : Text → Option ℕ
delimiter_named text = if bytes_eq text (codes "\\t") then Some 0x09 else (if bytes_eq text (codes "tab") then Some 0x09 else byte_named text)

-- what may be given, and what is read of it where it is
abbrev pub value_read : {T : Type 0} → (Text → Option T) → Option Text → Option (Option T)
value_read read None = Some None
value_read read (Some text) = option_map Some (read text)

-- none where the text says which byte it is, which `auto` requests too
abbrev pub delimiter_asked : Option Text → Option (Option ℕ)
delimiter_asked None = Some None
delimiter_asked (Some text) = if bytes_eq text (codes "auto") then Some None else option_map Some (delimiter_named text)

-- decimal digits, at most 4294967295
abbrev pub rows_asked : Option Text → Option (Option ℕ)
rows_asked = value_read column_of

-- how many of the last records, which may not be requested together with the first
abbrev pub tail_for : Option ℕ → Option ℕ → Option (Option ℕ)
tail_for (Some head) (Some tail) = None
tail_for head tail = Some tail

-- how many of them by the values of `--head` and `--tail`
abbrev pub tail_asked : Option Text → Option Text → Option (Option ℕ)
tail_asked head tail = option_and_then (λ first. option_and_then (tail_for first) (rows_asked tail)) (rows_asked head)

-- the width as it is written
abbrev pub width_named : Text → Option WidthAsked
width_named text = if bytes_eq text (codes "none") then Some AnyWidth else option_map Columns (column_of text)

abbrev pub width_asked : Option Text → Option WidthAsked
width_asked None = Some Environment
width_asked (Some text) = width_named text

-- the width of a table with these lines: one of Markdown has none, and no number of columns may be given for it
abbrev pub width_for : LineStyle → WidthAsked → Option WidthAsked
width_for Markdown (Columns width) = None
width_for Markdown asked = Some AnyWidth
width_for line_style asked = Some asked

abbrev pub line_style_asked : Option Text → LineStyle
line_style_asked = named line_styles Rounded

-- the width by the values of `--style` and `--width`
abbrev pub asked_table_width : Option Text → Option Text → Option WidthAsked
asked_table_width style width = option_and_then (width_for (line_style_asked style)) (width_asked width)

-- the list that may be given; without it, nothing
abbrev pub list_asked : {T : Type 0} → (Text → Option T) → Option Text → Option (List (Column × T))
list_asked value_of None = Some []
list_asked value_of (Some list) = listed value_of list

abbrev pub alignments_asked : Option Text → Option (List (Column × AlignmentHorizontal))
alignments_asked = list_asked alignment_named

abbrev pub colors_asked : Option Text → Option (List (Column × Color))
colors_asked = list_asked color_named

-- the columns that may be chosen; without a list none are, and all are shown
abbrev pub columns_asked : Option Text → Option (List Chosen)
columns_asked None = Some []
columns_asked (Some list) = chosen_listed list

-- each field of a run, by the values that are given for the options
pub record IsRead (given : Text → Option Text) (plan : Plan) : Type 0 where
  pub file : option_map string_bytes plan.file ≡ file_asked (given (codes "file"))
  pub delimiter : delimiter_asked (given (codes "delimiter")) ≡ Some plan.delimiter
  pub head : rows_asked (given (codes "head")) ≡ Some plan.head
  pub tail : tail_asked (given (codes "head")) (given (codes "tail")) ≡ Some plan.tail
  pub width : asked_table_width (given (codes "style")) (given (codes "width")) ≡ Some plan.width
  pub all_columns : plan.all_columns ≡ is_set (given (codes "all-columns"))
  pub line_style : plan.options.line_style ≡ line_style_asked (given (codes "style"))
  pub header : plan.options.header ≡ not (is_set (given (codes "no-header")))
  pub escapes : plan.options.escapes ≡ named escapes EscapesOfColors (given (codes "escapes"))
  pub rules : plan.options.rules ≡ named rules BelowHeader (given (codes "rules"))
  pub room : plan.options.width ≡ None
  pub truncate : plan.options.truncate ≡ is_set (given (codes "truncate"))
  pub priority : plan.options.priority ≡ named priorities MaxRight (given (codes "priority"))
  pub columns : columns_asked (given (codes "columns")) ≡ Some (map chosen_of plan.options.columns.items)
  pub alignments : alignments_asked (given (codes "align")) ≡ Some (seen_items plan.options.alignments.items)
  pub colors : colors_asked (given (codes "color")) ≡ Some (seen_items plan.options.colors.items)
  pub expanded : plan.options.expanded ≡ is_set (given (codes "expanded"))
  pub max_rows : rows_asked (given (codes "max-rows")) ≡ Some plan.options.max_rows

-- ---- values that are wrong

-- what may be wrong, in this order
abbrev pub refusals : (Text → Option Text) → List (Bool × ValueFault)
refusals given =
    (is_none (delimiter_asked (given (codes "delimiter"))), DelimiterFault)
    ∷ (is_none (rows_asked (given (codes "max-rows"))), RowsFault)
    ∷ (is_none (rows_asked (given (codes "head"))), RowsFault)
    ∷ (is_none (rows_asked (given (codes "tail"))), RowsFault)
    ∷ (is_none (tail_asked (given (codes "head")) (given (codes "tail"))), HeadAndTail)
    ∷ (is_none (width_asked (given (codes "width"))), WidthFault)
    ∷ (is_none (asked_table_width (given (codes "style")) (given (codes "width"))), MarkdownWidth)
    ∷ (is_none (alignments_asked (given (codes "align"))), AlignmentFault)
    ∷ (is_none (colors_asked (given (codes "color"))), ColorFault)
    ∷ (is_none (columns_asked (given (codes "columns"))), ColumnsFault)
    ∷ []

-- the message for the first of it; none where nothing is wrong
abbrev pub refusal_of : (Text → Option Text) → Option Text
refusal_of given = option_map (λ row. refusal_text row.1) (find (λ row. row.0) (refusals given))

-- a run by the values that are given; or what is wrong with them
abbrev pub IsRunOf : (Text → Option Text) → ReadWords → Type 0
IsRunOf given (Run plan) = IsRead given plan
IsRunOf given (Help text) = ⊥
IsRunOf given (BadWords text) = ⊥
IsRunOf given (BadValue text) = refusal_of given ≡ Some (string_bytes text)

-- ---- arguments that give no values

-- U+000A LINE FEED
abbrev pub line_feed : ℕ
line_feed = 0x0a

abbrev pub with_line_feed : Text → Text
with_line_feed text = if ends_with_byte line_feed text then text else text ++ line_feed ∷ []

-- the message for the user where the command gives no values: the one for wrong arguments ends in a line feed
abbrev pub IsTold : ErrorKind → ReadWords → Type 0
IsTold kind (Run plan) = ⊥
IsTold kind (Help text) = is_wanted kind ≡ true
IsTold kind (BadWords text) = (is_wanted kind ≡ false) × (ends_with_byte line_feed (string_bytes text) ≡ true)
IsTold kind (BadValue text) = ⊥

-- ---- the answer

-- the command finds no error, and this is requested by the values that it gives
abbrev pub IsRunBy : App → List Text → ReadWords → Type 0
IsRunBy command words asked = (fault_of command words ≡ []) × IsRunOf (λ id. first_of id (matches_of command words)) asked

-- it finds one of this kind, for which this is the message
abbrev pub IsToldBy : App → List Text → ReadWords → Type 0
IsToldBy command words asked = (kind : ErrorKind) × IsAmong kind (fault_of command words) × IsTold kind asked

-- a run or a wrong value where the command finds no error; the help, the version or wrong arguments by the kinds that
-- it finds
abbrev pub Answers : App → List Text → ReadWords → Type 0
Answers command words (Run plan) = IsRunBy command words (Run plan)
Answers command words (Help text) = IsToldBy command words (Help text)
Answers command words (BadWords text) = IsToldBy command words (BadWords text)
Answers command words (BadValue text) = IsRunBy command words (BadValue text)

-- what the arguments request of `basinmug`; arguments that it accepts request a run, or have a wrong value
pub record IsAnswer (words : List Text) (asked : ReadWords) : Type 0 where
  pub command : App
  pub basinmug : IsBasinmug command
  pub answer : Answers command words asked
  pub taken : takes command words ≡ true → IsRunOf (λ id. first_of id (matches_of command words)) asked
