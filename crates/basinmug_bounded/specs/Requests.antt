-- What the numbers of a request mean.
use Rattle.std.specs.Prelude.{ℕ, ◌==◌, ◌&&◌, ◌||◌, ◌-◌, ◌^◌, Bool, List, [], ◌∷◌, Option, None, Some, find, if◌then◌else◌, length, nat_le, nat_lt, not}
use Rattle.std.specs.List.{list_all}
use Rattle.std.specs.Option.{option_map}
use Rattle.basinmug_bounded.specs.declared.request.PrintRequest.{PrintRequest}
use Rattle.basinmug_bounded.specs.declared.request.RequestFault.{RequestFault}
use Rattle.basinmug_bounded.specs.declared.request.RequestFault.TheVariants as fault
use Rattle.basinmug_run.specs.declared.options.ColumnsShown.{ColumnsShown}
use Rattle.basinmug_run.specs.declared.options.ColumnsShown.TheVariants.{All as AllShown, Fitting}
use Rattle.basinmug_values.specs.Delimiters.{can_delimit}
use Rattle.program_options.specs.declared.basinmug.Escapes.{Escapes}
use Rattle.program_options.specs.declared.basinmug.Escapes.TheVariants.{Colors, All as AllEscapes, None as NoEscapes}
use Rattle.program_options.specs.declared.basinmug.LineStyle.{LineStyle}
use Rattle.program_options.specs.declared.basinmug.LineStyle.TheVariants.{Ascii, Modern, Rounded, Extended, Markdown, Empty}
use Rattle.program_options.specs.declared.basinmug.Rules.{Rules}
use Rattle.program_options.specs.declared.basinmug.Rules.TheVariants.{Header, All, None as NoRules}
use Rattle.tabled_size_priority.specs.declared.choice.Choice.{Choice}
use Rattle.tabled_size_priority.specs.declared.choice.Choice.TheVariants.{None as InTurns, MinRight, MaxRight, Left, Right}

-- ---- one number

-- the lines of a table, from number 0 on
abbrev pub line_styles : List LineStyle
line_styles = Ascii ∷ Modern ∷ Extended ∷ Empty ∷ Rounded ∷ Markdown ∷ []

-- the rows between which there are lines
abbrev pub all_rules : List Rules
all_rules = Header ∷ All ∷ NoRules ∷ []

-- the escape sequences that stay
abbrev pub all_escapes : List Escapes
all_escapes = Colors ∷ AllEscapes ∷ NoEscapes ∷ []

-- which columns a table has: as many as fit, or all
abbrev pub columns_shown : List ColumnsShown
columns_shown = Fitting ∷ AllShown ∷ []

-- the priorities; of equally wide columns the right one comes first
abbrev pub priorities : List Choice
priorities = InTurns ∷ MinRight ∷ MaxRight ∷ Left ∷ Right ∷ []

-- the greatest number of 64 bits means that there is none
abbrev pub number_in : ℕ → Option ℕ
number_in number = if number == 2 ^ 64 - 1 then None else Some number

-- a byte that can separate fields, or 0 if the text says which one it is
abbrev pub is_delimiter : ℕ → Bool
is_delimiter number = number == 0 || can_delimit number

abbrev pub delimiter_in : ℕ → Option ℕ
delimiter_in number = if number == 0 then None else Some number

-- how many records are read; 0 means that all are
abbrev pub head_in : ℕ → Option ℕ
head_in number = if number == 0 then None else Some number

-- ---- all of them

-- a width is requested of a table of Markdown, which takes none
abbrev pub is_narrow_markdown : PrintRequest → Bool
is_narrow_markdown request = request.style == 5 && not (request.width == 2 ^ 64 - 1)

-- the first records are requested, and the last
abbrev pub has_both_ends : PrintRequest → Bool
has_both_ends request = not (request.head == 0) && not (request.tail == 2 ^ 64 - 1)

abbrev pub reserves_nothing : PrintRequest → Bool
reserves_nothing request = request.reserved == 0 && list_all (λ word. word == 0) request.reserved_words

-- what may have no meaning, in this order
abbrev pub faults : PrintRequest → List (Bool × RequestFault)
faults request =
    (not (request.size == 136), fault.Size)
    ∷ (not (is_delimiter request.delimiter), fault.Delimiter)
    ∷ (nat_lt 1 request.no_header, fault.NoHeader)
    ∷ (nat_le (length line_styles) request.style, fault.Style)
    ∷ (nat_le (length all_rules) request.rules, fault.Rules)
    ∷ (nat_le (length all_escapes) request.escapes, fault.Escapes)
    ∷ (nat_lt 1 request.truncate, fault.Truncate)
    ∷ (nat_le (length priorities) request.priority, fault.Priority)
    ∷ (nat_lt 1 request.expanded, fault.Expanded)
    ∷ (nat_le (length columns_shown) request.all_columns, fault.AllColumns)
    ∷ (is_narrow_markdown request, fault.Width)
    ∷ (has_both_ends request, fault.Head)
    ∷ (not (reserves_nothing request), fault.Reserved)
    ∷ []

-- the first of it, if there is some
abbrev pub first_fault : PrintRequest → Option RequestFault
first_fault request = option_map (λ row. row.1) (find (λ row. row.0) (faults request))
