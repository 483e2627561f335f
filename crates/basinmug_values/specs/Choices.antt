-- Lists of chosen columns on the command line: columns, and ranges of numbers, separated by commas.
use Rattle.std.specs.Prelude.{ℕ, ◌==◌, nat_le, nat_lt, Bool, List, Option, None, Some, length, map, if◌then◌else◌}
use Rattle.std.specs.List.{after_first, before_first, position_or_len, slice_split}
use Rattle.std.specs.Option.{option_map}
use Rattle.program_options.specs.declared.basinmug.ColumnChoice.{ColumnChoice}
use Rattle.program_options.specs.declared.basinmug.ColumnChoice.TheVariants.{One, Range}
use Rattle.program_options.specs.ColorList.Listed.{all_of, column_of, is_comma}
use Rattle.basinmug_values.specs.Lists.{Column, both, column_named, column_of_name}

-- one column, or those from one number to another, both of them too
pub data Chosen : Type 0 where
  Single : Column → Chosen
  Through : ℕ → ℕ → Chosen

-- what a choice in memory says
abbrev pub chosen_of : ColumnChoice → Chosen
chosen_of (One name) = Single (column_of_name name)
chosen_of (Range first last) = Through first last

abbrev pub is_hyphen : ℕ → Bool
is_hyphen byte = byte == 0x2d

-- two numbers, each at most 4294967295, with a hyphen between them
abbrev pub range_of : List ℕ → Option (ℕ × ℕ)
range_of text =
    if nat_lt (position_or_len is_hyphen text) (length text)
    then both (column_of (before_first is_hyphen text)) (column_of (after_first is_hyphen text))
    else None

-- a range, of which the last number is not less than the first
abbrev pub rising : ℕ → ℕ → Option Chosen
rising first last = if nat_le first last then Some (Through first last) else None

-- a range where the text is one, and else a column
abbrev pub chosen_by : Option (ℕ × ℕ) → List ℕ → Option Chosen
chosen_by None text = option_map Single (column_named text)
chosen_by (Some numbers) text = rising numbers.0 numbers.1

abbrev pub chosen_named : List ℕ → Option Chosen
chosen_named text = chosen_by (range_of text) text

-- the parts of a text at its commas, each of them read: none where one of them can't be
abbrev pub chosen_listed : List ℕ → Option (List Chosen)
chosen_listed text = all_of (map chosen_named (slice_split is_comma text))
