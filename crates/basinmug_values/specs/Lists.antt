-- Lists of columns on the command line: `COLUMN=NAME`, separated by commas.
use Rattle.std.specs.Prelude.{ℕ, ◌==◌, ◌||◌, nat_lt, Bool, false, List, [], ◌∷◌, Option, None, Some, length, map, option_and_then, if◌then◌else◌, string_bytes}
use Rattle.std.specs.Char.{is_ascii_digit}
use Rattle.std.specs.List.{after_first, before_first, list_all, list_any, position_or_len, slice_split}
use Rattle.std.specs.Option.{option_map}
use Rattle.std.specs.Str.{bytes_eq}
use Rattle.program_options.specs.declared.basinmug.ColumnName.{ColumnName}
use Rattle.program_options.specs.declared.basinmug.ColumnName.TheVariants.{Number, Header}
use Rattle.program_options.specs.ColorList.Listed.{all_of, column_of, is_comma, is_equals}

-- ---- a column

-- a column by its number, or by its text in the header
pub data Column : Type 0 where
  Numbered : ℕ → Column
  Titled : List ℕ → Column

-- what a name of a column says
abbrev pub column_of_name : ColumnName → Column
column_of_name (Number number) = Numbered number
column_of_name (Header title) = Titled (string_bytes title)

-- the column that a text names: digits are a number, at most 4294967295, and any other text is one of the header
abbrev pub column_named : List ℕ → Option Column
column_named text = if list_all is_ascii_digit text then option_map Numbered (column_of text) else Some (Titled text)

abbrev pub is_same : Column → Column → Bool
is_same (Numbered a) (Numbered b) = a == b
is_same (Titled a) (Titled b) = bytes_eq a b
is_same _ _ = false

-- some column occurs twice
abbrev pub has_twice : List Column → Bool
has_twice [] = false
has_twice (column ∷ rest) = list_any (is_same column) rest || has_twice rest

-- ---- an item

abbrev pub both : {A B : Type 0} → Option A → Option B → Option (A × B)
both (Some a) (Some b) = Some (a, b)
both _ _ = None

-- a column, the first `=`, a name
abbrev pub item_of : {T : Type 0} → (List ℕ → Option T) → List ℕ → Option (Column × T)
item_of value_of item =
    if nat_lt (position_or_len is_equals item) (length item)
    then both (column_named (before_first is_equals item)) (value_of (after_first is_equals item))
    else None

-- ---- a list

-- the parts of a text at its commas, each of them read as an item
abbrev pub items_of : {T : Type 0} → (List ℕ → Option T) → List ℕ → Option (List (Column × T))
items_of value_of text = all_of (map (item_of value_of) (slice_split is_comma text))

abbrev pub unless_twice : {T : Type 0} → List (Column × T) → Option (List (Column × T))
unless_twice items = if has_twice (map (λ item. item.0) items) then None else Some items

-- the items of a list, in its order: none where a part is no item, or a column occurs twice
abbrev pub listed : {T : Type 0} → (List ℕ → Option T) → List ℕ → Option (List (Column × T))
listed value_of text = option_and_then unless_twice (items_of value_of text)

-- what a list in memory says
abbrev pub seen_items : {T : Type 0} → List (ColumnName × T) → List (Column × T)
seen_items given = map (λ item. (column_of_name item.0, item.1)) given
