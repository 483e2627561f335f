-- Colours of columns as a text: `COLUMN=NAME`, separated by commas.
use Rattle.std.specs.Prelude.{ℕ, ◌==◌, ◌&&◌, ◌||◌, nat_lt, Bool, false, List, [], ◌∷◌, Option, None, Some, find, length, map, option_and_then, if◌then◌else◌}
use Rattle.std.specs.Char.{is_ascii_digit}
use Rattle.std.specs.List.{after_first, before_first, list_all, list_any, position_or_len, slice_split}
use Rattle.std.specs.Option.{option_map}
use Rattle.std.specs.Str.{bytes_eq}
use Rattle.std.specs.Str.Parse.{digits_value}
use Rattle.grid_config.specs.Ansi.Colors.{Color}
use Rattle.program_options.specs.ColorList.Names.{named_colors}

abbrev pub is_comma : ℕ → Bool
is_comma b = b == 0x2c

abbrev pub is_equals : ℕ → Bool
is_equals b = b == 0x3d

-- a text of decimal digits alone, one at least, which write no number above 4294967295
abbrev pub is_column : List ℕ → Bool
is_column text = list_all is_ascii_digit text && (nat_lt 0 (length text) && nat_lt (digits_value 10 text) 4294967296)

-- the column that such a text writes
abbrev pub column_of : List ℕ → Option ℕ
column_of text = if is_column text then Some (digits_value 10 text) else None

-- the colour of this name
abbrev pub color_of_name : List ℕ → Option Color
color_of_name name = option_map (λ row. row.1) (find (λ row. bytes_eq row.0 name) named_colors)

abbrev pub given_of : Option ℕ → Option Color → Option (ℕ × Color)
given_of None color = None
given_of (Some column) None = None
given_of (Some column) (Some color) = Some (column, color)

-- what a part of the list gives: a column, the first `=`, a name
abbrev pub listed_color : List ℕ → Option (ℕ × Color)
listed_color part =
    if nat_lt (position_or_len is_equals part) (length part)
    then given_of (column_of (before_first is_equals part)) (color_of_name (after_first is_equals part))
    else None

-- all of them, where each is there
abbrev pub all_of : {X : Type 0} → List (Option X) → Option (List X)
all_of [] = Some []
all_of (None ∷ rest) = None
all_of (Some x ∷ rest) = option_map (λ xs. x ∷ xs) (all_of rest)

-- some number occurs twice
abbrev pub has_twice : List ℕ → Bool
has_twice [] = false
has_twice (number ∷ rest) = list_any (λ other. number == other) rest || has_twice rest

abbrev pub unless_twice : List (ℕ × Color) → Option (List (ℕ × Color))
unless_twice given = if has_twice (map (λ one. one.0) given) then None else Some given

-- the colours of a list, in its order: none where a part gives none, or a column occurs twice
abbrev pub listed_colors : List ℕ → Option (List (ℕ × Color))
listed_colors text = option_and_then unless_twice (all_of (map listed_color (slice_split is_comma text)))
