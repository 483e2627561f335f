-- Each colour of a list is one that has a name, and closes as that one does.
use Rattle.std.proofs.Common.{ℕ, Bool, true, false, List, [], ◌∷◌, Option, None, Some, IfSome, map, if◌then◌else◌, option_map}
use Rattle.std.specs.Prelude.{find, length, nat_lt, option_and_then}
use Rattle.std.specs.List.{AllByRecursion, after_first, before_first, position_or_len, slice_split}
use Rattle.std.specs.Str.{bytes_eq}
use Rattle.grid_config.specs.Ansi.Colors.{Color}
use Rattle.papergrid_picture.specs.Colors.ClosingColors.{IsClosing}
use Rattle.program_options.specs.ColorList.Listed.{all_of, color_of_name, column_of, given_of, has_twice, is_comma, is_equals, listed_color, listed_colors, unless_twice}
use Rattle.program_options.specs.ColorList.Names.{named_colors}
use Rattle.program_options.proofs.ColorListLemmas.ClosedNames.{names-close}

abbrev ClosedItem : ℕ × Color → Type 0
ClosedItem given = IsClosing given.1

abbrev ClosedRow : List ℕ × Color → Type 0
ClosedRow row = IsClosing row.1

found-closed : (rows : List (List ℕ × Color)) (test : List ℕ × Color → Bool) → AllByRecursion ClosedRow rows → IfSome (option_map (λ (row : List ℕ × Color). row.1) (find test rows)) IsClosing
found-closed [] test all = tt
found-closed (row ∷ rows) test all = by (found-closed rows test all.1) (test row)
  where
    by : IfSome (option_map (λ (row : List ℕ × Color). row.1) (find test rows)) IsClosing → (b : Bool) → IfSome (option_map (λ (row : List ℕ × Color). row.1) (if b then Some row else find test rows)) IsClosing
    by others true = all.0
    by others false = others

given-closed : (column : Option ℕ) (color : Option Color) → IfSome color IsClosing → IfSome (given_of column color) ClosedItem
given-closed None color all = tt
given-closed (Some column) None all = tt
given-closed (Some column) (Some color) all = all

item-closed : (item : List ℕ) → IfSome (listed_color item) ClosedItem
item-closed item = by (nat_lt (position_or_len is_equals item) (length item))
  where
    by : (b : Bool) → IfSome (if b then given_of (column_of (before_first is_equals item)) (color_of_name (after_first is_equals item)) else None) ClosedItem
    by true =
        given-closed (column_of (before_first is_equals item)) (color_of_name (after_first is_equals item))
        (found-closed named_colors (λ row. bytes_eq row.0 (after_first is_equals item)) names-close)
    by false = tt

-- each of what is given, if each of them closes
all-closed : (parts : List (List ℕ)) → IfSome (all_of (map listed_color parts)) (AllByRecursion ClosedItem)
all-closed [] = tt
all-closed (part ∷ parts) = by (all-closed parts) (listed_color part) (item-closed part)
  where
    behind : (first : ℕ × Color) → ClosedItem first → (rest : Option (List (ℕ × Color))) → IfSome rest (AllByRecursion ClosedItem)
        → IfSome (option_map (λ (others : List (ℕ × Color)). first ∷ others) rest) (AllByRecursion ClosedItem)
    behind first one None all = tt
    behind first one (Some rest) all = (one, all)

    by : IfSome (all_of (map listed_color parts)) (AllByRecursion ClosedItem) → (given : Option (ℕ × Color)) → IfSome given ClosedItem
        → IfSome (all_of (given ∷ map listed_color parts)) (AllByRecursion ClosedItem)
    by others None one = tt
    by others (Some first) one = behind first one (all_of (map listed_color parts)) others

different-closed : (given : Option (List (ℕ × Color))) → IfSome given (AllByRecursion ClosedItem) → IfSome (option_and_then unless_twice given) (AllByRecursion ClosedItem)
different-closed None all = tt
different-closed (Some given) all = by (has_twice (map (λ (one : ℕ × Color). one.0) given))
  where
    by : (b : Bool) → IfSome (if b then None else Some given) (AllByRecursion ClosedItem)
    by true = tt
    by false = all

pub lists-close : (list : List ℕ) → IfSome (listed_colors list) (AllByRecursion ClosedItem)
lists-close list = different-closed (all_of (map listed_color (slice_split is_comma list))) (all-closed (slice_split is_comma list))
