-- Colours that are requested have names, and close as those do: what holds of each named colour holds of them.
use Rattle.std.proofs.Common.{◌≡◌, refl, subst, ℕ, Bool, true, false, List, [], ◌∷◌, Option, None, Some, IfSome, codes, map, if◌then◌else◌, option_map}
use Rattle.std.specs.Prelude.{find, length, nat_lt, option_and_then}
use Rattle.std.specs.List.{AllByRecursion, after_first, before_first, position_or_len, slice_split}
use Rattle.std.specs.Str.{bytes_eq}
use Rattle.grid_config.specs.Ansi.Colors.{Color}
use Rattle.papergrid_picture.specs.Colors.ClosingColors.{IsClosing}
use Rattle.program_options.specs.ColorList.Listed.{color_of_name, is_comma, is_equals, listed_colors}
use Rattle.program_options.specs.ColorList.Names.{named_colors, color_of_texts}
use Rattle.program_options.proofs.ColorListLemmas.ClosedLists.{lists-close}
use Rattle.program_options.specs.declared.basinmug.ColumnName.{ColumnName}
use Rattle.command_line.specs.Basinmug.Asking.{IsRead, colors_asked}
use Rattle.program_options.specs.ColorList.Listed.{all_of}
use Rattle.basinmug_values.specs.Lists.{Column, both, column_named, has_twice, item_of, items_of, seen_items, unless_twice}
use Rattle.command_line.specs.declared.basinmug.words.Plan.{Plan}

-- ---- names

listed-closes : (list : List ℕ) (color : Color) → listed_colors list ≡ Some ((0, color) ∷ []) → IsClosing color
listed-closes list color is = (subst (λ (given : Option (List (ℕ × Color))). IfSome given (AllByRecursion (λ item. IsClosing item.1))) is (lists-close list)).0

names-close : AllByRecursion (λ (row : List ℕ × Color). IsClosing row.1) named_colors
names-close = (
  listed-closes (codes "0=black") (color_of_texts (codes "\u{1b}[30m") (codes "\u{1b}[39m")) refl,
  (
    listed-closes (codes "0=red") (color_of_texts (codes "\u{1b}[31m") (codes "\u{1b}[39m")) refl,
    (
      listed-closes (codes "0=green") (color_of_texts (codes "\u{1b}[32m") (codes "\u{1b}[39m")) refl,
      (
        listed-closes (codes "0=yellow") (color_of_texts (codes "\u{1b}[33m") (codes "\u{1b}[39m")) refl,
        (
          listed-closes (codes "0=blue") (color_of_texts (codes "\u{1b}[34m") (codes "\u{1b}[39m")) refl,
          (
            listed-closes (codes "0=magenta") (color_of_texts (codes "\u{1b}[35m") (codes "\u{1b}[39m")) refl,
            (
              listed-closes (codes "0=cyan") (color_of_texts (codes "\u{1b}[36m") (codes "\u{1b}[39m")) refl,
              (
                listed-closes (codes "0=white") (color_of_texts (codes "\u{1b}[37m") (codes "\u{1b}[39m")) refl,
                (
                  listed-closes (codes "0=bold") (color_of_texts (codes "\u{1b}[1m") (codes "\u{1b}[22m")) refl,
                  (listed-closes (codes "0=underline") (color_of_texts (codes "\u{1b}[4m") (codes "\u{1b}[24m")) refl, tt),
                ),
              ),
            ),
          ),
        ),
      ),
    ),
  ),
)

found-closes : (rows : List (List ℕ × Color)) (test : List ℕ × Color → Bool) → AllByRecursion (λ (row : List ℕ × Color). IsClosing row.1) rows
    → IfSome (option_map (λ (row : List ℕ × Color). row.1) (find test rows)) IsClosing
found-closes [] test all = tt
found-closes (row ∷ rows) test all = by (found-closes rows test all.1) (test row)
  where
    by : IfSome (option_map (λ (row : List ℕ × Color). row.1) (find test rows)) IsClosing → (b : Bool) → IfSome (option_map (λ (row : List ℕ × Color). row.1) (if b then Some row else find test rows)) IsClosing
    by others true = all.0
    by others false = others

closes-by_name : (name : List ℕ) → IfSome (color_of_name name) IsClosing
closes-by_name name = found-closes named_colors (λ row. bytes_eq row.0 name) names-close

-- it has a name
abbrev IsNamed : Color → Type 0
IsNamed color = (name : List ℕ) × (color_of_name name ≡ Some color)

named-by_name : (name : List ℕ) → IfSome (color_of_name name) IsNamed
named-by_name name = by (color_of_name name) refl
  where
    by : (found : Option Color) → color_of_name name ≡ found → IfSome found IsNamed
    by None e = tt
    by (Some color) e = (name, e)

-- ---- what holds of each colour that has a name

module _ (P : Color → Type 0) (by_name : (name : List ℕ) → IfSome (color_of_name name) P) where
  abbrev IsSo : Column × Color → Type 0
  IsSo item = P item.1

  -- ---- lists

  both-so : (column : Option Column) (color : Option Color) → IfSome color P → IfSome (both column color) IsSo
  both-so None None all = tt
  both-so None (Some color) all = tt
  both-so (Some column) None all = tt
  both-so (Some column) (Some color) all = all

  item-so : (item : List ℕ) → IfSome (item_of color_of_name item) IsSo
  item-so item = by (nat_lt (position_or_len is_equals item) (length item))
    where
      name : List ℕ
      name = after_first is_equals item

      by : (b : Bool) → IfSome (if b then both (column_named (before_first is_equals item)) (color_of_name name) else None) IsSo
      by true = both-so (column_named (before_first is_equals item)) (color_of_name name) (by_name name)
      by false = tt

  items-so : (parts : List (List ℕ)) → IfSome (all_of (map (item_of color_of_name) parts)) (AllByRecursion IsSo)
  items-so [] = tt
  items-so (part ∷ parts) = by (items-so parts) (item_of color_of_name part) (item-so part)
    where
      behind : (first : Column × Color) → IsSo first → (rest : Option (List (Column × Color))) → IfSome rest (AllByRecursion IsSo)
          → IfSome (option_map (λ (others : List (Column × Color)). first ∷ others) rest) (AllByRecursion IsSo)
      behind first one None all = tt
      behind first one (Some rest) all = (one, all)

      by : IfSome (all_of (map (item_of color_of_name) parts)) (AllByRecursion IsSo) → (given : Option (Column × Color)) → IfSome given IsSo → IfSome (all_of (given ∷ map (item_of color_of_name) parts)) (AllByRecursion IsSo)
      by others None one = tt
      by others (Some first) one = behind first one (all_of (map (item_of color_of_name) parts)) others

  different-so : (given : Option (List (Column × Color))) → IfSome given (AllByRecursion IsSo) → IfSome (option_and_then unless_twice given) (AllByRecursion IsSo)
  different-so None all = tt
  different-so (Some given) all = by (has_twice (map (λ (item : Column × Color). item.0) given))
    where
      by : (b : Bool) → IfSome (if b then None else Some given) (AllByRecursion IsSo)
      by true = tt
      by false = all

  asked-so : (given : Option (List ℕ)) → IfSome (colors_asked given) (AllByRecursion IsSo)
  asked-so None = tt
  asked-so (Some list) = different-so (items_of color_of_name list) (items-so (slice_split is_comma list))

  -- ---- what is read

  seen-so : (items : List (ColumnName × Color)) → AllByRecursion IsSo (seen_items items) → AllByRecursion (λ (pair : ColumnName × Color). P pair.1) items
  seen-so [] all = tt
  seen-so (item ∷ items) all = (all.0, seen-so items all.1)

  read-so : (given : List ℕ → Option (List ℕ)) (plan : Plan) → IsRead given plan → AllByRecursion (λ (pair : ColumnName × Color). P pair.1) plan.options.colors.items
  read-so given plan read =
      seen-so plan.options.colors.items (subst (λ (asked : Option (List (Column × Color))). IfSome asked (AllByRecursion IsSo)) read.colors (asked-so (given (codes "color"))))

pub read-closes : (given : List ℕ → Option (List ℕ)) (plan : Plan) → IsRead given plan → AllByRecursion (λ (pair : ColumnName × Color). IsClosing pair.1) plan.options.colors.items
read-closes given plan read = read-so IsClosing closes-by_name given plan read

pub read-named : (given : List ℕ → Option (List ℕ)) (plan : Plan) → IsRead given plan → AllByRecursion (λ (pair : ColumnName × Color). IsNamed pair.1) plan.options.colors.items
read-named given plan read = read-so IsNamed named-by_name given plan read
