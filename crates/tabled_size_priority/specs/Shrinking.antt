-- Lists of widths that are shrunk.
use Rattle.std.specs.Prelude.{◌≡◌, ◌≤◌, ℕ, ◌+◌, ◌-◌, ◌==◌, nat_lt, Bool, List, length, map, max, min, sum, slice_index, if◌then◌else◌, EachIndex}
use Rattle.tabled_size_priority.specs.LevelRules.Columns.{column_numbers, from_side, from_column, by_width}

-- the floor of a column: the smaller of its width and its least; a missing least is 0
abbrev pub floor_of : List ℕ → List ℕ → ℕ → ℕ
floor_of least widths column = min (slice_index widths column) (slice_index least column)

-- what a column has above its floor
abbrev pub gap_of : List ℕ → List ℕ → ℕ → ℕ
gap_of least widths column = slice_index widths column - slice_index least column

abbrev pub floors : List ℕ → List ℕ → List ℕ
floors least widths = map (floor_of least widths) (column_numbers widths)

-- all that can be taken
abbrev pub gap_sum : List ℕ → List ℕ → ℕ
gap_sum least widths = sum (map (gap_of least widths) (column_numbers widths))

-- the sum that is left of widths: less what is requested, and not below the floors
abbrev pub shrunk_sum : List ℕ → List ℕ → ℕ → ℕ
shrunk_sum least widths by = max (sum widths - by) (sum (floors least widths))

-- sizes of a form with two numbers, that sum to a total
pub record IsOfForm (form : ℕ → ℕ → List ℕ) (total : ℕ) (sizes : List ℕ) : Type 0 where
  pub number : ℕ
  pub column : ℕ
  pub formed : sizes ≡ form number column
  pub sums : sum sizes ≡ total

-- ---- each column gives its whole gap before the next gives any

-- of a column at a place: those before place c have given all, the one there so much, the others nothing
abbrev pub size_in_order : ℕ → ℕ → ℕ → ℕ → ℕ → ℕ
size_in_order given c place width least =
    if nat_lt place c then min width least
    else if place == c then width - min (width - least) given
    else width

abbrev pub shrunk_in_order : (ℕ → ℕ) → List ℕ → List ℕ → ℕ → ℕ → List ℕ
shrunk_in_order place least widths given c =
    map (λ column. size_in_order given c (place column) (slice_index widths column) (slice_index least column)) (column_numbers widths)

-- ---- each width is cut to a level

-- of a column at a place: those before place c are cut to one less; none is cut below its floor
abbrev pub size_at_level : ℕ → ℕ → ℕ → ℕ → ℕ → ℕ
size_at_level level c place width least = max (min width least) (min width (if nat_lt place c then level - 1 else level))

abbrev pub shrunk_to_level : (ℕ → ℕ) → List ℕ → List ℕ → ℕ → ℕ → List ℕ
shrunk_to_level place least widths level c =
    map (λ column. size_at_level level c (place column) (slice_index widths column) (slice_index least column)) (column_numbers widths)

-- ---- the columns give in turns

-- of a column at a place: those before place c give once more than the others, each at most its gap
abbrev pub size_in_turns : ℕ → ℕ → ℕ → ℕ → ℕ → ℕ
size_in_turns turns c place width least = width - min (width - least) (if nat_lt place c then turns + 1 else turns)

abbrev pub shrunk_in_turns : (ℕ → ℕ) → List ℕ → List ℕ → ℕ → ℕ → List ℕ
shrunk_in_turns place least widths turns c =
    map (λ column. size_in_turns turns c (place column) (slice_index widths column) (slice_index least column)) (column_numbers widths)

-- ---- the five priorities; a side is right or left

abbrev pub IsShrunkFromSide : Bool → List ℕ → ℕ → List ℕ → List ℕ → Type 0
IsShrunkFromSide right least by widths sizes =
    IsOfForm (shrunk_in_order (from_side right (length widths)) least widths) (shrunk_sum least widths by) sizes

abbrev pub IsShrunkByNarrowest : Bool → List ℕ → ℕ → List ℕ → List ℕ → Type 0
IsShrunkByNarrowest right least by widths sizes =
    IsOfForm (shrunk_in_order (by_width right widths) least widths) (shrunk_sum least widths by) sizes

abbrev pub IsShrunkByWidest : Bool → List ℕ → ℕ → List ℕ → List ℕ → Type 0
IsShrunkByWidest right least by widths sizes =
    IsOfForm (shrunk_to_level (from_side right (length widths)) least widths) (shrunk_sum least widths by) sizes

-- in a round that begins at a column
abbrev pub IsShrunkInTurns : ℕ → List ℕ → ℕ → List ℕ → List ℕ → Type 0
IsShrunkInTurns start least by widths sizes =
    IsOfForm (shrunk_in_turns (from_column start (length widths)) least widths) (shrunk_sum least widths by) sizes

-- ---- what holds of each priority

-- each width is between its floor and what it was
abbrev pub StaysBetween : List ℕ → List ℕ → List ℕ → Type 0
StaysBetween least widths sizes =
    EachIndex widths (λ column. (floor_of least widths column ≤ slice_index sizes column) × (slice_index sizes column ≤ slice_index widths column))
