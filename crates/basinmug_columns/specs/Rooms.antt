-- The widths of columns whose table is to be narrower: widths in columns of text and padding.
use Rattle.std.specs.Prelude.{ℕ, ◌+◌, ◌-◌, min, nat_le, Bool, false, true, List, map, slice_index, slice_index_or, sum, if◌then◌else◌}
use Rattle.std.specs.List.{enumerate_from}
use Rattle.tabled_size_priority.specs.Choices.{IsShrunkByChoice}
use Rattle.tabled_size_priority.specs.declared.choice.Choice.{Choice}
use Rattle.basinmug_columns.specs.declared.rooms.Need.{Need}

-- one column of text, and two, with a padding at each side
abbrev pub one_column : ℕ
one_column = 3

abbrev pub two_columns : ℕ
two_columns = 4

-- a column of texts that needs so many columns, and one of numbers
abbrev pub text : ℕ → Need
text width = record { is_numeric = false; width = width }

abbrev pub number : ℕ → Need
number width = record { is_numeric = true; width = width }

-- columns of these widths in so many columns each, or in their own width where that is less
abbrev pub least_rooms : ℕ → List ℕ → List ℕ
least_rooms room widths = map (λ width. min width room) widths

-- what the column of a number needs; one past the last is empty, and needs its paddings
abbrev pub empty_column : Need
empty_column = text 2

abbrev pub need_at : List Need → ℕ → Need
need_at needs column = slice_index_or needs column empty_column

-- columns of these widths in what they need, or in their own width where that is less
abbrev pub needed_room : List Need → ℕ → ℕ → ℕ
needed_room needs column width = min width (need_at needs column).width

abbrev pub needed_rooms : List Need → List ℕ → List ℕ
needed_rooms needs widths = map (λ (placed : ℕ × ℕ). needed_room needs placed.0 placed.1) (enumerate_from 0 widths)

-- whether columns of these widths can give so many columns together, where each keeps this width
abbrev pub can_give : ℕ → List ℕ → List ℕ → Bool
can_give by widths kept = nat_le (by + sum kept) (sum widths)

-- the width of columns that can't have what they need: two columns of text; or one, where that is enough for all of them and two is not
abbrev pub narrow_room : ℕ → List ℕ → ℕ
narrow_room by widths =
    if can_give by widths (least_rooms two_columns widths) then two_columns
    else if can_give by widths (least_rooms one_column widths) then one_column
    else two_columns

-- what each column keeps in any case: what it needs, where all of them can
abbrev pub kept_rooms : List Need → ℕ → List ℕ → List ℕ
kept_rooms needs by widths = if can_give by widths (needed_rooms needs widths) then needed_rooms needs widths else least_rooms (narrow_room by widths) widths

-- what a column keeps while others can give: one of numbers all
abbrev pub first_room : List Need → List ℕ → ℕ → ℕ → ℕ
first_room needs kept column width = if (need_at needs column).is_numeric then width else slice_index kept column

abbrev pub first_rooms : List Need → List ℕ → List ℕ → List ℕ
first_rooms needs kept widths = map (λ (placed : ℕ × ℕ). first_room needs kept placed.0 placed.1) (enumerate_from 0 widths)

-- widths that are to be so many columns less together: first the columns give that aren't of numbers, as the priority
-- says, and where that is not enough all of them
pub record AreShrunkWidths (priority : Choice) (needs : List Need) (by : ℕ) (widths rooms : List ℕ) : Type 0 where
  pub first : List ℕ
  pub numbers_stay : IsShrunkByChoice priority (first_rooms needs (kept_rooms needs by widths) widths) by widths first
  pub all_give : IsShrunkByChoice priority (kept_rooms needs by widths) (by - (sum widths - sum first)) first rooms
