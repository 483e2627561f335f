-- Which columns are shown where not all of them fit: as many of the first as of the last, or one more.
use Rattle.std.specs.Prelude.{◌≤◌, ◌<◌, ℕ, zero, suc, ◌+◌, ◌-◌, ◌/◌, ◌%◌, ◌^◌, ◌==◌, ◌&&◌, min, nat_le, nat_lt, Bool, List, [], ◌∷◌, ◌++◌, drop, length, map, sum, take, if◌then◌else◌}
use Rattle.std.specs.List.{range_with_len}
use Rattle.basinmug_columns.specs.Rooms.{need_at, one_column}
use Rattle.basinmug_columns.specs.declared.rooms.Need.{Need}
use Rattle.basinmug_columns.specs.declared.shown.ShownColumn.{ShownColumn}
use Rattle.basinmug_columns.specs.declared.shown.ShownColumn.TheVariants.{Number, LeftOut}

-- how many of so many that are shown are of the first, and how many of the last
abbrev pub first_count : ℕ → ℕ
first_count shown = (shown + 1) / 2

abbrev pub last_count : ℕ → ℕ
last_count shown = shown / 2

-- the column that is shown next where so many are shown: of the first where those are as many as the last, and else
-- of the last
abbrev pub next_column : ℕ → ℕ → ℕ
next_column count shown = if shown % 2 == 0 then shown / 2 else count - 1 - shown / 2

-- so many of a list: the first of it, and the last
abbrev pub kept : {X : Type 0} → ℕ → List X → List X
kept shown xs = take (first_count shown) xs ++ drop (length xs - last_count shown) xs

-- the columns that a table takes of which so many columns are shown, each of which takes what it costs: these, the
-- frame, and the mark of those that are left out, if there are any
abbrev pub shown_width : ℕ → ℕ → List ℕ → ℕ → ℕ
shown_width frame mark costs shown = frame + sum (kept shown costs) + (if nat_lt shown (length costs) then mark else 0)

-- so many columns fit in a width, and no greater number of them does; 0 where not even one does
pub record IsGreatestFit (frame mark : ℕ) (costs : List ℕ) (width shown : ℕ) : Type 0 where
  pub within : shown ≤ length costs
  pub fits : 0 < shown → shown_width frame mark costs shown ≤ width
  pub greatest : (more : ℕ) → shown < more → more ≤ length costs → width < shown_width frame mark costs more

-- the greatest number up to another of which a test holds; 0 where there is none
abbrev pub greatest : (ℕ → Bool) → ℕ → ℕ
greatest test zero = 0
greatest test (suc most) = if test (suc most) then suc most else greatest test most

-- how many columns fit in a width
abbrev pub fit_count : ℕ → ℕ → List ℕ → ℕ → ℕ
fit_count frame mark costs width = greatest (λ shown. nat_le (shown_width frame mark costs shown) width) (length costs)

-- ---- the columns

-- columns by number, from one on
abbrev pub numbered : ℕ → ℕ → List ShownColumn
numbered from count = map Number (range_with_len from count)

-- so many of some columns: the first of them, the mark, and the last; all of them where none is left out
abbrev pub so_many : ℕ → List ShownColumn → List ShownColumn
so_many shown columns =
    if nat_lt shown (length columns)
    then take (first_count shown) columns ++ LeftOut ∷ drop (length columns - last_count shown) columns
    else columns

-- the first of some columns, and beside it, where its width allows that, the mark of the others
abbrev pub first_alone : Bool → List ShownColumn → List ShownColumn
first_alone beside columns = take 1 columns ++ (if beside && nat_lt 1 (length columns) then LeftOut ∷ [] else [])

-- a line at one side, where columns have lines between them
abbrev pub line_width : Bool → ℕ
line_width lined = if lined then 1 else 0

-- what the mark takes, with its paddings and a line
abbrev pub mark_cost : Bool → ℕ
mark_cost lined = one_column + line_width lined

-- whether one column of text is left for the first column beside the mark
abbrev pub has_room_beside : Bool → ℕ → Bool
has_room_beside lined width = nat_le (line_width lined + mark_cost lined + mark_cost lined) width

module _ (needs : List Need) (lined : Bool) where
  -- what a column takes that has what it needs, with a line; no memory holds more than 2^64 - 1
  abbrev pub cost_of : ShownColumn → ℕ
  cost_of (Number number) = min (2 ^ 64 - 1) ((need_at needs number).width + line_width lined)
  cost_of LeftOut = mark_cost lined

  -- of some columns those that are shown in a table of this width: as many as fit with what they need; where not even
  -- one does, the first, in what is left for it
  abbrev pub columns_that_fit : ℕ → List ShownColumn → List ShownColumn
  columns_that_fit width columns =
      let shown = fit_count (line_width lined) (mark_cost lined) (map cost_of columns) width in
      if shown == 0 then first_alone (has_room_beside lined width) columns else so_many shown columns
