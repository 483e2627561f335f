-- A table whose texts are fitted to the widths that their columns get.
use Rattle.std.specs.Prelude.{ℕ, ◌+◌, ◌-◌, nat_lt, Bool, true, false, List, [], ◌∷◌, Option, None, Some, if◌then◌else◌, length, map, slice_index, unwrap_or}
use Rattle.std.specs.List.{flat_map, range_with_len}
use Rattle.grid_config_values.specs.declared.entity.Entity.TheVariants.{Column, Global as EveryCell}
use Rattle.grid_records_measure.specs.TextLines.{text_width}
use Rattle.tabled_list.specs.declared.setting.Setting.{Setting}
use Rattle.tabled_list.specs.declared.setting.Setting.TheVariants.{LineAlignment, TrimHorizontal}
use Rattle.tabled_size.specs.Dimension.Stored.{none_stored}
use Rattle.tabled_steps.specs.Changes.{changed_rows}
use Rattle.tabled_steps.specs.States.{State, column_count}
use Rattle.basinmug_columns.specs.Fitting.Fitting.{cut_lines, wrap_words}

-- ---- texts

-- a text that is wider than so many columns: its lines are cut, or wrapped between words
abbrev pub fitted_text : Bool → ℕ → List ℕ → List ℕ
fitted_text true room text = cut_lines room text
fitted_text false room text = wrap_words room text

-- what a text becomes in so many columns; nothing where it fits
abbrev pub fitted_in : Bool → ℕ → List ℕ → Option (List ℕ)
fitted_in truncate room text = if nat_lt room (text_width text) then Some (fitted_text truncate room text) else None

-- whether a column gets less width than it takes
abbrev pub is_narrowed : List ℕ → List ℕ → ℕ → Bool
is_narrowed widths rooms column = nat_lt (slice_index rooms column) (slice_index widths column)

module _ (truncate : Bool) (widths rooms : List ℕ) where
  -- what a text of a column becomes, a padding of one column at each side of it; nothing where it stays
  abbrev pub fitted : ℕ → List ℕ → Option (List ℕ)
  fitted column text = if is_narrowed widths rooms column then fitted_in truncate (slice_index rooms column - 2) text else None

  -- what it becomes, or the text as it is where it stays
  abbrev pub fitted_at : ℕ → List ℕ → List ℕ
  fitted_at column text = unwrap_or (fitted column text) text

  -- the texts of a row, of which the first is in this column
  abbrev pub fitted_row : ℕ → List (List ℕ) → List (List ℕ)
  fitted_row column [] = []
  fitted_row column (text ∷ texts) = fitted_at column text ∷ fitted_row (column + 1) texts

  -- and of rows
  abbrev pub fitted_rows : List (List (List ℕ)) → List (List (List ℕ))
  fitted_rows rows = map (fitted_row 0) rows

  -- the table with all its texts fitted, which keeps no sizes
  abbrev pub with_fitted_texts : State → State
  with_fitted_texts s = record s { rows = changed_rows (λ place. fitted place.col) EveryCell (column_count s.rows) s.rows; sizes = none_stored }

-- ---- lines

-- the lines of a column begin at their first sign, and each is where the column's texts do
abbrev pub trimmed_if : Bool → ℕ → List Setting
trimmed_if is_wrapped column = if is_wrapped then TrimHorizontal (Column column) true ∷ LineAlignment (Column column) true ∷ [] else []

-- the space at which a line was wrapped is not shown: the lines of the columns whose texts were wrapped are trimmed
abbrev pub trims : Bool → List ℕ → List ℕ → List Setting
trims true widths rooms = []
trims false widths rooms = flat_map (λ column. trimmed_if (is_narrowed widths rooms column) column) (range_with_len 0 (length widths))
