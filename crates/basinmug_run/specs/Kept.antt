-- Which rows are shown of all, of which the first is the header where there is one: all of them, the first records, the last ones, or
-- both, as `head -n` and `tail -n` choose lines (POSIX).
use Rattle.std.specs.Prelude.{ℕ, ◌+◌, ◌-◌, ◌==◌, ◌^◌, min, Bool, List, Option, None, Some, if◌then◌else◌}
use Rattle.tabled_text.specs.Rows.{longest}
use Rattle.basinmug_columns.specs.declared.rows.RowsShown.{RowsShown}
use Rattle.basinmug_columns.specs.declared.rows.RowsShown.TheVariants.{All as AllShown, More, Earlier, Between}
use Rattle.basinmug_input.specs.Kept.{kept_rows, rows_left_out}
use Rattle.basinmug_input.specs.declared.kept.RowChoice.{RowChoice}
use Rattle.basinmug_input.specs.declared.kept.RowChoice.TheVariants.{All as AllRows, Ends}
use Rattle.basinmug_run.specs.declared.kept.KeptRows.{KeptRows}
use Rattle.basinmug_run.specs.declared.options.Options.{Options}
use Rattle.basinmug_run.specs.Picture.Rows.{header_rows}

-- ---- by what is requested

-- the header and so many records; no memory holds more than 2^64 - 1
abbrev pub first_rows : Bool → ℕ → ℕ
first_rows header most = min (most + header_rows header) (2 ^ 64 - 1)

-- which rows are kept, where so many of the first records are requested, and so many of the last
abbrev pub choice_by : Bool → Option ℕ → Option ℕ → RowChoice
choice_by header None None = AllRows
choice_by header (Some most) None = Ends (first_rows header most) 0
choice_by header None (Some last) = Ends (header_rows header) last
choice_by header (Some most) (Some last) = Ends (first_rows header most) last

abbrev pub choice_of : Options → RowChoice
choice_of options = choice_by options.header options.max_rows options.tail

-- the first records and the last, where so many are left out between them: all, where none is
abbrev pub shown_between : ℕ → ℕ → RowsShown
shown_between first left_out = if left_out == 0 then AllShown else Between first left_out

-- which records are shown, where so many of the first are requested, and so many of the last, and so many are left out
abbrev pub shown_by : Option ℕ → Option ℕ → ℕ → RowsShown
shown_by None None left_out = AllShown
shown_by (Some most) None left_out = More left_out
shown_by None (Some last) left_out = Earlier left_out
shown_by (Some most) (Some last) left_out = shown_between most left_out

-- ---- of rows

-- rows that are shown, which of all records they have, and how many fields the longest of all rows has
pub record Kept : Type 0 where
  pub rows : List (List (List ℕ))
  pub shown : RowsShown
  pub columns : ℕ

-- as the code has them
abbrev pub kept_view : KeptRows → Kept
kept_view kept = record { rows = kept.rows.rows; shown = kept.shown; columns = kept.columns }

module _ (options : Options) where
  -- those that are read, where so many are left out and the longest of all has so many fields
  abbrev pub kept_read : List (List (List ℕ)) → ℕ → ℕ → Kept
  kept_read rows left_out columns = record { rows = rows; shown = shown_by options.max_rows options.tail left_out; columns = columns }

  module _ (rows : List (List (List ℕ))) where
    -- the rows that are shown of these
    abbrev pub shown_rows : List (List (List ℕ))
    shown_rows = kept_rows (choice_of options) rows

    -- which of the records these have
    abbrev pub rows_shown : RowsShown
    rows_shown = shown_by options.max_rows options.tail (rows_left_out (choice_of options) rows)

    -- all of it
    abbrev pub kept_of : Kept
    kept_of = record { rows = shown_rows; shown = rows_shown; columns = longest rows }
