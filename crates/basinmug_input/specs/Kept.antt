-- Which rows of a text are kept: all of them, or the first ones and the last ones, as `head -n` and `tail -n` choose lines (POSIX).
use Rattle.std.specs.Prelude.{◌≡◌, ◌-◌, ℕ, List, ◌++◌, drop, length, min, take}
use Rattle.tabled_text.specs.Rows.{longest}
use Rattle.basinmug_cells.specs.Held.{Held, first_and_last}
pub use Rattle.basinmug_cells.specs.Held.{last_of}
use Rattle.basinmug_input.specs.declared.kept.KeptRows.{KeptRows}
use Rattle.basinmug_input.specs.declared.kept.ReadRows.{ReadRows}
use Rattle.basinmug_input.specs.declared.kept.RowChoice.{RowChoice}
use Rattle.basinmug_input.specs.declared.kept.RowChoice.TheVariants.{All, Ends}

-- the rows that are kept of these: all, or the first `first`, and of those after them the last `last`
abbrev pub kept_rows : {X : Type 0} → RowChoice → List X → List X
kept_rows All rows = rows
kept_rows (Ends first last) rows = first_and_last first last rows

-- how many of the kept rows come before those that are left out, where there are so many rows
abbrev pub rows_before : RowChoice → ℕ → ℕ
rows_before All count = count
rows_before (Ends first last) count = min first count

-- how many rows are left out
abbrev pub rows_left_out : {X : Type 0} → RowChoice → List X → ℕ
rows_left_out choice rows = length rows - length (kept_rows choice rows)

-- the rows that are left out come one after the other: the rows are the kept ones before them, these, and the other kept
-- ones
pub record LeavesOutOneRun {X : Type 0} (choice : RowChoice) (rows : List X) : Type 0 where
  pub between : List X
  pub parts : rows ≡ take (rows_before choice (length rows)) (kept_rows choice rows) ++ between ++ drop (rows_before choice (length rows)) (kept_rows choice rows)
  pub size : length between ≡ rows_left_out choice rows

-- what is read of these rows: those that are kept, how many of them come before the others, how many the others are, and
-- how many fields the longest has of all
pub record IsReadRows (choice : RowChoice) (rows : List (List (List ℕ))) (read : ReadRows) : Type 0 where
  pub kept : read.rows.rows ≡ kept_rows choice rows
  pub before : read.before ≡ rows_before choice (length rows)
  pub left_out : read.left_out ≡ rows_left_out choice rows
  pub columns : read.columns ≡ longest rows

-- ---- as the code keeps them

-- whatever rows come after them, of these rows the same are kept as of others, of which some that are not kept are gone
pub record StandsFor (choice : RowChoice) (old new : Held) : Type 0 where
  pub text : new.text ≡ old.text
  pub begun : new.begun ≡ old.begun
  pub kept : (after : List (List (List ℕ))) → kept_rows choice (new.rows ++ after) ≡ kept_rows choice (old.rows ++ after)

-- these rows of a text have come, and some that are not kept may be gone; the next row, which isn't ended, has these cells
pub record HasKept (choice : RowChoice) (text : List ℕ) (rows : List (List (List ℕ))) (begun : List (List ℕ)) (kept : KeptRows) : Type 0 where
  pub by : kept.choice ≡ choice
  pub stands : StandsFor choice (record { text = text; rows = rows; begun = begun }) kept.rows
  pub counted : kept.count ≡ length rows
  pub columns : kept.columns ≡ longest rows
