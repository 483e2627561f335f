-- Tables by their cells, from which estimates can be worked out by hand.
use Rattle.std.specs.Prelude.{ℕ, ◌==◌, Bool, not, List, [], length, slice_index_or}
use Rattle.grid_records_estimate.specs.Estimates.{TrackNeeds}

-- how many columns a cell takes, 0 for one that is hidden, and how much it needs
abbrev pub cell_in : List (List (ℕ × ℕ)) → ℕ → ℕ → ℕ × ℕ
cell_in rows column row = slice_index_or (slice_index_or rows row []) column (0, 0)

-- a table of `columns` columns with these cells, where all boundaries exist or none
abbrev pub table : Bool → ℕ → List (List (ℕ × ℕ)) → TrackNeeds
table is_there columns rows = record {
  tracks = columns;
  cross_tracks = length rows;
  is_visible = λ column row. not ((cell_in rows column row).0 == 0);
  span = λ column row. (cell_in rows column row).0;
  need = λ column row. (cell_in rows column row).1;
  has_boundary = λ _. is_there;
}
