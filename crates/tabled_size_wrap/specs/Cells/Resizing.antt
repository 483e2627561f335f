-- A resized cell: in items that represent its characters, and in the bytes of its text.
use Rattle.std.specs.Prelude.{ℕ, zero, suc, nat_le, Bool, List, [], ◌∷◌, ◌++◌, length, map, replicate, take, slice_range, if◌then◌else◌}
use Rattle.std.specs.List.{flat_map, join_by, slice_split}
use Rattle.grid_records_estimate.specs.Estimates.{greatest}
use Rattle.grid_records_measure.specs.Cutting.{lacking, replacement}
use Rattle.grid_records_measure.specs.Filling.{behind_front, fitting_front}
use Rattle.grid_records_measure.specs.Measures.{measure}
use Rattle.grid_records_measure.specs.TextLines.{is_line_feed, line_feed}
use Rattle.tabled_size_wrap.specs.Bytes.{truncated_text, wrapped_text}
use Rattle.tabled_size_wrap.specs.Runs.{runs_of}
use Rattle.tabled_size_wrap.specs.Showing.{unit_size}
use Rattle.tabled_size_wrap.specs.Units.{line_units}
use Rattle.tabled_size_wrap.specs.Wrapping.{lines_of_runs}

-- what is done to a cell. It stays as it is; or each of its lines is wrapped at a width, with words kept
-- or not; or it is cut at a width
pub data Resize : Type 0 where
  Keep : Resize
  Wrap : ℕ → Bool → Resize
  Cut : ℕ → Resize

-- ---- in items, each of which represents a character; `bare` makes one of a character that is put in

module _ {X : Type 0} (character : X → ℕ) (bare : ℕ → X) where
  -- the lines of a cell
  abbrev pub lines_in : List X → List (List X)
  lines_in cell = slice_split (λ item. is_line_feed (character item)) cell

  -- the columns that its widest line takes
  abbrev pub cell_width : List X → ℕ
  cell_width cell = greatest (map (λ line. measure (map character line)) (lines_in cell))

  -- the lines that a line is wrapped into at a width of at least 1: what each of its runs shows. U+FFFD is in the
  -- columns of a unit that costs more than the width
  abbrev pub wrapped_line : ℕ → Bool → List X → List (List X)
  wrapped_line width keep_words line =
      lines_of_runs unit_size (slice_range line) (bare replacement ∷ []) width 0 (runs_of width (line_units width keep_words (map character line)))

  -- each line wrapped by itself, with a line feed between each two; nothing at width 0
  abbrev pub wrapped_cell : ℕ → Bool → List X → List X
  wrapped_cell zero keep_words cell = []
  wrapped_cell (suc n) keep_words cell =
      join_by (λ line. line) (bare line_feed ∷ []) (flat_map (wrapped_line (suc n) keep_words) (lines_in cell))

  -- the characters that fit a width, and U+FFFD in each column that is lacking
  abbrev pub cut : ℕ → List X → List X
  cut width cell =
      let characters = map character cell in
      let kept = fitting_front width 0 characters in
      take (length kept) cell ++ map bare (replicate (lacking width kept (behind_front width 0 characters)) replacement)

  -- a cell that is cut measures more than the width
  abbrev pub resized : Resize → List X → List X
  resized Keep cell = cell
  resized (Wrap width keep_words) cell = wrapped_cell width keep_words cell
  resized (Cut width) cell = if nat_le (cell_width cell) width then cell else cut width cell

-- ---- in bytes

abbrev pub resized_text : Resize → List ℕ → List ℕ
resized_text Keep text = text
resized_text (Wrap width keep_words) text = wrapped_text width keep_words text
resized_text (Cut width) text = truncated_text width text
