-- The widths that a table's cells have for their texts.
use Rattle.std.specs.Prelude.{ℕ, ◌+◌, ◌-◌, ◌&&◌, if◌then◌else◌, List, [], Option, None, Some, drop, length, map, min, nat_le, replicate, slice_index, sum, take}
use Rattle.std.specs.List.{filter, range_with_len}
use Rattle.grid_config_values.specs.Glyphs.{boundary_kind, has_column_boundary}
use Rattle.grid_config_values.specs.declared.position.Position.{Position}
use Rattle.grid_config.specs.Looks.{Look}
use Rattle.tabled_steps.specs.Sizes.{is_visible_in, natural_widths}

-- the widths of `columns` columns; after the end of the list each is 0
abbrev pub column_widths : ℕ → List ℕ → List ℕ
column_widths columns widths = map (λ column. slice_index widths column) (range_with_len 0 columns)

module _ (look : Look) where
  -- the empty widths of a table of `columns` columns and `rows` rows: those of empty texts
  abbrev pub empty_widths : ℕ → ℕ → List ℕ
  empty_widths columns rows = natural_widths look columns (replicate rows (replicate columns []))

  -- how many of `columns` columns a cell takes: its span counts only inside the table
  abbrev pub cell_columns : ℕ → Position → ℕ
  cell_columns columns place = min (look.extent place).columns (columns - place.col)

  -- how many of the boundaries between `count` columns from one on are there
  abbrev pub boundaries_between : ℕ → ℕ → ℕ → ℕ
  boundaries_between columns first count =
      length (filter (λ j. has_column_boundary look.borders (boundary_kind j columns)) (range_with_len (first + 1) (count - 1)))

  -- the columns of a cell, with the boundaries between them that are there
  abbrev pub span_width : List ℕ → Position → ℕ
  span_width widths place =
      let taken = cell_columns (length widths) place in
      sum (take taken (drop place.col widths)) + boundaries_between (length widths) place.col taken

  -- what its paddings leave to its text. A hidden cell has no such width, nor has one that is
  -- narrower than its empty width
  abbrev pub text_room : List ℕ → List ℕ → Position → Option ℕ
  text_room least widths place =
      let padding = look.padding place in
      if is_visible_in look.extent place && nat_le (span_width least place) (span_width widths place)
      then Some (span_width widths place - (padding.left.size + padding.right.size))
      else None

-- what becomes of a text in the width given to it; without one it stays
abbrev pub in_room : (ℕ → List ℕ → Option (List ℕ)) → List ℕ → Option ℕ → Option (List ℕ)
in_room change text None = None
in_room change text (Some width) = change width text
