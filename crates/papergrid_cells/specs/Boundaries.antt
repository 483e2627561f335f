-- What the boundaries show, by settings alone.
use Rattle.std.specs.Prelude.{ℕ, List, [], ◌∷◌, if◌then◌else◌, unwrap_or}
use Rattle.grid_config_values.specs.Glyphs.{along_column, boundary_kind, crossing, has_column_boundary, in_row}
use Rattle.grid_config.specs.Looks.{Look}
use Rattle.papergrid_picture.specs.Blocks.{Part, Glyph}
use Rattle.papergrid_picture.specs.Picture.{blank}
use Rattle.papergrid_cells.specs.Painting.{colored, fill_bytes}

module _ (look : Look) where
  -- in a row, on column boundary j of `columns` columns
  abbrev pub upright_bytes : ℕ → ℕ → List ℕ
  upright_bytes j columns =
      let kind = boundary_kind j columns in
      if has_column_boundary look.borders kind
      then colored (in_row look.borders_color kind) (fill_bytes (unwrap_or (in_row look.borders kind) blank) 1)
      else []

  -- where row boundary i of `rows` rows meets it
  abbrev pub corner_parts : ℕ → ℕ → ℕ → ℕ → List Part
  corner_parts i rows j columns =
      let row = boundary_kind i rows in
      let column = boundary_kind j columns in
      if has_column_boundary look.borders column
      then record {
        width = 1;
        content = Glyph (unwrap_or (crossing look.borders row column) blank);
        color = crossing look.borders_color row column;
      } ∷ []
      else []

  -- along a column of this width
  abbrev pub along_parts : ℕ → ℕ → ℕ → List Part
  along_parts i rows width =
      let kind = boundary_kind i rows in
      record {
        width = width;
        content = Glyph (unwrap_or (along_column look.borders kind) blank);
        color = along_column look.borders_color kind;
      } ∷ []
