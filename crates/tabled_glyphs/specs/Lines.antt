-- Glyphs by the lines of a table and by where they meet.
use Rattle.std.specs.Prelude.{ℕ, Some}
use Rattle.grid_config_values.specs.declared.borders.Borders.{Borders}
use Rattle.tabled_glyphs.specs.declared.glyphs.Crossings.{Crossings}

-- one glyph along all columns, one in all rows, and where they meet those of the first, the inner and the last boundary
abbrev pub lines : ℕ → ℕ → Crossings → Crossings → Crossings → Borders ℕ
lines along upright first inner last = record {
  top = Some along;
  top_left = Some first.left;
  top_right = Some first.right;
  top_intersection = Some first.between;
  bottom = Some along;
  bottom_left = Some last.left;
  bottom_right = Some last.right;
  bottom_intersection = Some last.between;
  horizontal = Some along;
  left_intersection = Some inner.left;
  right_intersection = Some inner.right;
  intersection = Some inner.between;
  vertical = Some upright;
  left = Some upright;
  right = Some upright;
}

-- at the left end of a boundary of rows, between two columns, at its right end
abbrev pub crossings : ℕ → ℕ → ℕ → Crossings
crossings left between right = record { left = left; between = between; right = right }
