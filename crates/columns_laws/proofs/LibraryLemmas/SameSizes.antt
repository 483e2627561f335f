-- A table of the library has the sizes that the program's has.
use Rattle.std.proofs.Common.{◌≡◌, ◌+◌, ◌≤◌, ℕ, true, List, [], ◌∷◌, length, map, refl, ap, ◌∙◌, arith}
use Rattle.grid_config.specs.Compact.{Compact}
use Rattle.grid_config.specs.Looks.{compact_look}
use Rattle.grid_config_values.proofs.SpansLemmas.Order.{same_itself}
use Rattle.grid_config_values.specs.Spans.Spans.{extent_at}
use Rattle.grid_config_values.specs.Glyphs.{boundary_kind, has_column_boundary, has_row_boundary}
use Rattle.grid_config_values.specs.Order.{same_place}
use Rattle.grid_config_values.specs.declared.position.Position.{Position}
use Rattle.grid_records_estimate.specs.Estimates.{greatest, track_sizes}
use Rattle.grid_records_estimate.specs.Sizes.{table_heights, table_widths}
use Rattle.grid_records_estimate.specs.Sizing.{column_needs, compact_sizing, position_at, row_needs}
use Rattle.grid_records_traits.specs.Rows.{evened, text_at}
use Rattle.grid_records_traits.specs.TextLines.{text_height, text_width}
use Rattle.tabled_steps.specs.Sizes.{column_needs_by_look, is_visible_in, natural_heights, natural_widths, row_needs_by_look}
use Rattle.tabled_steps.specs.States.{column_count}
use Rattle.columns_asked.specs.DrawnTables.{longest_row_length}
use Rattle.columns_run.proofs.Tiling.{seen-itself}
use Rattle.columns_laws.specs.Library.Tables.{AreRowsOfLength}

-- ---- as many columns

within : (n : ℕ) (rows : List (List (List ℕ))) → AreRowsOfLength n rows → greatest (map (λ row. length row) rows) ≤ n
within n [] all = omega arith
within n (row ∷ rows) all = let here = all.0 in omega (arith, here, within n rows all.1)

pub counts-same : (n : ℕ) (rows : List (List (List ℕ))) → AreRowsOfLength n rows → longest_row_length rows ≡ column_count rows
counts-same n [] all = refl
counts-same n (row ∷ rows) all = let here = all.0 in omega (arith, here, within n rows all.1)

-- ---- the same needs of the tracks

-- a cell of several rows or columns hides none: there is none
pub seen : (style : Compact) (p : Position) → is_visible_in (compact_look style).extent p ≡ true
seen style p = ap (λ (found : Position). same_place found p) (seen-itself style [] [] [] p.row p.col) ∙ same_itself p

module _ (style : Compact) (n : ℕ) (rows : List (List (List ℕ))) where
  columns-same : column_needs_by_look (compact_look style) n rows ≡ column_needs (compact_sizing style) n rows
  unfolding extent_at
  columns-same = λ k. record {
    tracks = n;
    cross_tracks = length rows;
    is_visible = λ column row. seen style (position_at row column) k;
    span = λ column row. 1;
    need = λ column row. let padding = style.padding in text_width (text_at rows (position_at row column)) + padding.left.size + padding.right.size;
    has_boundary = λ j. has_column_boundary style.borders (boundary_kind j n);
  }

  rows-same : row_needs_by_look (compact_look style) n rows ≡ row_needs (compact_sizing style) n rows
  unfolding extent_at
  rows-same = λ k. record {
    tracks = length rows;
    cross_tracks = n;
    is_visible = λ row column. seen style (position_at row column) k;
    span = λ row column. 1;
    need = λ row column. let padding = style.padding in text_height (text_at rows (position_at row column)) + padding.top.size + padding.bottom.size;
    has_boundary = λ i. has_row_boundary style.borders (boundary_kind i (length rows));
  }

module _ (style : Compact) (n : ℕ) (rows : List (List (List ℕ))) where
  pub widths-same : natural_widths (compact_look style) n rows ≡ table_widths (compact_sizing style) n rows
  unfolding natural_widths table_widths
  widths-same = ap track_sizes (columns-same style n (evened n rows))

  pub heights-same : natural_heights (compact_look style) n rows ≡ table_heights (compact_sizing style) n rows
  unfolding natural_heights table_heights
  heights-same = ap track_sizes (rows-same style n (evened n rows))
