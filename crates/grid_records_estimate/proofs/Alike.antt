-- Sizings that say the same of each cell give the same sizes.
use Rattle.std.proofs.Common.{◌≡◌, ◌+◌, ◌∙◌, ℕ, List, [], ap, length, refl, subst, sym}
use Rattle.std.proofs.Math.Path.{fun_ext}
use Rattle.grid_config.specs.Compact.{Compact}
use Rattle.grid_config.specs.Glyphs.{boundary_count, boundary_kind, has_column_boundary, has_row_boundary}
use Rattle.grid_config.specs.Looks.{compact_look, look_of}
use Rattle.grid_config.specs.Settings.{Settings}
use Rattle.grid_config_values.specs.Spans.Rectangles.{Holds}
use Rattle.grid_config_values.specs.Spans.Spans.{extent_at, single}
use Rattle.grid_config_values.specs.declared.spans.extent.Extent.{Extent}
use Rattle.grid_config_values.specs.declared.position.Position.{Position}
use Rattle.grid_records_traits.specs.TextLines.{text_height, text_width}
use Rattle.grid_records_traits.specs.Rows.{evened, text_at}
use Rattle.grid_records_estimate.specs.Alike.{AreAlike, HaveSameSizes}
use Rattle.grid_records_estimate.specs.Estimates.{track_sizes}
use Rattle.grid_records_estimate.specs.Sizes.{table_heights, table_widths}
use Rattle.grid_records_estimate.specs.Sizing.{TableSizing, column_needs, compact_sizing, is_visible, position_at, row_needs, sizing_of}
use Rattle.grid_records_estimate.specs.Totals.{total}
use Rattle.grid_records_estimate.proofs.Visibility.{is_visible-decides, is_visible-exact}

-- ---- spans by which each cell takes as much show the same cells

module _ (a b : List (Position × Extent)) (same : extent_at a ≡ extent_at b) where
  shown_by : (at : Position) → (Position → Extent) → Type 0
  shown_by at extent = (anchor : Position) → Holds anchor (extent anchor) at → anchor ≡ at

  same-is_visible : (at : Position) → is_visible a at ≡ is_visible b at
  unfolding shown_by
  same-is_visible at =
      let exact = is_visible-exact a at in
      is_visible-decides b at (is_visible a at)
      (λ on. subst (shown_by at) same (exact.0 on), λ visible. exact.1 (subst (shown_by at) (sym same) visible))

-- ---- the sizes

module _ (a b : TableSizing) (alike : AreAlike a b) where
  extents : extent_at a.spans ≡ extent_at b.spans
  extents = fun_ext alike.extent

  paddings : a.padding ≡ b.padding
  paddings = fun_ext alike.padding

  visible : is_visible a.spans ≡ is_visible b.spans
  visible = fun_ext (same-is_visible a.spans b.spans extents)

  same-column_needs : (columns : ℕ) (rows : List (List (List ℕ))) → column_needs a columns rows ≡ column_needs b columns rows
  same-column_needs columns rows = λ i. record {
    tracks = columns;
    cross_tracks = length rows;
    is_visible = λ column row. visible i (position_at row column);
    span = λ column row. (extents i (position_at row column)).columns;
    need = λ column row. let padding = paddings i (position_at row column) in text_width (text_at rows (position_at row column)) + padding.left.size + padding.right.size;
    has_boundary = λ j. has_column_boundary (alike.borders i) (boundary_kind j columns);
  }

  same-row_needs : (columns : ℕ) (rows : List (List (List ℕ))) → row_needs a columns rows ≡ row_needs b columns rows
  same-row_needs columns rows = λ i. record {
    tracks = length rows;
    cross_tracks = columns;
    is_visible = λ row column. visible i (position_at row column);
    span = λ row column. (extents i (position_at row column)).rows;
    need = λ row column. let padding = paddings i (position_at row column) in text_height (text_at rows (position_at row column)) + padding.top.size + padding.bottom.size;
    has_boundary = λ j. has_row_boundary (alike.borders i) (boundary_kind j (length rows));
  }

  same-table_widths : (columns : ℕ) (rows : List (List (List ℕ))) → table_widths a columns rows ≡ table_widths b columns rows
  unfolding table_widths
  same-table_widths columns rows = ap track_sizes (same-column_needs columns (evened columns rows))

  same-table_heights : (columns : ℕ) (rows : List (List (List ℕ))) → table_heights a columns rows ≡ table_heights b columns rows
  unfolding table_heights
  same-table_heights columns rows = ap track_sizes (same-row_needs columns (evened columns rows))

  pub alike-sizes : HaveSameSizes a b
  alike-sizes = record {
    widths = same-table_widths;
    heights = same-table_heights;
    whole_width = λ columns rows i.
        total (same-table_widths columns rows i) (boundary_count (has_column_boundary (alike.borders i)) columns) (alike.margin i).left.size (alike.margin i).right.size;
    whole_height = λ columns rows i.
        total (same-table_heights columns rows i) (boundary_count (has_row_boundary (alike.borders i)) (length rows)) (alike.margin i).top.size (alike.margin i).bottom.size;
  }

-- ---- settings of the same look

pub look-sizes : (a b : Settings) → look_of a ≡ look_of b → HaveSameSizes (sizing_of a) (sizing_of b)
look-sizes a b same = alike-sizes (sizing_of a) (sizing_of b) (record {
  margin = ap (λ look. look.margin) same;
  borders = ap (λ look. look.borders) same;
  padding = λ at. ap (λ look. look.padding at) same;
  extent = λ at. ap (λ look. look.extent at) same;
})

no_spans : (at : Position) → single ≡ extent_at [] at
unfolding extent_at
no_spans at = refl

pub compact_look-sizes : (settings : Settings) (compact : Compact) → look_of settings ≡ compact_look compact → HaveSameSizes (sizing_of settings) (compact_sizing compact)
compact_look-sizes settings compact same = alike-sizes (sizing_of settings) (compact_sizing compact) (record {
  margin = ap (λ look. look.margin) same;
  borders = ap (λ look. look.borders) same;
  padding = λ at. ap (λ look. look.padding at) same;
  extent = λ at. ap (λ look. look.extent at) same ∙ no_spans at;
})
