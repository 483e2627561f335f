-- When two sizings say the same of each cell, and when they give each table the same sizes.
use Rattle.std.specs.Prelude.{◌≡◌, ℕ, List, []}
use Rattle.grid_config_values.specs.Spans.Spans.{extent_at}
use Rattle.grid_config_values.specs.declared.position.Position.{Position}
use Rattle.grid_config_values.specs.declared.sides.Indent.{Indent}
use Rattle.grid_config_values.specs.declared.sides.Sides.{Sides}
use Rattle.grid_records_estimate.specs.Sizes.{height_total, table_heights, table_widths, width_total}
use Rattle.grid_records_estimate.specs.Sizing.{TableSizing}

-- what a look shows of them is the same: each cell has the same padding and takes the same rows and columns, in
-- whatever order the spans are kept
pub record AreAlike (a b : TableSizing) : Type 0 where
  pub margin : a.margin ≡ b.margin
  pub borders : a.borders ≡ b.borders
  pub padding : (place : Position) → a.padding place ≡ b.padding place
  pub extent : (place : Position) → extent_at a.spans place ≡ extent_at b.spans place

-- each table has the same least sizes by both, and takes as much in all
pub record HaveSameSizes (a b : TableSizing) : Type 0 where
  pub widths : (columns : ℕ) (rows : List (List (List ℕ))) → table_widths a columns rows ≡ table_widths b columns rows
  pub heights : (columns : ℕ) (rows : List (List (List ℕ))) → table_heights a columns rows ≡ table_heights b columns rows
  pub whole_width : (columns : ℕ) (rows : List (List (List ℕ))) → width_total a columns rows ≡ width_total b columns rows
  pub whole_height : (columns : ℕ) (rows : List (List (List ℕ))) → height_total a columns rows ≡ height_total b columns rows

-- each cell has this padding, and none spans several columns or rows
pub record HasOnePadding (sizing : TableSizing) (padding : Sides Indent) : Type 0 where
  pub paddings : (place : Position) → sizing.padding place ≡ padding
  pub spans : sizing.spans ≡ []
