-- What is said of each glyph and fill of a look, and of each of its colours, holds of them by other names too.
use Rattle.std.proofs.Common.{ℕ, Option, None, Some}
use Rattle.std.specs.Prelude.{IfSome}
use Rattle.grid_config.specs.Colors.{Color}
use Rattle.grid_config.specs.Looks.{Look}
use Rattle.grid_config_values.specs.Glyphs.{along_column, crossing, in_row}
use Rattle.papergrid_picture.specs.Shown.{IsColoredBy, ShowsOnly}

module _ (P Q : ℕ → Type 0) (each : (c : ℕ) → P c → Q c) (look : Look) where
  if_set : (glyph : Option ℕ) → IfSome glyph P → IfSome glyph Q
  if_set None is = tt
  if_set (Some c) is = each c is

  pub shows-also : ShowsOnly P look → ShowsOnly Q look
  shows-also are = record {
    crossings = λ row column. if_set (crossing look.borders row column) (are.crossings row column);
    along_columns = λ kind. if_set (along_column look.borders kind) (are.along_columns kind);
    in_rows = λ kind. if_set (in_row look.borders kind) (are.in_rows kind);
    margins = (each look.margin.left.fill are.margins.0, each look.margin.right.fill are.margins.1, each look.margin.top.fill are.margins.2, each look.margin.bottom.fill are.margins.3);
    paddings = λ cell.
        let sides = look.padding cell in
        let p = are.paddings cell in
        (each sides.left.fill p.0, each sides.right.fill p.1, each sides.top.fill p.2, each sides.bottom.fill p.3);
    justification = λ cell. each (look.justification cell) (are.justification cell);
  }

module _ (P Q : Option Color → Type 0) (each : (color : Option Color) → P color → Q color) (look : Look) where
  pub colored-also : IsColoredBy P look → IsColoredBy Q look
  colored-also are = record {
    crossings = λ row column. each (crossing look.borders_color row column) (are.crossings row column);
    along_columns = λ kind. each (along_column look.borders_color kind) (are.along_columns kind);
    in_rows = λ kind. each (in_row look.borders_color kind) (are.in_rows kind);
    margins = (each look.margin_color.left are.margins.0, each look.margin_color.right are.margins.1, each look.margin_color.top are.margins.2, each look.margin_color.bottom are.margins.3);
    paddings = λ cell.
        let sides = look.padding_color cell in
        let p = are.paddings cell in
        (each sides.left p.0, each sides.right p.1, each sides.top p.2, each sides.bottom p.3);
    justification = λ cell. each (look.justification_color cell) (are.justification cell);
  }
