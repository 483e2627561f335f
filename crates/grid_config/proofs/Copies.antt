-- Settings that are the same again look the same.
use Rattle.std.proofs.Common.{◌≡◌, List, ap}
use Rattle.grid_config_values.specs.declared.spans.extent.Extent.{Extent}
use Rattle.grid_config_values.specs.Spans.Spans.{extent_at}
use Rattle.grid_config_values.specs.declared.position.Position.{Position}
use Rattle.grid_config.specs.Copies.{HasSameCells}
use Rattle.grid_config.specs.declared.cells.CellSettings.{CellSettings}
use Rattle.grid_config.specs.declared.whole.WholeSettings.{WholeSettings}
use Rattle.grid_config.specs.Looks.{look_of}
use Rattle.grid_config.specs.Settings.{Settings}

-- all settings by their three parts
abbrev pub settings_of : WholeSettings → CellSettings → List (Position × Extent) → Settings
settings_of whole cells spans = record {
  margin = whole.margin;
  margin_color = whole.margin_color;
  borders = whole.borders;
  borders_color = whole.borders_color;
  padding = cells.padding;
  padding_color = cells.padding_color;
  alignment_horizontal = cells.alignment_horizontal;
  alignment_vertical = cells.alignment_vertical;
  line_alignment = cells.line_alignment;
  trim_horizontal = cells.trim_horizontal;
  trim_vertical = cells.trim_vertical;
  justification = cells.justification;
  justification_color = cells.justification_color;
  spans = spans;
}

pub same_again : (whole whole' : WholeSettings) (cells cells' : CellSettings) (spans spans' : List (Position × Extent))
    → whole' ≡ whole → HasSameCells cells cells' → spans' ≡ spans
    → look_of (settings_of whole' cells' spans') ≡ look_of (settings_of whole cells spans)
same_again whole whole' cells cells' spans spans' wholes same_cells same_spans =
    let extents : extent_at spans' ≡ extent_at spans = ap extent_at same_spans in
    λ i. record {
      margin = (wholes i).margin;
      margin_color = (wholes i).margin_color;
      borders = (wholes i).borders;
      borders_color = (wholes i).borders_color;
      padding = λ p. same_cells.padding p i;
      padding_color = λ p. same_cells.padding_color p i;
      alignment_horizontal = λ p. same_cells.alignment_horizontal p i;
      alignment_vertical = λ p. same_cells.alignment_vertical p i;
      line_alignment = λ p. same_cells.line_alignment p i;
      trim_horizontal = λ p. same_cells.trim_horizontal p i;
      trim_vertical = λ p. same_cells.trim_vertical p i;
      justification = λ p. same_cells.justification p i;
      justification_color = λ p. same_cells.justification_color p i;
      extent = extents i;
    }
