-- A look with one setting of cells changed.
use Rattle.std.specs.Prelude.{ℕ}
use Rattle.grid_config_values.specs.declared.entity.Entity.{Entity}
use Rattle.grid_config_values.specs.declared.position.Position.{Position}
use Rattle.grid_config.specs.Looks.{Look}
use Rattle.tabled_steps.specs.Looks.{with_alignment_horizontal, with_alignment_vertical, with_column_span, with_justification, with_line_alignment, with_row_span, with_trim_horizontal, with_trim_vertical}
use Rattle.tabled_list.specs.declared.cells.CellSetting.{CellSetting}
use Rattle.tabled_list.specs.declared.cells.CellSetting.TheVariants.{AlignHorizontal, AlignVertical, Justification, LineAlignment, TrimHorizontal, TrimVertical}
use Rattle.tabled_list.specs.declared.span_at.TrackKind.{TrackKind}
use Rattle.tabled_list.specs.declared.span_at.TrackKind.TheVariants.{Columns, Rows}

abbrev pub with_cell_setting : CellSetting → Entity → Look → Look
with_cell_setting (AlignHorizontal value) at look = with_alignment_horizontal at value look
with_cell_setting (AlignVertical value) at look = with_alignment_vertical at value look
with_cell_setting (LineAlignment on) at look = with_line_alignment at on look
with_cell_setting (TrimHorizontal on) at look = with_trim_horizontal at on look
with_cell_setting (TrimVertical on) at look = with_trim_vertical at on look
with_cell_setting (Justification fill) at look = with_justification at fill look

-- with a span of the cell at one place, of columns or of rows
abbrev pub with_span : TrackKind → Position → ℕ → Look → Look
with_span Columns place n look = with_column_span place n look
with_span Rows place n look = with_row_span place n look
