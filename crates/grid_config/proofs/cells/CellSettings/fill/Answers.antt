use Rattle.grid_config.proofs.cells.CellSettings.fill.Goals as goal

pub returns : goal.returns
returns c = record {
  padding = c.in_ok-copy.ensures;
  padding_color = c.in_ok-copy-2.ensures;
  alignment_horizontal = c.in_ok-copy-3.ensures;
  alignment_vertical = c.in_ok-copy-4.ensures;
  line_alignment = c.in_ok-copy-5.ensures;
  trim_horizontal = c.in_ok-copy-6.ensures;
  trim_vertical = c.in_ok-copy-7.ensures;
  justification = c.in_ok-copy-8.ensures;
  justification_color = c.in_ok-copy-9.ensures;
}
