use Rattle.std.proofs.Common.{◌≡◌, length}
use Rattle.grid_config.specs.Looks.{look_of}
use Rattle.papergrid_cells.specs.Flat.{AreOfColumns}
use Rattle.papergrid_cells.proofs.flat.column_alignments.Given as goal

abbrev pub invariant-loop-column : goal.invariant-loop-column
invariant-loop-column l = record {
  count : length l.alignments.items ≡ l.column;
  own : AreOfColumns (look_of l.cfg) l.alignments.items;
}
