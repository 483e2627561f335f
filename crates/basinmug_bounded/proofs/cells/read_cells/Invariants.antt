-- The cells so far are read, in rows, and the others are in what is left.
use Rattle.std.proofs.Common.{◌≡◌, ◌≤◌, drop, length, map, sum, take}
use Rattle.std.specs.List.{AllByRecursion}
use Rattle.basinmug_bounded.proofs.OfCells.{AreInRows}
use Rattle.basinmug_bounded.specs.Cells.{cells_in}
use Rattle.basinmug_input.specs.Cleaning.{cleaned}
use Rattle.basinmug_input.specs.Flaws.{IsReadableField}
use Rattle.basinmug_bounded.proofs.cells.read_cells.Given as goal

abbrev pub invariant-loop-cell : goal.invariant-loop-cell
invariant-loop-cell l = record {
  readable : AllByRecursion (IsReadableField l.escapes) (take l.cell (cells_in l.lengths l.bytes));
  in_rows : AreInRows l.per_record (map (cleaned l.escapes) (take l.cell (cells_in l.lengths l.bytes))) l.rows;
  left : drop l.cell (cells_in l.lengths l.bytes) ≡ cells_in (drop l.cell l.lengths) l.rest;
  enough : sum (drop l.cell l.lengths) ≤ length l.rest;
}
