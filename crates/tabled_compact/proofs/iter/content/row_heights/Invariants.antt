use Rattle.std.proofs.Common.{◌≡◌, map, take}
use Rattle.grid_records_traits.specs.Sources.{texts_of_rows}
use Rattle.tabled_compact.specs.Iter.Content.{row_height}
use Rattle.tabled_compact.proofs.iter.content.row_heights.Given as goal

abbrev pub invariant-loop-row : goal.invariant-loop-row
invariant-loop-row g l = l.heights.items ≡ map (row_height l.columns) (texts_of_rows g.C.Cell.text (take l.row-index l.rows))
