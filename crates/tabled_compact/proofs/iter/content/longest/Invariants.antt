use Rattle.std.proofs.Common.{◌≡◌, drop, length, map, max}
use Rattle.grid_records_estimate.specs.Estimates.{greatest}
use Rattle.grid_records_traits.specs.Sources.{texts_of_rows}
use Rattle.tabled_compact.proofs.iter.content.longest.Given as goal

abbrev pub invariant-loop-row : goal.invariant-loop-row
invariant-loop-row g l = max l.most (greatest (map length (texts_of_rows g.C.Cell.text (drop l.row-index l.rows)))) ≡ greatest (map length (texts_of_rows g.C.Cell.text l.rows))
