-- The lines that were measured and those that are left are all.
use Rattle.std.proofs.Common.{◌≡◌, ◌++◌, max, length}
use Rattle.ansi_scan.specs.Pieces.{pieces}
use Rattle.grid_records_measure.specs.RawLines.{lines_behind}
use Rattle.grid_records_measure.specs.TextLines.{shown_lines, widest}
use Rattle.tabled_pool.proofs.BoxesLemmas.Sizes.{sized}
use Rattle.tabled_pool.proofs.boxes.size.push_line_sizes.Given as goal

abbrev pub invariant-loop-rest : goal.invariant-loop-rest
invariant-loop-rest l =
    (l.sizes.items ++ sized (lines_behind l.rest) ≡ l.initial.sizes.items ++ sized (shown_lines (pieces l.text)))
    × (max l.widest (widest (lines_behind l.rest)) ≡ widest (shown_lines (pieces l.text)))

abbrev pub decreases-loop-rest : goal.decreases-loop-rest
decreases-loop-rest l = length (lines_behind l.rest)
