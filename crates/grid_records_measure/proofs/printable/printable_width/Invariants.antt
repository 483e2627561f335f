use Rattle.std.proofs.Common.{length}
use denote.Text.{Utf8}
use denote.Shadow.{shadow}
use Rattle.grid_records_measure.proofs.PrintableWidth.{IsPassed}
use Rattle.grid_records_measure.proofs.printable.printable_width.Given as goal

abbrev pub invariant-loop-item : goal.invariant-loop-item
invariant-loop-item l = shadow (Utf8 l.rest) × IsPassed l.width l.rest l.fn.text

abbrev pub decreases-loop-item : goal.decreases-loop-item
decreases-loop-item l = length l.rest
