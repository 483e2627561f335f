-- What was written and what the units that are left give are all lines.
use Rattle.std.proofs.Common.{◌++◌, string_bytes}
use Rattle.std.specs.List.{join_with_byte}
use Rattle.ansi_scan.specs.Pieces.{pieces}
use Rattle.grid_records_measure.specs.TextLines.{line_feed}
use Rattle.tabled_size_wrap.specs.Runs.{wrapped_lines}
use Rattle.tabled_size_wrap.proofs.Walks.{Walked}
use Rattle.tabled_size_wrap.proofs.wrapped_lines.push_runs.Given as goal

abbrev pub invariant-loop-unit : goal.invariant-loop-unit
invariant-loop-unit l =
    record {
      goes : (goal.iterator-loop-unit).can_next l.unit-iterator × (goal.iterator-loop-unit).is_finite l.unit-iterator;
      walked : Walked (pieces l.line) l.width (string_bytes l.fn.out ++ join_with_byte line_feed (wrapped_lines l.width l.keep_words (pieces l.line)))
          (string_bytes l.out) l.run.place.rest.now l.run.place.style l.run.kept l.run.used l.unit-iterator;
    }
