-- What was written and what the bytes that are left give are all lines.
use Rattle.std.proofs.Common.{false, ◌++◌, string_bytes}
use Rattle.std.specs.List.{join_with_byte}
use Rattle.ansi_scan.specs.Pieces.{pieces}
use Rattle.grid_records_measure.specs.TextLines.{line_feed}
use Rattle.tabled_size_wrap.specs.Runs.{wrapped_lines}
use Rattle.tabled_size_wrap.proofs.Ascii.{Chunked}
use Rattle.tabled_size_wrap.proofs.wrapped_lines.push_full_lines.Given as goal

abbrev pub invariant-loop-left : goal.invariant-loop-left
invariant-loop-left l =
    Chunked (pieces l.line) l.width (string_bytes l.fn.out ++ join_with_byte line_feed (wrapped_lines l.width false (pieces l.line)))
    (string_bytes l.out) l.place.rest.now l.place.style l.left

abbrev pub decreases-loop-left : goal.decreases-loop-left
decreases-loop-left l = l.left
