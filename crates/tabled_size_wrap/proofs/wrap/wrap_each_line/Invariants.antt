-- What was written and what the lines that are left give are all lines.
use Rattle.std.proofs.Common.{◌≡◌, ◌++◌, flat_map, string_bytes}
use Rattle.std.specs.List.{join_with_byte}
use Rattle.ansi_scan.specs.Pieces.{pieces}
use Rattle.grid_records_measure.specs.TextLines.{line_feed}
use Rattle.tabled_size_wrap.specs.Runs.{wrapped_lines}
use Rattle.tabled_size_wrap.proofs.Wraps.{lines_left}
use Rattle.tabled_size_wrap.proofs.wrap.wrap_each_line.Given as goal

abbrev pub invariant-loop-line : goal.invariant-loop-line
invariant-loop-line l =
    string_bytes l.out ++ lines_left l.width l.keep_words l.begun l.line-iterator.parts
    ≡ join_with_byte line_feed (flat_map (λ line. wrapped_lines l.width l.keep_words (pieces line)) l.initial.line-iterator.parts)
