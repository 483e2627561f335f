-- What was written and what the lines that are left become are all lines.
use Rattle.std.proofs.Common.{◌≡◌, ◌++◌, map, string_bytes}
use Rattle.std.specs.List.{join_with_byte}
use Rattle.grid_records_measure.specs.TextLines.{line_feed}
use Rattle.tabled_width_texts.proofs.Lining.{lines_left}
use Rattle.tabled_width_texts.proofs.lines.change_lines.Given as goal

abbrev pub invariant-loop-line : goal.invariant-loop-line
invariant-loop-line g l =
    let f = g.L.LineChange.becomes l.change in
    string_bytes l.out ++ lines_left f l.begun l.line-iterator.parts ≡ join_with_byte line_feed (map f l.initial.line-iterator.parts)
