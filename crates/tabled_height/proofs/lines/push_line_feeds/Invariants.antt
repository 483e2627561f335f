-- So many were appended.
use Rattle.std.proofs.Common.{◌≡◌, ◌++◌, replicate, string_bytes}
use Rattle.grid_records_measure.specs.TextLines.{line_feed}
use Rattle.tabled_height.proofs.lines.push_line_feeds.Given as goal

abbrev pub invariant-loop : goal.invariant-loop
invariant-loop l = string_bytes l.out ≡ string_bytes l.fn.out ++ replicate l.counter line_feed
