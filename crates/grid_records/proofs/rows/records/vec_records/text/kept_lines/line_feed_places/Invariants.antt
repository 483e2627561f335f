-- Kept are those that were passed.
use Rattle.std.proofs.Common.{◌≡◌, get_or}
use Rattle.std.specs.List.{filter, range_with_len}
use Rattle.grid_records_measure.specs.TextLines.{is_line_feed}
use Rattle.grid_records.proofs.rows.records.vec_records.text.kept_lines.line_feed_places.Given as goal

abbrev pub invariant-loop-place : goal.invariant-loop-place
invariant-loop-place l = l.places.items ≡ filter (λ at. is_line_feed (get_or l.text at 0)) (range_with_len 0 l.place)
