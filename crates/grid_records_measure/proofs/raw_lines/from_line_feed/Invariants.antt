-- The place that is sought stays the same, and no run without a line feed is left.
use denote.Shadow.{shadow}
use denote.Text.{Utf8}
use Rattle.std.proofs.Common.{◌≡◌, length}
use Rattle.std.specs.List.{prefix_len}
use Rattle.ansi_scan.specs.Attributes.{Attributes, plain_attributes}
use Rattle.ansi_str.specs.Walking.{is_other}
use Rattle.ansi_str_search.proofs.Landing.{SameLanding}
use Rattle.grid_records_measure.specs.TextLines.{line_feed}
use Rattle.grid_records_measure.proofs.raw_lines.from_line_feed.Given as goal

abbrev pub invariant-loop-rest : goal.invariant-loop-rest
invariant-loop-rest l =
    shadow (Utf8 l.rest) × ((style : Attributes) × SameLanding line_feed l.rest style l.text plain_attributes)
    × (prefix_len (is_other line_feed) l.rest ≡ 0)

abbrev pub decreases-loop-rest : goal.decreases-loop-rest
decreases-loop-rest l = length l.rest
