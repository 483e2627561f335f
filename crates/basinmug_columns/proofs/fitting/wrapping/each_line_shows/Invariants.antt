-- The lines that are left show something where all do; none of them has ESC.
use Rattle.std.proofs.Common.{◌≡◌, false, length}
use Rattle.std.specs.List.{list_all}
use Rattle.std.specs.Option.{IfSome}
use Rattle.ansi_scan.specs.Pieces.{pieces}
use Rattle.ansi_str.specs.StyledText.{has_escape}
use Rattle.grid_records_measure.specs.RawLines.{lines_behind}
use Rattle.grid_records_measure.specs.TextLines.{shown_lines}
use Rattle.basinmug_columns.specs.Fitting.Fitting.{is_not_blank}
use Rattle.basinmug_columns.proofs.fitting.wrapping.each_line_shows.Given as goal

abbrev pub invariant-loop-left : goal.invariant-loop-left
invariant-loop-left l =
    record {
      same : list_all is_not_blank (shown_lines (pieces l.text)) ≡ list_all is_not_blank (lines_behind l.left);
      plain : IfSome l.left (λ rest. has_escape rest.now ≡ false);
    }

abbrev pub decreases-loop-left : goal.decreases-loop-left
decreases-loop-left l = length (lines_behind l.left)
