-- The lines that are shown from here on are those that are left.
use Rattle.std.proofs.Common.{◌≡◌, drop}
use denote.Text.{Utf8}
use denote.Shadow.{shadow}
use Rattle.ansi_scan.specs.Pieces.{pieces}
use Rattle.grid_records_measure.specs.TextLines.{shown_lines}
use Rattle.grid_records_traits.proofs.lines.line_width_of.Given as goal

abbrev pub invariant-loop : goal.invariant-loop
invariant-loop l =
    record {
      text : shadow (Utf8 l.rest);
      left : drop l.counter (shown_lines (pieces l.text)) ≡ shown_lines (pieces l.rest);
    }
