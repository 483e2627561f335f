-- The line feeds that were counted, and those that are left, are all.
use Rattle.std.proofs.Common.{◌≡◌, ◌+◌, flat_map}
use Rattle.std.specs.List.{count_by}
use Rattle.ansi_scan.specs.Pieces.{pieces}
use Rattle.ansi_str.specs.StyledText.{strip}
use Rattle.ansi_str.specs.Blocks.{text_of_block}
use Rattle.grid_records_measure.specs.TextLines.{is_line_feed}
use Rattle.grid_records_measure.proofs.text_lines.count_lines.Given as goal

abbrev pub invariant-loop-block : goal.invariant-loop-block
invariant-loop-block l =
    record {
      goes : (goal.iterator-loop-block).can_next l.block-iterator × (goal.iterator-loop-block).is_finite l.block-iterator;
      all : l.count + count_by is_line_feed (flat_map text_of_block l.block-iterator) ≡ count_by is_line_feed (strip (pieces l.text)) + 1;
    }
