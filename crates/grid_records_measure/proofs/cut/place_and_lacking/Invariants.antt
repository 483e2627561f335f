-- What is left of the text gives what is left of the result.
use Rattle.std.proofs.Common.{◌≡◌, ◌≤◌, ◌+◌, length, chars, encode_utf8_all, flat_map}
use Rattle.ansi_scan.specs.Pieces.{pieces}
use Rattle.ansi_str.specs.StyledText.{strip}
use Rattle.ansi_str.specs.Blocks.{text_of_block}
use Rattle.grid_records_measure.specs.Filling.{fitting_front, front_columns, behind_front}
use Rattle.grid_records_measure.proofs.cut.place_and_lacking.Given as goal

abbrev pub invariant-loop-block : goal.invariant-loop-block
invariant-loop-block l =
    record {
      goes : (goal.iterator-loop-block).can_next l.block-iterator × (goal.iterator-loop-block).is_finite l.block-iterator;
      fits : l.used ≤ l.width;
      place : l.place + length (encode_utf8_all (fitting_front l.width l.used (chars (flat_map text_of_block l.block-iterator)))) ≡ length (encode_utf8_all (fitting_front l.width 0 (chars (strip (pieces l.text)))));
      columns : front_columns l.width l.used (chars (flat_map text_of_block l.block-iterator)) ≡ front_columns l.width 0 (chars (strip (pieces l.text)));
      left : behind_front l.width l.used (chars (flat_map text_of_block l.block-iterator)) ≡ behind_front l.width 0 (chars (strip (pieces l.text)));
    }
