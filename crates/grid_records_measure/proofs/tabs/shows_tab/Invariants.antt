-- What is left shows a tab where the text does.
use Rattle.std.proofs.Common.{◌≡◌, flat_map}
use Rattle.ansi_scan.specs.Pieces.{pieces}
use Rattle.ansi_str.specs.StyledText.{strip}
use Rattle.ansi_str.specs.Blocks.{text_of_block}
use Rattle.grid_records_measure.specs.Tabs.{has_tab}
use Rattle.grid_records_measure.proofs.tabs.shows_tab.Given as goal

abbrev pub invariant-loop-block : goal.invariant-loop-block
invariant-loop-block l =
    record {
      goes : (goal.iterator-loop-block).can_next l.block-iterator × (goal.iterator-loop-block).is_finite l.block-iterator;
      left : has_tab (flat_map text_of_block l.block-iterator) ≡ has_tab (strip (pieces l.text));
    }
