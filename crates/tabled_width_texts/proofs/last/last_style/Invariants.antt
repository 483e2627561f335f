-- What is left of the text gives what is left of the result.
use Rattle.std.proofs.Common.{◌≡◌, ◌≤◌, flat_map}
use Rattle.ansi_scan.specs.Attributes.{plain_attributes}
use Rattle.ansi_scan.specs.Pieces.{pieces}
use Rattle.ansi_str_search.specs.Text.Blocks.{styled_of_block}
use Rattle.ansi_str_search.specs.Text.StyledText.{styled}
use Rattle.tabled_width_texts.specs.Keeping.{last_kept}
use Rattle.tabled_width_texts.proofs.last.last_style.Given as goal

abbrev pub invariant-loop-block : goal.invariant-loop-block
invariant-loop-block l =
    record {
      goes : (goal.iterator-loop-block).can_next l.block-iterator × (goal.iterator-loop-block).is_finite l.block-iterator;
      fits : l.used ≤ l.width;
      left : last_kept l.width 0 plain_attributes (styled (pieces l.text)) ≡ last_kept l.width l.used l.last (flat_map styled_of_block l.block-iterator);
    }
