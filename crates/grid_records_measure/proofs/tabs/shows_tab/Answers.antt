-- All blocks are left at the start.
use Rattle.std.proofs.Common.{rules, ◌≡◌, ◌∙◌, flat_map, ap}
use Rattle.ansi_str.specs.Blocks.{text_of_block}
use Rattle.grid_records_measure.specs.Tabs.{has_tab}
use Rattle.grid_records_measure.proofs.LinesAndBlocks.{shown-blocks}
use Rattle.grid_records_measure.proofs.tabs.shows_tab.Goals as goal

pub loop-block-init : goal.loop-block-init
loop-block-init c =
    let same : c.into_iter-block-iterator.result ≡ c.get_blocks-block-items.result = cc in
    record {
      goes = search rules;
      left = ap has_tab (ap (flat_map text_of_block) same ∙ shown-blocks c.args.text.now c.get_blocks-block-items.result c.get_blocks-block-items.ensures.blocks);
    }
