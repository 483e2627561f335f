use Rattle.std.proofs.Common.{◌≡◌, map, option_map}
use Rattle.program_options.specs.ColorList.Listed.{all_of}
use Rattle.basinmug_values.specs.Lists.{item_of, seen_items}
use Rattle.basinmug_values.proofs.lists.items_of.Given as goal

abbrev pub invariant-loop-item : goal.invariant-loop-item
invariant-loop-item g l = option_map (λ items. seen_items items.items) l.given ≡ all_of (map (item_of g.T.Named.value_of) (map (λ item. item.now) l.yielded))
