use Rattle.std.proofs.Common.{◌≡◌, map, option_map, vec_items}
use Rattle.program_options.specs.ColorList.Listed.{all_of, listed_color}
use Rattle.program_options.proofs.color_list.reading.all_colors.Given as goal

abbrev pub invariant-loop-item : goal.invariant-loop-item
invariant-loop-item l = option_map vec_items l.colors ≡ all_of (map listed_color (map (λ item. item.now) l.yielded))
