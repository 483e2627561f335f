use Rattle.std.proofs.Common.{◌≡◌, map, option_map}
use Rattle.program_options.specs.ColorList.Listed.{all_of}
use Rattle.basinmug_values.specs.Choices.{chosen_named, chosen_of}
use Rattle.basinmug_values.proofs.choices.chosen_listed.Given as goal

abbrev pub invariant-loop-item : goal.invariant-loop-item
invariant-loop-item l = option_map (λ choices. map chosen_of choices.items) l.chosen ≡ all_of (map chosen_named (map (λ item. item.now) l.yielded))
