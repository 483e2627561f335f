use Rattle.std.proofs.Common.{◌≡◌, [], take}
use Rattle.basinmug_columns.specs.Names.{number_of}
use Rattle.basinmug_run.specs.Columns.{chosen_columns, missing_choices}
use Rattle.basinmug_run.proofs.columns.chosen_columns.Given as goal

abbrev pub invariant-loop-choice : goal.invariant-loop-choice
invariant-loop-choice l = record {
  columns : l.columns.items ≡ chosen_columns (number_of l.named) (take l.choice-index l.choices);
  named : missing_choices (number_of l.named) l.count (take l.choice-index l.choices) ≡ [];
}
