use Rattle.std.proofs.Common.{◌≡◌, ℕ, [], take}
use Rattle.basinmug_columns.specs.Names.{number_of}
use Rattle.basinmug_run.specs.Columns.{given_for, last_for, value_in}
use Rattle.basinmug_run.specs.Picture.Names.{missing_by}
use Rattle.basinmug_run.proofs.columns.last_of.Given as goal

abbrev pub invariant-loop-name : goal.invariant-loop-name
invariant-loop-name g l = record {
  last : (column : ℕ) → value_in l.last column ≡ last_for (given_for (number_of l.named) (take l.name-index l.pairs)) column;
  named : missing_by (number_of l.named) (take l.name-index l.pairs) ≡ [];
}
