use Rattle.std.proofs.Common.{◌≡◌, ◌++◌, [], take}
use Rattle.basinmug_columns.specs.Names.{number_of}
use Rattle.basinmug_run.specs.Picture.Settings.{aligned_by}
use Rattle.basinmug_run.specs.Picture.Names.{missing_by}
use Rattle.basinmug_run.proofs.picture.settings.push_alignments.Given as goal

abbrev pub invariant-loop-name : goal.invariant-loop-name
invariant-loop-name l = record {
  settings : l.settings.items ≡ l.initial.settings.items ++ aligned_by (number_of l.columns) (take l.name-index l.pairs);
  named : missing_by (number_of l.columns) (take l.name-index l.pairs) ≡ [];
}
