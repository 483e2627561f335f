-- So much is read of the bytes so far.
use Rattle.std.proofs.Common.{take}
use Rattle.basinmug_input.specs.Reading.{settings}
use Rattle.basinmug_input.specs.Walking.{HasAtMost, IsReadOf}
use Rattle.basinmug_input.proofs.places.field_of.Given as goal

abbrev pub invariant-loop-i : goal.invariant-loop-i
invariant-loop-i l = record {
  read : IsReadOf (settings l.delimiter) (take l.i l.text) l.read;
  few : HasAtMost l.i l.read;
}
