-- So much is read of the bytes so far, and the byte is not among them.
use Rattle.std.proofs.Common.{take}
use Rattle.basinmug_input.specs.Places.{read_before}
use Rattle.basinmug_input.specs.Reading.{settings}
use Rattle.basinmug_input.specs.Walking.{HasAtMost, IsReadOf}
use Rattle.basinmug_input.proofs.Bytes.{HasAtMost as FieldHasAtMost}
use Rattle.basinmug_input.proofs.places.place_of.Given as goal

abbrev pub invariant-loop-i : goal.invariant-loop-i
invariant-loop-i l = record {
  read : IsReadOf (settings l.delimiter) (take l.i l.text) l.read;
  few : HasAtMost l.i l.read;
  not_yet : FieldHasAtMost (read_before (settings l.delimiter) l.text l.i) l.row l.field l.byte;
}
