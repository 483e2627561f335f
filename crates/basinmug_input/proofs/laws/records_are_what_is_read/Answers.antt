use Rattle.basinmug_input.specs.Reading.{settings}
use Rattle.basinmug_input.proofs.ReadRecords.{records-read}
use Rattle.basinmug_input.proofs.laws.records_are_what_is_read.Goals as goal

pub returns : goal.returns
returns c = λ delimiter text. records-read (settings delimiter) text
