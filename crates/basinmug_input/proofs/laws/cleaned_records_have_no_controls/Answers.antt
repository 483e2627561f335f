use Rattle.csv.specs.Reading.{records}
use Rattle.basinmug_input.specs.Reading.{settings}
use Rattle.basinmug_input.specs.Rows.{text_of_bytes}
use Rattle.basinmug_input.proofs.Harmless.{field-only, rows-only}
use Rattle.basinmug_input.proofs.laws.cleaned_records_have_no_controls.Goals as goal

pub returns : goal.returns
returns c = record {
  field = λ escapes bytes not_all. field-only escapes bytes not_all;
  records = λ escapes delimiter bytes not_all. rows-only escapes (records (settings delimiter) (text_of_bytes bytes)) not_all;
}
