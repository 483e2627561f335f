use Rattle.std.proofs.Common.{refl}
use Rattle.std.specs.Fmt.{digits}
use Rattle.std.specs.Str.{chars}
use Rattle.std.proofs.Math.Utf8.{encode}
use Rattle.ansi_scan.specs.Attributes.{plain_attributes}
use Rattle.ansi_scan.specs.Pieces.{pieces, first_pieces, leading_piece}
use Rattle.ansi_scan.specs.Rendition.{applied, after_parameters}
use Rattle.ansi_scan.specs.StartsAndEnds.{start_bytes, start_sequences, end_bytes, end_sequences}
use Rattle.grid_records_measure.specs.TextLines.{text_height, text_lines}
use Rattle.tabled_height.proofs.laws.worked_texts.Goals as goal

pub returns : goal.returns
unfolding text_height text_lines pieces first_pieces leading_piece chars encode applied after_parameters plain_attributes start_bytes start_sequences end_bytes end_sequences digits
returns c = record { most = refl; fewest = refl; no_rows = refl; no_columns = refl; raised = refl; stays_raised = refl; limited = refl; nothing_left = refl; stays_limited = refl }
