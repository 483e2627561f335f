use Rattle.std.specs.Fmt.{digits}
use Rattle.std.specs.Str.{chars}
use Rattle.std.proofs.Math.Utf8.{encode}
use Rattle.std.proofs.Common.{refl}
use Rattle.unicode_width.specs.Width.{str_width, step, past_emoji}
use Rattle.ansi_scan.specs.Pieces.{pieces, first_pieces, leading_piece, at_escape, sequence_front, opened, control_from, string_from, escape_from}
use Rattle.ansi_scan.specs.Attributes.{plain_attributes}
use Rattle.ansi_scan.specs.Rendition.{applied, after_parameters}
use Rattle.ansi_scan.specs.StartsAndEnds.{start_bytes, start_sequences, end_bytes, end_sequences}
use Rattle.grid_records_measure.specs.TextLines.{text_lines}
use Rattle.papergrid_picture.proofs.colors.worked_colored_tables.Goals as goal

pub returns : goal.returns
unfolding text_lines pieces first_pieces leading_piece at_escape sequence_front opened control_from string_from escape_from applied after_parameters plain_attributes start_bytes start_sequences end_bytes end_sequences digits str_width step past_emoji chars encode
returns c = record { text = refl; shown = refl; lines = refl; lines_shown = refl; by_lines = refl; blank = refl }
