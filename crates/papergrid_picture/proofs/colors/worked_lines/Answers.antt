use Rattle.std.proofs.Common.{refl}
use Rattle.std.specs.Fmt.{digits}
use Rattle.std.specs.Str.{chars}
use Rattle.std.proofs.Math.Utf8.{encode}
use Rattle.ansi_scan.specs.Pieces.{pieces, first_pieces, leading_piece, at_escape, sequence_front, opened, control_from, string_from, escape_from}
use Rattle.ansi_scan.specs.Attributes.{plain_attributes}
use Rattle.ansi_scan.specs.Rendition.{applied, after_parameters}
use Rattle.papergrid_picture.proofs.colors.worked_lines.Goals as goal

pub returns : goal.returns
unfolding pieces first_pieces leading_piece at_escape sequence_front opened control_from string_from escape_from applied after_parameters plain_attributes digits chars encode
returns c = record { takes = refl; cleared = refl; kept = refl; reset = refl }
