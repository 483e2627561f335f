-- The width of the name is computed.
use Rattle.std.specs.Str.{chars}
use Rattle.std.proofs.Common.{refl}
use Rattle.unicode_width.specs.Width.{alone, char_width, past_emoji, step, str_width}
use Rattle.ansi_scan.specs.Pieces.{at_escape, control_from, escape_from, first_pieces, leading_piece, opened, pieces, sequence_front, string_from}
use Rattle.grid_records_measure.specs.TextLines.{text_width}
use Rattle.basinmug_expanded.proofs.laws.names_are_cut.Goals as goal

pub returns : goal.returns
unfolding chars pieces first_pieces leading_piece at_escape sequence_front opened control_from string_from escape_from char_width str_width step past_emoji alone text_width
returns c = refl
