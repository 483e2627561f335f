-- Each width is computed.
use Rattle.std.specs.Str.{chars}
use Rattle.std.proofs.Common.{refl}
use Rattle.std.proofs.Math.Utf8.{encode}
use Rattle.unicode_width.specs.Width.{alone, char_width, past_emoji, step, str_width}
use Rattle.ansi_scan.specs.Pieces.{at_escape, control_from, escape_from, first_pieces, leading_piece, opened, pieces, sequence_front, string_from}
use Rattle.grid_records_measure.specs.TextLines.{text_lines, text_width}
use Rattle.tables_laws.proofs.by_hand.columns_by_hand.Goals as goal

pub returns-clause-widths : goal.returns-clause-widths
unfolding chars pieces first_pieces leading_piece at_escape sequence_front opened control_from string_from escape_from encode char_width str_width step past_emoji alone text_lines text_width
returns-clause-widths c = refl

pub returns-clause-short : goal.returns-clause-short
unfolding chars pieces first_pieces leading_piece at_escape sequence_front opened control_from string_from escape_from encode char_width str_width step past_emoji alone text_lines text_width
returns-clause-short c = refl
