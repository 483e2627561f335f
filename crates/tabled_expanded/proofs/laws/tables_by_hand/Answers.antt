-- Lines of ASCII, and one with a sequence, measured and joined.
use Rattle.std.proofs.Common.{refl}
use Rattle.std.specs.Fmt.{digits}
use Rattle.std.specs.Str.{chars}
use Rattle.ansi_scan.specs.Pieces.{at_escape, control_from, first_pieces, leading_piece, opened, pieces, sequence_front}
use Rattle.unicode_width.specs.Width.{past_emoji, step, str_width}
use Rattle.tabled_expanded.proofs.laws.tables_by_hand.Goals as goal

pub returns-clause-numbered : goal.returns-clause-numbered
unfolding digits pieces first_pieces leading_piece chars str_width step past_emoji
returns-clause-numbered c = refl

pub returns-clause-given : goal.returns-clause-given
unfolding digits pieces first_pieces leading_piece chars str_width step past_emoji
returns-clause-given c = refl

pub returns-clause-bytes : goal.returns-clause-bytes
unfolding digits pieces first_pieces leading_piece chars str_width step past_emoji
returns-clause-bytes c = refl

pub returns-clause-many_bytes : goal.returns-clause-many_bytes
unfolding digits pieces first_pieces leading_piece chars str_width step past_emoji
returns-clause-many_bytes c = refl

pub returns-clause-wide : goal.returns-clause-wide
unfolding digits pieces first_pieces leading_piece chars str_width step past_emoji
returns-clause-wide c = refl

pub returns-clause-taken : goal.returns-clause-taken
unfolding digits pieces first_pieces leading_piece chars str_width step past_emoji
returns-clause-taken c = refl

pub returns-clause-fewer : goal.returns-clause-fewer
unfolding digits pieces first_pieces leading_piece chars str_width step past_emoji
returns-clause-fewer c = refl

pub returns-clause-more : goal.returns-clause-more
unfolding digits pieces first_pieces leading_piece chars str_width step past_emoji
returns-clause-more c = refl

pub returns-clause-styled : goal.returns-clause-styled
unfolding digits pieces first_pieces leading_piece chars str_width step past_emoji at_escape sequence_front opened control_from
returns-clause-styled c = refl
