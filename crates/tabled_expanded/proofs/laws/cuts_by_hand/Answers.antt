-- Texts of ASCII, measured.
use Rattle.std.proofs.Common.{refl}
use Rattle.std.specs.Fmt.{digits}
use Rattle.std.specs.Str.{chars}
use Rattle.ansi_scan.specs.Pieces.{first_pieces, leading_piece, pieces}
use Rattle.unicode_width.specs.Width.{past_emoji, step, str_width}
use Rattle.tabled_expanded.proofs.laws.cuts_by_hand.Goals as goal

pub returns-clause-values : goal.returns-clause-values
unfolding digits pieces first_pieces leading_piece chars str_width step past_emoji
returns-clause-values c = refl

pub returns-clause-with_suffix : goal.returns-clause-with_suffix
unfolding digits pieces first_pieces leading_piece chars str_width step past_emoji
returns-clause-with_suffix c = refl

pub returns-clause-fields : goal.returns-clause-fields
unfolding digits pieces first_pieces leading_piece chars str_width step past_emoji
returns-clause-fields c = refl

pub returns-clause-has_room : goal.returns-clause-has_room
unfolding digits pieces first_pieces leading_piece chars str_width step past_emoji
returns-clause-has_room c = refl

pub returns-clause-has_none : goal.returns-clause-has_none
unfolding digits pieces first_pieces leading_piece chars str_width step past_emoji
returns-clause-has_none c = refl

pub returns-clause-suffix_fits : goal.returns-clause-suffix_fits
unfolding digits pieces first_pieces leading_piece chars str_width step past_emoji
returns-clause-suffix_fits c = refl

pub returns-clause-suffix_does_not : goal.returns-clause-suffix_does_not
unfolding digits pieces first_pieces leading_piece chars str_width step past_emoji
returns-clause-suffix_does_not c = refl

pub returns-clause-values_have_none : goal.returns-clause-values_have_none
unfolding digits pieces first_pieces leading_piece chars str_width step past_emoji
returns-clause-values_have_none c = refl

pub returns-clause-ten_records : goal.returns-clause-ten_records
unfolding digits pieces first_pieces leading_piece chars str_width step past_emoji
returns-clause-ten_records c = refl
