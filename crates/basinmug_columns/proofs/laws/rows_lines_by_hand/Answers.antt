-- Each line is computed.
use Rattle.std.specs.Fmt.{digits}
use Rattle.std.proofs.Common.{refl}
use Rattle.basinmug_columns.proofs.laws.rows_lines_by_hand.Goals as goal

pub returns : goal.returns
unfolding digits
returns c = record {
  all = refl;
  no_more = refl;
  one_more = refl;
  more = refl;
  more_records = refl;
  no_earlier = refl;
  one_earlier = refl;
  earlier = refl;
  none_between = refl;
  one_between = refl;
  between = refl;
  left_out = refl;
}
