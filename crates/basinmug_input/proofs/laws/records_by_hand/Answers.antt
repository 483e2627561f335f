use Rattle.std.proofs.Common.{refl}
use Rattle.csv.proofs.OnLiterals.{csv_on_literals}
use Rattle.basinmug_input.proofs.laws.records_by_hand.Goals as goal

pub returns : goal.returns
unfolding csv_on_literals
returns c = record {
  one_each_line = refl;
  two_last_line = refl;
  four_spaces_are_part = refl;
  five_quotes_are_no_part = refl;
  six_breaks_and_commas = refl;
  seven_doubled_quotes = refl;
  another_delimiter = refl;
  of_any_length = refl;
  behind_a_quote = refl;
  no_records = refl;
  a_mark_goes = refl;
}
