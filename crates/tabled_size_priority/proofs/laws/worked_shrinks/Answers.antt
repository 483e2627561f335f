use Rattle.std.proofs.Common.{refl, ◌^◌}
use Rattle.tabled_size_priority.proofs.laws.worked_shrinks.Goals as goal

pub returns : goal.returns
returns c = record {
  turns = record { number = 2; column = 2; formed = refl; sums = refl };
  turns_from_the_last = record { number = 0; column = 2; formed = refl; sums = refl };
  left = record { number = 4; column = 1; formed = refl; sums = refl };
  right = record { number = 4; column = 1; formed = refl; sums = refl };
  widest = record { number = 4; column = 1; formed = refl; sums = refl };
  narrowest_left = record { number = 1; column = 0; formed = refl; sums = refl };
  narrowest_right = record { number = 1; column = 0; formed = refl; sums = refl };
  large = record { number = 2 ^ 61; column = 0; formed = refl; sums = refl };
  missing = record { number = 1; column = 1; formed = refl; sums = refl };
  too_much = record { number = 1; column = 0; formed = refl; sums = refl };
  above = record { number = 2; column = 1; formed = refl; sums = refl };
  none = record { number = 0; column = 0; formed = refl; sums = refl };
}
