use Rattle.std.proofs.Common.{refl, [], ◌∷◌}
use Rattle.basinmug_columns.proofs.laws.rooms_by_hand.Goals as goal

-- what each of the two steps leaves, of a form with two numbers
pub returns : goal.returns
returns c = record {
  widest = record {
    first = 8 ∷ 7 ∷ 2 ∷ [];
    numbers_stay = record { number = 8; column = 2; formed = refl; sums = refl };
    all_give = record { number = 8; column = 0; formed = refl; sums = refl };
  };
  needs_stay = record {
    first = 10 ∷ 11 ∷ [];
    numbers_stay = record { number = 1; column = 1; formed = refl; sums = refl };
    all_give = record { number = 0; column = 0; formed = refl; sums = refl };
  };
  numbers_stay = record {
    first = 6 ∷ 12 ∷ [];
    numbers_stay = record { number = 6; column = 0; formed = refl; sums = refl };
    all_give = record { number = 12; column = 0; formed = refl; sums = refl };
  };
  numbers_give = record {
    first = 10 ∷ 4 ∷ 3 ∷ [];
    numbers_stay = record { number = 4; column = 1; formed = refl; sums = refl };
    all_give = record { number = 1; column = 0; formed = refl; sums = refl };
  };
  too_much = record {
    first = 9 ∷ 3 ∷ [];
    numbers_stay = record { number = 0; column = 0; formed = refl; sums = refl };
    all_give = record { number = 5; column = 0; formed = refl; sums = refl };
  };
  one_column = record {
    first = 3 ∷ 3 ∷ [];
    numbers_stay = record { number = 3; column = 0; formed = refl; sums = refl };
    all_give = record { number = 3; column = 0; formed = refl; sums = refl };
  };
  narrowest = record {
    first = 8 ∷ 4 ∷ [];
    numbers_stay = record { number = 1; column = 1; formed = refl; sums = refl };
    all_give = record { number = 0; column = 0; formed = refl; sums = refl };
  };
  nothing_asked = record {
    first = 9 ∷ 2 ∷ [];
    numbers_stay = record { number = 9; column = 0; formed = refl; sums = refl };
    all_give = record { number = 9; column = 0; formed = refl; sums = refl };
  };
  no_columns = record {
    first = [];
    numbers_stay = record { number = 0; column = 0; formed = refl; sums = refl };
    all_give = record { number = 0; column = 0; formed = refl; sums = refl };
  };
  past_the_needs = record {
    first = 8 ∷ 3 ∷ [];
    numbers_stay = record { number = 5; column = 1; formed = refl; sums = refl };
    all_give = record { number = 0; column = 0; formed = refl; sums = refl };
  };
}
