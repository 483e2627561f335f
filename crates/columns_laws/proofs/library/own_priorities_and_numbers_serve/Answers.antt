use Rattle.std.proofs.Common.{refl, sym}
use Rattle.tabled_list.proofs.Choosing.{from_left, from_right, in_turns, max_left, max_right, min_left, min_right}
use Rattle.columns_laws.proofs.library.own_priorities_and_numbers_serve.Goals as goal

pub returns : goal.returns
returns c = record {
  turns = in_turns 0 refl;
  left = λ priority. from_left priority;
  right = λ priority. from_right priority;
  widest = (max_left _ refl, max_right _ refl);
  narrowest = (min_left _ refl, min_right _ refl);
  numbers = λ s width size is. sym is;
}
